use Rattle.std.proofs.Common.{string_bytes}
use Rattle.template_program_parts.specs.Context.{text_pairs}
use Rattle.template_program_run.specs.Given.{given_in}
use Rattle.template_program_run.specs.Served.{served_under}
use Rattle.template_replies.proofs.Requests.{answer_so}
use Rattle.template_replies.proofs.running.answer.Goals as goal

pub returns : goal.returns
returns c =
    answer_so (served_under c.args.options) c.args.request.now (text_pairs c.args.templates.now) (given_in c.args.given) c.run_with-outcome.result
    (string_bytes c.run_with-outcome.new.sink) _ c.new.ensures _ c.new-text.ensures.bytes c.run_with-outcome.ensures.answers
    c.run_with-outcome.ensures.plain
