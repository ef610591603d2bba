use Rattle.std.proofs.Common.{[], ap, option_map, refl, string_bytes}
use Rattle.template_program_parts.specs.Context.{text_pairs}
use Rattle.template_program_run.specs.Served.{served_under}
use Rattle.template_replies.proofs.Requests.{are_lent, runs_so}
use Rattle.template_replies.proofs.running.run_message.Goals as goal

pub returns : goal.returns
returns c =
    let message = c.args.message in
    let request = c.request_of-request in
    let documents = are_lent (option_map (λ bytes. bytes.items) message.context) c.document_of-document.result c.as_slice.result.now
    c.document_of-document.ensures c.as_slice.ensures in
    runs_so c.args.command message request.result (record { documents = c.as_slice.result.now; values = []; floats = message.settings.floats })
    c.answer-outcome.result.0 (string_bytes c.answer-outcome.result.1) (string_bytes c.reply_of.result.text) c.reply_of.result.status (request.ensures.main, request.ensures.asked)
    (record { documents = documents; values = refl; floats = refl }) (served_under c.options_of-options.result) c.options_of-options.ensures
    (text_pairs c.as_slice-2.result.now) (ap text_pairs c.as_slice-2.ensures.value) c.answer-outcome.ensures c.reply_of.ensures
