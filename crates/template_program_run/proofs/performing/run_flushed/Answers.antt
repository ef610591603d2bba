use Rattle.std.proofs.Common.{◌∙◌, ap, option_map, subst, sym}
use Rattle.template_program_output.specs.Buffer.{failure_count, held_in, output_in, taken_by}
use Rattle.template_program_parts.specs.Context.{text_pairs}
use Rattle.template_program_run.specs.Expressions.{asked_in}
use Rattle.template_program_run.specs.Given.{given_in}
use Rattle.template_program_run.specs.Served.{served_under}
use Rattle.template_program_run.specs.Starts.{HasFailed, RunsFlushed}
use Rattle.template_program_run.proofs.Flushing.{holds_none, runs_flushed, told_failures}
use Rattle.template_program_run.proofs.performing.run_flushed.Goals as goal

pub returns : goal.returns
returns g c =
    let before = g.O.Output.shown c.args.out in
    let after = g.O.Output.shown (output_in c.flush.new.self) in
    let begun = c.new-sink.result in
    let full = c.answer-outcome.new.sink in
    let answers = (g.O.Output.shown (output_in full)).answers in
    let same_bytes = holds_none (g.O.Output.shown (output_in begun)).bytes (held_in begun) (c.new-sink.ensures.held ∙ c.requires)
    ∙ ap (λ out. (g.O.Output.shown out).bytes) c.new-sink.ensures.out in
    let failed_before = subst (HasFailed before.answers) (sym c.new-sink.ensures.failed) (told_failures before.answers 0) in
    let additions = text_pairs c.args.inputs.now.templates.items in
    let given = given_in c.args.context in
    let wanted = option_map asked_in c.args.expression in
    let runs = runs_flushed wanted c.args.inputs.now.request (served_under c.args.options) additions _ given _ before after
    (taken_by g.O.Output.shown begun) (taken_by g.O.Output.shown full) (held_in c.flush.new.self) answers
    (failure_count g.O.Output.shown begun) (failure_count g.O.Output.shown full) _ _ _
    (ap text_pairs c.as_slice.ensures.value) c.new-ids.ensures same_bytes c.after_flush-outcome.ensures
    c.flush.ensures.kept c.flush.ensures.empty c.flush.ensures.flushed
    failed_before (told_failures answers full.failed) c.flush.ensures.told c.answer-outcome.ensures in
    subst (λ out. RunsFlushed wanted c.args.inputs.now.request (served_under c.args.options) additions given before (g.O.Output.shown out) c.after_flush-outcome.result) (sym c.into_output.ensures) runs
