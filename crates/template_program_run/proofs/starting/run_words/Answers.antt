use Rattle.std.proofs.Common.{◌∙◌, Err, List, Option, ℕ, ap, inl, inr, map, option_map, refl, subst}
use Rattle.template_program_parts.specs.Context.{text_pairs}
use Rattle.template_program_parts.specs.declared.faults.FileFault.TheVariants.{Memory}
use Rattle.template_program_run.specs.Asked.{output_word, served_by}
use Rattle.template_program_run.specs.Expressions.{Asked, asked_in}
use Rattle.template_program_run.specs.Given.{given_in}
use Rattle.template_program_run.specs.Inputs.{AreTemplatesOf}
use Rattle.template_program_run.specs.Naming.{naming_of}
use Rattle.template_program_run.specs.Origins.{shown_as}
use Rattle.template_program_run.specs.Served.{Served}
use Rattle.template_program_run.specs.Starts.{PerformsTo, TellsLine, file_line}
use Rattle.template_program_run.specs.Told.{told_by}
use Rattle.template_program_run.proofs.Giving.{given_as_read}
use Rattle.template_program_run.proofs.Refusing.{refuses_inputs}
use Rattle.template_program_run.proofs.starting.run_words.Goals as goal

pub returns : goal.returns
returns g c =
    let told = told_by (g.R.Folders.entries c.args.rt.now) (g.R.FileSystem.content c.args.rt.now) (g.I.Reader.may_fail c.args.input.now)
    (g.I.Reader.remaining c.args.input.now) in
    let inputs = c.in-Ok.inputs in
    let words = c.args.words.now in
    let additions = text_pairs inputs.templates.items in
    let given = given_in c.parts_of-context.result in
    let fresh = g.R.Placing.fresh c.args.rt.now in
    let placed = g.R.Placing.placed c.args.rt.now in
    let out = g.O.Output.shown c.args.out in
    let out_after = g.O.Output.shown c.perform_to.result.1 in
    let fault = g.F.Output.shown c.args.fault.now in
    let fault_after = g.F.Output.shown c.perform_to.new.fault in
    let wanted = option_map asked_in c.expression_of.result in
    let served = subst (λ (s : Served). PerformsTo wanted (option_map (λ path. path.now) c.output_of.result) fresh placed inputs.request s additions given
    out out_after fault fault_after c.perform_to.result.0) c.requires.served c.perform_to.ensures in
    let placed_so = subst (λ (path : Option (List ℕ)). PerformsTo wanted path fresh placed inputs.request (served_by words) additions given
    out out_after fault fault_after c.perform_to.result.0) c.output_of.ensures served in
    let performs = subst (λ (asks : Option Asked). PerformsTo asks (output_word words) fresh placed inputs.request (served_by words) additions given
    out out_after fault fault_after c.perform_to.result.0) c.expression_of.ensures placed_so in
    let templates = subst (λ (s : Served). AreTemplatesOf told (naming_of words).folder (naming_of words) s.syntax additions) c.requires.served
    c.in-Ok.ensures.templates in
    let same = ap (map shown_as) (c.parts_of-context.ensures.documents ∙ c.as_slice.ensures.value) ∙ c.in-Ok-documents_of.ensures in
    let read = given_as_read told words given _ _ _ c.in-Ok.ensures.given same c.parts_of-context.ensures.values c.parts_of-context.ensures.floats in
    inr (inputs.request, additions, given, c.in-Ok.ensures.asked, templates, read, performs)

-- no memory for the documents' list
pub returns-in_default : goal.returns-in_default
returns-in_default g c =
    let line = subst (λ (s : Served). TellsLine s.tells_where (file_line Memory) (g.F.Output.shown c.args.fault.now)
    (g.F.Output.shown c.refuse_inputs-in_default.new.fault)) c.requires.served c.refuse_inputs-in_default.ensures.told in
    inl (Memory, tt, c.refuse_inputs-in_default.ensures.status, refl, line)

pub returns-in-Err : goal.returns-in-Err
returns-in-Err g c =
    let told = told_by (g.R.Folders.entries c.args.rt.now) (g.R.FileSystem.content c.args.rt.now) (g.I.Reader.may_fail c.args.input.now)
    (g.I.Reader.remaining c.args.input.now) in
    let refused = c.in-Err.refused in
    let line = subst (λ (s : Served). TellsLine s.tells_where (file_line refused) (g.F.Output.shown c.args.fault.now)
    (g.F.Output.shown c.refuse_inputs.new.fault)) c.requires.served c.refuse_inputs.ensures.told in
    inl (
      refused,
      refuses_inputs told c.args.words.now refused (λ is. c.in-Err.ensures.refused (ap Err is)),
      c.refuse_inputs.ensures.status,
      refl,
      line,
    )
