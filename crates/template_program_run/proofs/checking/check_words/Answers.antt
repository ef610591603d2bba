use Rattle.std.proofs.Common.{Err, Global, List, String, ap, inl, inr, refl, subst}
use Rattle.template_program_check.specs.Ends.{EndsCheck}
use Rattle.template_program_parts.specs.Context.{text_pairs}
use Rattle.template_program_words.specs.declared.words.Words.TheVariants as asks
use Rattle.template_program_run.specs.Served.{Served, syntax_under}
use Rattle.template_program_run.specs.Starts.{TellsLine, file_line}
use Rattle.template_program_run.specs.Told.{told_by}
use Rattle.template_program_run.proofs.Refusing.{refuses_inputs}
use Rattle.template_program_run.proofs.checking.check_words.Goals as goal

pub returns : goal.returns
returns g c =
    let builtins = c.args.words.now.builtins in
    let additions = text_pairs c.in-Ok.templates.items in
    let out = g.O.Output.shown c.args.out in
    let out_after = g.O.Output.shown c.check_to.result.1 in
    let fault = g.F.Output.shown c.args.fault.now in
    let fault_after = g.F.Output.shown c.check_to.new.fault in
    let checked = subst (λ (ts : List (String Global × String Global)). EndsCheck (syntax_under c.args.options) builtins (text_pairs ts)
    out out_after fault fault_after c.check_to.result.0) c.as_slice.ensures.value c.check_to.ensures in
    let ends = subst (λ (s : Served). EndsCheck s.syntax builtins additions out out_after fault fault_after c.check_to.result.0) c.requires checked in
    inr (additions, c.in-Ok.ensures.read, ends)

pub returns-in-Err : goal.returns-in-Err
returns-in-Err g c =
    let told = told_by (g.R.Folders.entries c.args.rt.now) (g.R.FileSystem.content c.args.rt.now) (g.I.Reader.may_fail c.args.input.now)
    (g.I.Reader.remaining c.args.input.now) in
    let refused = c.in-Err.refused in
    let line = subst (λ (s : Served). TellsLine s.tells_where (file_line refused) (g.F.Output.shown c.args.fault.now)
    (g.F.Output.shown c.refuse_file-status.new.fault)) c.requires c.refuse_file-status.ensures.told in
    inl (
      refused,
      refuses_inputs told (asks.Check c.args.words.now) refused (λ is. c.in-Err.ensures.refused (ap Err is)),
      c.refuse_file-status.ensures.status,
      refl,
      line,
    )
