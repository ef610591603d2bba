use Rattle.std.proofs.Common.{rules, ◌∷◌, ℕ, List, Option, None, sym, subst}
use Rattle.template_compiler_code.specs.Listing.{code_in}
use Rattle.template_compiler_code_shapes.specs.Shapes.{Shape}
use Rattle.template_compiler_code_shapes.specs.Passes.{Works}
use Rattle.template_compiler_code_shapes.specs.Desks.{noted_in, waiting_in, flag_in}
use Rattle.template_compiler_code_shapes.proofs.pass.run_all.Goals as goal

pub run_from-requires-clause-works : goal.run_from-requires-clause-works
run_from-requires-clause-works c =
    let code = code_in c.args.code.now in
    let mark = flag_in c.args.marks.now in
    let seen = flag_in c.loop-at.seen.items in
    let new = c.next.new.self in
    let P : (ℕ → Option Shape) → Type 0 = λ f. Works code mark f seen (c.in-Some.at ∷ waiting_in new) 0 None in
    let Q : List ℕ → Type 0 = λ ps. Works code mark (noted_in c.loop-at.desk) seen ps 0 None in
    subst P (sym c.next.ensures.noted) (subst Q c.in-Some.ensures.next c.loop-at.invariant.works)

pub returns-in_err-run_from-clause-bad : goal.returns-in_err-run_from-clause-bad
returns-in_err-run_from-clause-bad c = λ bad. c.in_err-run_from.ensures.bad (search rules)
