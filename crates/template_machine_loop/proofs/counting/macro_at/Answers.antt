use Rattle.std.proofs.Common.{◌≡◌, ℕ, ◌-◌, Some, sym, ap, ap₂, ◌∙◌, arith}
use Rattle.template_compiler_code.specs.Counting as counting
use Rattle.template_compiler_code.specs.Listing.{code_in}
use Rattle.template_machine_loop.proofs.Places.{at_place, macro-by, there}
use Rattle.template_machine_loop.proofs.counting.macro_at.Goals as goal

abbrev place : ℕ → ℕ → counting.MacroPlace
place offset count = record { offset = offset; count = count }

pub returns-in-Some : goal.returns-in-Some
returns-in-Some c =
    let code = code_in c.args.code.now in
    let from : c.in-Some.place ≡ c.in-Some.place - 0 = omega arith in
    ap Some (ap₂ place c.offset_at.ensures c.listed_before.ensures) ∙ ap (λ i. Some (there 0 i code)) from ∙ ap (at_place 0 0 code) c.in-Some.ensures ∙ sym (macro-by 0 0 code c.args.number)

pub returns-in-None : goal.returns-in-None
returns-in-None c =
    let code = code_in c.args.code.now in
    ap (at_place 0 0 code) c.in-None.ensures ∙ sym (macro-by 0 0 code c.args.number)
