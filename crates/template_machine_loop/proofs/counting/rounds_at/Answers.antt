use Rattle.std.proofs.Common.{◌≤◌, ◌<◌, ◌+◌, suc, length, IfSome, Some, option_map, sym, ap, subst, ◌∙◌, arith}
use Rattle.template_compiler_code.specs.Listing.{code_in}
use Rattle.template_compiler_code.specs.declared.numbered.Part.TheVariants as parts
use Rattle.template_machine_loop.proofs.Places.{placed, rounds-by}
use Rattle.template_machine_loop.proofs.counting.rounds_at.Goals as goal

pub behind-requires-clause-within : goal.behind-requires-clause-within
behind-requires-clause-within c =
    let code = code_in c.args.code.now in
    let lies = subst (λ o. IfSome o (λ p. (0 ≤ p) × (p < 0 + length code))) (sym c.in-Some.ensures) (placed parts.Rounds 0 code c.args.number) in
    omega (arith, lies.1, c.len-end.ensures.len)

pub returns-in-Some : goal.returns-in-Some
returns-in-Some c =
    ap Some (omega (arith, c.behind.ensures)) ∙ ap (option_map suc) c.in-Some.ensures ∙ sym (rounds-by 0 (code_in c.args.code.now) c.args.number)

pub returns-in-None : goal.returns-in-None
returns-in-None c = ap (option_map suc) c.in-None.ensures ∙ sym (rounds-by 0 (code_in c.args.code.now) c.args.number)
