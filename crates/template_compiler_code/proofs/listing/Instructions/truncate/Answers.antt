use Rattle.std.proofs.Common.{◌<◌, All, length, map, sym, subst, ap, ◌∙◌, arith}
use Rattle.std.proofs.lemmas.List.{take-map, length-take}
use Rattle.template_compiler_code.specs.View.{code_of}
use Rattle.template_compiler_code.proofs.Placing.{placed-cut}
use Rattle.template_compiler_code.proofs.listing.Instructions.truncate.Goals as goal

pub returns-clause-kept : goal.returns-clause-kept
returns-clause-kept c = ap (map code_of) c.truncate-2.ensures.items ∙ sym (take-map code_of c.args.len c.args.self.now.code.items)

pub invariant_of-self-clause-placed : goal.invariant_of-self-clause-placed
invariant_of-self-clause-placed c =
    let old = c.args.self.now.code.items in
    let cut = ap length c.truncate-2.ensures.items ∙ length-take c.args.len old in
    subst (λ ms. All (λ m. m.start < length c.truncate-2.new.self.items) ms) (sym c.truncate.ensures)
    (placed-cut (length old) c.args.len (length c.truncate-2.new.self.items) (λ k less below. omega arith) _ c.args.self.now.placed)
