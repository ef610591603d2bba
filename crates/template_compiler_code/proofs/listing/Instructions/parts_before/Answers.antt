use Rattle.std.proofs.Common.{◌≡◌, ◌≤◌, true, false, ltb, length, subst}
use Rattle.std.specs.List.Sorted.{IsPartitionPoint, IsPartitionedBy}
use Rattle.template_compiler_code.specs.Listing.{code_in}
use Rattle.template_compiler_code.proofs.Numbering.{parts-before}
use Rattle.template_compiler_code.proofs.listing.Instructions.parts_before.Goals as goal

pub returns-then-self : goal.returns-then-self
returns-then-self c =
    let listed = c.places.ensures c.if-self.true in
    let n = c.count_before.result in
    let place = c.args.place in
    parts-before c.args.part (code_in c.args.self.now) place n
    (subst (λ ps. n ≤ length ps) listed c.count_before.ensures.bound)
    (subst (λ ps. IsPartitionedBy (λ p. ltb p place) ps → IsPartitionPoint (λ p. ltb p place ≡ true) (λ p. ltb p place ≡ false) ps n) listed
    c.count_before.ensures.count)
