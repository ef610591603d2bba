use Rattle.std.proofs.Common.{◌≡◌, ℕ, ◌+◌, reverse, take, sym, subst, ◌∙◌, arith}
use Rattle.template_compiler_code_shapes.specs.Outlines.{count_under}
use Rattle.template_compiler_code_shapes.proofs.OutlineLemmas.{length_over}
use Rattle.template_compiler_code_shapes.proofs.outline.Outline.count.Goals as goal

pub returns : goal.returns
returns c =
    let o = c.args.self.now in
    let count = c.loop-place.count in
    let zero : c.loop-place.place ≡ 0 = omega (arith, c.loop-place-test.false) in
    let P : ℕ → Type 0 = λ p. count + count_under (reverse (take p o.others.items)) ≡ o.values + count_under (reverse o.others.items) in
    let all : count + 0 ≡ o.values + count_under (reverse o.others.items) = subst P zero c.loop-place.invariant.count in
    let is : count ≡ o.values + count_under (reverse o.others.items) = omega (arith, all) in
    is ∙ sym (length_over (reverse o.others.items) o.values)
