use Rattle.std.proofs.Common.{◌≡◌, ◌≤◌, ◌+◌, ◌-◌, ℕ, length, take, arith, sym, ap, ◌∙◌}
use Rattle.template_compiler_tree.specs.Tree.{Expressions}
use Rattle.template_compiler_names_statements.specs.Stores.{backwards, place_in_first}
use Rattle.template_compiler_names.proofs.Laws.{uses_on}
use Rattle.template_compiler_names_statements.proofs.Storing.{backwards_last}
use Rattle.template_compiler_names_statements.proofs.targets.use_last.Goals as goal

pub returns : goal.returns
returns c =
    let ds = c.args.defaults.now in
    let given = c.args.given in
    let inside : given ≤ length ds = c.requires in
    let tested = c.if-given-eq0.false in
    let one : given ≡ given - 1 + 1 = omega (arith, tested) in
    let tree = ap (λ (n : ℕ). backwards (take n ds)) one ∙
    backwards_last ds (given - 1) c.index-defaults-last.result (omega (arith, inside, tested)) c.index-defaults-last.is in
    uses_on c.args.names.now c.use_expression.new.names c.use_expression.result (λ q. ap (λ (es : Expressions). place_in_first q es) (sym tree))
    c.use_expression.ensures
