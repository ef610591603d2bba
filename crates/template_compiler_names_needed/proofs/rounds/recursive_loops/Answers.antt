use Rattle.std.proofs.Common.{◌≡◌, false, List, ap, sym, ◌∙◌}
use Rattle.template_compiler_tree_parts.specs.Listed.{statements_in}
use Rattle.template_compiler_names_closures.specs.Units.{parts_in}
use Rattle.template_compiler_names_closures.specs.declared.parts.Unit.{Unit}
use Rattle.template_compiler_names_needed.specs.Needed.{has_whole}
use Rattle.template_compiler_names_needed.proofs.Looping.{loops_use}
use Rattle.template_compiler_names_needed.proofs.rounds.recursive_loops.Goals as goal

pub returns : goal.returns
returns c =
    let units = c.in_ok-units.units.items in
    let none : has_whole (parts_in units) ≡ false =
    ap (λ (us : List Unit). has_whole (parts_in us)) (sym c.deref.ensures.value) ∙ sym c.holds_template.ensures ∙ c.if-holds_template.false in
    loops_use (statements_in c.args.body.now) units c.in_ok-units.ensures none
