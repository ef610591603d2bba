use Rattle.std.proofs.Common.{◌≡◌, ◌∙◌, false, refl, sym}
use Rattle.template_compiler_tree.specs.View.{arguments_in}
use Rattle.template_compiler_tree.specs.Kinds.{is_empty}
use Rattle.template_compiler_tree.proofs.Arms.{emptiness}
use Rattle.template_compiler_tree.proofs.calls.Call.identify_attribute.Goals as goal
use Rattle.template_compiler_tree.proofs.calls.Call.identify_attribute.Goals.{else-is_self-via-then-is_self+else-is_empty, else-is_self-via-else-is_self}

pub returns-else-is_self : goal.returns-else-is_self
returns-else-is_self c =
    elim c.else-is_self.branch [
      | else-is_self-via-then-is_self+else-is_empty w ↦
          let none : is_empty (arguments_in c.args.self.now.args.items) ≡ false =
          rw (← w.as_slice.ensures.value) (emptiness w.as_slice.result.now ∙ sym w.is_empty.ensures ∙ w.if-is_empty.false) in
          rw (sym c.is_self.ensures ∙ w.if-is_self.true, none) refl
      | else-is_self-via-else-is_self w ↦ rw (sym c.is_self.ensures ∙ w.if-is_self.false) refl
    ]
