use Rattle.std.proofs.Common.{◌≡◌, map, take}
use Rattle.template_builtins_arguments.specs.Texts.{text_made}
use Rattle.template_builtins_pieces.proofs.lists.text_values.Given as goal

abbrev pub invariant-loop-part : goal.invariant-loop-part
invariant-loop-part l = l.values.items ≡ map (λ x. text_made l.safe x.now) (take l.part-index l.parts)
