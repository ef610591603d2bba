use Rattle.std.proofs.Common.{◌≡◌, map, take}
use Rattle.template_values_model.specs.Val.{text}
use Rattle.template_builtins_sorting.proofs.attributes.texts_of.Given as goal

abbrev pub invariant-loop-piece : goal.invariant-loop-piece
invariant-loop-piece l = l.texts.items ≡ map text (map (λ piece. piece.now) (take l.piece-index l.pieces))
