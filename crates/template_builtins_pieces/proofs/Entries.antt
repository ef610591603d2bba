-- Keywords that are given.
use Rattle.std.proofs.Common.{◌≡◌, ◌==◌, List, [], ◌∷◌, length, not, Some, refl, ap, ne_eqb, arith}
use Rattle.template_values_model.specs.Val.{keyword_map}
use Rattle.template_values_core.specs.declared.value.Entry.{Entry}
use Rattle.template_values_core.specs.Maps.{pairs_of}
use Rattle.template_values_core.specs.Shape.{pairs_in}
use Rattle.template_builtins_pieces.specs.Reading.{has_keywords}

pub entries_given : (entries : List Entry) → not (length entries == 0) ≡ has_keywords (Some (keyword_map (pairs_of (pairs_in entries))))
entries_given [] = refl
entries_given (e ∷ entries) = ap not (ne_eqb (length (e ∷ entries)) 0 (λ z. omega (arith, z)))
