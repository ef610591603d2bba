use Rattle.std.proofs.Common.{◌≡◌, string_bytes}
use Rattle.std.specs.Prelude.{encode_utf8_all}
use Rattle.template_values_operators.specs.Slices.{picked}
use Rattle.template_values_items.proofs.slices.slice_text.Given as goal

abbrev pub invariant-loop-round : goal.invariant-loop-round
invariant-loop-round l = string_bytes l.slice ≡ encode_utf8_all (picked l.characters.items l.places.start l.places.step l.round)
