use Rattle.std.proofs.Common.{◌≡◌, ◌++◌, take, string_bytes}
use Rattle.std.specs.List.{flat_map}
use Rattle.template_values_forms.specs.Escapes.{replaced_byte}
use Rattle.template_values_print.specs.Pieces.{encoded}
use Rattle.template_values_print.proofs.pieces.push_replaced.Given as goal

-- the bytes so far are written
abbrev pub invariant-loop-byte : goal.invariant-loop-byte
invariant-loop-byte l = string_bytes l.out ≡ string_bytes l.initial.out ++ encoded l.markup (flat_map replaced_byte (take l.byte-index l.bytes))
