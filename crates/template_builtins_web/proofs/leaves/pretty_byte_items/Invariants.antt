use Rattle.std.proofs.Common.{List, drop, Result, Ok, string_bytes, ℕ, false}
use Rattle.template_values_errors.specs.declared.ErrorKind.{ErrorKind}
use Rattle.template_values_forms.specs.Json.{byte_items}
use Rattle.template_values_print.specs.Pieces.{Writes}
use Rattle.template_values_print.specs.declared.pieces.Markup.TheVariants.{Plain}
use Rattle.template_builtins_web.specs.Json.{pretty_items}
use Rattle.template_builtins_web.proofs.leaves.pretty_byte_items.Given as goal

-- what writes the bytes that are left from here writes all of them
abbrev pub invariant-loop-byte : goal.invariant-loop-byte
invariant-loop-byte l =
    (result : Result (Unit {0}) (List ErrorKind)) (after : List ℕ)
    → Writes Plain (string_bytes l.out) (Ok (pretty_items l.later l.indent l.level (byte_items (drop l.byte-index l.bytes)))) result after
    → Writes Plain (string_bytes l.initial.out) (Ok (pretty_items false l.indent l.level (byte_items l.bytes))) result after
