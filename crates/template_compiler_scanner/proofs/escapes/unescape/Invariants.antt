use Rattle.std.proofs.Common.{List, ℕ, ◌++◌, length, string_bytes}
use denote.Text.{Utf8}
use denote.Shadow.{shadow}
use Rattle.template_compiler_tokens.specs.Texts.{Unescapes}
use Rattle.template_compiler_scanner.proofs.escapes.unescape.Given as goal

-- what the rest stands for goes behind what was done, and where it stands for nothing the inside does not either
abbrev pub invariant-loop-backslash : goal.invariant-loop-backslash
invariant-loop-backslash l = record {
  utf8 : shadow (Utf8 l.rest);
  goes_on : (t : List ℕ) → Unescapes l.rest t → Unescapes l.inside (string_bytes l.done ++ t);
  fails : ((t : List ℕ) → Unescapes l.rest t → ⊥) → (t : List ℕ) → Unescapes l.inside t → ⊥;
}

abbrev pub decreases-loop-backslash : goal.decreases-loop-backslash
decreases-loop-backslash l = length l.rest
