use Rattle.std.proofs.Common.{◌≡◌, ◌++◌, IsUtf8, string_bytes}
use Rattle.std.specs.Str.Iter.{chars_rest}
use Rattle.template_builtins_methods.specs.Cases.{swapped}
use Rattle.template_builtins_methods.proofs.cases.swapped.Given as goal

-- what is made of the rest stands behind what is made
abbrev pub invariant-loop-character : goal.invariant-loop-character
invariant-loop-character l = IsUtf8 (chars_rest l.character-iterator)
    × (string_bytes l.out ++ swapped (chars_rest l.character-iterator) ≡ swapped l.fn.text)
