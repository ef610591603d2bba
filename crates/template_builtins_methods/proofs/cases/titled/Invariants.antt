use Rattle.std.proofs.Common.{◌≡◌, ◌++◌, IsUtf8, string_bytes}
use Rattle.std.specs.Str.Iter.{chars_rest}
use Rattle.template_builtins_methods.specs.Cases.{titled, titled_from}
use Rattle.template_builtins_methods.proofs.cases.titled.Given as goal

-- what is made of the rest stands behind what is made
abbrev pub invariant-loop-character : goal.invariant-loop-character
invariant-loop-character l = IsUtf8 (chars_rest l.character-iterator)
    × (string_bytes l.out ++ titled_from l.begins (chars_rest l.character-iterator) ≡ titled l.fn.text)
