use Rattle.std.proofs.Common.{◌≡◌, ◌++◌, IsUtf8, string_bytes}
use Rattle.std.specs.Str.Iter.{split_whitespace_rest}
use Rattle.template_builtins_layout.specs.Spacing.{spaced}
use Rattle.template_builtins_layout.proofs.spacing.push_spaced.Given as goal

-- what is made of the rest stands behind what is made
abbrev pub invariant-loop-word : goal.invariant-loop-word
invariant-loop-word l = IsUtf8 (split_whitespace_rest l.word-iterator)
    × (string_bytes l.out ++ spaced (split_whitespace_rest l.word-iterator) ≡ string_bytes l.initial.out ++ spaced (split_whitespace_rest l.fn.words))
