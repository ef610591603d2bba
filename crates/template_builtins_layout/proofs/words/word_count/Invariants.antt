use Rattle.std.proofs.Common.{◌≡◌, ◌≤◌, ◌+◌, IsUtf8, length}
use Rattle.std.specs.Str.Iter.{chars_rest}
use Rattle.template_builtins_layout.specs.Words.{word_count, words_from}
use Rattle.template_builtins_layout.proofs.words.word_count.Given as goal

-- the words so far and those that begin in what is left are all, and they are no more than there are bytes
abbrev pub invariant-loop-character : goal.invariant-loop-character
invariant-loop-character l = IsUtf8 (chars_rest l.character-iterator)
    × (l.count + words_from l.inside (chars_rest l.character-iterator) ≡ word_count l.fn.text)
    × (l.count + length (chars_rest l.character-iterator) ≤ length l.fn.text)
