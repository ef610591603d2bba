use Rattle.std.proofs.Common.{◌≡◌, ◌++◌, IsUtf8, chars, encode_utf8_all, map}
use Rattle.template_builtins_pieces.specs.Reading.{all_shown}
use Rattle.template_builtins_pieces.specs.Words.{words, words_from}
use Rattle.template_builtins_pieces.proofs.words.words.Given as goal

-- the words of the rest stand behind those that are there
abbrev pub invariant-loop-left : goal.invariant-loop-left
invariant-loop-left l = record {
  text : IsUtf8 l.rest;
  made : all_shown l.parts.items ++ map encode_utf8_all (words_from l.left (chars l.rest)) ≡ words l.limit l.text;
}

abbrev pub decreases-loop-left : goal.decreases-loop-left
decreases-loop-left l = l.left
