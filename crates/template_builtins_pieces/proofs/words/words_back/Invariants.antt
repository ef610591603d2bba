use Rattle.std.proofs.Common.{◌≡◌, ◌++◌, IsUtf8, chars, encode_utf8_all, map}
use Rattle.std.specs.Str.{drop_trailing_whitespace}
use Rattle.template_builtins_pieces.specs.Reading.{all_shown}
use Rattle.template_builtins_pieces.specs.Words.{words_back}
use Rattle.template_builtins_pieces.proofs.words.words_back.Given as goal

-- the words of the rest stand behind those that are there
abbrev pub invariant-loop-left : goal.invariant-loop-left
invariant-loop-left l = record {
  text : IsUtf8 l.rest;
  made : all_shown l.parts.items ++ map encode_utf8_all (words_back l.left (chars l.rest)) ≡ map encode_utf8_all (words_back l.limit (drop_trailing_whitespace (chars l.text)));
}

abbrev pub decreases-loop-left : goal.decreases-loop-left
decreases-loop-left l = l.left
