use Rattle.std.proofs.Common.{◌++◌, chars, length, string_bytes}
use Rattle.template_values_print.specs.Pieces.{encoded}
use Rattle.template_builtins_layout.specs.Wrapping.{room_behind, typed}
use Rattle.template_builtins_layout.proofs.Broken.{WordLeft}
use Rattle.template_builtins_layout.proofs.wrapping.push_word.Given as goal

abbrev pub invariant-loop-character : goal.invariant-loop-character
invariant-loop-character l =
    WordLeft (encoded l.layout.markup) l.layout.wrap.now l.layout.width l.layout.cuts (string_bytes l.out) l.rest l.left
    (string_bytes l.initial.out ++ typed (encoded l.layout.markup) l.layout.wrap.now l.layout.width l.layout.cuts l.room (chars l.word))
    (room_behind (encoded l.layout.markup) l.layout.wrap.now l.layout.width l.layout.cuts l.room (chars l.word))

abbrev pub decreases-loop-character : goal.decreases-loop-character
decreases-loop-character l = length l.rest
