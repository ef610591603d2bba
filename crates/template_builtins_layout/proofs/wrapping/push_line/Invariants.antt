use Rattle.std.proofs.Common.{◌++◌, chars, length, string_bytes}
use Rattle.template_values_print.specs.Pieces.{encoded}
use Rattle.template_builtins_layout.specs.Wrapping.{wrapped_line}
use Rattle.template_builtins_layout.proofs.Broken.{LineLeft}
use Rattle.template_builtins_layout.proofs.wrapping.push_line.Given as goal

abbrev pub invariant-loop-gap : goal.invariant-loop-gap
invariant-loop-gap l =
    LineLeft (encoded l.layout.markup) l.layout.wrap.now l.layout.width l.layout.cuts (string_bytes l.out) l.rest l.room
    (string_bytes l.initial.out ++ wrapped_line (encoded l.layout.markup) l.layout.wrap.now l.layout.width l.layout.cuts l.line)

abbrev pub decreases-loop-gap : goal.decreases-loop-gap
decreases-loop-gap l = length (chars l.rest)
