use Rattle.std.proofs.Common.{◌≡◌, string_bytes}
use Rattle.std.specs.List.{join_by}
use Rattle.template_values_print.specs.Pieces.{encoded}
use Rattle.template_builtins_layout.specs.Wrapping.{wrapped_line}
use Rattle.template_builtins_layout.proofs.Broken.{has_any, read}
use Rattle.template_builtins_layout.proofs.wrapping.wrapped.Given as goal

-- the lines so far are put together
abbrev pub invariant-loop-line : goal.invariant-loop-line
invariant-loop-line l =
    (l.begun ≡ has_any l.yielded)
    × (string_bytes l.out ≡ join_by (wrapped_line (encoded l.fn.layout.markup) l.fn.layout.wrap.now l.fn.layout.width l.fn.layout.cuts) l.fn.layout.wrap.now (read l.yielded))
