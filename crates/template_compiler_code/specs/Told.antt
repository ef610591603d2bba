-- The span that an instruction was added with.
use Rattle.std.specs.Prelude.{◌==◌, ◌&&◌, Bool, Option, None, Some, if◌then◌else◌}
use Rattle.template_compiler_tree.specs.declared.span.Span.{Span}

-- a span that says nothing
abbrev pub is_default : Span → Bool
is_default s =
    s.start_line == 0 && (s.start_col == 0 && (s.start_offset == 0 && (s.end_line == 0 && (s.end_col == 0 && s.end_offset == 0))))

abbrev pub told_span : Span → Option Span
told_span s = if is_default s then None else Some s
