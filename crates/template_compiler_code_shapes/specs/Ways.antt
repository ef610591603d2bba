-- The effect that the ways on from an instruction stand for.
use Rattle.std.specs.Prelude.{ℕ, option_map}
use Rattle.template_compiler_code.specs.Code.{Code, push_with, pop_frame, pop_loop_frame, push_auto_escape, pop_auto_escape, begin_capture, end_capture}
use Rattle.template_compiler_code_shapes.specs.Shapes.{Shape}
use Rattle.template_compiler_code_shapes.specs.Outlines.{shape_of}
use Rattle.template_compiler_code_shapes.specs.Effects.{Effect}
use Rattle.template_compiler_code_shapes.specs.declared.ways.Jump.{Jump}
use Rattle.template_compiler_code_shapes.specs.declared.ways.Ways.{Ways}

abbrev pub jump_of : Jump → ℕ × Shape
jump_of j = (j.to, shape_of j.shape)

abbrev pub effect_in : Ways → Effect
effect_in w = record { falls = option_map shape_of w.falls; jumps = option_map jump_of w.jumps; enters = option_map jump_of w.enters }

-- an instruction that opens or closes something, but a `PushLoop`
abbrev pub IsScope : Code → Type 0
IsScope push_with = Unit {0}
IsScope pop_frame = Unit {0}
IsScope pop_loop_frame = Unit {0}
IsScope push_auto_escape = Unit {0}
IsScope pop_auto_escape = Unit {0}
IsScope (begin_capture keep) = Unit {0}
IsScope end_capture = Unit {0}
IsScope _ = ⊥
