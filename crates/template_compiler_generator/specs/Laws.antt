-- The laws of the blocks: the steps around pieces of code make the code of conditions, of `and` and `or`, and of loops.
use Rattle.std.specs.Prelude.{Bool, true, false}
use Rattle.template_compiler_code.specs.Code.{jump_if_false, pop_loop_frame, push_did_not_iterate, push_loop}
use Rattle.template_compiler_codegen.specs.Expressions.{Coded, either_code, one, skipped, then_code}
use Rattle.template_compiler_codegen.specs.Statements.{rounds_code}
use Rattle.template_compiler_emission.specs.Leaps.{leap_code}
use Rattle.template_compiler_generator.specs.Drafts.{Draft, Generates, leap_of, loop_flags, with_choice, with_choice_end, with_chosen, with_else, with_end, with_if, with_loop, with_loop_end}

-- a branch is code that may be leapt over
abbrev pub IfGenerates : Type 0
IfGenerates = (body : Coded) (d e : Draft) → Generates body (with_if d) e → Generates (skipped jump_if_false body) d (with_end e)

-- of two branches the one or the other runs
abbrev pub ElseGenerates : Type 0
ElseGenerates = (body otherwise : Coded) (d e f : Draft) → Generates body (with_if d) e → Generates otherwise (with_else e) f
    → Generates (either_code body otherwise) d (with_end f)

-- the right side of `and` and of `or` may be leapt over
abbrev pub ChoiceGenerates : Type 0
ChoiceGenerates = (and : Bool) (left right : Coded) (d e f : Draft) → Generates left (with_choice d) e
    → Generates right (with_chosen and e) f
    → Generates (then_code left (skipped (leap_code (leap_of and)) right)) d (with_choice_end f)

-- what closes a loop
abbrev pub loop_end : Bool → Coded
loop_end true = then_code (one push_did_not_iterate) (one pop_loop_frame)
loop_end false = one pop_loop_frame

-- a loop, its rounds, and its end
abbrev pub LoopGenerates : Type 0
LoopGenerates = (with_loop_var recursive did_not_iterate : Bool) (target body : Coded) (d e : Draft)
    → Generates (then_code target body) (with_loop with_loop_var recursive d) e
    → Generates (then_code (one (push_loop (loop_flags with_loop_var recursive)))
    (then_code (rounds_code target (λ break_to continue_to. body)) (loop_end did_not_iterate))) d (with_loop_end did_not_iterate e)
