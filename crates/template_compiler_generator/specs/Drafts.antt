-- What is generated so far, and what each step makes of it.
use Rattle.std.specs.Prelude.{◌≡◌, ◌==◌, ◌+◌, ◌≤◌, ◌⊎◌, ℕ, Bool, true, false, List, [], ◌∷◌, ◌++◌, Option, None, Some, length, drop, if◌then◌else◌}
use Rattle.std.proofs.Math.ListN.{set}
use Rattle.template_compiler_tree.specs.declared.span.Span.{Span}
use Rattle.template_compiler_code.specs.declared.marks.Mark.{Mark}
use Rattle.template_compiler_code.specs.Code.{Code}
use Rattle.template_compiler_code.specs.Code as steps
use Rattle.template_values_errors.specs.declared.ErrorKind.{ErrorKind}
use Rattle.template_values_errors.specs.declared.ErrorKind.TheVariants.{TooLarge, OutOfMemory}
use Rattle.template_compiler_code.specs.Listing.{line_mark, span_mark, too_many}
use Rattle.template_compiler_codegen.specs.Expressions.{Coded}
use Rattle.template_compiler_emission.specs.declared.leaps.Leap.{Leap}
use Rattle.template_compiler_emission.specs.declared.leaps.Leap.TheVariants.{Always, IfFalse, IfFalseOrPop, IfTrueOrPop, Iterate}
use Rattle.template_compiler_emission.specs.Leaps.{leap_code}
use Rattle.template_compiler_generator.specs.declared.blocks.Jump.{Jump}

-- a block that is open: a branch with the jump over it, a loop with the place where it asks for its next item, or a
-- choice with the jumps to its end, the latest first
pub data Open : Type 0 where
  branch : Jump → Open
  loop : ℕ → Open
  choice : List Jump → Open

-- the name and the source of the template, its code and where this comes from, and the blocks, the line and the spans
-- that are open, the innermost first
pub record Draft : Type 0 where
  pub name : List ℕ
  pub source : List ℕ
  pub code : List Code
  pub marks : List Mark
  pub blocks : List Open
  pub line : ℕ
  pub spans : List Span

-- the innermost span, where it starts on the current line
abbrev pub span_on : ℕ → List Span → Option Span
span_on line [] = None
span_on line (span ∷ spans) = if span.start_line == line then Some span else None

-- an instruction comes from a span, or else from a line
abbrev pub mark_from : Option Span → ℕ → ℕ → Mark
mark_from (Some span) line place = span_mark place span
mark_from None line place = line_mark place line

abbrev pub with_line : ℕ → Draft → Draft
with_line line d = record d { line = line }

-- one more span is open, and its line is the current one
abbrev pub with_span : Span → Draft → Draft
with_span span d = record d { line = span.start_line; spans = span ∷ d.spans }

abbrev pub without_span : Draft → Draft
without_span d = record d { spans = drop 1 d.spans }

abbrev pub with_marked : Code → Mark → Draft → Draft
with_marked c mark d = record d { code = d.code ++ c ∷ []; marks = d.marks ++ mark ∷ [] }

-- one more instruction
abbrev pub with_code : Code → Draft → Draft
with_code c d = with_marked c (mark_from (span_on d.line d.spans) d.line (length d.code)) d

abbrev pub with_code_from : Span → Code → Draft → Draft
with_code_from span c d = with_marked c (span_mark (length d.code) span) d

-- a jump that is told later where it leads
abbrev pub next_jump : Leap → Draft → Jump
next_jump leap d = record { place = length d.code; leap = leap }

abbrev pub with_jump : Leap → Draft → Draft
with_jump leap d = with_code (leap_code leap 0) d

-- a jump leads behind the last instruction
abbrev pub with_told : Jump → Draft → Draft
with_told jump d = record d { code = set d.code jump.place (leap_code jump.leap (length d.code)) }

-- one more block
abbrev pub with_block : Open → Draft → Draft
with_block block d = record d { blocks = block ∷ d.blocks }

abbrev pub with_blocks : List Open → Draft → Draft
with_blocks blocks d = record d { blocks = blocks }

abbrev pub is_branch : List Open → Bool
is_branch (branch jump ∷ outer) = true
is_branch _ = false

abbrev pub with_if : Draft → Draft
with_if d = with_block (branch (next_jump IfFalse d)) (with_jump IfFalse d)

-- the jump over the innermost branch leads behind the last instruction, and the branch is closed
abbrev pub branch_closed : List Open → Draft → Draft
branch_closed (branch jump ∷ outer) d = with_told jump (with_blocks outer d)
branch_closed _ d = d

abbrev pub with_end : Draft → Draft
with_end d = branch_closed d.blocks d

abbrev pub with_else : Draft → Draft
with_else d = with_block (branch (next_jump Always d)) (with_end (with_jump Always d))

abbrev pub is_loop : List Open → Bool
is_loop (loop asks ∷ outer) = true
is_loop _ = false

abbrev pub loop_flags : Bool → Bool → ℕ
loop_flags with_loop_var recursive = (if with_loop_var then 1 else 0) + (if recursive then 2 else 0)

-- a loop, and its rounds, which ask for the next item
abbrev pub with_rounds : Draft → Draft
with_rounds d = with_block (loop (length d.code)) (with_jump Iterate d)

abbrev pub with_loop : Bool → Bool → Draft → Draft
with_loop with_loop_var recursive d = with_rounds (with_code (steps.push_loop (loop_flags with_loop_var recursive)) d)

-- the way back; the asking leads behind it where there is no further item
abbrev pub rounds_told : ℕ → Draft → Draft
rounds_told asks d = with_told (record { place = asks; leap = Iterate }) (with_code (steps.jump asks) d)

abbrev pub loop_closed : List Open → Draft → Draft
loop_closed (loop asks ∷ outer) d = rounds_told asks (with_blocks outer d)
loop_closed _ d = d

-- where wanted, whether there was no item
abbrev pub with_truth : Bool → Draft → Draft
with_truth did_not_iterate d = if did_not_iterate then with_code steps.push_did_not_iterate d else d

-- the rounds and the loop are closed
abbrev pub with_loop_end : Bool → Draft → Draft
with_loop_end did_not_iterate d = with_code steps.pop_loop_frame (with_truth did_not_iterate (loop_closed d.blocks d))

abbrev pub is_choice : List Open → Bool
is_choice (choice jumps ∷ outer) = true
is_choice _ = false

abbrev pub jumps_of : List Open → List Jump
jumps_of (choice jumps ∷ outer) = jumps
jumps_of _ = []

abbrev pub with_choice : Draft → Draft
with_choice d = with_block (choice []) d

-- `and` leaves a choice where a value is false, `or` where it is true
abbrev pub leap_of : Bool → Leap
leap_of and = if and then IfFalseOrPop else IfTrueOrPop

-- one more jump leaves the innermost choice
abbrev pub with_chosen : Bool → Draft → Draft
with_chosen and d =
    with_block (choice (next_jump (leap_of and) d ∷ jumps_of d.blocks)) (with_blocks (drop 1 d.blocks) (with_jump (leap_of and) d))

-- the jumps lead behind the last instruction
abbrev pub with_all_told : List Jump → Draft → Draft
with_all_told [] d = d
with_all_told (jump ∷ jumps) d = with_all_told jumps (with_told jump d)

-- the jumps of the innermost choice do, and the choice is closed
abbrev pub with_choice_end : Draft → Draft
with_choice_end d = with_all_told (jumps_of d.blocks) (with_blocks (drop 1 d.blocks) d)

-- a piece of code stands behind the instructions, and all but where it comes from stays
pub record Generates (piece : Coded) (old new : Draft) : Type 0 where
  pub name : new.name ≡ old.name
  pub source : new.source ≡ old.source
  pub code : new.code ≡ old.code ++ piece (length old.code)
  pub blocks : new.blocks ≡ old.blocks
  pub line : new.line ≡ old.line
  pub spans : new.spans ≡ old.spans

-- where earlier instructions come from stays: marks come behind the others alone
pub record MarksBehind (old new : Draft) : Type 0 where
  pub later : List Mark
  pub marks : new.marks ≡ old.marks ++ later

-- the code of what would be generated is too long, or a growth was refused
abbrev pub IsTooLong : Draft → List ErrorKind → Type 0
IsTooLong d kinds = ((too_many ≤ length d.code) × (kinds ≡ TooLarge ∷ [])) ⊎ (kinds ≡ OutOfMemory ∷ [])
