-- The shape of a run at a place: which operands lie there by their form, and what stands open.
use Rattle.std.specs.Prelude.{ℕ, ◌==◌, ◌&&◌, Bool, true, false, zero, suc, pred, nat_lt, nat_le, if◌then◌else◌, List, [], ◌∷◌, ◌++◌, length, replicate, Option, None, Some, option_and_then}
use Rattle.template_compiler_code.specs.Code.{Operand, single, counted, counting, closure}
use Rattle.template_compiler_code.specs.Counting.{is_recursive}
pub use Rattle.template_compiler_code_shapes.specs.declared.outline.Floor.{Floor}
pub use Rattle.template_compiler_code_shapes.specs.declared.outline.Opened.{Opened}
pub use Rattle.template_compiler_code_shapes.specs.declared.outline.Opened.TheVariants.{With as with_frame, Loop as loop_frame, Recursive as recursive_frame}

pub data Form : Type 0 where
  single_form : Form
  counted_form : Form
  counting_form : Form
  closure_form : Form

abbrev pub form_of : Operand → Form
form_of (single v) = single_form
form_of (counted vs) = counted_form
form_of (counting vs v) = counting_form
form_of (closure number) = closure_form

pub record Shape : Type 0 where
  pub operands : List Form  -- the top one first
  pub frames : List Opened  -- the innermost first
  pub escapes : ℕ
  pub captures : ℕ
  pub in_macro : Bool  -- whether this is within the body of a macro

-- where a run begins
abbrev pub start : Shape
start = record { operands = []; frames = []; escapes = 0; captures = 0; in_macro = false }

-- where the body of a macro of so many arguments begins
abbrev pub body_of : ℕ → Shape
body_of n = record { operands = replicate n single_form; frames = []; escapes = 0; captures = 0; in_macro = true }

-- the floor of the innermost recursive loop
abbrev pub floor_of : List Opened → Floor
floor_of [] = record { operands = 0; escapes = 0; captures = 0 }
floor_of (recursive_frame place floor ∷ frames) = floor
floor_of (_ ∷ frames) = floor_of frames

-- what lies below so many values
abbrev pub below_values : ℕ → List Form → Option (List Form)
below_values zero forms = Some forms
below_values (suc n) (single_form ∷ forms) = below_values n forms
below_values (suc n) _ = None

-- with these operands left, of those that the innermost recursive loop found all
abbrev pub lowered : Shape → List Form → Option Shape
lowered s forms = if nat_le (floor_of s.frames).operands (length forms) then Some (record s { operands = forms }) else None

-- so many values are taken
abbrev pub taken : ℕ → Shape → Option Shape
taken n s = option_and_then (lowered s) (below_values n s.operands)

-- a counted run is taken
abbrev pub run_taken : Shape → List Form → Option Shape
run_taken s (counted_form ∷ forms) = lowered s forms
run_taken s _ = None

-- so many values are taken, or a counted run
abbrev pub handed : Option ℕ → Shape → Option Shape
handed (Some n) s = taken n s
handed None s = run_taken s s.operands

-- a value and the closure under it are taken
abbrev pub closure_taken : Shape → List Form → Option Shape
closure_taken s (single_form ∷ closure_form ∷ forms) = lowered s forms
closure_taken s _ = None

-- so many values are put on top
abbrev pub given : ℕ → Shape → Shape
given n s = record s { operands = replicate n single_form ++ s.operands }

-- an operand of a form is put on top
abbrev pub topped : Form → Shape → Shape
topped form s = record s { operands = form ∷ s.operands }

-- one frame more
abbrev pub opened : Opened → Shape → Shape
opened frame s = record s { frames = frame ∷ s.frames }

-- the frame of a loop that is pushed at a place, with its flags
abbrev pub loop_opened : ℕ → ℕ → Shape → Opened
loop_opened flags place s = if is_recursive flags
    then recursive_frame place (record { operands = length s.operands; escapes = s.escapes; captures = s.captures })
    else loop_frame place

-- the innermost frame is closed, where it is no loop's
abbrev pub frame_closed : Shape → List Opened → Option Shape
frame_closed s (with_frame ∷ frames) = Some (record s { frames = frames })
frame_closed s _ = None

-- the innermost frame is closed, where it is a loop's; a recursive loop leaves no escape and no capture open
abbrev pub loop_closed : Shape → List Opened → Option Shape
loop_closed s (loop_frame place ∷ frames) = Some (record s { frames = frames })
loop_closed s (recursive_frame place floor ∷ frames) = if (s.escapes == floor.escapes) && (s.captures == floor.captures)
    then Some (record s { frames = frames }) else None
loop_closed s _ = None

-- one escape more
abbrev pub with_escape : Shape → Shape
with_escape s = record s { escapes = suc s.escapes }

-- an escape is closed that was not open where the innermost recursive loop began
abbrev pub escape_closed : Shape → Option Shape
escape_closed s = if nat_lt (floor_of s.frames).escapes s.escapes then Some (record s { escapes = pred s.escapes }) else None

-- one capture more
abbrev pub with_capture : Shape → Shape
with_capture s = record s { captures = suc s.captures }

-- a capture is closed that was not open where the innermost recursive loop began
abbrev pub capture_closed : Shape → Option Shape
capture_closed s = if nat_lt (floor_of s.frames).captures s.captures then Some (record s { captures = pred s.captures }) else None

-- the place of the `PushLoop` of the loop whose frame is the innermost one: what asks, closes or goes round a loop finds it there
abbrev pub innermost_loop : List Opened → Option ℕ
innermost_loop (loop_frame place ∷ frames) = Some place
innermost_loop (recursive_frame place floor ∷ frames) = Some place
innermost_loop _ = None

abbrev pub is_none_left : List Form → List Opened → Bool
is_none_left [] [] = true
is_none_left _ _ = false

-- the body of a macro is over: no operand is left, and nothing is open
abbrev pub is_over : Shape → Bool
is_over s = s.in_macro && (is_none_left s.operands s.frames && ((s.escapes == 0) && (s.captures == 0)))
