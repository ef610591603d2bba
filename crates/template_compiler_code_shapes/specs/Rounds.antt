-- How the rounds of a recursive loop run that are called again: from behind its `PushLoop`, over no operand of the run that opened it.
use Rattle.std.specs.Prelude.{◌≡◌, ℕ, zero, suc, pred, true, List, [], Some, slice_get}
use Rattle.template_compiler_process.specs.Process.{Ask, open_frame, close_frame, open_loop, close_loop, Answer, Process, over, step, asks, amiss, cut_short, stuck}
use Rattle.template_compiler_code.specs.Code.{Code, push_loop}
use Rattle.template_compiler_code.specs.Counting.{is_recursive}
use Rattle.template_compiler_code.specs.Steps.{exec}
use Rattle.template_compiler_code_shapes.specs.declared.StreamKind.{StreamKind}
use Rattle.template_compiler_code_shapes.specs.Shapes.{Shape}
use Rattle.template_compiler_code_shapes.specs.Streams.{Reached, IsGood}

-- how many frames are open behind an event, of so many before it
abbrev pub frames_behind : Ask → ℕ → ℕ
frames_behind open_frame n = suc n
frames_behind (open_loop how v) n = suc n
frames_behind close_frame n = pred n
frames_behind close_loop n = pred n
frames_behind _ n = n

-- whatever is answered, as long as one of so many frames is open no instruction lacks an operand, and the code is not over
abbrev pub StaysWithin : ℕ → Process → Type 0
StaysWithin zero p = Unit {0}
StaysWithin (suc n) (over values) = ⊥
StaysWithin (suc n) (step p) = StaysWithin (suc n) p
StaysWithin (suc n) (asks e k) = (a : Answer) → StaysWithin (frames_behind e (suc n)) (k a)
StaysWithin (suc n) amiss = Unit {0}
StaysWithin (suc n) cut_short = Unit {0}
StaysWithin (suc n) stuck = ⊥

-- Where a good stream opens a recursive loop, the loop's rounds, called again, are never stuck, and don't run past the code: until the
-- loop's frame is closed they do without the operands that the loop found.
abbrev pub GoodRoundsStay : Type 0
GoodRoundsStay = (kind : StreamKind) (code : List Code) → IsGood kind code → (place flags : ℕ) (s : Shape) → Reached code place s
    → slice_get code place ≡ Some (push_loop flags) → is_recursive flags ≡ true → (bound : ℕ) → StaysWithin 1 (exec code bound (suc place) [])
