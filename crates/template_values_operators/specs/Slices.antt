-- Slices, by Python's index rule.
use Rattle.std.specs.Prelude.{Bool, true, false, ◌==◌, if◌then◌else◌, ℕ, zero, suc, ℤ, pos, negsuc, ◌+ℤ◌, ◌-ℤ◌, ◌*ℤ◌, List, [], ◌++◌, length, slice_get, Option, None, Some, unwrap_or, option_to_list, Result, Ok, Err, encode_utf8_all, unsigned_abs}
use Rattle.std.specs.Int.{int_min, int_max, div_ceil}
use Rattle.std.specs.Str.{chars}
use Rattle.template_values_model.specs.Fault.{Fault, invalid_operation}
use Rattle.template_values_model.specs.Val.{Val, text, bytes}
use Rattle.template_values_core.specs.Answers.{text_in}
use Rattle.template_values_core.specs.Reads.{number_of, items_in}
use Rattle.template_values_operators.specs.Kinds.{bytes_of, is_nothing, is_none, list_made}

-- the bounds of a forward slice lie from 0 to the length, those of a backward one from -1 to the length less 1
abbrev pub lowest : ℤ → ℤ
lowest (pos _) = pos 0
lowest (negsuc _) = negsuc 0

abbrev pub highest : ℤ → ℕ → ℤ
highest (pos _) n = pos n
highest (negsuc _) n = pos n -ℤ pos 1

-- a bound is counted from the end where it is negative, and moved to the nearest that may be
abbrev pub from_end : ℤ → ℕ → ℤ
from_end (pos i) n = pos i
from_end (negsuc i) n = negsuc i +ℤ pos n

abbrev pub bound_at : ℤ → ℤ → ℕ → ℤ
bound_at bound step n = int_max (lowest step) (int_min (from_end bound n) (highest step n))

-- the place of the first item, and the place before which the slice stops
abbrev pub start_place : Option ℤ → ℤ → ℕ → ℤ
start_place (Some bound) step n = bound_at bound step n
start_place None (pos s) n = lowest (pos s)
start_place None (negsuc s) n = highest (negsuc s) n

abbrev pub stop_place : Option ℤ → ℤ → ℕ → ℤ
stop_place (Some bound) step n = bound_at bound step n
stop_place None (pos s) n = highest (pos s) n
stop_place None (negsuc s) n = lowest (negsuc s)

-- how far it is from the start to the stop
abbrev pub distance : ℤ → ℤ → ℤ → ℤ
distance start stop (pos s) = stop -ℤ start
distance start stop (negsuc s) = start -ℤ stop

-- how many places s apart lie before a distance
abbrev pub steps_within : ℤ → ℕ → ℕ
steps_within (pos d) s = div_ceil d s
steps_within (negsuc _) s = 0

abbrev pub step_count : ℤ → ℤ → ℤ → ℕ
step_count start stop step = steps_within (distance start stop step) (unsigned_abs step)

-- what a list has at a place
abbrev pub item_at : {X : Type 0} → List X → ℤ → Option X
item_at xs (pos i) = slice_get xs i
item_at xs (negsuc _) = None

-- the first n items of those at start, start + step, start + 2 * step and so on
abbrev pub picked : {X : Type 0} → List X → ℤ → ℤ → ℕ → List X
picked xs start step zero = []
picked xs start step (suc k) = picked xs start step k ++ option_to_list (item_at xs (start +ℤ pos k *ℤ step))

-- the slice of a list
abbrev pub sliced : {X : Type 0} → Option ℤ → Option ℤ → ℤ → List X → List X
sliced start stop step xs =
    picked xs (start_place start step (length xs)) step (step_count (start_place start step (length xs))
    (stop_place stop step (length xs)) step)

-- a bound is a number or none
abbrev pub bound_by : Bool → Option ℤ → Result (Option ℤ) Fault
bound_by true number = Ok None
bound_by false (Some n) = Ok (Some n)
bound_by false None = Err invalid_operation

abbrev pub bound_of : Val → Result (Option ℤ) Fault
bound_of value = bound_by (is_none value) (number_of value)

-- by the items, the bytes and the text that a value holds; nothing of undefined and none; all else is refused
abbrev pub slice_in : Option (List Val) → Option (List ℕ) → Option (List ℕ) → Bool → Option ℤ → Option ℤ → ℤ → Result Val Fault
slice_in (Some vs) _ _ _ start stop step = list_made (sliced start stop step vs)
slice_in None (Some s) _ _ start stop step = Ok (bytes (sliced start stop step s))
slice_in None None (Some s) _ start stop step = Ok (text (encode_utf8_all (sliced start stop step (chars s))))
slice_in None None None true start stop step = list_made []
slice_in None None None false start stop step = Err invalid_operation

-- a step of 0 is refused
abbrev pub slice_with : Val → Option ℤ → Option ℤ → ℤ → Result Val Fault
slice_with value start stop step =
    if unsigned_abs step == 0 then Err invalid_operation else slice_in (items_in value) (bytes_of value) (text_in value)
    (is_nothing value) start stop step

-- the bounds and the step are tested before the value; the step is 1 where it is none
abbrev pub slice_by : Val → Result (Option ℤ) Fault → Result (Option ℤ) Fault → Result (Option ℤ) Fault → Result Val Fault
slice_by value (Ok start) (Ok stop) (Ok step) = slice_with value start stop (unwrap_or step (pos 1))
slice_by value _ _ _ = Err invalid_operation

abbrev pub slice_of : Val → Val → Val → Val → Result Val Fault
slice_of value start stop step = slice_by value (bound_of start) (bound_of stop) (bound_of step)
