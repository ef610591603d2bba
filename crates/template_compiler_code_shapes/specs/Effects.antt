-- What an instruction makes of the shape of a run, and where it leads.
use Rattle.std.specs.Prelude.{ℕ, pos, ◌*◌, ◌==◌, ◌&&◌, Bool, true, false, not, zero, suc, nat_lt, nat_le, if◌then◌else◌, List, ◌∷◌, length, Option, None, Some, is_some, option_map, option_and_then, slice_get}
use Rattle.std.specs.List.{list_all}
use Rattle.std.specs.Ordering.{int_eq}
use Rattle.template_values_model.specs.Val.{Val, int, list, items_of}
use Rattle.template_values_core.specs.Answers.{text_in}
use Rattle.template_compiler_code.specs.Code.{Code, emit_raw, emit, store_local, lookup, load_const, get_attr, set_attr, get_item, slice, build_map, build_kwargs, merge_kwargs, build_list, build_tuple, unpack_list, unpack_lists, operate, negate, invert, is_undefined, compare_and_preserve, apply_filter, perform_test, call_function, call_method, call_object, swap, dup_top, discard_top, jump, jump_if_false, jump_if_false_or_pop, jump_if_true_or_pop, push_with, pop_frame, push_loop, iterate, push_did_not_iterate, pop_loop_frame, push_auto_escape, pop_auto_escape, begin_capture, end_capture, fast_super, fast_recurse, call_block, load_blocks, include, export_locals, enclose, get_closure, build_macro, return}
use Rattle.template_compiler_code.specs.Steps.{is_addition}
use Rattle.template_compiler_code.specs.Loops.{is_iterate_past}
use Rattle.template_compiler_code_shapes.specs.Shapes.{Form, single_form, counted_form, counting_form, closure_form, with_frame, Shape, body_of, lowered, taken, handed, closure_taken, given, topped, opened, loop_opened, frame_closed, loop_closed, with_escape, escape_closed, with_capture, capture_closed, innermost_loop, is_over}

-- with which shape the run goes on behind an instruction; where and with which it goes on by a jump; and where and with
-- which the body begins of a macro that is made
pub record Effect : Type 0 where
  pub falls : Option Shape
  pub jumps : Option (ℕ × Shape)
  pub enters : Option (ℕ × Shape)

abbrev pub falling : Shape → Effect
falling s = record { falls = Some s; jumps = None; enters = None }

-- the run ends
abbrev pub ending : Effect
ending = record { falls = None; jumps = None; enters = None }

-- so many values are taken, and so many given
abbrev pub traded : ℕ → ℕ → Shape → Option Effect
traded n m s = option_map (λ below. falling (given m below)) (taken n s)

-- what was taken is made into one operand of a form
abbrev pub made : Form → Option Shape → Option Effect
made form o = option_map (λ below. falling (topped form below)) o

abbrev pub is_iterate : Option Code → Bool
is_iterate (Some (iterate to)) = true
is_iterate _ = false

-- the place is the one behind a loop's `PushLoop`
abbrev pub is_behind : ℕ → Option ℕ → Bool
is_behind place (Some push) = place == suc push
is_behind place None = false

-- an instruction that reads what the one before it gives
abbrev pub leans : Option Code → Bool
leans (Some (build_macro name offset flags)) = true
leans (Some export_locals) = true
leans _ = false

-- within the code or to its end, and to no instruction that leans on the one before it
abbrev pub may_lead : List Code → ℕ → Bool
may_lead code to = nat_le to (length code) && not (leans (slice_get code to))

-- a jump leads forward, or back to the `Iterate` of the innermost open loop alone, from before the place where that one
-- leads
abbrev pub may_jump : List Code → ℕ → Shape → ℕ → Bool
may_jump code place s to = if nat_lt place to
    then may_lead code to
    else is_behind to (innermost_loop s.frames) && is_iterate_past place (slice_get code to)

-- a jump with a shape; the run may also go on behind it
abbrev pub jumping : List Code → ℕ → Option Shape → ℕ → Shape → Option Effect
jumping code place falls to s = if may_jump code place s to then Some (record { falls = falls; jumps = Some (to, s); enters = None }) else None

-- an `Iterate` stands behind the `PushLoop` of the innermost open loop, and leads on
abbrev pub may_iterate : List Code → ℕ → Shape → ℕ → Bool
may_iterate code place s to = is_behind place (innermost_loop s.frames) && (nat_lt place to && may_lead code to)

-- the instruction before a place
abbrev pub code_before : List Code → ℕ → Option Code
code_before code zero = None
code_before code (suc place) = slice_get code place

abbrev pub loads_one : Option Code → Bool
loads_one (Some (load_const (int n))) = int_eq n (pos 1)
loads_one _ = false

abbrev pub adds : Option Code → Bool
adds (Some (operate op)) = is_addition op
adds _ = false

abbrev pub ends_capture : Option Code → Bool
ends_capture (Some end_capture) = true
ends_capture _ = false

abbrev pub are_texts : List Val → Bool
are_texts vs = list_all (λ v. is_some (text_in v)) vs

-- how many texts a list holds that holds nothing else
abbrev pub texts_held : Val → Option ℕ
texts_held (list vs) = if are_texts (items_of vs) then Some (length (items_of vs)) else None
texts_held _ = None

-- how many an instruction loads as such a list
abbrev pub texts_loaded : Option Code → Option ℕ
texts_loaded (Some (load_const v)) = texts_held v
texts_loaded _ = None

-- two values change places; or a value goes above the counted run under it, where 1 is loaded next and added
abbrev pub swapped : List Code → ℕ → Shape → List Form → Option Effect
swapped code place s (single_form ∷ counted_form ∷ forms) = if loads_one (slice_get code (suc place)) && adds (slice_get code (suc (suc place)))
    then made counting_form (lowered s forms)
    else None
swapped code place s _ = traded 2 2 s

-- two values make one; or 1 is added to a counted run and the value that goes into it
abbrev pub operated : Bool → Shape → List Form → Option Effect
operated adding s (single_form ∷ counting_form ∷ forms) = if adding then made counted_form (lowered s forms) else None
operated adding s _ = traded 2 1 s

-- a macro is made of a closure and the list of so many names: its body begins at an offset
abbrev pub making : List Code → ℕ → Option ℕ → Shape → Option Effect
making code offset None s = None
making code offset (Some n) s = if may_lead code offset
    then option_map (λ below. record { falls = Some (given 1 below); jumps = None; enters = Some (offset, body_of n) }) (closure_taken s s.operands)
    else None

-- the effect of the instruction at a place of the code; none where the instruction is not admissible
abbrev pub effect_of : List Code → ℕ → Code → Shape → Option Effect
effect_of code place (emit_raw text) s = Some (falling s)
effect_of code place emit s = traded 1 0 s
effect_of code place (store_local name) s = traded 1 0 s
effect_of code place (lookup name) s = Some (falling (given 1 s))
effect_of code place (load_const v) s = Some (falling (given 1 s))
effect_of code place (get_attr name) s = traded 1 1 s
effect_of code place (set_attr name) s = traded 2 0 s
effect_of code place get_item s = traded 2 1 s
effect_of code place slice s = traded 4 1 s
effect_of code place (build_map n) s = traded (n * 2) 1 s
effect_of code place (build_kwargs n) s = traded (n * 2) 1 s
effect_of code place (merge_kwargs n) s = traded n 1 s
effect_of code place (build_list count) s = made single_form (handed count s)
effect_of code place (build_tuple count) s = made single_form (handed count s)
effect_of code place (unpack_list n) s = traded 1 n s
effect_of code place (unpack_lists n) s = made counted_form (taken n s)
effect_of code place (operate op) s = operated (is_addition op) s s.operands
effect_of code place negate s = traded 1 1 s
effect_of code place invert s = traded 1 1 s
effect_of code place is_undefined s = traded 1 1 s
effect_of code place (compare_and_preserve op) s = traded 2 2 s
effect_of code place (apply_filter name count number) s = made single_form (handed count s)
effect_of code place (perform_test name count number) s = made single_form (handed count s)
effect_of code place (call_function name count) s = made single_form (handed count s)
effect_of code place (call_method name count) s = made single_form (handed count s)
effect_of code place (call_object count) s = made single_form (handed count s)
effect_of code place swap s = swapped code place s s.operands
effect_of code place dup_top s = traded 1 2 s
effect_of code place discard_top s = traded 1 0 s
effect_of code place (jump to) s = jumping code place None to s
effect_of code place (jump_if_false to) s = option_and_then (λ below. jumping code place (Some below) to below) (taken 1 s)
effect_of code place (jump_if_false_or_pop to) s = option_and_then (λ below. jumping code place (Some below) to s) (taken 1 s)
effect_of code place (jump_if_true_or_pop to) s = option_and_then (λ below. jumping code place (Some below) to s) (taken 1 s)
effect_of code place push_with s = Some (falling (opened with_frame s))
effect_of code place pop_frame s = option_map falling (frame_closed s s.frames)
effect_of code place (push_loop flags) s = if is_iterate (slice_get code (suc place))
    then option_map (λ below. falling (opened (loop_opened flags place below) below)) (taken 1 s)
    else None
effect_of code place (iterate to) s = if may_iterate code place s to
    then Some (record { falls = Some (given 1 s); jumps = Some (to, s); enters = None })
    else None
effect_of code place push_did_not_iterate s = if is_some (innermost_loop s.frames) then Some (falling (given 1 s)) else None
effect_of code place pop_loop_frame s = option_map falling (loop_closed s s.frames)
effect_of code place push_auto_escape s = option_map (λ below. falling (with_escape below)) (taken 1 s)
effect_of code place pop_auto_escape s = option_map falling (escape_closed s)
effect_of code place (begin_capture keep) s = Some (falling (with_capture s))
effect_of code place end_capture s = option_map (λ below. falling (given 1 below)) (capture_closed s)
effect_of code place fast_super s = Some (falling s)
effect_of code place fast_recurse s = traded 1 0 s
effect_of code place (call_block name) s = Some (falling s)
effect_of code place load_blocks s = traded 1 0 s
effect_of code place (include ignore_missing) s = traded 1 0 s
effect_of code place export_locals s = if ends_capture (code_before code place) then traded 1 1 s else None
effect_of code place (enclose name) s = Some (falling s)
effect_of code place get_closure s = Some (falling (topped closure_form s))
effect_of code place (build_macro name offset flags) s = making code offset (texts_loaded (code_before code place)) s
effect_of code place return s = if is_over s then Some ending else None

-- the effect of the instruction at a place; none where there is none or it is not admissible
abbrev pub effect_at : List Code → ℕ → Shape → Option Effect
effect_at code place s = option_and_then (λ c. effect_of code place c s) (slice_get code place)

-- where an instruction may lead but to the next: by its jump, or to the body of the macro that it makes
abbrev pub aim_of : Code → Option ℕ
aim_of (jump to) = Some to
aim_of (jump_if_false to) = Some to
aim_of (jump_if_false_or_pop to) = Some to
aim_of (jump_if_true_or_pop to) = Some to
aim_of (iterate to) = Some to
aim_of (build_macro name offset flags) = Some offset
aim_of _ = None
