-- Code that may run for more instructions does what it did, as far as that went.
use Rattle.std.proofs.Common.{ℕ, ◌≤◌, zero, suc, Bool, true, false, List, [], ◌∷◌, ◌++◌, map, Option, None, Some, slice_get, arith}
use Rattle.std.specs.Prelude.{if◌then◌else◌}
use Rattle.template_values_model.specs.Val.{Val}
use Rattle.template_compiler_process.specs.Process.{Counts, Process, stuck, Below}
use Rattle.template_compiler_process.proofs.Below.{below-cut_short, below-over, below-step, below-asks_done, below-asks_value, below-asks_truth, below-asks_item, below-asks_items, below-asks_all, below-asks_closure, below-stuck}
use Rattle.template_compiler_code.specs.Code.{Operand, single, counted, counting, closure, Code, emit_raw, emit, store_local, lookup, load_const, get_attr, set_attr, get_item, slice, build_map, build_kwargs, merge_kwargs, build_list, build_tuple, unpack_list, unpack_lists, operate, negate, invert, is_undefined, compare_and_preserve, apply_filter, perform_test, call_function, call_method, call_object, swap, dup_top, discard_top, jump, jump_if_false, jump_if_false_or_pop, jump_if_true_or_pop, push_with, pop_frame, push_loop, iterate, push_did_not_iterate, pop_loop_frame, push_auto_escape, pop_auto_escape, begin_capture, end_capture, fast_super, fast_recurse, call_block, load_blocks, include, export_locals, enclose, get_closure, build_macro, return}
use Rattle.template_compiler_code.specs.Counting.{counts_before}
use Rattle.template_compiler_code.specs.Prices.{price_of, steps}
use Rattle.template_compiler_code.specs.Steps.{is_addition, on_taken, values_in, deed, act, exec}

-- the second goes further, from every place and over all operands
abbrev Follows : (ℕ → List Operand → Process) → (ℕ → List Operand → Process) → Type 0
Follows next later = (place : ℕ) (operands : List Operand) → Below (next place operands) (later place operands)

lift_taken : (o : Option (List Val × List Operand)) (f g : List Val → List Operand → Process) → ((vs : List Val) (rest : List Operand) → Below (f vs rest) (g vs rest)) → Below (on_taken o f) (on_taken o g)
lift_taken None f g h = below-stuck
lift_taken (Some t) f g h = h t.0 t.1

lift_choice : (b : Bool) (p q : Process) → Below p q → Below (if b then p else stuck) (if b then q else stuck)
lift_choice true p q h = h
lift_choice false p q h = below-stuck

lift_deed : (next later : ℕ → List Operand → Process) → Follows next later → (before : Counts) (c : Code) (place : ℕ) (operands : List Operand)
    → Below (deed next before c place operands) (deed later before c place operands)
lift_deed next later h before (emit_raw text) place operands = below-asks_done _ _ _ (h (suc place) operands)
lift_deed next later h before emit place (single v ∷ operands) = below-asks_done _ _ _ (h (suc place) operands)
lift_deed next later h before (store_local name) place (single v ∷ operands) = below-asks_done _ _ _ (h (suc place) operands)
lift_deed next later h before (lookup name) place operands = below-asks_value _ _ _ (λ w. h (suc place) (single w ∷ operands))
lift_deed next later h before (load_const v) place operands = h (suc place) (single v ∷ operands)
lift_deed next later h before (get_attr name) place (single v ∷ operands) = below-asks_value _ _ _ (λ w. h (suc place) (single w ∷ operands))
lift_deed next later h before (set_attr name) place (single n ∷ single v ∷ operands) = below-asks_done _ _ _ (h (suc place) operands)
lift_deed next later h before get_item place (single k ∷ single v ∷ operands) = below-asks_value _ _ _ (λ w. h (suc place) (single w ∷ operands))
lift_deed next later h before slice place (single c ∷ single b ∷ single a ∷ single v ∷ operands) = below-asks_value _ _ _ (λ w. h (suc place) (single w ∷ operands))
lift_deed next later h before (build_map n) place operands = lift_taken _ _ _ (λ vs rest. below-asks_value _ _ _ (λ w. h (suc place) (single w ∷ rest)))
lift_deed next later h before (build_kwargs n) place operands = lift_taken _ _ _ (λ vs rest. below-asks_value _ _ _ (λ w. h (suc place) (single w ∷ rest)))
lift_deed next later h before (merge_kwargs n) place operands = lift_taken _ _ _ (λ vs rest. below-asks_value _ _ _ (λ w. h (suc place) (single w ∷ rest)))
lift_deed next later h before (build_list count) place operands = lift_taken _ _ _ (λ vs rest. below-asks_value _ _ _ (λ w. h (suc place) (single w ∷ rest)))
lift_deed next later h before (build_tuple count) place operands = lift_taken _ _ _ (λ vs rest. below-asks_value _ _ _ (λ w. h (suc place) (single w ∷ rest)))
lift_deed next later h before (unpack_list n) place (single v ∷ operands) = below-asks_items _ n _ _ (λ vs. h (suc place) (map single vs ++ operands))
lift_deed next later h before (unpack_lists n) place operands = lift_taken _ _ _ (λ vs rest. below-asks_all _ _ _ (λ items. h (suc place) (counted items ∷ rest)))
lift_deed next later h before (operate op) place (single w ∷ single v ∷ operands) = below-asks_value _ _ _ (λ u. h (suc place) (single u ∷ operands))
lift_deed next later h before (operate op) place (single one ∷ counting vs v ∷ operands) = lift_choice (is_addition op) _ _ (h (suc place) (counted (vs ++ v ∷ []) ∷ operands))
lift_deed next later h before negate place (single v ∷ operands) = below-asks_value _ _ _ (λ w. h (suc place) (single w ∷ operands))
lift_deed next later h before invert place (single v ∷ operands) = below-asks_value _ _ _ (λ w. h (suc place) (single w ∷ operands))
lift_deed next later h before is_undefined place (single v ∷ operands) = h (suc place) (single _ ∷ operands)
lift_deed next later h before (compare_and_preserve op) place (single w ∷ single v ∷ operands) = below-asks_value _ _ _ (λ u. h (suc place) (single u ∷ single w ∷ operands))
lift_deed next later h before (apply_filter name count number) place operands = lift_taken _ _ _ (λ vs rest. below-asks_value _ _ _ (λ w. h (suc place) (single w ∷ rest)))
lift_deed next later h before (perform_test name count number) place operands = lift_taken _ _ _ (λ vs rest. below-asks_value _ _ _ (λ w. h (suc place) (single w ∷ rest)))
lift_deed next later h before (call_function name count) place operands = lift_taken _ _ _ (λ vs rest. below-asks_value _ _ _ (λ w. h (suc place) (single w ∷ rest)))
lift_deed next later h before (call_method name count) place operands = lift_taken _ _ _ (λ vs rest. below-asks_value _ _ _ (λ w. h (suc place) (single w ∷ rest)))
lift_deed next later h before (call_object count) place operands = lift_taken _ _ _ (λ vs rest. below-asks_value _ _ _ (λ w. h (suc place) (single w ∷ rest)))
lift_deed next later h before swap place (single w ∷ single v ∷ operands) = h (suc place) (single v ∷ single w ∷ operands)
lift_deed next later h before swap place (single w ∷ counted vs ∷ operands) = h (suc place) (counting vs w ∷ operands)
lift_deed next later h before dup_top place (single v ∷ operands) = h (suc place) (single v ∷ single v ∷ operands)
lift_deed next later h before discard_top place (single v ∷ operands) = h (suc place) operands
lift_deed next later h before (jump to) place operands = h to operands
lift_deed next later h before (jump_if_false to) place (single v ∷ operands) = below-asks_truth _ _ _ _ _ (h (suc place) operands) (h to operands)
lift_deed next later h before (jump_if_false_or_pop to) place (single v ∷ operands) = below-asks_truth _ _ _ _ _ (h (suc place) operands) (h to (single v ∷ operands))
lift_deed next later h before (jump_if_true_or_pop to) place (single v ∷ operands) = below-asks_truth _ _ _ _ _ (h to (single v ∷ operands)) (h (suc place) operands)
lift_deed next later h before push_with place operands = below-asks_done _ _ _ (h (suc place) operands)
lift_deed next later h before pop_frame place operands = below-asks_done _ _ _ (h (suc place) operands)
lift_deed next later h before (push_loop flags) place (single v ∷ operands) = below-asks_done _ _ _ (h (suc place) operands)
lift_deed next later h before (iterate to) place operands = below-asks_item _ _ _ _ _ (λ v. h (suc place) (single v ∷ operands)) (h to operands)
lift_deed next later h before push_did_not_iterate place operands = below-asks_value _ _ _ (λ w. h (suc place) (single w ∷ operands))
lift_deed next later h before pop_loop_frame place operands = below-asks_done _ _ _ (h (suc place) operands)
lift_deed next later h before push_auto_escape place (single v ∷ operands) = below-asks_done _ _ _ (h (suc place) operands)
lift_deed next later h before pop_auto_escape place operands = below-asks_done _ _ _ (h (suc place) operands)
lift_deed next later h before (begin_capture keep) place operands = below-asks_done _ _ _ (h (suc place) operands)
lift_deed next later h before end_capture place operands = below-asks_value _ _ _ (λ w. h (suc place) (single w ∷ operands))
lift_deed next later h before fast_super place operands = below-asks_done _ _ _ (h (suc place) operands)
lift_deed next later h before fast_recurse place (single v ∷ operands) = below-asks_done _ _ _ (h (suc place) operands)
lift_deed next later h before (call_block name) place operands = below-asks_done _ _ _ (h (suc place) operands)
lift_deed next later h before load_blocks place (single v ∷ operands) = below-asks_done _ _ _ (h (suc place) operands)
lift_deed next later h before (include ignore_missing) place (single v ∷ operands) = below-asks_done _ _ _ (h (suc place) operands)
lift_deed next later h before export_locals place (single v ∷ operands) = below-asks_value _ _ _ (λ w. h (suc place) (single w ∷ operands))
lift_deed next later h before (enclose name) place operands = below-asks_done _ _ _ (h (suc place) operands)
lift_deed next later h before get_closure place operands = below-asks_closure _ _ _ (λ c. h (suc place) (closure c ∷ operands))
lift_deed next later h before (build_macro name offset flags) place (single names ∷ closure c ∷ operands) = below-asks_value _ _ _ (λ w. h (suc place) (single w ∷ operands))
lift_deed next later h before return place operands = below-over (values_in operands)
lift_deed next later h before _ place operands = below-stuck

lift_steps : (n : ℕ) (p q : Process) → Below p q → Below (steps n p) (steps n q)
lift_steps zero p q h = h
lift_steps (suc n) p q h = below-step (steps n p) (steps n q) (lift_steps n p q h)

lift_act : (next later : ℕ → List Operand → Process) → Follows next later → (before : Counts) (c : Option Code) (place : ℕ) (operands : List Operand)
    → Below (act next before c place operands) (act later before c place operands)
lift_act next later h before None place operands = below-over (values_in operands)
lift_act next later h before (Some c) place operands = lift_steps (price_of c) _ _ (lift_deed next later h before c place operands)

pub exec_more : (code : List Code) (k m : ℕ) → k ≤ m → (place : ℕ) (operands : List Operand) → Below (exec code k place operands) (exec code m place operands)
exec_more code zero m less place operands = below-cut_short (exec code m place operands)
exec_more code (suc k) zero less place operands = absurd (omega arith)
exec_more code (suc k) (suc m) less place operands = lift_act (exec code k) (exec code m) (λ p st. exec_more code k m (omega arith) p st) (counts_before code place) (slice_get code place) place operands
