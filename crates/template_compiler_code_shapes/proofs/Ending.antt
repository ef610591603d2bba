-- A good stream is never stuck and ends well: an admissible instruction finds its operands, and goes on where its effect leads, over
-- operands of the forms that the effect tells.
use Rattle.std.proofs.Common.{◌≡◌, ℕ, zero, suc, pred, ◌*◌, Bool, true, false, cond, ◌==◌, List, [], ◌∷◌, ◌++◌, length, map, replicate, Option, None, Some, slice_get, refl, sym, ap, subst, ◌∙◌, ◌≤◌, arith}
use Rattle.std.proofs.lemmas.Bool.{eqb-true, and_parts}
use Rattle.std.specs.Prelude.{IsSome, IsSomeAnd, ◌&&◌, nat_le, option_map, option_and_then, is_some}
use Rattle.template_values_model.specs.Val.{Val}
use Rattle.template_compiler_process.specs.Process.{Counts, Ask, asks, Answer, done, value, truth, item, no_item, items, Process, over, amiss, stuck, on_done, on_value, on_truth, on_item, on_items, on_all, on_closure}
use Rattle.template_compiler_process.specs.Process as events
use Rattle.template_compiler_code.specs.Code.{Operand, single, counted, counting, closure, Code, emit_raw, emit, store_local, lookup, load_const, get_attr, set_attr, get_item, slice, build_map, build_kwargs, merge_kwargs, build_list, build_tuple, unpack_list, unpack_lists, operate, negate, invert, is_undefined, compare_and_preserve, apply_filter, perform_test, call_function, call_method, call_object, swap, dup_top, discard_top, jump, jump_if_false, jump_if_false_or_pop, jump_if_true_or_pop, push_with, pop_frame, push_loop, iterate, push_did_not_iterate, pop_loop_frame, push_auto_escape, pop_auto_escape, begin_capture, end_capture, fast_super, fast_recurse, call_block, load_blocks, include, export_locals, enclose, get_closure, build_macro, return}
use Rattle.template_compiler_code.specs.Counting as counts
use Rattle.template_compiler_code.specs.Counting.{counts_before}
use Rattle.template_compiler_code.specs.Prices.{price_of, steps}
use Rattle.template_compiler_code.specs.Steps as table
use Rattle.template_compiler_code.specs.Steps.{on_taken, is_addition, values_in, deed, act, exec}
use Rattle.template_compiler_code_shapes.specs.declared.StreamKind.{StreamKind}
use Rattle.template_compiler_code_shapes.specs.declared.StreamKind.TheVariants.{Template, Expression}
use Rattle.template_compiler_code_shapes.specs.Shapes.{Form, single_form, counted_form, counting_form, form_of, Opened, with_frame, loop_frame, recursive_frame, Shape, body_of, floor_of, below_values, lowered, handed, closure_taken, given, opened, loop_opened, frame_closed, loop_closed, with_capture, innermost_loop, is_none_left, is_over}
use Rattle.template_compiler_code_shapes.specs.Effects.{Effect, is_iterate, falling, may_lead, jumping, code_before, texts_loaded, making, effect_of}
use Rattle.template_compiler_code_shapes.specs.Streams.{Reached, falls_to, jumps_to, end_of, IsGood}
use Rattle.template_compiler_code_shapes.specs.Laws.{EndsWith, left_by}
use Rattle.template_compiler_code_shapes.specs.Rounds.{frames_behind}
use Rattle.template_compiler_code_shapes.proofs.Aiming.{effect_leads, within}

-- how many frames are open behind an instruction, of so many before it
abbrev pub frames_by : Code → ℕ → ℕ
frames_by push_with n = suc n
frames_by (push_loop flags) n = suc n
frames_by pop_frame n = pred n
frames_by pop_loop_frame n = pred n
frames_by _ n = n

-- a shape with operands of these forms
abbrev pub shape_over : List Operand → Shape → Shape
shape_over operands s = record s { operands = map form_of operands }

-- these forms on top of what lies there
abbrev put_on : List Form → Shape → Shape
put_on top s = record s { operands = top ++ s.operands }

-- tests that an admissible instruction went through

tested : {A : Type 0} (P : A → Type 0) (b : Bool) (o : Option A) → IsSomeAnd (cond b o None) P → IsSomeAnd o P
tested P true o h = h
tested P false o h = absurd h

mapped_test : {A B : Type 0} (P : B → Type 0) (f : A → B) (b : Bool) (x : A) → IsSomeAnd (option_map f (cond b (Some x) None)) P → P (f x)
mapped_test P f true x h = h
mapped_test P f false x h = absurd h

test_is : {A : Type 0} (P : A → Type 0) (b : Bool) (o : Option A) → IsSomeAnd (cond b o None) P → b ≡ true
test_is P true o h = refl
test_is P false o h = absurd h

bound_test : {A B : Type 0} (P : B → Type 0) (f : A → Option B) (b : Bool) (x : A) → IsSomeAnd (option_and_then f (cond b (Some x) None)) P → IsSomeAnd (f x) P
bound_test P f true x h = h
bound_test P f false x h = absurd h

forms_of_items : (vs : List Val) (n : ℕ) (operands : List Operand) → length vs ≡ n → map form_of (map single vs ++ operands) ≡ replicate n single_form ++ map form_of operands
forms_of_items vs n operands e = forms_over vs operands ∙ ap (λ k. replicate k single_form ++ map form_of operands) e
  where
    forms_over : (vs : List Val) (operands : List Operand) → map form_of (map single vs ++ operands) ≡ replicate (length vs) single_form ++ map form_of operands
    forms_over [] operands = refl
    forms_over (v ∷ vs) operands = ap (λ forms. single_form ∷ forms) (forms_over vs operands)

-- what is shown of a process: it holds where the run goes on
module _ (Ends : Process → Type 0) where
  -- from the place on, it holds over operands of the shape's forms
  abbrev pub Enters : (ℕ → List Operand → Process) → ℕ → Shape → Type 0
  Enters next place t = (operands : List Operand) → map form_of operands ≡ t.operands → Ends (next place operands)

  -- and where an effect leads
  pub record Continues (next : ℕ → List Operand → Process) (place : ℕ) (e : Effect) : Type 0 where
    pub falls : (t : Shape) → e.falls ≡ Some t → Enters next (suc place) t
    pub jumps : (to : ℕ) (t : Shape) → ◌≡◌ {A = Option (ℕ × Shape)} e.jumps (Some (to, t)) → Enters next to t

  -- instructions

  falls_on : (next : ℕ → List Operand → Process) (place : ℕ) (t : Shape) → Continues next place (falling t) → Enters next (suc place) t
  falls_on next place t k = k.falls t refl

  -- operands of these forms over what is left
  trades_over : (next : ℕ → List Operand → Process) (place : ℕ) (top : List Form) (s : Shape) (rest : List Operand)
      → IsSomeAnd (option_map (λ below. falling (put_on top below)) (lowered s (map form_of rest))) (Continues next place)
      → (operands : List Operand) → map form_of operands ≡ top ++ map form_of rest → Ends (next (suc place) operands)
  trades_over next place top s rest h =
      let below : Shape = record s { operands = map form_of rest } in
      falls_on next place (put_on top below) (mapped_test (Continues next place) (λ t. falling (put_on top t)) _ below h)

  trades : (next : ℕ → List Operand → Process) (place m : ℕ) (s : Shape) (rest : List Operand)
      → IsSomeAnd (option_map (λ below. falling (given m below)) (lowered s (map form_of rest))) (Continues next place)
      → (operands : List Operand) → map form_of operands ≡ replicate m single_form ++ map form_of rest → Ends (next (suc place) operands)
  trades next place m s rest h = trades_over next place (replicate m single_form) s rest h

  trades_counted : (Now : Process → Type 0) (next : ℕ → List Operand → Process) (place : ℕ) (top : List Form) (s : Shape) (n : ℕ) (operands : List Operand) (values : List Val) (go : List Val → List Operand → Process)
      → IsSomeAnd (option_map (λ below. falling (put_on top below)) (option_and_then (lowered s) (below_values n (map form_of operands)))) (Continues next place)
      → ((vs : List Val) (rest : List Operand) → ((above : List Operand) → map form_of above ≡ top ++ map form_of rest → Ends (next (suc place) above)) → Now (go vs rest))
      → Now (on_taken (table.taken n operands values) go)
  trades_counted Now next place top s zero operands values go h k = k values operands (trades_over next place top s operands h)
  trades_counted Now next place top s (suc n) (single v ∷ operands) values go h k = trades_counted Now next place top s n operands (v ∷ values) go h k
  trades_counted Now next place top s (suc n) _ values go h k = absurd h

  trades_handed : (Now : Process → Type 0) (next : ℕ → List Operand → Process) (place : ℕ) (s : Shape) (count : Option ℕ) (operands : List Operand) (go : List Val → List Operand → Process)
      → IsSomeAnd (option_map (λ below. falling (put_on (single_form ∷ []) below)) (handed count (shape_over operands s))) (Continues next place)
      → ((vs : List Val) (rest : List Operand) → ((above : List Operand) → map form_of above ≡ single_form ∷ map form_of rest → Ends (next (suc place) above)) → Now (go vs rest))
      → Now (on_taken (table.handed count operands) go)
  trades_handed Now next place s (Some n) operands go h k = trades_counted Now next place (single_form ∷ []) (shape_over operands s) n operands [] go h k
  trades_handed Now next place s None (counted vs ∷ rest) go h k = k vs rest (trades_over next place (single_form ∷ []) (shape_over (counted vs ∷ rest) s) rest h)
  trades_handed Now next place s None _ go h k = absurd h

  -- where an instruction adds to a run
  adds_on : (next : ℕ → List Operand → Process) (place : ℕ) (adding : Bool) (o : Option Effect) (p : Process) → IsSomeAnd (cond adding o None) (Continues next place)
      → (IsSomeAnd o (Continues next place) → Ends p) → Ends (cond adding p stuck)
  adds_on next place true o p h k = k h
  adds_on next place false o p h k = absurd h

  -- a macro is made
  makes_on : (code : List Code) (next : ℕ → List Operand → Process) (place offset : ℕ) (o : Option ℕ) (s : Shape) (names : Val) (c : Option ℕ) (rest : List Operand)
      → IsSomeAnd (making code offset o (shape_over (single names ∷ closure c ∷ rest) s)) (Continues next place)
      → (operands : List Operand) → map form_of operands ≡ single_form ∷ map form_of rest → Ends (next (suc place) operands)
  makes_on code next place offset None s names c rest h = absurd h
  makes_on code next place offset (Some n) s names c rest h =
      let below : Shape = shape_over rest s in
      let effect : Shape → Effect = λ t. record { falls = Some (given 1 t); jumps = None; enters = Some (offset, body_of n) } in
      let k : Continues next place (effect below) = mapped_test (Continues next place) effect (nat_le (floor_of s.frames).operands (length (map form_of rest))) below
      (tested (Continues next place) (may_lead code offset) (option_map effect (lowered (shape_over (single names ∷ closure c ∷ rest) s) (map form_of rest))) h) in
      k.falls (given 1 below) refl

  makes_nothing : (code : List Code) (next : ℕ → List Operand → Process) (place offset : ℕ) (o : Option ℕ) (s : Shape) → closure_taken s s.operands ≡ None
      → IsSomeAnd (making code offset o s) (Continues next place) → ⊥
  makes_nothing code next place offset None s none h = h
  makes_nothing code next place offset (Some n) s none h =
      let effect : Shape → Effect = λ t. record { falls = Some (given 1 t); jumps = None; enters = Some (offset, body_of n) } in
      let P : Option Shape → Type 0 = λ o. IsSomeAnd (option_map effect o) (Continues next place) in
      subst P none (tested (Continues next place) (may_lead code offset) (option_map effect (closure_taken s s.operands)) h)

  closes_frame : (next : ℕ → List Operand → Process) (place : ℕ) (s : Shape) (frames : List Opened) → IsSomeAnd (option_map falling (frame_closed s frames)) (Continues next place) → Enters next (suc place) s
  closes_frame next place s (with_frame ∷ frames) h = falls_on next place (record s { frames = frames }) h
  closes_frame next place s _ h = absurd h

  closes_loop : (next : ℕ → List Operand → Process) (place : ℕ) (s : Shape) (frames : List Opened) → IsSomeAnd (option_map falling (loop_closed s frames)) (Continues next place) → Enters next (suc place) s
  closes_loop next place s (loop_frame at ∷ frames) h = falls_on next place (record s { frames = frames }) h
  closes_loop next place s (recursive_frame at floor ∷ frames) h =
      falls_on next place (record s { frames = frames }) (mapped_test (Continues next place) falling _ (record s { frames = frames }) h)
  closes_loop next place s _ h = absurd h

  -- the way of a jump with a shape, and the way behind it with another
  jumps_on : (next : ℕ → List Operand → Process) (place to : ℕ) (falls : Option Shape) (s : Shape) (b : Bool)
      → IsSomeAnd (cond b (Some (record { falls = falls; jumps = Some (to, s); enters = None })) None) (Continues next place) → Enters next to s × ((t : Shape) → falls ≡ Some t → Enters next (suc place) t)
  jumps_on next place to falls s b h =
      let k : Continues next place (record { falls = falls; jumps = Some (to, s); enters = None }) = tested (Continues next place) b (Some (record { falls = falls; jumps = Some (to, s); enters = None })) h in
      (k.jumps to s refl, k.falls)

  -- the two ways of a conditional jump, over what is left
  branches_on : (code : List Code) (next : ℕ → List Operand → Process) (place to : ℕ) (s : Shape) (rest : List Operand) (kept : Shape → Shape)
      → IsSomeAnd (option_and_then (λ below. jumping code place (Some below) to (kept below)) (lowered s (map form_of rest))) (Continues next place)
      → Enters next to (kept (shape_over rest s)) × Enters next (suc place) (shape_over rest s)
  branches_on code next place to s rest kept h =
      let below : Shape = shape_over rest s in
      let ways : Enters next to (kept below) × ((t : Shape) → Some below ≡ Some t → Enters next (suc place) t) =
      jumps_on next place to (Some below) (kept below) _ (bound_test (Continues next place) (λ t. jumping code place (Some t) to (kept t)) _ below h) in
      (ways.0, ways.1 below refl)

  -- a value is taken, and something opened
  opens_on : (next : ℕ → List Operand → Process) (place : ℕ) (s : Shape) (rest : List Operand) (open_in : Shape → Shape) → ((t : Shape) → (open_in t).operands ≡ t.operands)
      → IsSomeAnd (option_map (λ below. falling (open_in below)) (lowered s (map form_of rest))) (Continues next place) → Ends (next (suc place) rest)
  opens_on next place s rest open_in same h =
      let below : Shape = shape_over rest s in
      falls_on next place (open_in below) (mapped_test (Continues next place) (λ t. falling (open_in t)) _ below h) rest (sym (same below))

  -- an admissible effect leads on where what is behind is never stuck
  pub continues : (next : ℕ → List Operand → Process) (place : ℕ) (o : Option Effect) → IsSome o → ((e : Effect) → o ≡ Some e → Continues next place e) → IsSomeAnd o (Continues next place)
  continues next place None some k = absurd (cc)
  continues next place (Some e) some k = k e refl

-- what holds of the process behind an instruction: at once, or behind what it asks
module _ (Now Later : Process → Type 0) (gone : Later amiss) where
  -- answers

  unstuck_done : (p : Process) → Later p → (a : Answer) → Later (on_done p a)
  unstuck_done p h done = h
  unstuck_done p h _ = gone

  unstuck_value : (go : Val → Process) → ((v : Val) → Later (go v)) → (a : Answer) → Later (on_value go a)
  unstuck_value go h (value v) = h v
  unstuck_value go h _ = gone

  unstuck_truth : (p q : Process) → Later p → Later q → (a : Answer) → Later (on_truth p q a)
  unstuck_truth p q h k (truth true) = h
  unstuck_truth p q h k (truth false) = k
  unstuck_truth p q h k _ = gone

  unstuck_item : (go : Val → Process) (p : Process) → ((v : Val) → Later (go v)) → Later p → (a : Answer) → Later (on_item go p a)
  unstuck_item go p h k (item v) = h v
  unstuck_item go p h k no_item = k
  unstuck_item go p h k _ = gone

  unstuck_test : (b : Bool) (p : Process) → (b ≡ true → Later p) → Later (cond b p amiss)
  unstuck_test true p h = h refl
  unstuck_test false p h = gone

  unstuck_items : (n : ℕ) (go : List Val → Process) → ((vs : List Val) → length vs ≡ n → Later (go vs)) → (a : Answer) → Later (on_items n go a)
  unstuck_items n go h (items vs) = unstuck_test (length vs == n) (go vs) (λ e. h vs (eqb-true (length vs) n e))
  unstuck_items n go h _ = gone

  unstuck_all : (go : List Val → Process) → ((vs : List Val) → Later (go vs)) → (a : Answer) → Later (on_all go a)
  unstuck_all go h (items vs) = h vs
  unstuck_all go h _ = gone

  unstuck_closure : (go : Option ℕ → Process) → ((c : Option ℕ) → Later (go c)) → (a : Answer) → Later (on_closure go a)
  unstuck_closure go h (events.closure c) = h c
  unstuck_closure go h _ = gone

  -- an instruction that does not iterate may go on at once, and the body of a macro may end
  pub unstuck_deed : (code : List Code) (next : ℕ → List Operand → Process) (before : Counts) (c : Code) (place : ℕ) (operands : List Operand) (s : Shape)
      → ((e : Ask) (k : Answer → Process) → ((n : ℕ) → frames_behind e n ≡ frames_by c n) → ((a : Answer) → Later (k a)) → Now (asks e k))
      → (is_iterate (Some c) ≡ false → ((n : ℕ) → frames_by c n ≡ n) → IsSomeAnd (effect_of code place c (shape_over operands s)) (Continues Now next place))
      → IsSomeAnd (effect_of code place c (shape_over operands s)) (Continues Later next place) → (is_over (shape_over operands s) ≡ true → Now (over (values_in operands)))
      → Now (deed next before c place operands)
  unstuck_deed code next before (emit_raw text) place operands s asked at_once h ended = asked (events.write_raw text) _ (λ n. refl) (unstuck_done _ (falls_on Later next place _ h operands refl))
  unstuck_deed code next before emit place (single v ∷ rest) s asked at_once h ended = asked (events.write_value v) _ (λ n. refl) (unstuck_done _ (trades Later next place 0 (shape_over (single v ∷ rest) s) rest h rest refl))
  unstuck_deed code next before (store_local name) place (single v ∷ rest) s asked at_once h ended = asked (events.store name v) _ (λ n. refl) (unstuck_done _ (trades Later next place 0 (shape_over (single v ∷ rest) s) rest h rest refl))
  unstuck_deed code next before (lookup name) place operands s asked at_once h ended = asked (events.look_up name) _ (λ n. refl) (unstuck_value _ (λ v. falls_on Later next place _ h (single v ∷ operands) refl))
  unstuck_deed code next before (load_const v) place operands s asked at_once h ended = falls_on Now next place _ (at_once refl (λ n. refl)) (single v ∷ operands) refl
  unstuck_deed code next before (get_attr name) place (single v ∷ rest) s asked at_once h ended = asked (events.get_attribute v name) _ (λ n. refl) (unstuck_value _ (λ w. trades Later next place 1 (shape_over (single v ∷ rest) s) rest h (single w ∷ rest) refl))
  unstuck_deed code next before (set_attr name) place (single n ∷ single v ∷ rest) s asked at_once h ended =
      asked (events.set_attribute name v n) _ (λ n. refl) (unstuck_done _ (trades Later next place 0 (shape_over (single n ∷ single v ∷ rest) s) rest h rest refl))
  unstuck_deed code next before get_item place (single k ∷ single v ∷ rest) s asked at_once h ended = asked (events.get_item v k) _ (λ n. refl) (unstuck_value _ (λ w. trades Later next place 1 (shape_over (single k ∷ single v ∷ rest) s) rest h (single w ∷ rest) refl))
  unstuck_deed code next before slice place (single c ∷ single b ∷ single a ∷ single v ∷ rest) s asked at_once h ended =
      asked (events.get_slice v a b c) _ (λ n. refl) (unstuck_value _ (λ w. trades Later next place 1 (shape_over (single c ∷ single b ∷ single a ∷ single v ∷ rest) s) rest h (single w ∷ rest) refl))
  unstuck_deed code next before (build_map n) place operands s asked at_once h ended =
      trades_counted Later Now next place (single_form ∷ []) (shape_over operands s) (n * 2) operands [] _ h (λ vs rest k. asked (events.build_map (table.paired vs)) _ (λ n. refl) (unstuck_value _ (λ w. k (single w ∷ rest) refl)))
  unstuck_deed code next before (build_kwargs n) place operands s asked at_once h ended =
      trades_counted Later Now next place (single_form ∷ []) (shape_over operands s) (n * 2) operands [] _ h (λ vs rest k. asked (events.build_kwargs (table.paired vs)) _ (λ n. refl) (unstuck_value _ (λ w. k (single w ∷ rest) refl)))
  unstuck_deed code next before (merge_kwargs n) place operands s asked at_once h ended =
      trades_counted Later Now next place (single_form ∷ []) (shape_over operands s) n operands [] _ h (λ vs rest k. asked (events.merge_kwargs vs) _ (λ n. refl) (unstuck_value _ (λ w. k (single w ∷ rest) refl)))
  unstuck_deed code next before (build_list count) place operands s asked at_once h ended =
      trades_handed Later Now next place s count operands _ h (λ vs rest k. asked (events.build_list vs) _ (λ n. refl) (unstuck_value _ (λ w. k (single w ∷ rest) refl)))
  unstuck_deed code next before (build_tuple count) place operands s asked at_once h ended =
      trades_handed Later Now next place s count operands _ h (λ vs rest k. asked (events.build_tuple vs) _ (λ n. refl) (unstuck_value _ (λ w. k (single w ∷ rest) refl)))
  unstuck_deed code next before (unpack_list n) place (single v ∷ rest) s asked at_once h ended =
      asked (events.unpack n v) _ (λ n. refl) (unstuck_items n _ (λ vs e. trades Later next place n (shape_over (single v ∷ rest) s) rest h (map single vs ++ rest) (forms_of_items vs n rest e)))
  unstuck_deed code next before (unpack_lists n) place operands s asked at_once h ended =
      trades_counted Later Now next place (counted_form ∷ []) (shape_over operands s) n operands [] _ h (λ vs rest k. asked (events.spread vs) _ (λ n. refl) (unstuck_all _ (λ all. k (counted all ∷ rest) refl)))
  unstuck_deed code next before (operate op) place (single w ∷ single v ∷ rest) s asked at_once h ended =
      asked (events.operate op v w) _ (λ n. refl) (unstuck_value _ (λ u. trades Later next place 1 (shape_over (single w ∷ single v ∷ rest) s) rest h (single u ∷ rest) refl))
  unstuck_deed code next before (operate op) place (single one ∷ counting vs v ∷ rest) s asked at_once h ended =
      adds_on Now next place (is_addition op) _ _ (at_once refl (λ n. refl))
      (λ k. trades_over Now next place (counted_form ∷ []) (shape_over (single one ∷ counting vs v ∷ rest) s) rest k (counted (vs ++ v ∷ []) ∷ rest) refl)
  unstuck_deed code next before negate place (single v ∷ rest) s asked at_once h ended = asked (events.negate v) _ (λ n. refl) (unstuck_value _ (λ w. trades Later next place 1 (shape_over (single v ∷ rest) s) rest h (single w ∷ rest) refl))
  unstuck_deed code next before invert place (single v ∷ rest) s asked at_once h ended = asked (events.invert v) _ (λ n. refl) (unstuck_value _ (λ w. trades Later next place 1 (shape_over (single v ∷ rest) s) rest h (single w ∷ rest) refl))
  unstuck_deed code next before is_undefined place (single v ∷ rest) s asked at_once h ended = trades Now next place 1 (shape_over (single v ∷ rest) s) rest (at_once refl (λ n. refl)) (single _ ∷ rest) refl
  unstuck_deed code next before (compare_and_preserve op) place (single w ∷ single v ∷ rest) s asked at_once h ended =
      asked (events.compare op v w) _ (λ n. refl) (unstuck_value _ (λ u. trades Later next place 2 (shape_over (single w ∷ single v ∷ rest) s) rest h (single u ∷ single w ∷ rest) refl))
  unstuck_deed code next before (apply_filter name count number) place operands s asked at_once h ended =
      trades_handed Later Now next place s count operands _ h (λ vs rest k. asked (events.apply_filter name vs) _ (λ n. refl) (unstuck_value _ (λ w. k (single w ∷ rest) refl)))
  unstuck_deed code next before (perform_test name count number) place operands s asked at_once h ended =
      trades_handed Later Now next place s count operands _ h (λ vs rest k. asked (events.perform_test name vs) _ (λ n. refl) (unstuck_value _ (λ w. k (single w ∷ rest) refl)))
  unstuck_deed code next before (call_function name count) place operands s asked at_once h ended =
      trades_handed Later Now next place s count operands _ h (λ vs rest k. asked (events.call_function name vs) _ (λ n. refl) (unstuck_value _ (λ w. k (single w ∷ rest) refl)))
  unstuck_deed code next before (call_method name count) place operands s asked at_once h ended =
      trades_handed Later Now next place s count operands _ h (λ vs rest k. asked (events.call_method name vs) _ (λ n. refl) (unstuck_value _ (λ w. k (single w ∷ rest) refl)))
  unstuck_deed code next before (call_object count) place operands s asked at_once h ended =
      trades_handed Later Now next place s count operands _ h (λ vs rest k. asked (events.call_value vs) _ (λ n. refl) (unstuck_value _ (λ w. k (single w ∷ rest) refl)))
  unstuck_deed code next before swap place (single w ∷ single v ∷ rest) s asked at_once h ended = trades Now next place 2 (shape_over (single w ∷ single v ∷ rest) s) rest (at_once refl (λ n. refl)) (single v ∷ single w ∷ rest) refl
  unstuck_deed code next before swap place (single w ∷ counted vs ∷ rest) s asked at_once h ended =
      trades_over Now next place (counting_form ∷ []) (shape_over (single w ∷ counted vs ∷ rest) s) rest (tested (Continues Now next place) _ _ (at_once refl (λ n. refl))) (counting vs w ∷ rest) refl
  unstuck_deed code next before dup_top place (single v ∷ rest) s asked at_once h ended = trades Now next place 2 (shape_over (single v ∷ rest) s) rest (at_once refl (λ n. refl)) (single v ∷ single v ∷ rest) refl
  unstuck_deed code next before discard_top place (single v ∷ rest) s asked at_once h ended = trades Now next place 0 (shape_over (single v ∷ rest) s) rest (at_once refl (λ n. refl)) rest refl
  unstuck_deed code next before (jump to) place operands s asked at_once h ended = (jumps_on Now next place to None (shape_over operands s) _ (at_once refl (λ n. refl))).0 operands refl
  unstuck_deed code next before (jump_if_false to) place (single v ∷ rest) s asked at_once h ended =
      let ways = branches_on Later code next place to (shape_over (single v ∷ rest) s) rest (λ below. below) h in
      asked (events.truth_of v) _ (λ n. refl) (unstuck_truth _ _ (ways.1 rest refl) (ways.0 rest refl))
  unstuck_deed code next before (jump_if_false_or_pop to) place (single v ∷ rest) s asked at_once h ended =
      let ways = branches_on Later code next place to (shape_over (single v ∷ rest) s) rest (λ below. shape_over (single v ∷ rest) s) h in
      asked (events.truth_of v) _ (λ n. refl) (unstuck_truth _ _ (ways.1 rest refl) (ways.0 (single v ∷ rest) refl))
  unstuck_deed code next before (jump_if_true_or_pop to) place (single v ∷ rest) s asked at_once h ended =
      let ways = branches_on Later code next place to (shape_over (single v ∷ rest) s) rest (λ below. shape_over (single v ∷ rest) s) h in
      asked (events.truth_of v) _ (λ n. refl) (unstuck_truth _ _ (ways.0 (single v ∷ rest) refl) (ways.1 rest refl))
  unstuck_deed code next before push_with place operands s asked at_once h ended = asked events.open_frame _ (λ n. refl) (unstuck_done _ (falls_on Later next place _ h operands refl))
  unstuck_deed code next before pop_frame place operands s asked at_once h ended = asked events.close_frame _ (λ n. refl) (unstuck_done _ (closes_frame Later next place (shape_over operands s) s.frames h operands refl))
  unstuck_deed code next before (push_loop flags) place (single v ∷ rest) s asked at_once h ended =
      asked (events.open_loop (counts.looping flags before) v) _ (λ n. refl) (unstuck_done _ (opens_on Later next place (shape_over (single v ∷ rest) s) rest (λ below. opened (loop_opened flags place below) below) (λ below. refl) (tested (Continues Later next place) _ _ h)))
  unstuck_deed code next before (iterate to) place operands s asked at_once h ended =
      let s' : Shape = shape_over operands s in
      let k : Continues Later next place (record { falls = Some (given 1 s'); jumps = Some (to, s'); enters = None }) = tested (Continues Later next place) _ (Some (record { falls = Some (given 1 s'); jumps = Some (to, s'); enters = None })) h in
      asked events.next_item _ (λ n. refl) (unstuck_item _ _ (λ v. k.falls (given 1 s') refl (single v ∷ operands) refl) (k.jumps to s' refl operands refl))
  unstuck_deed code next before push_did_not_iterate place operands s asked at_once h ended =
      let after : Shape = given 1 (shape_over operands s) in
      asked events.did_not_iterate _ (λ n. refl) (unstuck_value _ (λ v. falls_on Later next place after (tested (Continues Later next place) (is_some (innermost_loop s.frames)) (Some (falling after)) h) (single v ∷ operands) refl))
  unstuck_deed code next before pop_loop_frame place operands s asked at_once h ended = asked events.close_loop _ (λ n. refl) (unstuck_done _ (closes_loop Later next place (shape_over operands s) s.frames h operands refl))
  unstuck_deed code next before push_auto_escape place (single v ∷ rest) s asked at_once h ended =
      asked (events.open_escape v) _ (λ n. refl) (unstuck_done _ (opens_on Later next place (shape_over (single v ∷ rest) s) rest (λ below. record below { escapes = suc below.escapes }) (λ below. refl) h))
  unstuck_deed code next before pop_auto_escape place operands s asked at_once h ended =
      let s' : Shape = shape_over operands s in
      let closed : Shape = record s' { escapes = pred s'.escapes } in
      asked events.close_escape _ (λ n. refl) (unstuck_done _ (falls_on Later next place closed (mapped_test (Continues Later next place) falling _ closed h) operands refl))
  unstuck_deed code next before (include ignore_missing) place (single v ∷ rest) s asked at_once h ended = asked (events.include ignore_missing v) _ (λ n. refl) (unstuck_done _ (trades Later next place 0 (shape_over (single v ∷ rest) s) rest h rest refl))
  unstuck_deed code next before (begin_capture keep) place operands s asked at_once h ended = asked (events.begin_capture keep) _ (λ n. refl) (unstuck_done _ (falls_on Later next place (with_capture (shape_over operands s)) h operands refl))
  unstuck_deed code next before end_capture place operands s asked at_once h ended =
      let s' : Shape = shape_over operands s in
      let closed : Shape = record s' { captures = pred s'.captures } in
      asked events.end_capture _ (λ n. refl) (unstuck_value _ (λ v. falls_on Later next place (given 1 closed) (mapped_test (Continues Later next place) (λ t. falling (given 1 t)) _ closed h) (single v ∷ operands) refl))
  unstuck_deed code next before fast_super place operands s asked at_once h ended = asked events.super_block _ (λ n. refl) (unstuck_done _ (falls_on Later next place _ h operands refl))
  unstuck_deed code next before fast_recurse place (single v ∷ rest) s asked at_once h ended = asked (events.recurse v) _ (λ n. refl) (unstuck_done _ (trades Later next place 0 (shape_over (single v ∷ rest) s) rest h rest refl))
  unstuck_deed code next before (call_block name) place operands s asked at_once h ended = asked (events.call_block name) _ (λ n. refl) (unstuck_done _ (falls_on Later next place _ h operands refl))
  unstuck_deed code next before load_blocks place (single v ∷ rest) s asked at_once h ended = asked (events.load_blocks v) _ (λ n. refl) (unstuck_done _ (trades Later next place 0 (shape_over (single v ∷ rest) s) rest h rest refl))
  unstuck_deed code next before export_locals place (single w ∷ rest) s asked at_once h ended =
      asked (events.export_locals w) _ (λ n. refl) (unstuck_value _ (λ v. trades Later next place 1 (shape_over (single w ∷ rest) s) rest (tested (Continues Later next place) _ _ h) (single v ∷ rest) refl))
  unstuck_deed code next before (enclose name) place operands s asked at_once h ended = asked (events.enclose name) _ (λ n. refl) (unstuck_done _ (falls_on Later next place _ h operands refl))
  unstuck_deed code next before get_closure place operands s asked at_once h ended = asked events.get_closure _ (λ n. refl) (unstuck_closure _ (λ c. falls_on Later next place _ h (closure c ∷ operands) refl))
  unstuck_deed code next before (build_macro name offset flags) place (single names ∷ closure c ∷ rest) s asked at_once h ended =
      asked (events.build_macro (counts.making name flags names before) c) _ (λ n. refl) (unstuck_value _ (λ v. makes_on Later code next place offset (texts_loaded (code_before code place)) s names c rest h (single v ∷ rest) refl))
  unstuck_deed code next before return place operands s asked at_once h ended = ended (test_is (Continues Later next place) _ _ h)
  unstuck_deed code next before (push_loop flags) place _ s asked at_once h ended = absurd (tested (Continues Later next place) _ None h)
  unstuck_deed code next before export_locals place _ s asked at_once h ended = absurd (tested (Continues Later next place) _ None h)
  unstuck_deed code next before (build_macro name offset flags) place _ s asked at_once h ended =
      absurd (makes_nothing Later code next place offset (texts_loaded (code_before code place)) _ refl h)
  unstuck_deed code next before _ place operands s asked at_once h ended = absurd h

unstuck_steps : (left n : ℕ) (p : Process) → EndsWith left p → EndsWith left (steps n p)
unstuck_steps left zero p h = h
unstuck_steps left (suc n) p h = unstuck_steps left n p h

pub past : {A : Type 0} (xs : List A) (i : ℕ) → slice_get xs i ≡ None → length xs ≤ i
past [] i e = omega arith
past (x ∷ xs) zero e = absurd cc
past (x ∷ xs) (suc i) e = let h : length xs ≤ i = past xs i e in omega arith

values_left : (k : ℕ) (operands : List Operand) → map form_of operands ≡ replicate k single_form → length (values_in operands) ≡ k
values_left zero [] e = refl
values_left zero (o ∷ operands) e = absurd cc
values_left (suc k) [] e = absurd cc
values_left (suc k) (single v ∷ operands) e = let rest : map form_of operands ≡ replicate k single_form = cc in ap suc (values_left k operands rest)
values_left (suc k) (counted vs ∷ operands) e = absurd cc
values_left (suc k) (counting vs v ∷ operands) e = absurd cc
values_left (suc k) (closure number ∷ operands) e = absurd cc

left_well : (kind : StreamKind) (operands : List Operand) → map form_of operands ≡ (end_of kind).operands → length (values_in operands) ≡ length (end_of kind).operands
left_well Template operands e = values_left 0 operands e
left_well Expression operands e = values_left 1 operands e

left_at_end : (kind : StreamKind) (s : Shape) → s ≡ end_of kind → length (end_of kind).operands ≡ left_by kind s
left_at_end kind s e = sym (ap (left_by kind) e ∙ at_end kind)
  where
    at_end : (kind : StreamKind) → left_by kind (end_of kind) ≡ length (end_of kind).operands
    at_end Template = refl
    at_end Expression = refl

-- the body of a macro leaves no operand
body_leaves : (kind : StreamKind) (operands : List Operand) (s : Shape) → is_over (shape_over operands s) ≡ true → length (values_in operands) ≡ left_by kind s
body_leaves kind operands s e =
    let parts = and_parts s.in_macro (is_none_left (map form_of operands) s.frames && ((s.escapes == 0) && (s.captures == 0))) e in
    none operands (and_parts (is_none_left (map form_of operands) s.frames) ((s.escapes == 0) && (s.captures == 0)) parts.1).0
    ∙ ap (λ b. cond b 0 (length (end_of kind).operands)) (sym parts.0)
  where
    none : (operands : List Operand) → is_none_left (map form_of operands) s.frames ≡ true → length (values_in operands) ≡ 0
    none [] h = refl
    none (o ∷ operands) h = absurd cc

-- one instruction, or the end, where what is behind ends well
ends_at : (kind : StreamKind) (code : List Code) → IsGood kind code → (next : ℕ → List Operand → Process) → ((place : ℕ) (s : Shape) → Reached code place s → Enters (EndsWith (left_by kind s)) next place s)
    → (place : ℕ) (s : Shape) (operands : List Operand) → Reached code place s → map form_of operands ≡ s.operands
    → (before : Counts) (o : Option Code) → slice_get code place ≡ o → EndsWith (left_by kind s) (act next before o place operands)
ends_at kind code good next behind place s operands r is before None there =
    let last : place ≡ length code = omega (arith, within code place s r, past code place there) in
    let reached : Reached code (length code) s = let P : ℕ → Type 0 = λ n. Reached code n s in subst P last r in
    let same : s ≡ end_of kind = good.over s reached in
    left_well kind operands (is ∙ ap (λ (t : Shape). t.operands) same) ∙ left_at_end kind s same
ends_at kind code good next behind place s operands r is before (Some c) there =
    let left : ℕ = left_by kind s in
    let P : List Form → Type 0 = λ forms. IsSomeAnd (effect_of code place c (record s { operands = forms })) (Continues (EndsWith left) next place) in
    let as_here : (at : ℕ) (t : Shape) → t.in_macro ≡ s.in_macro → Enters (EndsWith (left_by kind t)) next at t → Enters (EndsWith left) next at t =
    λ at t same h over forms.
    (let Q : Bool → Type 0 = λ b. EndsWith (cond b 0 (length (end_of kind).operands)) (next at over) in subst Q same (h over forms)) in
    let leads_on : IsSomeAnd (effect_of code place c (shape_over operands s)) (Continues (EndsWith left) next place) =
    subst P (sym is) (continues (EndsWith left) next place (effect_of code place c s) (good.fine place s c r there) (λ e leads. record {
      falls = λ t falls. as_here (suc place) t ((effect_leads code place c s e there leads).falls t falls) (behind (suc place) t (falls_to r there leads falls));
      jumps = λ to t jumps. as_here to t ((effect_leads code place c s e there leads).stays to t jumps) (behind to t (jumps_to r there leads jumps));
    })) in
    unstuck_steps left (price_of c) (deed next before c place operands)
    (unstuck_deed (EndsWith left) (EndsWith left) tt code next before c place operands s (λ e k same h. h) (λ other same. leads_on) leads_on (body_leaves kind operands s))

pub ends_by : (kind : StreamKind) (code : List Code) → IsGood kind code → (bound place : ℕ) (s : Shape) (operands : List Operand)
    → Reached code place s → map form_of operands ≡ s.operands → EndsWith (left_by kind s) (exec code bound place operands)
ends_by kind code good zero place s operands r is = tt
ends_by kind code good (suc k) place s operands r is =
    ends_at kind code good (exec code k) (λ at t reached over forms. ends_by kind code good k at t over reached forms) place s operands r is (counts_before code place) (slice_get code place) refl
