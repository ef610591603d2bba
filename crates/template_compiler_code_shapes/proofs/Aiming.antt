-- Where an effect leads: by jumps and entries to the aims of its instruction, within the code; forward, or back to an
-- `Iterate`; and within the same body.
use Rattle.std.proofs.Common.{◌≡◌, ℕ, suc, ◌*◌, ◌<◌, ◌≤◌, ◌⊎◌, inl, inr, Bool, true, false, cond, List, ◌∷◌, length, Option, None, Some, slice_get, refl, ap, subst, ◌∙◌, arith}
use Rattle.std.specs.Prelude.{IfSome, ◌&&◌, not, nat_lt, nat_le, option_map, option_and_then, is_some}
use Rattle.std.proofs.lemmas.Bool.{and_parts, ltb-true, ltb-false, leb-true}
use Rattle.std.proofs.lemmas.Option.{slice_get_within}
use Rattle.template_compiler_code.specs.Code.{Code, emit_raw, emit, store_local, lookup, load_const, get_attr, set_attr, get_item, slice, build_map, build_kwargs, merge_kwargs, build_list, build_tuple, unpack_list, unpack_lists, operate, negate, invert, is_undefined, compare_and_preserve, apply_filter, perform_test, call_function, call_method, call_object, swap, dup_top, discard_top, jump, jump_if_false, jump_if_false_or_pop, jump_if_true_or_pop, push_with, pop_frame, push_loop, iterate, push_did_not_iterate, pop_loop_frame, push_auto_escape, pop_auto_escape, begin_capture, end_capture, fast_super, fast_recurse, call_block, load_blocks, include, export_locals, enclose, get_closure, build_macro, return}
use Rattle.template_compiler_code.specs.Steps.{is_addition}
use Rattle.template_compiler_code.specs.Loops.{is_iterate_past}
use Rattle.template_compiler_code_shapes.specs.Shapes.{Form, single_form, counted_form, counting_form, closure_form, Opened, with_frame, loop_frame, recursive_frame, Shape, body_of, below_values, lowered, taken, run_taken, handed, closure_taken, given, topped, opened, loop_opened, frame_closed, loop_closed, with_escape, escape_closed, with_capture, capture_closed, innermost_loop, is_over}
use Rattle.template_compiler_code_shapes.specs.Effects.{Effect, falling, ending, traded, made, is_iterate, is_behind, leans, may_lead, may_jump, jumping, may_iterate, code_before, loads_one, adds, ends_capture, texts_loaded, swapped, operated, making, effect_of, aim_of}
use Rattle.template_compiler_code_shapes.specs.Streams.{Reached, begins, falls_to, jumps_to, enters_at}

-- where a jump leads from a place
pub record Jumps (code : List Code) (place to : ℕ) (c : Code) : Type 0 where
  pub aim : aim_of c ≡ Some to
  pub within : to ≤ length code
  pub way : (place < to) ⊎ (is_iterate (slice_get code to) ≡ true)

-- where an effect leads of the instruction at a place, with a shape
pub record LeadsWell (code : List Code) (place : ℕ) (c : Code) (s : Shape) (e : Effect) : Type 0 where
  pub falls : (t : Shape) → e.falls ≡ Some t → t.in_macro ≡ s.in_macro
  pub stays : (to : ℕ) (t : Shape) → ◌≡◌ {A = Option (ℕ × Shape)} e.jumps (Some (to, t)) → t.in_macro ≡ s.in_macro
  pub jumps : (to : ℕ) (t : Shape) → ◌≡◌ {A = Option (ℕ × Shape)} e.jumps (Some (to, t)) → Jumps code place to c
  pub enters : (to : ℕ) (t : Shape) → ◌≡◌ {A = Option (ℕ × Shape)} e.enters (Some (to, t)) → (aim_of c ≡ Some to) × (to ≤ length code)

some_is : {A : Type 0} (x y : A) → Some x ≡ Some y → x ≡ y
some_is x y e = cc

pub of_some : {A : Type 0} (P : A → Type 0) (o : Option A) (x : A) → IfSome o P → o ≡ Some x → P x
of_some {A = A} P o x h e = let Q : Option A → Type 0 = λ q. IfSome q P in subst Q e h

if_test : {A : Type 0} (P : A → Type 0) (b : Bool) (o : Option A) → (b ≡ true → IfSome o P) → IfSome (cond b o None) P
if_test P true o h = h refl
if_test P false o h = tt

if_mapped : {A B : Type 0} (P : B → Type 0) (Q : A → Type 0) (f : A → B) (o : Option A) → IfSome o Q → ((t : A) → Q t → P (f t)) → IfSome (option_map f o) P
if_mapped P Q f None k h = tt
if_mapped P Q f (Some t) k h = h t k

if_bound : {A B : Type 0} (P : B → Type 0) (Q : A → Type 0) (f : A → Option B) (o : Option A) → IfSome o Q → ((t : A) → Q t → IfSome (f t) P) → IfSome (option_and_then f o) P
if_bound P Q f None k h = tt
if_bound P Q f (Some t) k h = h t k

-- within the same body
abbrev Stays : Shape → Shape → Type 0
Stays s t = t.in_macro ≡ s.in_macro

lowered_stays : (s : Shape) (forms : List Form) → IfSome (lowered s forms) (Stays s)
lowered_stays s forms = if_test (Stays s) _ (Some (record s { operands = forms })) (λ e. refl)

taken_stays : (n : ℕ) (s : Shape) → IfSome (taken n s) (Stays s)
taken_stays n s = by_forms (below_values n s.operands)
  where
    by_forms : (o : Option (List Form)) → IfSome (option_and_then (lowered s) o) (Stays s)
    by_forms None = tt
    by_forms (Some forms) = lowered_stays s forms

run_stays : (s : Shape) (forms : List Form) → IfSome (run_taken s forms) (Stays s)
run_stays s (counted_form ∷ forms) = lowered_stays s forms
run_stays s _ = tt

handed_stays : (count : Option ℕ) (s : Shape) → IfSome (handed count s) (Stays s)
handed_stays (Some n) s = taken_stays n s
handed_stays None s = run_stays s s.operands

closure_stays : (s : Shape) (forms : List Form) → IfSome (closure_taken s forms) (Stays s)
closure_stays s (single_form ∷ closure_form ∷ forms) = lowered_stays s forms
closure_stays s _ = tt

frame_stays : (s : Shape) (frames : List Opened) → IfSome (frame_closed s frames) (Stays s)
frame_stays s (with_frame ∷ frames) = refl
frame_stays s _ = tt

loop_stays : (s : Shape) (frames : List Opened) → IfSome (loop_closed s frames) (Stays s)
loop_stays s (loop_frame at ∷ frames) = refl
loop_stays s (recursive_frame at floor ∷ frames) = if_test (Stays s) _ (Some (record s { frames = frames })) (λ e. refl)
loop_stays s _ = tt

escape_stays : (s : Shape) → IfSome (escape_closed s) (Stays s)
escape_stays s = if_test (Stays s) _ (Some (record s { escapes = _ })) (λ e. refl)

capture_stays : (s : Shape) → IfSome (capture_closed s) (Stays s)
capture_stays s = if_test (Stays s) _ (Some (record s { captures = _ })) (λ e. refl)

module _ (code : List Code) (place : ℕ) (c : Code) (s : Shape) (inside : place < length code) where
  falls_only : (t : Shape) → Stays s t → LeadsWell code place c s (falling t)
  falls_only t same = record {
    falls = λ u e. let is : t ≡ u = some_is t u e in subst (Stays s) is same;
    stays = λ to u e. absurd cc;
    jumps = λ to u e. absurd cc;
    enters = λ to u e. absurd cc;
  }

  nowhere : LeadsWell code place c s ending
  nowhere = record { falls = λ t e. absurd cc; stays = λ to t e. absurd cc; jumps = λ to t e. absurd cc; enters = λ to t e. absurd cc }

  mapped : (o : Option Shape) (f : Shape → Shape) → IfSome o (Stays s) → ((t : Shape) → (f t).in_macro ≡ t.in_macro) → IfSome (option_map (λ below. falling (f below)) o) (LeadsWell code place c s)
  mapped o f k same = if_mapped (LeadsWell code place c s) (Stays s) (λ below. falling (f below)) o k (λ t stays. falls_only (f t) (same t ∙ stays))

  tested : (b : Bool) (o : Option Effect) → IfSome o (LeadsWell code place c s) → IfSome (cond b o None) (LeadsWell code place c s)
  tested b o h = if_test (LeadsWell code place c s) b o (λ e. h)

  jumped : (falls : Option Shape) (to : ℕ) (t : Shape) → Stays s t → ((u : Shape) → falls ≡ Some u → Stays s u) → Jumps code place to c
      → LeadsWell code place c s (record { falls = falls; jumps = Some (to, t); enters = None })
  jumped falls to t stays kept way = record {
    falls = kept;
    stays = λ at u e. let is : t ≡ u = ap (λ (w : ℕ × Shape). w.1) (some_is {A = ℕ × Shape} (to, t) (at, u) e) in subst (Stays s) is stays;
    jumps = λ at u e. let is : to ≡ at = ap (λ (w : ℕ × Shape). w.0) (some_is {A = ℕ × Shape} (to, t) (at, u) e) in subst (λ (n : ℕ). Jumps code place n c) is way;
    enters = λ at u e. absurd cc;
  }

  led : (to : ℕ) → may_lead code to ≡ true → to ≤ length code
  led to e = leb-true to (length code) (and_parts (nat_le to (length code)) (not (leans (slice_get code to))) e).0

  iterate_of : (from : ℕ) (o : Option Code) → is_iterate_past from o ≡ true → is_iterate o ≡ true
  iterate_of from (Some (iterate to)) e = refl
  iterate_of from _ e = absurd cc

  jump_way : (to : ℕ) (t : Shape) → aim_of c ≡ Some to → may_jump code place t to ≡ true → Jumps code place to c
  jump_way to t aim e = by_test (nat_lt place to) refl e
    where
      by_test : (b : Bool) → nat_lt place to ≡ b → cond b (may_lead code to) (is_behind to (innermost_loop t.frames) && is_iterate_past place (slice_get code to)) ≡ true → Jumps code place to c
      by_test true f h = record { aim = aim; within = led to h; way = inl (ltb-true place to f) }
      by_test false f h =
          let low : to ≤ place = ltb-false place to f in
          record {
            aim = aim;
            within = omega arith;
            way = inr (iterate_of place (slice_get code to) (and_parts (is_behind to (innermost_loop t.frames)) (is_iterate_past place (slice_get code to)) h).1);
          }

  jumping_well : (falls : Option Shape) (to : ℕ) (t : Shape) → aim_of c ≡ Some to → Stays s t → ((u : Shape) → falls ≡ Some u → Stays s u) → IfSome (jumping code place falls to t) (LeadsWell code place c s)
  jumping_well falls to t aim stays kept = if_test (LeadsWell code place c s) (may_jump code place t to) (Some (record { falls = falls; jumps = Some (to, t); enters = None }))
      (λ e. jumped falls to t stays kept (jump_way to t aim e))

  traded_well : (n m : ℕ) → IfSome (traded n m s) (LeadsWell code place c s)
  traded_well n m = mapped (taken n s) (given m) (taken_stays n s) (λ t. refl)

  made_well : (form : Form) (o : Option Shape) → IfSome o (Stays s) → IfSome (made form o) (LeadsWell code place c s)
  made_well form o k = mapped o (topped form) k (λ t. refl)

  swapped_well : (forms : List Form) → IfSome (swapped code place s forms) (LeadsWell code place c s)
  swapped_well (single_form ∷ counted_form ∷ forms) =
      tested (loads_one (slice_get code (suc place)) && adds (slice_get code (suc (suc place)))) (made counting_form (lowered s forms)) (made_well counting_form (lowered s forms) (lowered_stays s forms))
  swapped_well _ = traded_well 2 2

  operated_well : (adding : Bool) (forms : List Form) → IfSome (operated adding s forms) (LeadsWell code place c s)
  operated_well adding (single_form ∷ counting_form ∷ forms) = tested adding (made counted_form (lowered s forms)) (made_well counted_form (lowered s forms) (lowered_stays s forms))
  operated_well adding _ = traded_well 2 1

  entered : (falls : Shape) (to : ℕ) (t : Shape) → Stays s falls → aim_of c ≡ Some to → to ≤ length code → LeadsWell code place c s (record { falls = Some falls; jumps = None; enters = Some (to, t) })
  entered falls to t stays aim within = record {
    falls = λ u e. let is : falls ≡ u = some_is falls u e in subst (Stays s) is stays;
    stays = λ at u e. absurd cc;
    jumps = λ at u e. absurd cc;
    enters = λ at u e.
        let is : to ≡ at = ap (λ (w : ℕ × Shape). w.0) (some_is {A = ℕ × Shape} (to, t) (at, u) e) in
        subst (λ (n : ℕ). (aim_of c ≡ Some n) × (n ≤ length code)) is (aim, within);
  }

  making_well : (offset : ℕ) (o : Option ℕ) → aim_of c ≡ Some offset → IfSome (making code offset o s) (LeadsWell code place c s)
  making_well offset None aim = tt
  making_well offset (Some n) aim = if_test (LeadsWell code place c s) (may_lead code offset)
      (option_map (λ below. record { falls = Some (given 1 below); jumps = None; enters = Some (offset, body_of n) }) (closure_taken s s.operands))
      (λ e. if_mapped (LeadsWell code place c s) (Stays s) (λ below. record { falls = Some (given 1 below); jumps = None; enters = Some (offset, body_of n) }) (closure_taken s s.operands)
      (closure_stays s s.operands) (λ t stays. entered (given 1 t) offset (body_of n) stays aim (led offset e)))

  iterate_well : (to : ℕ) → aim_of c ≡ Some to → IfSome (cond (may_iterate code place s to) (Some (record { falls = Some (given 1 s); jumps = Some (to, s); enters = None })) None) (LeadsWell code place c s)
  iterate_well to aim = if_test (LeadsWell code place c s) (may_iterate code place s to) (Some (record { falls = Some (given 1 s); jumps = Some (to, s); enters = None }))
      (λ e.
      let parts = and_parts (nat_lt place to) (may_lead code to) (and_parts (is_behind place (innermost_loop s.frames)) (nat_lt place to && may_lead code to) e).1 in
      jumped (Some (given 1 s)) to s refl (λ u is. let same : given 1 s ≡ u = some_is (given 1 s) u is in subst (Stays s) same refl) (record { aim = aim; within = led to parts.1; way = inl (ltb-true place to parts.0) }))

  branch_well : (to : ℕ) (shape : Shape → Shape) → aim_of c ≡ Some to → ((t : Shape) → Stays s t → Stays s (shape t)) → IfSome (option_and_then (λ below. jumping code place (Some below) to (shape below)) (taken 1 s)) (LeadsWell code place c s)
  branch_well to shape aim kept = if_bound (LeadsWell code place c s) (Stays s) (λ below. jumping code place (Some below) to (shape below)) (taken 1 s) (taken_stays 1 s)
      (λ t stays. jumping_well (Some t) to (shape t) aim (kept t stays) (λ u is. let same : t ≡ u = some_is t u is in subst (Stays s) same stays))

module _ (code : List Code) (place : ℕ) (s : Shape) where
  by_code : (c : Code) → place < length code → IfSome (effect_of code place c s) (LeadsWell code place c s)
  by_code (emit_raw text) w = falls_only code place (emit_raw text) s w s refl
  by_code emit w = traded_well code place emit s w 1 0
  by_code (store_local name) w = traded_well code place (store_local name) s w 1 0
  by_code (lookup name) w = falls_only code place (lookup name) s w (given 1 s) refl
  by_code (load_const v) w = falls_only code place (load_const v) s w (given 1 s) refl
  by_code (get_attr name) w = traded_well code place (get_attr name) s w 1 1
  by_code (set_attr name) w = traded_well code place (set_attr name) s w 2 0
  by_code get_item w = traded_well code place get_item s w 2 1
  by_code slice w = traded_well code place slice s w 4 1
  by_code (build_map n) w = traded_well code place (build_map n) s w (n * 2) 1
  by_code (build_kwargs n) w = traded_well code place (build_kwargs n) s w (n * 2) 1
  by_code (merge_kwargs n) w = traded_well code place (merge_kwargs n) s w n 1
  by_code (build_list count) w = made_well code place (build_list count) s w single_form (handed count s) (handed_stays count s)
  by_code (build_tuple count) w = made_well code place (build_tuple count) s w single_form (handed count s) (handed_stays count s)
  by_code (unpack_list n) w = traded_well code place (unpack_list n) s w 1 n
  by_code (unpack_lists n) w = made_well code place (unpack_lists n) s w counted_form (taken n s) (taken_stays n s)
  by_code (operate op) w = operated_well code place (operate op) s w (is_addition op) s.operands
  by_code negate w = traded_well code place negate s w 1 1
  by_code invert w = traded_well code place invert s w 1 1
  by_code is_undefined w = traded_well code place is_undefined s w 1 1
  by_code (compare_and_preserve op) w = traded_well code place (compare_and_preserve op) s w 2 2
  by_code (apply_filter name count number) w = made_well code place (apply_filter name count number) s w single_form (handed count s) (handed_stays count s)
  by_code (perform_test name count number) w = made_well code place (perform_test name count number) s w single_form (handed count s) (handed_stays count s)
  by_code (call_function name count) w = made_well code place (call_function name count) s w single_form (handed count s) (handed_stays count s)
  by_code (call_method name count) w = made_well code place (call_method name count) s w single_form (handed count s) (handed_stays count s)
  by_code (call_object count) w = made_well code place (call_object count) s w single_form (handed count s) (handed_stays count s)
  by_code swap w = swapped_well code place swap s w s.operands
  by_code dup_top w = traded_well code place dup_top s w 1 2
  by_code discard_top w = traded_well code place discard_top s w 1 0
  by_code (jump to) w = jumping_well code place (jump to) s w None to s refl refl (λ u is. absurd cc)
  by_code (jump_if_false to) w = branch_well code place (jump_if_false to) s w to (λ below. below) refl (λ t stays. stays)
  by_code (jump_if_false_or_pop to) w = branch_well code place (jump_if_false_or_pop to) s w to (λ below. s) refl (λ t stays. refl)
  by_code (jump_if_true_or_pop to) w = branch_well code place (jump_if_true_or_pop to) s w to (λ below. s) refl (λ t stays. refl)
  by_code push_with w = falls_only code place push_with s w (opened with_frame s) refl
  by_code pop_frame w = mapped code place pop_frame s w (frame_closed s s.frames) (λ t. t) (frame_stays s s.frames) (λ t. refl)
  by_code (push_loop flags) w = tested code place (push_loop flags) s w (is_iterate (slice_get code (suc place))) (option_map (λ below. falling (opened (loop_opened flags place below) below)) (taken 1 s))
      (mapped code place (push_loop flags) s w (taken 1 s) (λ below. opened (loop_opened flags place below) below) (taken_stays 1 s) (λ t. refl))
  by_code (iterate to) w = iterate_well code place (iterate to) s w to refl
  by_code push_did_not_iterate w = tested code place push_did_not_iterate s w (is_some (innermost_loop s.frames)) (Some (falling (given 1 s))) (falls_only code place push_did_not_iterate s w (given 1 s) refl)
  by_code pop_loop_frame w = mapped code place pop_loop_frame s w (loop_closed s s.frames) (λ t. t) (loop_stays s s.frames) (λ t. refl)
  by_code push_auto_escape w = mapped code place push_auto_escape s w (taken 1 s) with_escape (taken_stays 1 s) (λ t. refl)
  by_code pop_auto_escape w = mapped code place pop_auto_escape s w (escape_closed s) (λ t. t) (escape_stays s) (λ t. refl)
  by_code (begin_capture keep) w = falls_only code place (begin_capture keep) s w (with_capture s) refl
  by_code end_capture w = mapped code place end_capture s w (capture_closed s) (given 1) (capture_stays s) (λ t. refl)
  by_code fast_super w = falls_only code place fast_super s w s refl
  by_code fast_recurse w = traded_well code place fast_recurse s w 1 0
  by_code (call_block name) w = falls_only code place (call_block name) s w s refl
  by_code load_blocks w = traded_well code place load_blocks s w 1 0
  by_code (include ignore_missing) w = traded_well code place (include ignore_missing) s w 1 0
  by_code export_locals w = tested code place export_locals s w (ends_capture (code_before code place)) (traded 1 1 s) (traded_well code place export_locals s w 1 1)
  by_code (enclose name) w = falls_only code place (enclose name) s w s refl
  by_code get_closure w = falls_only code place get_closure s w (topped closure_form s) refl
  by_code (build_macro name offset flags) w = making_well code place (build_macro name offset flags) s w offset (texts_loaded (code_before code place)) refl
  by_code return w = tested code place return s w (is_over s) (Some ending) (nowhere code place return s w)

pub leads : (code : List Code) (place : ℕ) (c : Code) (s : Shape) → slice_get code place ≡ Some c → IfSome (effect_of code place c s) (LeadsWell code place c s)
leads code place c s at = by_code code place s c (slice_get_within code place c at)

-- an effect that an instruction has
pub effect_leads : (code : List Code) (place : ℕ) (c : Code) (s : Shape) (e : Effect) → slice_get code place ≡ Some c → effect_of code place c s ≡ Some e → LeadsWell code place c s e
effect_leads code place c s e at is = of_some (LeadsWell code place c s) (effect_of code place c s) e (leads code place c s at) is

-- No place past the end is reached.
pub within : (code : List Code) (place : ℕ) (s : Shape) → Reached code place s → place ≤ length code
within code _ _ begins = omega arith
within code _ _ (falls_to {place} {s} {t} {c} {e} r at is goes) = let h : place < length code = slice_get_within code place c at in omega arith
within code _ _ (jumps_to {place} {to} {s} {t} {c} {e} r at is goes) = ((effect_leads code place c s e at is).jumps to t goes).within
within code _ _ (enters_at {place} {to} {s} {t} {c} {e} r at is goes) = ((effect_leads code place c s e at is).enters to t goes).1
