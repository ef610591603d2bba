-- What lies under the floor of a recursive loop is neither taken nor looked at: where an instruction is admissible over it, it is so with
-- that away, and leads to the same, with that away.
use Rattle.std.proofs.Common.{◌≡◌, ℕ, zero, suc, pred, ◌+◌, ◌-◌, ◌*◌, ◌<◌, ◌≤◌, ◌⊎◌, inl, inr, Bool, true, false, cond, List, [], ◌∷◌, ◌++◌, length, map, replicate, Option, None, Some, slice_get, refl, sym, ap, subst, ◌∙◌, append_assoc, arith}
use Rattle.std.proofs.lemmas.Bool.{leb-true, le-leb, lt-leb, and_parts}
use Rattle.std.proofs.lemmas.List.{length-append}
use Rattle.std.specs.Prelude.{IsSomeAnd, ◌==◌, ◌&&◌, nat_lt, nat_le, option_map, option_and_then, is_some}
use Rattle.template_compiler_code.specs.Code.{Operand, Code, emit_raw, emit, store_local, lookup, load_const, get_attr, set_attr, get_item, slice, build_map, build_kwargs, merge_kwargs, build_list, build_tuple, unpack_list, unpack_lists, operate, negate, invert, is_undefined, compare_and_preserve, apply_filter, perform_test, call_function, call_method, call_object, swap, dup_top, discard_top, jump, jump_if_false, jump_if_false_or_pop, jump_if_true_or_pop, push_with, pop_frame, push_loop, iterate, push_did_not_iterate, pop_loop_frame, push_auto_escape, pop_auto_escape, begin_capture, end_capture, fast_super, fast_recurse, call_block, load_blocks, include, export_locals, enclose, get_closure, build_macro, return}
use Rattle.template_compiler_code.specs.Counting.{is_recursive}
use Rattle.template_compiler_code.specs.Steps.{is_addition}
use Rattle.template_compiler_code.specs.Loops.{is_iterate_past}
use Rattle.template_compiler_process.specs.Process.{Process}
use Rattle.template_compiler_code_shapes.specs.Shapes.{Form, single_form, counted_form, counting_form, closure_form, form_of, Floor, Opened, with_frame, loop_frame, recursive_frame, Shape, body_of, floor_of, below_values, lowered, taken, run_taken, handed, closure_taken, given, topped, opened, loop_opened, frame_closed, loop_closed, with_escape, escape_closed, with_capture, innermost_loop, is_none_left, is_over}
use Rattle.template_compiler_code_shapes.specs.Effects.{Effect, falling, ending, traded, made, is_iterate, may_lead, may_jump, jumping, is_behind, may_iterate, code_before, loads_one, adds, ends_capture, texts_loaded, swapped, operated, making, effect_of}
use Rattle.template_compiler_code_shapes.proofs.Ending.{Continues, frames_by}

-- a frame, with so many operands under its floor away
abbrev pub sunk : ℕ → Opened → Opened
sunk k with_frame = with_frame
sunk k (loop_frame place) = loop_frame place
sunk k (recursive_frame place floor) = recursive_frame place (record { operands = floor.operands - k; escapes = floor.escapes; captures = floor.captures })

abbrev FloorOver : ℕ → Opened → Type 0
FloorOver k (recursive_frame place floor) = k ≤ floor.operands
FloorOver k _ = Unit {0}

-- behind so many frames stands that of a recursive loop; no floor is lower than so many operands
pub data Stands (k : ℕ) : ℕ → List Opened → Type 0 where
  own : {place : ℕ} {floor : Floor} {frames : List Opened} → k ≤ floor.operands → Stands k 0 (recursive_frame place floor ∷ frames)
  above : {f : Opened} {n : ℕ} {frames : List Opened} → FloorOver k f → Stands k n frames → Stands k (suc n) (f ∷ frames)

-- so it is while one of so many frames is open
abbrev pub Holds : ℕ → ℕ → List Opened → Type 0
Holds k zero frames = Unit {0}
Holds k (suc n) frames = Stands k n frames

floor_by : (k : ℕ) (f : Opened) (frames : List Opened) → FloorOver k f → k ≤ (floor_of frames).operands → k ≤ (floor_of (f ∷ frames)).operands
floor_by k with_frame frames h low = low
floor_by k (loop_frame place) frames h low = low
floor_by k (recursive_frame place floor) frames h low = h

floor_over : (k n : ℕ) (frames : List Opened) → Stands k n frames → k ≤ (floor_of frames).operands
floor_over k _ _ (own low) = low
floor_over k _ _ (above {f = f} {n = n} {frames = frames} h stands) = floor_by k f frames h (floor_over k n frames stands)

pub some_open : (k n : ℕ) (frames : List Opened) → Stands k n frames → frames ≡ [] → ⊥
some_open k _ _ (own {place = place} {floor = floor} {frames = frames} low) e = absurd (cc)
some_open k _ _ (above {f = f} {n = n} {frames = frames} h stands) e = absurd (cc)

-- the floor with that away
sunk_operands : (k : ℕ) (frames : List Opened) → (floor_of (map (sunk k) frames)).operands ≡ (floor_of frames).operands - k
sunk_operands k [] = omega arith
sunk_operands k (with_frame ∷ frames) = sunk_operands k frames
sunk_operands k (loop_frame place ∷ frames) = sunk_operands k frames
sunk_operands k (recursive_frame place floor ∷ frames) = refl

sunk_escapes : (k : ℕ) (frames : List Opened) → (floor_of (map (sunk k) frames)).escapes ≡ (floor_of frames).escapes
sunk_escapes k [] = refl
sunk_escapes k (with_frame ∷ frames) = sunk_escapes k frames
sunk_escapes k (loop_frame place ∷ frames) = sunk_escapes k frames
sunk_escapes k (recursive_frame place floor ∷ frames) = refl

sunk_captures : (k : ℕ) (frames : List Opened) → (floor_of (map (sunk k) frames)).captures ≡ (floor_of frames).captures
sunk_captures k [] = refl
sunk_captures k (with_frame ∷ frames) = sunk_captures k frames
sunk_captures k (loop_frame place ∷ frames) = sunk_captures k frames
sunk_captures k (recursive_frame place floor ∷ frames) = refl

sunk_innermost : (k : ℕ) (frames : List Opened) → innermost_loop (map (sunk k) frames) ≡ innermost_loop frames
sunk_innermost k [] = refl
sunk_innermost k (with_frame ∷ frames) = refl
sunk_innermost k (loop_frame place ∷ frames) = refl
sunk_innermost k (recursive_frame place floor ∷ frames) = refl

-- numbers

by_both : (a b : Bool) → (a ≡ true → b ≡ true) → (b ≡ true → a ≡ true) → a ≡ b
by_both true b h k = sym (h refl)
by_both false true h k = k refl
by_both false false h k = refl

moved_test : (k floor n many : ℕ) → k ≤ floor → many ≡ n + k → nat_le floor many ≡ nat_le (floor - k) n
moved_test k floor n many low is =
    by_both (nat_le floor many) (nat_le (floor - k) n)
    (λ e. let h : floor ≤ many = leb-true floor many e in le-leb (floor - k) n (omega (arith, h, is)))
    (λ e. let h : floor - k ≤ n = leb-true (floor - k) n e in le-leb floor many (omega (arith, h, is, low)))

-- what is left of some forms below values
left_below : (n : ℕ) (forms rest : List Form) → below_values n forms ≡ Some rest → length rest + n ≡ length forms
left_below zero forms rest e = let same : forms ≡ rest = cc in let many : length forms ≡ length rest = ap (λ (fs : List Form). length fs) same in omega (arith, many)
left_below (suc n) [] rest e = absurd (cc)
left_below (suc n) (single_form ∷ forms) rest e = let h : length rest + n ≡ length forms = left_below n forms rest e in omega (arith, h)
left_below (suc n) (counted_form ∷ forms) rest e = absurd (cc)
left_below (suc n) (counting_form ∷ forms) rest e = absurd (cc)
left_below (suc n) (closure_form ∷ forms) rest e = absurd (cc)

some_is : {A : Type 0} (x y : A) → Some x ≡ Some y → x ≡ y
some_is x y e = cc

no_some : {A : Type 0} (P : A → Type 0) (o : Option A) → o ≡ None → IsSomeAnd o P → ⊥
no_some {A = A} P o e h = let Q : Option A → Type 0 = λ q. IsSomeAnd q P in subst Q e h

no_mapped : {A B : Type 0} (P : B → Type 0) (f : A → B) (o : Option A) → o ≡ None → IsSomeAnd (option_map f o) P → ⊥
no_mapped P f o e h = no_some P (option_map f o) (ap (option_map f) e) h

no_bound : {A B : Type 0} (P : B → Type 0) (f : A → Option B) (o : Option A) → o ≡ None → IsSomeAnd (option_and_then f o) P → ⊥
no_bound P f o e h = no_some P (option_and_then f o) (ap (option_and_then f) e) h

tested : {A : Type 0} (P : A → Type 0) (b : Bool) (o : Option A) → IsSomeAnd (cond b o None) P → (b ≡ true) × IsSomeAnd o P
tested P true o h = (refl, h)
tested P false o h = absurd h

passed : {A : Type 0} (P : A → Type 0) (b : Bool) (o : Option A) → b ≡ true → IsSomeAnd o P → IsSomeAnd (cond b o None) P
passed {A = A} P b o e h = let Q : Bool → Type 0 = λ c. IsSomeAnd (cond c o None) P in subst Q (sym e) h

module _ (under : List Form) where
  abbrev pub k : ℕ
  k = length under

  module _ (s : Shape) where
    -- over what lies under the floor, and with that away
    abbrev pub whole : List Form → Shape
    whole forms = record s { operands = forms ++ under }

    abbrev pub apart : List Form → Shape
    apart forms = record s { operands = forms; frames = map (sunk k) s.frames }

    -- as much is taken
    abbrev Same : Option Shape → Option Shape → Type 0
    Same o p = (o ≡ None) ⊎ ((forms : List Form) × (o ≡ Some (whole forms)) × (p ≡ Some (apart forms)))

    module _ (low : k ≤ (floor_of s.frames).operands) where
      lowered_short : (t : Shape) (forms : List Form) → t.frames ≡ s.frames → length forms < k → lowered t forms ≡ None
      lowered_short t forms same short =
          let floor : (floor_of t.frames).operands ≡ (floor_of s.frames).operands = ap (λ (fs : List Opened). (floor_of fs).operands) same in
          ap (λ b. cond b (Some (record t { operands = forms })) None) (lt-leb (floor_of t.frames).operands (length forms) (omega (arith, floor, low, short)))

      by_test : (forms : List Form) (b c : Bool) → b ≡ c → Same (cond b (Some (whole forms)) None) (cond c (Some (apart forms)) None)
      by_test forms true c e = inr (forms, refl, ap (λ d. cond d (Some (apart forms)) None) (sym e))
      by_test forms false c e = inl refl

      lowered_same : (from forms : List Form) → Same (lowered (whole from) (forms ++ under)) (lowered (apart from) forms)
      lowered_same from forms =
          let many : length (forms ++ under) ≡ length forms + k = length-append forms under in
          by_test forms (nat_le (floor_of s.frames).operands (length (forms ++ under))) (nat_le (floor_of (map (sunk k) s.frames)).operands (length forms))
          (moved_test k (floor_of s.frames).operands (length forms) (length (forms ++ under)) low many ∙ ap (λ n. nat_le n (length forms)) (sym (sunk_operands k s.frames)))

      below_same : (from : List Form) (n : ℕ) (forms : List Form)
          → Same (option_and_then (lowered (whole from)) (below_values n (forms ++ under))) (option_and_then (lowered (apart from)) (below_values n forms))
      below_same from zero forms = lowered_same from forms
      below_same from (suc n) [] = by_left (below_values (suc n) under) refl
        where
          by_left : (o : Option (List Form)) → below_values (suc n) under ≡ o → Same (option_and_then (lowered (whole from)) o) None
          by_left None e = inl refl
          by_left (Some rest) e =
              let few : length rest + suc n ≡ k = left_below (suc n) under rest e in
              inl (lowered_short (whole from) rest refl (omega (arith, few)))
      below_same from (suc n) (single_form ∷ forms) = below_same from n forms
      below_same from (suc n) (counted_form ∷ forms) = inl refl
      below_same from (suc n) (counting_form ∷ forms) = inl refl
      below_same from (suc n) (closure_form ∷ forms) = inl refl

      taken_same : (n : ℕ) (forms : List Form) → Same (taken n (whole forms)) (taken n (apart forms))
      taken_same n forms = below_same forms n forms

      run_short : (t : Shape) (forms : List Form) → t.frames ≡ s.frames → length forms ≤ k → run_taken t forms ≡ None
      run_short t [] same short = refl
      run_short t (single_form ∷ forms) same short = refl
      run_short t (counted_form ∷ forms) same short = lowered_short t forms same (omega (arith, short))
      run_short t (counting_form ∷ forms) same short = refl
      run_short t (closure_form ∷ forms) same short = refl

      run_same : (from forms : List Form) → Same (run_taken (whole from) (forms ++ under)) (run_taken (apart from) forms)
      run_same from [] = inl (run_short (whole from) under refl (omega arith))
      run_same from (single_form ∷ forms) = inl refl
      run_same from (counted_form ∷ forms) = lowered_same from forms
      run_same from (counting_form ∷ forms) = inl refl
      run_same from (closure_form ∷ forms) = inl refl

      handed_same : (count : Option ℕ) (forms : List Form) → Same (handed count (whole forms)) (handed count (apart forms))
      handed_same (Some n) forms = taken_same n forms
      handed_same None forms = run_same forms forms

      closure_short : (t : Shape) (forms : List Form) → t.frames ≡ s.frames → length forms ≤ suc k → closure_taken t forms ≡ None
      closure_short t (single_form ∷ closure_form ∷ forms) same short = lowered_short t forms same (omega (arith, short))
      closure_short t _ same short = refl

      closure_same : (from forms : List Form) → Same (closure_taken (whole from) (forms ++ under)) (closure_taken (apart from) forms)
      closure_same from [] = inl (closure_short (whole from) under refl (omega arith))
      closure_same from (f ∷ []) = inl (closure_short (whole from) (f ∷ under) refl (omega arith))
      closure_same from (single_form ∷ closure_form ∷ forms) = lowered_same from forms
      closure_same from (single_form ∷ single_form ∷ forms) = inl refl
      closure_same from (single_form ∷ counted_form ∷ forms) = inl refl
      closure_same from (single_form ∷ counting_form ∷ forms) = inl refl
      closure_same from (counted_form ∷ f ∷ forms) = inl refl
      closure_same from (counting_form ∷ f ∷ forms) = inl refl
      closure_same from (closure_form ∷ f ∷ forms) = inl refl

  -- what is shown of the process that goes on, while one of so many frames is open
  module _ (Ends : Process → Type 0) (next : ℕ → List Operand → Process) (place m : ℕ) where
    -- over operands of a shape's forms, with those under the floor away
    abbrev pub EntersOver : ℕ → Shape → Type 0
    EntersOver at t = (operands : List Operand) → map form_of operands ++ under ≡ t.operands → Holds k m t.frames → Ends (next at operands)

    pub record ContinuesOver (e : Effect) : Type 0 where
      pub falls : (t : Shape) → e.falls ≡ Some t → EntersOver (suc place) t
      pub jumps : (to : ℕ) (t : Shape) → ◌≡◌ {A = Option (ℕ × Shape)} e.jumps (Some (to, t)) → EntersOver to t

    abbrev Over : Option Effect → Type 0
    Over o = IsSomeAnd o ContinuesOver

    abbrev Apart : Option Effect → Type 0
    Apart o = IsSomeAnd o (Continues Ends next place)

    -- a shape, and the same with those away
    abbrev Alike : Shape → Shape → Type 0
    Alike t u = (t.operands ≡ u.operands ++ under) × Holds k m t.frames

    enters : (at : ℕ) (t u : Shape) → Alike t u → EntersOver at t → (v : Shape) → u ≡ v → (operands : List Operand) → map form_of operands ≡ v.operands → Ends (next at operands)
    enters at t u alike goes v same operands is =
        goes operands (ap (λ forms. forms ++ under) (is ∙ ap (λ (w : Shape). w.operands) (sym same)) ∙ sym alike.0) alike.1

    falling_on : (t u : Shape) → Alike t u → ContinuesOver (falling t) → Continues Ends next place (falling u)
    falling_on t u alike h = record {
      falls = λ v e. let same : u ≡ v = some_is u v e in enters (suc place) t u alike (h.falls t refl) v same;
      jumps = λ to v e. absurd (cc);
    }

    jumping_on : (to : ℕ) (t u : Shape) → Alike t u → ContinuesOver (record { falls = None; jumps = Some (to, t); enters = None })
        → Continues Ends next place (record { falls = None; jumps = Some (to, u); enters = None })
    jumping_on to t u alike h = record {
      falls = λ v e. absurd (cc);
      jumps = λ at v e.
          let pair = some_is {A = ℕ × Shape} (to, u) (at, v) e in
          let there : to ≡ at = ap (λ (w : ℕ × Shape). w.0) pair in
          let same : u ≡ v = ap (λ (w : ℕ × Shape). w.1) pair in
          λ operands is. subst (λ (n : ℕ). Ends (next n operands)) there (enters to t u alike (h.jumps to t refl) v same operands is);
    }

    branching_on : (to : ℕ) (t u f g : Shape) → Alike t u → Alike f g → ContinuesOver (record { falls = Some f; jumps = Some (to, t); enters = None })
        → Continues Ends next place (record { falls = Some g; jumps = Some (to, u); enters = None })
    branching_on to t u f g alike falls h = record {
      falls = λ v e. let same : g ≡ v = some_is g v e in enters (suc place) f g falls (h.falls f refl) v same;
      jumps = λ at v e.
          let pair = some_is {A = ℕ × Shape} (to, u) (at, v) e in
          let there : to ≡ at = ap (λ (w : ℕ × Shape). w.0) pair in
          let same : u ≡ v = ap (λ (w : ℕ × Shape). w.1) pair in
          λ operands is. subst (λ (n : ℕ). Ends (next n operands)) there (enters to t u alike (h.jumps to t refl) v same operands is);
    }

    making_on : (offset : ℕ) (b : Shape) (f g : Shape) → Alike f g → ContinuesOver (record { falls = Some f; jumps = None; enters = Some (offset, b) })
        → Continues Ends next place (record { falls = Some g; jumps = None; enters = Some (offset, b) })
    making_on offset b f g alike h = record {
      falls = λ v e. let same : g ≡ v = some_is g v e in enters (suc place) f g alike (h.falls f refl) v same;
      jumps = λ to v e. absurd (cc);
    }

    module _ (s : Shape) (low : k ≤ (floor_of s.frames).operands) where
      -- what is made of a shape from which something was taken
      mapped_on : (f : Shape → Effect) → ((forms : List Form) → ContinuesOver (f (whole s forms)) → Continues Ends next place (f (apart s forms)))
          → (o p : Option Shape) → Same s o p → Over (option_map f o) → Apart (option_map f p)
      mapped_on f goes o p (inl none) h = absurd (no_mapped ContinuesOver f o none h)
      mapped_on f goes o p (inr x) h =
          let there : ContinuesOver (f (whole s x.0)) = subst (λ (q : Option Shape). Over (option_map f q)) x.1 h in
          subst (λ (q : Option Shape). Apart (option_map f q)) (sym x.2) (goes x.0 there)

      bound_on : (f g : Shape → Option Effect) → ((forms : List Form) → Over (f (whole s forms)) → Apart (g (apart s forms)))
          → (o p : Option Shape) → Same s o p → Over (option_and_then f o) → Apart (option_and_then g p)
      bound_on f g goes o p (inl none) h = absurd (no_bound ContinuesOver f o none h)
      bound_on f g goes o p (inr x) h =
          let there : Over (f (whole s x.0)) = subst (λ (q : Option Shape). Over (option_and_then f q)) x.1 h in
          subst (λ (q : Option Shape). Apart (option_and_then g q)) (sym x.2) (goes x.0 there)

      tested_on : (b c : Bool) (o p : Option Effect) → b ≡ c → (Over o → Apart p) → Over (cond b o None) → Apart (cond c p None)
      tested_on b c o p same goes h =
          let parts = tested ContinuesOver b o h in
          passed (Continues Ends next place) c p (sym same ∙ parts.0) (goes parts.1)

      module _ (holds : Holds k m s.frames) where
        on_top : (top forms : List Form) → Alike (record s { operands = top ++ (forms ++ under) }) (record (apart s forms) { operands = top ++ forms })
        on_top top forms = (sym (append_assoc top forms under), holds)

        traded_on : (n b : ℕ) (forms : List Form) → Over (traded n b (whole s forms)) → Apart (traded n b (apart s forms))
        traded_on n b forms =
            mapped_on (λ below. falling (given b below))
            (λ left. falling_on (given b (whole s left)) (given b (apart s left)) (on_top (replicate b single_form) left))
            (taken n (whole s forms)) (taken n (apart s forms)) (taken_same s low n forms)

        made_on : (form : Form) (o p : Option Shape) → Same s o p → Over (made form o) → Apart (made form p)
        made_on form o p same =
            mapped_on (λ below. falling (topped form below))
            (λ left. falling_on (topped form (whole s left)) (topped form (apart s left)) (on_top (form ∷ []) left)) o p same

        gives_on : (top forms : List Form) → Over (Some (falling (record s { operands = top ++ (forms ++ under) }))) → Apart (Some (falling (record (apart s forms) { operands = top ++ forms })))
        gives_on top forms = falling_on (record s { operands = top ++ (forms ++ under) }) (record (apart s forms) { operands = top ++ forms }) (on_top top forms)

        mapped_test : (b c : Bool) (f : Shape → Effect) (t u : Shape) → b ≡ c → (ContinuesOver (f t) → Continues Ends next place (f u))
            → Over (option_map f (cond b (Some t) None)) → Apart (option_map f (cond c (Some u) None))
        mapped_test true c f t u same goes h = subst (λ (d : Bool). Apart (option_map f (cond d (Some u) None))) same (goes h)
        mapped_test false c f t u same goes h = absurd h

        -- too few operands above the floor
        traded_short : (n b : ℕ) (t : Shape) → t.frames ≡ s.frames → length t.operands < n + k → Over (traded n b t) → ⊥
        traded_short n b t same short h = by_left (below_values n t.operands) refl
          where
            none : (o : Option (List Form)) → below_values n t.operands ≡ o → option_and_then (lowered t) o ≡ None
            none None e = refl
            none (Some rest) e =
                let few : length rest + n ≡ length t.operands = left_below n t.operands rest e in
                lowered_short s low t rest same (omega (arith, few, short))

            by_left : (o : Option (List Form)) → below_values n t.operands ≡ o → ⊥
            by_left o e = no_mapped ContinuesOver (λ below. falling (given b below)) (taken n t) (ap (option_and_then (lowered t)) e ∙ none o e) h

        made_short : (form : Form) (t : Shape) (rest : List Form) → t.frames ≡ s.frames → length rest < k → Over (made form (lowered t rest)) → ⊥
        made_short form t rest same short h = no_mapped ContinuesOver (λ below. falling (topped form below)) (lowered t rest) (lowered_short s low t rest same short) h

        swapped_short : (code : List Code) (t : Shape) (forms : List Form) → t.frames ≡ s.frames → length t.operands < 2 + k → length forms < 2 + k → Over (swapped code place t forms) → ⊥
        swapped_short code t (single_form ∷ counted_form ∷ rest) same few short h =
            made_short counting_form t rest same (omega (arith, short)) (tested ContinuesOver (loads_one (slice_get code (suc place)) && adds (slice_get code (suc (suc place)))) (made counting_form (lowered t rest)) h).1
        swapped_short code t _ same few short h = traded_short 2 2 t same few h

        operated_short : (adding : Bool) (t : Shape) (forms : List Form) → t.frames ≡ s.frames → length t.operands < 2 + k → length forms < 2 + k → Over (operated adding t forms) → ⊥
        operated_short adding t (single_form ∷ counting_form ∷ rest) same few short h =
            made_short counted_form t rest same (omega (arith, short)) (tested ContinuesOver adding (made counted_form (lowered t rest)) h).1
        operated_short adding t _ same few short h = traded_short 2 1 t same few h

        swapped_on : (code : List Code) (forms : List Form) → Over (swapped code place (whole s forms) (forms ++ under)) → Apart (swapped code place (apart s forms) forms)
        swapped_on code [] h = absurd (swapped_short code (whole s []) under refl (omega arith) (omega arith) h)
        swapped_on code (f ∷ []) h = absurd (swapped_short code (whole s (f ∷ [])) (f ∷ under) refl (omega arith) (omega arith) h)
        swapped_on code (single_form ∷ counted_form ∷ forms) h =
            let b : Bool = loads_one (slice_get code (suc place)) && adds (slice_get code (suc (suc place))) in
            let from : List Form = single_form ∷ counted_form ∷ forms in
            tested_on b b (made counting_form (lowered (whole s from) (forms ++ under))) (made counting_form (lowered (apart s from) forms)) refl
            (made_on counting_form (lowered (whole s from) (forms ++ under)) (lowered (apart s from) forms) (lowered_same s low from forms)) h
        swapped_on code (single_form ∷ single_form ∷ forms) h = traded_on 2 2 (single_form ∷ single_form ∷ forms) h
        swapped_on code (single_form ∷ counting_form ∷ forms) h = traded_on 2 2 (single_form ∷ counting_form ∷ forms) h
        swapped_on code (single_form ∷ closure_form ∷ forms) h = traded_on 2 2 (single_form ∷ closure_form ∷ forms) h
        swapped_on code (counted_form ∷ f ∷ forms) h = traded_on 2 2 (counted_form ∷ f ∷ forms) h
        swapped_on code (counting_form ∷ f ∷ forms) h = traded_on 2 2 (counting_form ∷ f ∷ forms) h
        swapped_on code (closure_form ∷ f ∷ forms) h = traded_on 2 2 (closure_form ∷ f ∷ forms) h

        operated_on : (adding : Bool) (forms : List Form) → Over (operated adding (whole s forms) (forms ++ under)) → Apart (operated adding (apart s forms) forms)
        operated_on adding [] h = absurd (operated_short adding (whole s []) under refl (omega arith) (omega arith) h)
        operated_on adding (f ∷ []) h = absurd (operated_short adding (whole s (f ∷ [])) (f ∷ under) refl (omega arith) (omega arith) h)
        operated_on adding (single_form ∷ counting_form ∷ forms) h =
            let from : List Form = single_form ∷ counting_form ∷ forms in
            tested_on adding adding (made counted_form (lowered (whole s from) (forms ++ under))) (made counted_form (lowered (apart s from) forms)) refl
            (made_on counted_form (lowered (whole s from) (forms ++ under)) (lowered (apart s from) forms) (lowered_same s low from forms)) h
        operated_on adding (single_form ∷ single_form ∷ forms) h = traded_on 2 1 (single_form ∷ single_form ∷ forms) h
        operated_on adding (single_form ∷ counted_form ∷ forms) h = traded_on 2 1 (single_form ∷ counted_form ∷ forms) h
        operated_on adding (single_form ∷ closure_form ∷ forms) h = traded_on 2 1 (single_form ∷ closure_form ∷ forms) h
        operated_on adding (counted_form ∷ f ∷ forms) h = traded_on 2 1 (counted_form ∷ f ∷ forms) h
        operated_on adding (counting_form ∷ f ∷ forms) h = traded_on 2 1 (counting_form ∷ f ∷ forms) h
        operated_on adding (closure_form ∷ f ∷ forms) h = traded_on 2 1 (closure_form ∷ f ∷ forms) h

        -- jumps

        same_jump : (code : List Code) (from left : List Form) (to : ℕ) → may_jump code place (whole s from) to ≡ may_jump code place (apart s left) to
        same_jump code from left to =
            ap (λ (o : Option ℕ). cond (nat_lt place to) (may_lead code to) (is_behind to o && is_iterate_past place (slice_get code to))) (sym (sunk_innermost k s.frames))

        alike_at : (forms : List Form) → Alike (whole s forms) (apart s forms)
        alike_at forms = (refl, holds)

        leaps_on : (code : List Code) (forms : List Form) (to : ℕ) → Over (jumping code place None to (whole s forms)) → Apart (jumping code place None to (apart s forms))
        leaps_on code forms to =
            tested_on (may_jump code place (whole s forms) to) (may_jump code place (apart s forms) to)
            (Some (record { falls = None; jumps = Some (to, whole s forms); enters = None })) (Some (record { falls = None; jumps = Some (to, apart s forms); enters = None }))
            (same_jump code forms forms to) (jumping_on to (whole s forms) (apart s forms) (alike_at forms))

        branches_apart : (code : List Code) (to : ℕ) (left at : List Form) → Over (jumping code place (Some (whole s left)) to (whole s at)) → Apart (jumping code place (Some (apart s left)) to (apart s at))
        branches_apart code to left at =
            tested_on (may_jump code place (whole s at) to) (may_jump code place (apart s at) to)
            (Some (record { falls = Some (whole s left); jumps = Some (to, whole s at); enters = None })) (Some (record { falls = Some (apart s left); jumps = Some (to, apart s at); enters = None }))
            (same_jump code at at to) (branching_on to (whole s at) (apart s at) (whole s left) (apart s left) (alike_at at) (alike_at left))

        drops_on : (code : List Code) (to : ℕ) (forms : List Form)
            → Over (option_and_then (λ below. jumping code place (Some below) to below) (taken 1 (whole s forms)))
            → Apart (option_and_then (λ below. jumping code place (Some below) to below) (taken 1 (apart s forms)))
        drops_on code to forms =
            bound_on (λ below. jumping code place (Some below) to below) (λ below. jumping code place (Some below) to below) (λ left. branches_apart code to left left)
            (taken 1 (whole s forms)) (taken 1 (apart s forms)) (taken_same s low 1 forms)

        keeps_on : (code : List Code) (to : ℕ) (forms : List Form)
            → Over (option_and_then (λ below. jumping code place (Some below) to (whole s forms)) (taken 1 (whole s forms)))
            → Apart (option_and_then (λ below. jumping code place (Some below) to (apart s forms)) (taken 1 (apart s forms)))
        keeps_on code to forms =
            bound_on (λ below. jumping code place (Some below) to (whole s forms)) (λ below. jumping code place (Some below) to (apart s forms)) (λ left. branches_apart code to left forms)
            (taken 1 (whole s forms)) (taken 1 (apart s forms)) (taken_same s low 1 forms)

        iterates_on : (code : List Code) (to : ℕ) (forms : List Form) → Over (effect_of code place (iterate to) (whole s forms)) → Apart (effect_of code place (iterate to) (apart s forms))
        iterates_on code to forms =
            tested_on (may_iterate code place (whole s forms) to) (may_iterate code place (apart s forms) to)
            (Some (record { falls = Some (given 1 (whole s forms)); jumps = Some (to, whole s forms); enters = None }))
            (Some (record { falls = Some (given 1 (apart s forms)); jumps = Some (to, apart s forms); enters = None }))
            (ap (λ (o : Option ℕ). is_behind place o && (nat_lt place to && may_lead code to)) (sym (sunk_innermost k s.frames)))
            (branching_on to (whole s forms) (apart s forms) (given 1 (whole s forms)) (given 1 (apart s forms)) (alike_at forms) (on_top (single_form ∷ []) forms))

        asks_on : (code : List Code) (forms : List Form) → Over (effect_of code place push_did_not_iterate (whole s forms)) → Apart (effect_of code place push_did_not_iterate (apart s forms))
        asks_on code forms =
            tested_on (is_some (innermost_loop s.frames)) (is_some (innermost_loop (map (sunk k) s.frames))) (Some (falling (given 1 (whole s forms)))) (Some (falling (given 1 (apart s forms))))
            (ap (λ (o : Option ℕ). is_some o) (sym (sunk_innermost k s.frames))) (gives_on (single_form ∷ []) forms)

        -- scopes

        escape_on : (forms : List Form) → Over (option_map falling (escape_closed (whole s forms))) → Apart (option_map falling (escape_closed (apart s forms)))
        escape_on forms h =
            let t : Shape = record (whole s forms) { escapes = pred s.escapes } in
            let u : Shape = record (apart s forms) { escapes = pred s.escapes } in
            mapped_test (nat_lt (floor_of s.frames).escapes s.escapes) (nat_lt (floor_of (map (sunk k) s.frames)).escapes s.escapes) falling t u
            (ap (λ n. nat_lt n s.escapes) (sym (sunk_escapes k s.frames))) (falling_on t u (refl, holds)) h

        capture_on : (forms : List Form) → Over (effect_of [] place end_capture (whole s forms)) → Apart (effect_of [] place end_capture (apart s forms))
        capture_on forms h =
            let t : Shape = record (whole s forms) { captures = pred s.captures } in
            let u : Shape = record (apart s forms) { captures = pred s.captures } in
            mapped_test (nat_lt (floor_of s.frames).captures s.captures) (nat_lt (floor_of (map (sunk k) s.frames)).captures s.captures) (λ below. falling (given 1 below)) t u
            (ap (λ n. nat_lt n s.captures) (sym (sunk_captures k s.frames))) (falling_on (given 1 t) (given 1 u) (refl, holds)) h

        opens_escape : (forms : List Form)
            → Over (option_map (λ below. falling (with_escape below)) (taken 1 (whole s forms))) → Apart (option_map (λ below. falling (with_escape below)) (taken 1 (apart s forms)))
        opens_escape forms =
            mapped_on (λ below. falling (with_escape below)) (λ left. falling_on (with_escape (whole s left)) (with_escape (apart s left)) (refl, holds))
            (taken 1 (whole s forms)) (taken 1 (apart s forms)) (taken_same s low 1 forms)

        -- macros and modules

        makes_apart : (code : List Code) (offset : ℕ) (o : Option ℕ) (forms : List Form) → Over (making code offset o (whole s forms)) → Apart (making code offset o (apart s forms))
        makes_apart code offset None forms h = absurd h
        makes_apart code offset (Some n) forms h =
            let effect : Shape → Effect = λ t. record { falls = Some (given 1 t); jumps = None; enters = Some (offset, body_of n) } in
            tested_on (may_lead code offset) (may_lead code offset) (option_map effect (closure_taken (whole s forms) (forms ++ under))) (option_map effect (closure_taken (apart s forms) forms)) refl
            (mapped_on effect (λ left. making_on offset (body_of n) (given 1 (whole s left)) (given 1 (apart s left)) (on_top (single_form ∷ []) left))
            (closure_taken (whole s forms) (forms ++ under)) (closure_taken (apart s forms) forms) (closure_same s low forms forms)) h

        exports_on : (code : List Code) (forms : List Form) → Over (effect_of code place export_locals (whole s forms)) → Apart (effect_of code place export_locals (apart s forms))
        exports_on code forms =
            tested_on (ends_capture (code_before code place)) (ends_capture (code_before code place)) (traded 1 1 (whole s forms)) (traded 1 1 (apart s forms)) refl (traded_on 1 1 forms)

  -- frames: how many are open changes
  module _ (Ends : ℕ → Process → Type 0) (next : ℕ → List Operand → Process) (place : ℕ) (s : Shape) where
    floor_opened : (b : Bool) (forms : List Form)
        → FloorOver k (cond b (recursive_frame place (record { operands = length (forms ++ under); escapes = s.escapes; captures = s.captures })) (loop_frame place))
    floor_opened true forms = let many : length (forms ++ under) ≡ length forms + k = length-append forms under in omega (arith, many)
    floor_opened false forms = tt

    loop_on : (code : List Code) (flags n : ℕ) → Stands k n s.frames → (forms : List Form)
        → IsSomeAnd (effect_of code place (push_loop flags) (whole s forms)) (ContinuesOver (Ends (suc (suc n))) next place (suc (suc n)))
        → IsSomeAnd (effect_of code place (push_loop flags) (apart s forms)) (Continues (Ends (suc (suc n))) next place)
    loop_on code flags n stands forms =
        let low : k ≤ (floor_of s.frames).operands = floor_over k n s.frames stands in
        let effect : Shape → Effect = λ below. falling (opened (loop_opened flags place below) below) in
        tested_on (Ends (suc (suc n))) next place (suc (suc n)) s low (is_iterate (slice_get code (suc place))) (is_iterate (slice_get code (suc place)))
        (option_map effect (taken 1 (whole s forms))) (option_map effect (taken 1 (apart s forms))) refl
        (mapped_on (Ends (suc (suc n))) next place (suc (suc n)) s low effect
        (λ left. falling_on (Ends (suc (suc n))) next place (suc (suc n)) (opened (loop_opened flags place (whole s left)) (whole s left)) (opened (loop_opened flags place (apart s left)) (apart s left))
        (refl, above (floor_opened (is_recursive flags) left) stands))
        (taken 1 (whole s forms)) (taken 1 (apart s forms)) (taken_same s low 1 forms))

    with_on : (n : ℕ) → Stands k n s.frames → (forms : List Form)
        → ContinuesOver (Ends (suc (suc n))) next place (suc (suc n)) (falling (opened with_frame (whole s forms)))
        → Continues (Ends (suc (suc n))) next place (falling (opened with_frame (apart s forms)))
    with_on n stands forms =
        falling_on (Ends (suc (suc n))) next place (suc (suc n)) (opened with_frame (whole s forms)) (opened with_frame (apart s forms)) (refl, above tt stands)

  -- a frame is closed
  module _ (Ends : ℕ → Process → Type 0) (next : ℕ → List Operand → Process) (place : ℕ) (s : Shape) (forms : List Form) where
    pop_frame_on : (n : ℕ) (frames : List Opened) → Stands k n frames → IsSomeAnd (option_map falling (frame_closed (whole s forms) frames)) (ContinuesOver (Ends n) next place n)
        → IsSomeAnd (option_map falling (frame_closed (apart s forms) (map (sunk k) frames))) (Continues (Ends n) next place)
    pop_frame_on _ _ (own {place = at} {floor = floor} {frames = frames} low) h = absurd h
    pop_frame_on _ _ (above {f = with_frame} {n = n} {frames = frames} fits stands) h =
        falling_on (Ends (suc n)) next place (suc n) (record (whole s forms) { frames = frames }) (record (apart s forms) { frames = map (sunk k) frames }) (refl, stands) h
    pop_frame_on _ _ (above {f = loop_frame at} {n = n} {frames = frames} fits stands) h = absurd h
    pop_frame_on _ _ (above {f = recursive_frame at floor} {n = n} {frames = frames} fits stands) h = absurd h

    -- the loop's own is the last one
    last_test : (b : Bool) (t u : Shape) → t.operands ≡ u.operands ++ under → IsSomeAnd (option_map falling (cond b (Some t) None)) (ContinuesOver (Ends 0) next place 0)
        → IsSomeAnd (option_map falling (cond b (Some u) None)) (Continues (Ends 0) next place)
    last_test true t u same h = falling_on (Ends 0) next place 0 t u (same, tt) h
    last_test false t u same h = absurd h

    inner_test : (b : Bool) (n : ℕ) (t u : Shape) → t.operands ≡ u.operands ++ under → Stands k n t.frames
        → IsSomeAnd (option_map falling (cond b (Some t) None)) (ContinuesOver (Ends (suc n)) next place (suc n))
        → IsSomeAnd (option_map falling (cond b (Some u) None)) (Continues (Ends (suc n)) next place)
    inner_test true n t u same stands h = falling_on (Ends (suc n)) next place (suc n) t u (same, stands) h
    inner_test false n t u same stands h = absurd h

    pop_loop_on : (n : ℕ) (frames : List Opened) → Stands k n frames → IsSomeAnd (option_map falling (loop_closed (whole s forms) frames)) (ContinuesOver (Ends n) next place n)
        → IsSomeAnd (option_map falling (loop_closed (apart s forms) (map (sunk k) frames))) (Continues (Ends n) next place)
    pop_loop_on _ _ (own {place = at} {floor = floor} {frames = frames} low) h =
        last_test ((s.escapes == floor.escapes) && (s.captures == floor.captures)) (record (whole s forms) { frames = frames }) (record (apart s forms) { frames = map (sunk k) frames }) refl h
    pop_loop_on _ _ (above {f = with_frame} {n = n} {frames = frames} fits stands) h = absurd h
    pop_loop_on _ _ (above {f = loop_frame at} {n = n} {frames = frames} fits stands) h =
        falling_on (Ends (suc n)) next place (suc n) (record (whole s forms) { frames = frames }) (record (apart s forms) { frames = map (sunk k) frames }) (refl, stands) h
    pop_loop_on _ _ (above {f = recursive_frame at floor} {n = n} {frames = frames} fits stands) h =
        inner_test ((s.escapes == floor.escapes) && (s.captures == floor.captures)) n (record (whole s forms) { frames = frames }) (record (apart s forms) { frames = map (sunk k) frames }) refl stands h

  -- no macro's body is over there
  open_yet : (forms : List Form) (frames : List Opened) → is_none_left forms frames ≡ true → frames ≡ []
  open_yet [] [] e = refl
  open_yet [] (f ∷ frames) e = absurd (cc)
  open_yet (x ∷ forms) frames e = absurd (cc)

  not_over : (s : Shape) (n : ℕ) → Stands k n s.frames → is_over s ≡ true → ⊥
  not_over s n stands e =
      let inner = and_parts s.in_macro (is_none_left s.operands s.frames && ((s.escapes == 0) && (s.captures == 0))) e in
      let none = and_parts (is_none_left s.operands s.frames) ((s.escapes == 0) && (s.captures == 0)) inner.1 in
      some_open k n s.frames stands (open_yet s.operands s.frames none.0)

  some_sunk : (n : ℕ) (frames : List Opened) → Stands k n frames → map (sunk k) frames ≡ [] → ⊥
  some_sunk _ _ (own {place = place} {floor = floor} {frames = frames} low) e = absurd (cc)
  some_sunk _ _ (above {f = f} {n = n} {frames = frames} fits stands) e = absurd (cc)

  pub never_over : (s : Shape) (forms : List Form) (n : ℕ) → Stands k n s.frames → is_over (apart s forms) ≡ true → ⊥
  never_over s forms n stands e =
      let frames : List Opened = map (sunk k) s.frames in
      let inner = and_parts s.in_macro (is_none_left forms frames && ((s.escapes == 0) && (s.captures == 0))) e in
      let none = and_parts (is_none_left forms frames) ((s.escapes == 0) && (s.captures == 0)) inner.1 in
      some_sunk n s.frames stands (open_yet forms frames none.0)

  -- each instruction
  module _ (Ends : ℕ → Process → Type 0) (code : List Code) (next : ℕ → List Operand → Process) (place : ℕ) (s : Shape) (n : ℕ) (stands : Stands k n s.frames) where
    low_here : k ≤ (floor_of s.frames).operands
    low_here = floor_over k n s.frames stands

    abbrev Lasts : Code → List Form → Type 0
    Lasts c forms = IsSomeAnd (effect_of code place c (whole s forms)) (ContinuesOver (Ends (frames_by c (suc n))) next place (frames_by c (suc n)))
        → IsSomeAnd (effect_of code place c (apart s forms)) (Continues (Ends (frames_by c (suc n))) next place)

    trade : (a b : ℕ) (forms : List Form) → IsSomeAnd (traded a b (whole s forms)) (ContinuesOver (Ends (suc n)) next place (suc n)) → IsSomeAnd (traded a b (apart s forms)) (Continues (Ends (suc n)) next place)
    trade a b forms = traded_on (Ends (suc n)) next place (suc n) s low_here stands a b forms

    hand : (count : Option ℕ) (forms : List Form)
        → IsSomeAnd (made single_form (handed count (whole s forms))) (ContinuesOver (Ends (suc n)) next place (suc n)) → IsSomeAnd (made single_form (handed count (apart s forms))) (Continues (Ends (suc n)) next place)
    hand count forms = made_on (Ends (suc n)) next place (suc n) s low_here stands single_form (handed count (whole s forms)) (handed count (apart s forms)) (handed_same s low_here count forms)

    give : (top forms : List Form) → ContinuesOver (Ends (suc n)) next place (suc n) (falling (record s { operands = top ++ (forms ++ under) })) → Continues (Ends (suc n)) next place (falling (record (apart s forms) { operands = top ++ forms }))
    give top forms = gives_on (Ends (suc n)) next place (suc n) s low_here stands top forms

    pub lasts : (c : Code) (forms : List Form) → Lasts c forms
    lasts (emit_raw text) forms = give [] forms
    lasts emit forms = trade 1 0 forms
    lasts (store_local name) forms = trade 1 0 forms
    lasts (lookup name) forms = give (single_form ∷ []) forms
    lasts (load_const v) forms = give (single_form ∷ []) forms
    lasts (get_attr name) forms = trade 1 1 forms
    lasts (set_attr name) forms = trade 2 0 forms
    lasts get_item forms = trade 2 1 forms
    lasts slice forms = trade 4 1 forms
    lasts (build_map x) forms = trade (x * 2) 1 forms
    lasts (build_kwargs x) forms = trade (x * 2) 1 forms
    lasts (merge_kwargs x) forms = trade x 1 forms
    lasts (build_list count) forms = hand count forms
    lasts (build_tuple count) forms = hand count forms
    lasts (unpack_list x) forms = trade 1 x forms
    lasts (unpack_lists x) forms = made_on (Ends (suc n)) next place (suc n) s low_here stands counted_form (taken x (whole s forms)) (taken x (apart s forms)) (taken_same s low_here x forms)
    lasts (operate op) forms = operated_on (Ends (suc n)) next place (suc n) s low_here stands (is_addition op) forms
    lasts negate forms = trade 1 1 forms
    lasts invert forms = trade 1 1 forms
    lasts is_undefined forms = trade 1 1 forms
    lasts (compare_and_preserve op) forms = trade 2 2 forms
    lasts (apply_filter name count number) forms = hand count forms
    lasts (perform_test name count number) forms = hand count forms
    lasts (call_function name count) forms = hand count forms
    lasts (call_method name count) forms = hand count forms
    lasts (call_object count) forms = hand count forms
    lasts swap forms = swapped_on (Ends (suc n)) next place (suc n) s low_here stands code forms
    lasts dup_top forms = trade 1 2 forms
    lasts discard_top forms = trade 1 0 forms
    lasts (jump to) forms = leaps_on (Ends (suc n)) next place (suc n) s low_here stands code forms to
    lasts (jump_if_false to) forms = drops_on (Ends (suc n)) next place (suc n) s low_here stands code to forms
    lasts (jump_if_false_or_pop to) forms = keeps_on (Ends (suc n)) next place (suc n) s low_here stands code to forms
    lasts (jump_if_true_or_pop to) forms = keeps_on (Ends (suc n)) next place (suc n) s low_here stands code to forms
    lasts push_with forms = with_on Ends next place s n stands forms
    lasts pop_frame forms = pop_frame_on Ends next place s forms n s.frames stands
    lasts (push_loop flags) forms = loop_on Ends next place s code flags n stands forms
    lasts (iterate to) forms = iterates_on (Ends (suc n)) next place (suc n) s low_here stands code to forms
    lasts push_did_not_iterate forms = asks_on (Ends (suc n)) next place (suc n) s low_here stands code forms
    lasts pop_loop_frame forms = pop_loop_on Ends next place s forms n s.frames stands
    lasts push_auto_escape forms = opens_escape (Ends (suc n)) next place (suc n) s low_here stands forms
    lasts pop_auto_escape forms = escape_on (Ends (suc n)) next place (suc n) s low_here stands forms
    lasts (begin_capture keep) forms = falling_on (Ends (suc n)) next place (suc n) (with_capture (whole s forms)) (with_capture (apart s forms)) (refl, stands)
    lasts end_capture forms = capture_on (Ends (suc n)) next place (suc n) s low_here stands forms
    lasts fast_super forms = give [] forms
    lasts fast_recurse forms = trade 1 0 forms
    lasts (call_block name) forms = give [] forms
    lasts load_blocks forms = trade 1 0 forms
    lasts (include ignore_missing) forms = trade 1 0 forms
    lasts export_locals forms = exports_on (Ends (suc n)) next place (suc n) s low_here stands code forms
    lasts (enclose name) forms = give [] forms
    lasts get_closure forms = give (closure_form ∷ []) forms
    lasts (build_macro name offset flags) forms = makes_apart (Ends (suc n)) next place (suc n) s low_here stands code offset (texts_loaded (code_before code place)) forms
    lasts return forms = λ h. absurd (not_over (whole s forms) n stands (tested (ContinuesOver (Ends (suc n)) next place (suc n)) (is_over (whole s forms)) (Some ending) h).0)
