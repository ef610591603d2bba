-- A reached instruction that opens and closes nothing comes to what follows it, or to a fault.
use Rattle.std.proofs.Common.{◌≡◌, ℕ, suc, ◌+◌, ◌*◌, ◌≤◌, Bool, true, false, cond, List, [], ◌∷◌, ◌++◌, length, map, replicate, Option, None, Some, Ok, slice_get, refl, sym, ap, subst, ◌∙◌, append_assoc, arith}
use Rattle.std.specs.Prelude.{IsSome, ◌&&◌, option_map, option_and_then}
use Rattle.template_values_model.specs.Val as values
use Rattle.template_values_model.specs.Val.{Val}
use Rattle.template_values_operators.specs.Kinds as kinds
use Rattle.template_values_operators.specs.Kinds.{list_made}
use Rattle.template_values_operators.specs.Slices.{slice_of}
use Rattle.template_compiler_tree.specs.declared.operators.BinOpKind.{BinOpKind}
use Rattle.template_compiler_process.specs.Process as events
use Rattle.template_compiler_process.specs.Process.{Counts, Ask, asks, stuck, on_done, on_value, on_truth, on_items, on_all, on_closure}
use Rattle.template_compiler_walk.specs.Containers.{tuple_made, map_made, kwargs_made}
use Rattle.template_compiler_walk.specs.Operators.{operated, compared, inverted, negated}
use Rattle.template_compiler_code.specs.Code.{Operand, single, counted, counting, closure, Code, emit_raw, emit, store_local, lookup, load_const, get_attr, set_attr, get_item, slice, build_map, build_kwargs, merge_kwargs, build_list, build_tuple, unpack_list, unpack_lists, operate, negate, invert, is_undefined, compare_and_preserve, apply_filter, perform_test, call_function, call_method, call_object, swap, dup_top, discard_top, jump, jump_if_false, jump_if_false_or_pop, jump_if_true_or_pop, push_with, pop_frame, push_loop, iterate, push_did_not_iterate, pop_loop_frame, push_auto_escape, pop_auto_escape, begin_capture, end_capture, return, fast_super, fast_recurse, call_block, load_blocks, include, export_locals, enclose, get_closure, build_macro}
use Rattle.template_compiler_code.specs.Counting as counts
use Rattle.template_compiler_code.specs.Steps as table
use Rattle.template_compiler_code.specs.Steps.{on_taken, is_addition, paired, deed, exec}
use Rattle.template_compiler_code_shapes.specs.declared.outline.Opened.{Opened}
use Rattle.template_compiler_code_shapes.specs.Shapes as shapes
use Rattle.template_compiler_code_shapes.specs.Shapes.{Form, single_form, counted_form, counting_form, closure_form, form_of, Shape, body_of, floor_of, lowered, taken, handed, closure_taken}
use Rattle.template_compiler_code_shapes.specs.Effects.{Effect, falling, traded, made, may_lead, may_jump, jumping, code_before, loads_one, adds, ends_capture, texts_loaded, making, effect_of}
use Rattle.template_compiler_code_shapes.specs.Streams.{Reached, falls_to, jumps_to}
use Rattle.template_machine_meaning.specs.World.{World, value_named, depth_of}
use Rattle.template_machine_meaning.specs.Records.{known_of}
use Rattle.template_machine_meaning.specs.Undefined.{forbids_truth, forbids_operator, forbids_link, forbids_slicing}
use Rattle.template_machine_meaning.specs.Replies.{guarded, kinded}
use Rattle.template_machine_meaning.specs.Functions.{filter_named, test_named, invokes, first_method, first_called}
use Rattle.template_machine_meaning.specs.Spreads.{merged_keywords}
use Rattle.template_machine_meaning.specs.Keys.{standing, Head}
use Rattle.template_machine_meaning.specs.Blocks.{is_among}
use Rattle.template_machine_meaning.specs.Surroundings.{Programs, attribute_given, item_given}
use Rattle.template_machine_meaning.proofs.Keeping.{IsFramed}
use Rattle.template_machine_codes.specs.Streams.{Codes, IsBodyReached}
use Rattle.template_machine_codes.proofs.Sound.{Sound, Held, held_itself}
use Rattle.template_machine_codes.proofs.Within.{AllReach, settles_block, settles_super_block, settles_recurse, settles_load, settles_include}
use Rattle.template_machine_codes.proofs.Coming.{Comes, comes_then}
use Rattle.template_machine_codes.proofs.Answering as answers
use Rattle.template_machine_codes.proofs.Taking as takes
use Rattle.template_machine_codes.proofs.Taking.{over, some_mapped, some_bound, some_tested}

-- the forms of items on top of operands
forms_over : (vs : List Val) (operands : List Operand) → map form_of (map single vs ++ operands) ≡ replicate (length vs) single_form ++ map form_of operands
forms_over [] operands = refl
forms_over (v ∷ vs) operands = ap (λ (forms : List Form). single_form ∷ forms) (forms_over vs operands)

-- an instruction that opens and closes nothing, and asks no loop
abbrev pub IsPlain : Code → Type 0
IsPlain push_with = ⊥
IsPlain pop_frame = ⊥
IsPlain (push_loop flags) = ⊥
IsPlain (iterate to) = ⊥
IsPlain push_did_not_iterate = ⊥
IsPlain pop_loop_frame = ⊥
IsPlain push_auto_escape = ⊥
IsPlain pop_auto_escape = ⊥
IsPlain (begin_capture keep) = ⊥
IsPlain end_capture = ⊥
IsPlain return = ⊥
IsPlain _ = Unit {0}

module _ (names : List (List ℕ)) (codes : Codes) (s : Programs) (depth : ℕ) (deeper : AllReach names codes s depth)
    (lists : (name : List ℕ) (h : Head) → s.around.head (standing name) ≡ Some h → is_among name names ≡ true)
    (keeps : Option (List Val) → World → Type 0) (so : (v : World) → Sound codes v → keeps None v) (code : List Code) (under : List Form) (place : ℕ) (shape : Shape) (low : length under ≤ (floor_of shape.frames).operands)
    (w : World) (sound : Sound codes w) (framed : IsFramed w) (deep : depth ≤ depth_of w) where
  abbrev at : List Operand → Shape
  at operands = over under shape operands

  abbrev HeldSo : {O : Type 0} → O → World → Type 0
  HeldSo o v = Held names codes w v

  abbrev Runs : ℕ → List Operand → World → Type 0
  Runs to operands v = Comes s v keeps (λ m. exec code m to operands)

  -- what an instruction takes that trades so many values, and where it leads
  module _ (c : Code) (there : slice_get code place ≡ Some c) (operands : List Operand) (r : Reached code place (at operands)) (some : IsSome (effect_of code place c (at operands))) where
    abbrev effect : Option Effect
    effect = effect_of code place c (at operands)

    falls : (t : Shape) → effect ≡ Some (falling t) → Reached code (suc place) t
    falls t is = falls_to r there is refl

    trades : (n m : ℕ) → effect ≡ traded n m (at operands)
        → (below : Shape) × (takes.down under shape low n (map form_of operands ++ under) ≡ Some below) × ((t : Shape) → below ≡ t → Reached code (suc place) (shapes.given m t))
    trades n m same =
        let t = some_mapped (λ (below : Shape). falling (shapes.given m below)) (taken n (at operands)) (subst (λ (o : Option Effect). IsSome o) same some) in
        (t.0, t.1, λ u left. falls (shapes.given m u) (same ∙ ap (λ (o : Option Shape). option_map (λ (below : Shape). falling (shapes.given m below)) o) t.1 ∙ ap (λ (below : Shape). Some (falling (shapes.given m below))) left))

    one_of : (m : ℕ) → effect ≡ traded 1 m (at operands) → (v : Val) × (rest : List Operand) × (operands ≡ single v ∷ rest) × Reached code (suc place) (shapes.given m (at rest))
    one_of m same =
        let t = trades 1 m same in
        let x = takes.one under shape low operands t.0 t.1 in
        (x.top, x.rest, x.are, t.2 (at x.rest) x.left)

    two_of : (m : ℕ) → effect ≡ traded 2 m (at operands)
        → (v : Val) × (u : Val) × (rest : List Operand) × (operands ≡ single v ∷ single u ∷ rest) × Reached code (suc place) (shapes.given m (at rest))
    two_of m same =
        let t = trades 2 m same in
        let x = takes.two under shape low operands t.0 t.1 in
        (x.top, x.next, x.rest, x.are, t.2 (at x.rest) x.left)

    four_of : effect ≡ traded 4 1 (at operands)
        → (a : Val) × (b : Val) × (d : Val) × (v : Val) × (rest : List Operand) × (operands ≡ single a ∷ single b ∷ single d ∷ single v ∷ rest)
        × Reached code (suc place) (shapes.given 1 (at rest))
    four_of same =
        let t = trades 4 1 same in
        let x = takes.four under shape low operands t.0 t.1 in
        (x.top, x.next, x.third, x.fourth, x.rest, x.are, t.2 (at x.rest) x.left)

    -- so many values, or those of a counted run
    abbrev Given : Form → Option (List Val × List Operand) → Type 0
    Given form o = (vs : List Val) × (rest : List Operand) × (o ≡ Some (vs, rest)) × Reached code (suc place) (shapes.topped form (at rest))

    makes : (form : Form) (o : Option Shape) → effect ≡ made form o → (below : Shape) × (o ≡ Some below) × ((t : Shape) → below ≡ t → Reached code (suc place) (shapes.topped form t))
    makes form o same =
        let t = some_mapped (λ (below : Shape). falling (shapes.topped form below)) o (subst (λ (q : Option Effect). IsSome q) same some) in
        (t.0, t.1, λ u left. falls (shapes.topped form u) (same ∙ ap (λ (q : Option Shape). option_map (λ (below : Shape). falling (shapes.topped form below)) q) t.1 ∙ ap (λ (below : Shape). Some (falling (shapes.topped form below))) left))

    many_of : (form : Form) (n : ℕ) → effect ≡ made form (taken n (at operands)) → Given form (table.taken n operands [])
    many_of form n same =
        let t = makes form (taken n (at operands)) same in
        let x = takes.many under shape low n operands [] t.0 t.1 in
        (x.values, x.rest, x.are, t.2 (at x.rest) x.left)

    handed_of : (count : Option ℕ) → effect ≡ made single_form (handed count (at operands)) → Given single_form (table.handed count operands)
    handed_of count same =
        let t = makes single_form (handed count (at operands)) same in
        let x = takes.given under shape low count operands t.0 t.1 in
        (x.values, x.rest, x.are, t.2 (at x.rest) x.left)

  -- what follows comes to its end, behind the instruction and where it jumps
  module _ (onward : (operands : List Operand) → Reached code (suc place) (at operands) → (v : World) → Held names codes w v → Runs (suc place) operands v)
      (leap : (to : ℕ) → may_jump code place shape to ≡ true → (operands : List Operand) → Reached code to (at operands) → (v : World) → Held names codes w v → Runs to operands v) where
    abbrev Acts : Counts → Code → List Operand → Type 0
    Acts before c operands = Comes s w keeps (λ m. deed (exec code m) before c place operands)

    now : (operands : List Operand) → Reached code (suc place) (at operands) → Runs (suc place) operands w
    now operands r = onward operands r w (held_itself names codes w sound)

    does : (e : Ask) (rest : List Operand) → Reached code (suc place) (at rest) → answers.Does names codes s w sound e → Comes s w keeps (λ m. asks e (on_done (exec code m (suc place) rest)))
    does e rest r h = comes_then codes s w HeldSo keeps (λ m go. asks e (on_done (go tt))) (λ o m. exec code m (suc place) rest) so h (λ o v kept. onward rest r v kept)

    gives : (e : Ask) (rest : List Operand) → Reached code (suc place) (shapes.topped single_form (at rest)) → answers.Gives names codes s w sound e
        → Comes s w keeps (λ m. table.giving (exec code m) place rest e)
    gives e rest r h = comes_then codes s w HeldSo keeps (λ m go. asks e (on_value go)) (λ u m. exec code m (suc place) (single u ∷ rest)) so h (λ u v kept. onward (single u ∷ rest) r v kept)

    -- of several values a value is made
    gathers : (e : List Val → Ask) (o : Option (List Val × List Operand)) → (vs : List Val) (rest : List Operand) → o ≡ Some (vs, rest) → Reached code (suc place) (shapes.topped single_form (at rest))
        → ((us : List Val) → answers.Gives names codes s w sound (e us)) → Comes s w keeps (λ m. on_taken o (λ us left. table.giving (exec code m) place left (e us)))
    gathers e o vs rest are r h =
        subst (λ (q : Option (List Val × List Operand)). Comes s w keeps (λ m. on_taken q (λ us left. table.giving (exec code m) place left (e us)))) (sym are) (gives (e vs) rest r (h vs))

    -- a test of a value leads one way or the other
    decides : (v : Val) (to from : ℕ) (first other : List Operand) → ((x : World) → Held names codes w x → Runs to first x) → ((x : World) → Held names codes w x → Runs from other x)
        → Comes s w keeps (λ m. asks (events.truth_of v) (on_truth (exec code m to first) (exec code m from other)))
    decides v to from first other is not =
        comes_then codes s w HeldSo keeps (λ m go. asks (events.truth_of v) (on_truth (go true) (go false))) (λ b m. cond b (exec code m to first) (exec code m from other)) so (answers.truth_decides names codes s w sound v) by_truth
      where
        by_truth : (b : Bool) (x : World) → Held names codes w x → Comes s x keeps (λ m. cond b (exec code m to first) (exec code m from other))
        by_truth true x kept = is x kept
        by_truth false x kept = not x kept

    -- conditional jumps
    branches : (c : Code) → slice_get code place ≡ Some c → (to : ℕ) (kept : Shape → Shape) (operands : List Operand) → Reached code place (at operands)
        → effect_of code place c (at operands) ≡ option_and_then (λ below. jumping code place (Some below) to (kept below)) (taken 1 (at operands))
        → ((rest : List Operand) → (kept (at rest)).frames ≡ shape.frames) → IsSome (effect_of code place c (at operands))
        → (v : Val) × (rest : List Operand) × (operands ≡ single v ∷ rest) × Reached code (suc place) (at rest) × Reached code to (kept (at rest)) × (may_jump code place shape to ≡ true)
    branches c there to kept operands r same frames some =
        let go : Shape → Option Effect = λ below. jumping code place (Some below) to (kept below) in
        let t = some_bound go (taken 1 (at operands)) (subst (λ (o : Option Effect). IsSome o) same some) in
        let x = takes.one under shape low operands t.0 t.1 in
        let rest : Shape = at x.rest in
        let on : Effect = record { falls = Some rest; jumps = Some (to, kept rest); enters = None } in
        let may = some_tested (may_jump code place (kept rest) to) (Some on) (subst (λ (below : Shape). IsSome (go below)) x.left t.2) in
        let is : effect_of code place c (at operands) ≡ Some on =
        same ∙ ap (λ (o : Option Shape). option_and_then go o) t.1 ∙ ap go x.left ∙ ap (λ b. cond b (Some on) None) may.0 in
        let here : may_jump code place shape to ≡ true = subst (λ (fs : List Opened). may_jump code place (record shape { frames = fs }) to ≡ true) (frames x.rest) may.0 in
        (x.top, x.rest, x.are, falls_to r there is refl, jumps_to r there is refl, here)

    -- a macro is made
    making_of : (c : Code) → slice_get code place ≡ Some c → (offset : ℕ) (o : Option ℕ) (operands : List Operand) → Reached code place (at operands)
        → effect_of code place c (at operands) ≡ making code offset o (at operands) → IsSome (making code offset o (at operands))
        → (names : Val) × (closing : Option ℕ) × (rest : List Operand) × (operands ≡ single names ∷ closure closing ∷ rest) × Reached code (suc place) (shapes.topped single_form (at rest))
    making_of c there offset None operands r same some = absurd (cc)
    making_of c there offset (Some n) operands r same some =
        let effect : Shape → Effect = λ below. record { falls = Some (shapes.given 1 below); jumps = None; enters = Some (offset, body_of n) } in
        let may = some_tested (may_lead code offset) (option_map effect (closure_taken (at operands) (at operands).operands)) some in
        let t = some_mapped effect (closure_taken (at operands) (at operands).operands) may.1 in
        let x = takes.enclosed under shape low operands operands t.0 t.1 in
        let is : effect_of code place c (at operands) ≡ Some (effect (at x.rest)) =
        same ∙ ap (λ b. cond b (option_map effect (closure_taken (at operands) (at operands).operands)) None) may.0
        ∙ ap (λ (o : Option Shape). option_map effect o) t.1 ∙ ap (λ (below : Shape). Some (effect below)) x.left in
        (x.top, x.closing, x.rest, x.are, falls_to r there is refl)

    -- an operation on two values, or something is added to a run
    module _ (c : Code) (there : slice_get code place ≡ Some c) (operands : List Operand) (r : Reached code place (at operands)) where
      left_with : (f : Shape → Shape) (rest : List Operand) → effect_of code place c (at operands) ≡ option_map (λ below. falling (f below)) (lowered shape (map form_of rest ++ under))
          → IsSome (option_map (λ below. falling (f below)) (lowered shape (map form_of rest ++ under))) → Reached code (suc place) (f (at rest))
      left_with f rest same some =
          let t = some_mapped (λ (below : Shape). falling (f below)) (lowered shape (map form_of rest ++ under)) some in
          let left : t.0 ≡ at rest = takes.lowered_is under shape low rest t.0 t.1 in
          falls_to r there (same ∙ ap (λ (o : Option Shape). option_map (λ (below : Shape). falling (f below)) o) t.1 ∙ ap (λ (below : Shape). Some (falling (f below))) left) refl

      adds_one : (form : Form) (b : Bool) (rest : List Operand) → effect_of code place c (at operands) ≡ cond b (made form (lowered shape (map form_of rest ++ under))) None
          → IsSome (cond b (made form (lowered shape (map form_of rest ++ under))) None) → (b ≡ true) × Reached code (suc place) (shapes.topped form (at rest))
      adds_one form b rest same some =
          let may = some_tested b (made form (lowered shape (map form_of rest ++ under))) some in
          (may.0, left_with (shapes.topped form) rest (same ∙ ap (λ (d : Bool). cond d (made form (lowered shape (map form_of rest ++ under))) None) may.0) may.1)

    operates : (before : Counts) (op : BinOpKind) → slice_get code place ≡ Some (operate op) → (operands : List Operand) → Reached code place (at operands)
        → IsSome (effect_of code place (operate op) (at operands)) → Acts before (operate op) operands
    operates before op there [] r some = absurd (takes.no_operation under shape low (is_addition op) [] under (omega arith) (omega arith) some)
    operates before op there (o ∷ []) r some = absurd (takes.no_operation under shape low (is_addition op) (o ∷ []) (form_of o ∷ under) (omega arith) (omega arith) some)
    operates before op there (single v ∷ single u ∷ rest) r some =
        gives (events.operate op u v) rest (left_with (operate op) there (single v ∷ single u ∷ rest) r (shapes.given 1) rest refl some)
        (answers.given names codes s w sound (events.operate op u v) (guarded (forbids_operator s.around.undefined op u v) (kinded (operated (known_of w) op u v))) (λ n. refl))
    operates before op there (single v ∷ counting us u ∷ rest) r some =
        let x = adds_one (operate op) there (single v ∷ counting us u ∷ rest) r counted_form (is_addition op) rest refl some in
        subst (λ (b : Bool). Comes s w keeps (λ m. cond b (exec code m (suc place) (counted (us ++ u ∷ []) ∷ rest)) stuck)) (sym x.0) (now (counted (us ++ u ∷ []) ∷ rest) x.1)
    operates before op there (single v ∷ counted us ∷ rest) r some = absurd (cc)
    operates before op there (single v ∷ closure d ∷ rest) r some = absurd (cc)
    operates before op there (counted vs ∷ o ∷ rest) r some = absurd (cc)
    operates before op there (counting vs v ∷ o ∷ rest) r some = absurd (cc)
    operates before op there (closure d ∷ o ∷ rest) r some = absurd (cc)

    swaps : (before : Counts) → slice_get code place ≡ Some swap → (operands : List Operand) → Reached code place (at operands)
        → IsSome (effect_of code place swap (at operands)) → Acts before swap operands
    swaps before there [] r some = absurd (takes.no_swap under shape low code place [] under (omega arith) (omega arith) some)
    swaps before there (o ∷ []) r some = absurd (takes.no_swap under shape low code place (o ∷ []) (form_of o ∷ under) (omega arith) (omega arith) some)
    swaps before there (single v ∷ single u ∷ rest) r some =
        now (single u ∷ single v ∷ rest) (left_with swap there (single v ∷ single u ∷ rest) r (shapes.given 2) rest refl some)
    swaps before there (single v ∷ counted us ∷ rest) r some =
        let x = adds_one swap there (single v ∷ counted us ∷ rest) r counting_form (loads_one (slice_get code (suc place)) && adds (slice_get code (suc (suc place)))) rest refl some in
        now (counting us v ∷ rest) x.1
    swaps before there (single v ∷ counting us u ∷ rest) r some = absurd (cc)
    swaps before there (single v ∷ closure d ∷ rest) r some = absurd (cc)
    swaps before there (counted vs ∷ o ∷ rest) r some = absurd (cc)
    swaps before there (counting vs v ∷ o ∷ rest) r some = absurd (cc)
    swaps before there (closure d ∷ o ∷ rest) r some = absurd (cc)

    -- each instruction
    pub plain : (before : Counts) → ((name : List ℕ) (offset flags : ℕ) → slice_get code place ≡ Some (build_macro name offset flags) → IsBodyReached codes w.here before.macros) → (c : Code) → IsPlain c → slice_get code place ≡ Some c → (operands : List Operand) → Reached code place (at operands)
        → IsSome (effect_of code place c (at operands)) → Acts before c operands
    plain before made (emit_raw text) p there operands r some =
        does (events.write_raw text) operands (falls (emit_raw text) there operands r some (at operands) refl) (answers.raw_written names codes s w sound text)
    plain before made emit p there operands r some =
        let x = one_of emit there operands r some 0 refl in
        subst (λ (os : List Operand). Acts before emit os) (sym x.2) (does (events.write_value x.0) x.1 x.3 (answers.value_written names codes s w sound x.0))
    plain before made (store_local name) p there operands r some =
        let x = one_of (store_local name) there operands r some 0 refl in
        subst (λ (os : List Operand). Acts before (store_local name) os) (sym x.2) (does (events.store name x.0) x.1 x.3 (answers.stored names codes s w sound framed name x.0))
    plain before made (lookup name) p there operands r some =
        gives (events.look_up name) operands (falls (lookup name) there operands r some (shapes.given 1 (at operands)) refl) (answers.given names codes s w sound (events.look_up name) (Ok (value_named name w)) (λ n. refl))
    plain before made (load_const v) p there operands r some = now (single v ∷ operands) (falls (load_const v) there operands r some (shapes.given 1 (at operands)) refl)
    plain before made (get_attr name) p there operands r some =
        let x = one_of (get_attr name) there operands r some 1 refl in
        subst (λ (os : List Operand). Acts before (get_attr name) os) (sym x.2)
        (gives (events.get_attribute x.0 name) x.1 x.3 (answers.given names codes s w sound (events.get_attribute x.0 name) (attribute_given s.around.undefined (known_of w) x.0 name) (λ n. refl)))
    plain before made (set_attr name) p there operands r some =
        let x = two_of (set_attr name) there operands r some 0 refl in
        subst (λ (os : List Operand). Acts before (set_attr name) os) (sym x.3) (does (events.set_attribute name x.1 x.0) x.2 x.4 (answers.attribute_set names codes s w sound name x.1 x.0))
    plain before made get_item p there operands r some =
        let x = two_of get_item there operands r some 1 refl in
        subst (λ (os : List Operand). Acts before get_item os) (sym x.3)
        (gives (events.get_item x.1 x.0) x.2 x.4 (answers.given names codes s w sound (events.get_item x.1 x.0) (item_given s.around.undefined (known_of w) x.1 x.0) (λ n. refl)))
    plain before made slice p there operands r some =
        let x = four_of slice there operands r some refl in
        subst (λ (os : List Operand). Acts before slice os) (sym x.5)
        (gives (events.get_slice x.3 x.2 x.1 x.0) x.4 x.6
        (answers.given names codes s w sound (events.get_slice x.3 x.2 x.1 x.0) (guarded (forbids_slicing s.around.undefined x.3) (kinded (slice_of x.3 x.2 x.1 x.0))) (λ n. refl)))
    plain before made (build_map n) p there operands r some =
        let x = many_of (build_map n) there operands r some single_form (n * 2) refl in
        gathers (λ us. events.build_map (paired us)) (table.taken (n * 2) operands []) x.0 x.1 x.2 x.3 (λ us. answers.given names codes s w sound (events.build_map (paired us)) (kinded (map_made (paired us))) (λ k. refl))
    plain before made (build_kwargs n) p there operands r some =
        let x = many_of (build_kwargs n) there operands r some single_form (n * 2) refl in
        gathers (λ us. events.build_kwargs (paired us)) (table.taken (n * 2) operands []) x.0 x.1 x.2 x.3 (λ us. answers.given names codes s w sound (events.build_kwargs (paired us)) (kinded (kwargs_made (paired us))) (λ k. refl))
    plain before made (merge_kwargs n) p there operands r some =
        let x = many_of (merge_kwargs n) there operands r some single_form n refl in
        gathers (λ us. events.merge_kwargs us) (table.taken n operands []) x.0 x.1 x.2 x.3 (λ us. answers.given names codes s w sound (events.merge_kwargs us) (merged_keywords s.around.undefined (known_of w) us) (λ k. refl))
    plain before made (build_list count) p there operands r some =
        let x = handed_of (build_list count) there operands r some count refl in
        gathers (λ us. events.build_list us) (table.handed count operands) x.0 x.1 x.2 x.3 (λ us. answers.given names codes s w sound (events.build_list us) (kinded (list_made us)) (λ k. refl))
    plain before made (build_tuple count) p there operands r some =
        let x = handed_of (build_tuple count) there operands r some count refl in
        gathers (λ us. events.build_tuple us) (table.handed count operands) x.0 x.1 x.2 x.3 (λ us. answers.given names codes s w sound (events.build_tuple us) (kinded (tuple_made us)) (λ k. refl))
    plain before made (unpack_list n) p there operands r some =
        let x = one_of (unpack_list n) there operands r some n refl in
        subst (λ (os : List Operand). Acts before (unpack_list n) os) (sym x.2)
        (comes_then codes s w (λ vs y. Held names codes w y × (length vs ≡ n)) keeps (λ m go. asks (events.unpack n x.0) (on_items n go)) (λ vs m. exec code m (suc place) (map single vs ++ x.1)) so (answers.unpack_gives names codes s w sound n x.0)
        (λ vs v h.
        let forms : replicate n single_form ++ (map form_of x.1 ++ under) ≡ map form_of (map single vs ++ x.1) ++ under =
        sym (ap (λ fs. fs ++ under) (forms_over vs x.1 ∙ ap (λ k. replicate k single_form ++ map form_of x.1) h.1) ∙ append_assoc (replicate n single_form) (map form_of x.1) under) in
        onward (map single vs ++ x.1) (subst (λ fs. Reached code (suc place) (record shape { operands = fs })) forms x.3) v h.0))
    plain before made (unpack_lists n) p there operands r some =
        let x = many_of (unpack_lists n) there operands r some counted_form n refl in
        subst (λ (q : Option (List Val × List Operand)). Comes s w keeps (λ m. on_taken q (λ us left. asks (events.spread us) (on_all (λ all. exec code m (suc place) (counted all ∷ left)))))) (sym x.2)
        (comes_then codes s w HeldSo keeps (λ m go. asks (events.spread x.0) (on_all go)) (λ all m. exec code m (suc place) (counted all ∷ x.1)) so (answers.spread_gives names codes s w sound x.0)
        (λ all v kept. onward (counted all ∷ x.1) x.3 v kept))
    plain before made (operate op) p there operands r some = operates before op there operands r some
    plain before made negate p there operands r some =
        let x = one_of negate there operands r some 1 refl in
        subst (λ (os : List Operand). Acts before negate os) (sym x.2) (gives (events.negate x.0) x.1 x.3 (answers.given names codes s w sound (events.negate x.0) (kinded (negated x.0)) (λ n. refl)))
    plain before made invert p there operands r some =
        let x = one_of invert there operands r some 1 refl in
        subst (λ (os : List Operand). Acts before invert os) (sym x.2)
        (gives (events.invert x.0) x.1 x.3 (answers.given names codes s w sound (events.invert x.0) (guarded (forbids_truth s.around.undefined x.0) (kinded (inverted (known_of w) x.0))) (λ n. refl)))
    plain before made is_undefined p there operands r some =
        let x = one_of is_undefined there operands r some 1 refl in
        subst (λ (os : List Operand). Acts before is_undefined os) (sym x.2) (now (single (values.truth (kinds.is_undefined x.0)) ∷ x.1) x.3)
    plain before made (compare_and_preserve op) p there operands r some =
        let x = two_of (compare_and_preserve op) there operands r some 2 refl in
        subst (λ (os : List Operand). Acts before (compare_and_preserve op) os) (sym x.3)
        (gives (events.compare op x.1 x.0) (single x.0 ∷ x.2) x.4
        (answers.given names codes s w sound (events.compare op x.1 x.0) (guarded (forbids_link s.around.undefined op x.1 x.0) (kinded (compared (known_of w) op x.1 x.0))) (λ n. refl)))
    plain before made (apply_filter name count number) p there operands r some =
        let x = handed_of (apply_filter name count number) there operands r some count refl in
        gathers (λ us. events.apply_filter name us) (table.handed count operands) x.0 x.1 x.2 x.3 (λ us. answers.called names codes s w sound depth deeper deep (events.apply_filter name us) (invokes (filter_named name) us) refl)
    plain before made (perform_test name count number) p there operands r some =
        let x = handed_of (perform_test name count number) there operands r some count refl in
        gathers (λ us. events.perform_test name us) (table.handed count operands) x.0 x.1 x.2 x.3 (λ us. answers.called names codes s w sound depth deeper deep (events.perform_test name us) (invokes (test_named name) us) refl)
    plain before made (call_function name count) p there operands r some =
        let x = handed_of (call_function name count) there operands r some count refl in
        gathers (λ us. events.call_function name us) (table.handed count operands) x.0 x.1 x.2 x.3 (λ us. answers.function_called names codes s w sound depth deeper deep name us)
    plain before made (call_method name count) p there operands r some =
        let x = handed_of (call_method name count) there operands r some count refl in
        gathers (λ us. events.call_method name us) (table.handed count operands) x.0 x.1 x.2 x.3 (λ us. answers.called names codes s w sound depth deeper deep (events.call_method name us) (first_method w.globals (known_of w) name us) refl)
    plain before made (call_object count) p there operands r some =
        let x = handed_of (call_object count) there operands r some count refl in
        gathers (λ us. events.call_value us) (table.handed count operands) x.0 x.1 x.2 x.3 (λ us. answers.called names codes s w sound depth deeper deep (events.call_value us) (first_called w.globals us) refl)
    plain before made swap p there operands r some = swaps before there operands r some
    plain before made dup_top p there operands r some =
        let x = one_of dup_top there operands r some 2 refl in
        subst (λ (os : List Operand). Acts before dup_top os) (sym x.2) (now (single x.0 ∷ single x.0 ∷ x.1) x.3)
    plain before made discard_top p there operands r some =
        let x = one_of discard_top there operands r some 0 refl in
        subst (λ (os : List Operand). Acts before discard_top os) (sym x.2) (now x.1 x.3)
    plain before made (jump to) p there operands r some =
        let on : Effect = record { falls = None; jumps = Some (to, at operands); enters = None } in
        let may = some_tested (may_jump code place (at operands) to) (Some on) some in
        leap to may.0 operands (jumps_to r there (ap (λ b. cond b (Some on) None) may.0) refl) w (held_itself names codes w sound)
    plain before made (jump_if_false to) p there operands r some =
        let x = branches (jump_if_false to) there to (λ below. below) operands r refl (λ rest. refl) some in
        subst (λ (os : List Operand). Acts before (jump_if_false to) os) (sym x.2) (decides x.0 (suc place) to x.1 x.1 (λ v kept. onward x.1 x.3 v kept) (λ v kept. leap to x.5 x.1 x.4 v kept))
    plain before made (jump_if_false_or_pop to) p there operands r some =
        let x = branches (jump_if_false_or_pop to) there to (λ below. at operands) operands r refl (λ rest. refl) some in
        let there_too : Reached code to (at (single x.0 ∷ x.1)) = subst (λ (os : List Operand). Reached code to (at os)) x.2 x.4 in
        subst (λ (os : List Operand). Acts before (jump_if_false_or_pop to) os) (sym x.2)
        (decides x.0 (suc place) to x.1 (single x.0 ∷ x.1) (λ v kept. onward x.1 x.3 v kept) (λ v kept. leap to x.5 (single x.0 ∷ x.1) there_too v kept))
    plain before made (jump_if_true_or_pop to) p there operands r some =
        let x = branches (jump_if_true_or_pop to) there to (λ below. at operands) operands r refl (λ rest. refl) some in
        let there_too : Reached code to (at (single x.0 ∷ x.1)) = subst (λ (os : List Operand). Reached code to (at os)) x.2 x.4 in
        subst (λ (os : List Operand). Acts before (jump_if_true_or_pop to) os) (sym x.2)
        (decides x.0 to (suc place) (single x.0 ∷ x.1) x.1 (λ v kept. leap to x.5 (single x.0 ∷ x.1) there_too v kept) (λ v kept. onward x.1 x.3 v kept))
    plain before made fast_super p there operands r some =
        does events.super_block operands (falls fast_super there operands r some (at operands) refl) (settles_super_block names codes s w sound depth deeper deep)
    plain before made fast_recurse p there operands r some =
        let x = one_of fast_recurse there operands r some 0 refl in
        subst (λ (os : List Operand). Acts before fast_recurse os) (sym x.2) (does (events.recurse x.0) x.1 x.3 (settles_recurse names codes s w sound depth deeper deep x.0))
    plain before made (call_block name) p there operands r some =
        does (events.call_block name) operands (falls (call_block name) there operands r some (at operands) refl) (settles_block names codes s w sound depth deeper deep name)
    plain before made load_blocks p there operands r some =
        let x = one_of load_blocks there operands r some 0 refl in
        subst (λ (os : List Operand). Acts before load_blocks os) (sym x.2) (does (events.load_blocks x.0) x.1 x.3 (settles_load names codes s w sound lists x.0))
    plain before made (include ignore_missing) p there operands r some =
        let x = one_of (include ignore_missing) there operands r some 0 refl in
        subst (λ (os : List Operand). Acts before (include ignore_missing) os) (sym x.2)
        (does (events.include ignore_missing x.0) x.1 x.3 (settles_include names codes s w sound depth deeper deep framed ignore_missing x.0))
    plain before made export_locals p there operands r some =
        let b : Bool = ends_capture (code_before code place) in
        let may = some_tested b (traded 1 1 (at operands)) some in
        let x = one_of export_locals there operands r some 1 (ap (λ d. cond d (traded 1 1 (at operands)) None) may.0) in
        subst (λ (os : List Operand). Acts before export_locals os) (sym x.2) (gives (events.export_locals x.0) x.1 x.3 (answers.exported names codes s w sound framed x.0))
    plain before made (enclose name) p there operands r some =
        does (events.enclose name) operands (falls (enclose name) there operands r some (at operands) refl) (answers.enclosed names codes s w sound framed name)
    plain before made get_closure p there operands r some =
        let reached : Reached code (suc place) (shapes.topped closure_form (at operands)) = falls get_closure there operands r some (shapes.topped closure_form (at operands)) refl in
        comes_then codes s w HeldSo keeps (λ m go. asks events.get_closure (on_closure go)) (λ c m. exec code m (suc place) (closure c ∷ operands)) so (answers.closure_got names codes s w sound framed)
        (λ c v kept. onward (closure c ∷ operands) reached v kept)
    plain before made (build_macro name offset flags) p there operands r some =
        let x = making_of (build_macro name offset flags) there offset (texts_loaded (code_before code place)) operands r refl some in
        let making : events.Making = counts.making name flags x.0 before in
        subst (λ (os : List Operand). Acts before (build_macro name offset flags) os) (sym x.3)
        (gives (events.build_macro making x.1) x.2 x.4 (answers.macro_built names codes s w sound making x.1 (made name offset flags there)))
    plain before made _ p there operands r some = absurd p
