-- Every run of verified streams ends: by the levels that are left, and by the names that were not loaded.
use Rattle.std.proofs.Common.{◌≡◌, ℕ, zero, suc, ◌+◌, ◌<◌, ◌≤◌, ◌⊎◌, inl, inr, ◌==◌, Bool, true, false, if◌then◌else◌, List, [], ◌∷◌, ◌++◌, drop, length, map, replicate, Option, None, Some, option_map, refl, sym, ap, subst, ◌∙◌, append_assoc, append-nil, arith}
use Rattle.std.proofs.lemmas.Bool.{eqb-true}
use Rattle.std.specs.Prelude.{IsSome, All}
use Rattle.std.specs.Option.{option_and_then}
use Rattle.template_values_errors.specs.declared.ErrorKind.TheVariants.{TemplateNotFound}
use Rattle.template_values_model.specs.Val.{Val}
use Rattle.template_compiler_process.specs.Process.{Process}
use Rattle.template_compiler_process.specs.Drive.{End, ends, faults, breaks}
use Rattle.template_compiler_process.specs.Trace.{Item, Run, run, behind, ended}
use Rattle.template_compiler_process.specs.Approximants.{IsFinished}
use Rattle.template_compiler_code.specs.Code.{Code, single}
use Rattle.template_compiler_code.specs.Counting.{MacroPlace, macro_at, rounds_at}
use Rattle.template_compiler_code.specs.Steps.{exec}
use Rattle.template_compiler_code_shapes.specs.declared.outline.Opened.{Opened}
use Rattle.template_compiler_code_shapes.specs.Shapes as shapes
use Rattle.template_compiler_code_shapes.specs.Shapes.{single_form, form_of, Shape, start}
use Rattle.template_compiler_code_shapes.specs.Streams.{Reached, IsGood, begins, end_of}
use Rattle.template_compiler_code_shapes.specs.declared.StreamKind.{StreamKind}
use Rattle.template_machine_meaning.specs.World.{Loop, Frame, Capture, Globals, World, first_world, loop_frame, depth_of}
use Rattle.template_machine_meaning.specs.Captures.{around_innermost}
use Rattle.template_machine_meaning.specs.Keys.{rendered, standing, Stream, own, Part, whole, body_of, rounds_of, Key, whole_of, Head, Around}
use Rattle.template_machine_meaning.specs.Plans.{ran, restarted, with_beneath, parent_run, went_on, followed}
use Rattle.template_machine_meaning.specs.Blocks.{is_among}
use Rattle.template_machine_meaning.specs.Surroundings.{Programs, runners, answer}
use Rattle.template_machine_meaning.specs.Laws.{MayBegin, MayGoRound, MayStart}
use Rattle.template_machine_meaning.proofs.Keeping.{Keeps, Ran, loops_of, met, unloaded, same_many, same_depth, IsFramed}
use Rattle.template_machine_meaning.proofs.Entering.{Finds, KeyEnds, Starts, Rounded}
use Rattle.template_machine_meaning.proofs.Ends.{found_parent}
use Rattle.template_machine_codes.specs.Streams.{Codes, body_run, part_run, programs_of, IsVerified, IsBodyReached, AreRoundsReached, in_rounds, IsLoopReached, IsPartReached}
use Rattle.template_machine_codes.specs.StreamLaws.{AreAllVerified, MayRun, EveryStreamEnds, Leaves, EveryStreamLeaves, EveryFirstRunEnds}
use Rattle.template_machine_codes.proofs.Coming.{Bounded, Finishes, Fails, Comes}
use Rattle.template_machine_codes.proofs.Fitting.{Away, nothing_away, Opens, none_open, round_open, never_closed, Fits, IsBase}
use Rattle.template_machine_codes.proofs.Sound.{Sound, sound_of, sound_left}
use Rattle.template_machine_codes.proofs.Settling.{KeyFaults, KeyComes}
use Rattle.template_machine_codes.proofs.Within.{LeavesSo, AllReach}
use Rattle.template_machine_codes.proofs.Running.{LeftAtEnd, runs_from}

-- behind what was left by a run whose template extends another
one_less : (captures : List Capture) (n : ℕ) → length captures ≡ suc n → length (around_innermost captures) ≡ n
one_less [] n e = absurd (omega (arith, e))
one_less (c ∷ captures) n e = omega (arith, e)

module _ (names : List (List ℕ)) (w v : World) (alone : w.parent ≡ None) (kept : Keeps names w v) where
  none_met : met w.parent ≡ 0
  none_met = ap met alone

  ran_alone : v.parent ≡ None → Ran names w v
  ran_alone none =
      let nothing : met v.parent ≡ 0 = ap met none in
      let captures : length v.captures ≡ length w.captures = omega (arith, none_met, nothing, kept.captures) in
      let loads : unloaded names v.loaded ≤ unloaded names w.loaded = omega (arith, none_met, nothing, kept.loads) in
      record { loops = kept.loops; captures = captures; loads = loads; added = kept.added }

  module _ (name : List ℕ) (some : v.parent ≡ Some name) where
    one_met : met v.parent ≡ 1
    one_met = ap met some

    fewer_left : unloaded names v.loaded < unloaded names w.loaded
    fewer_left = omega (arith, none_met, one_met, kept.loads)

    ran_on : (u : World) → Ran names (restarted name v) u → Ran names w u
    ran_on u k =
        let open_ones : length v.captures ≡ suc (length w.captures) = omega (arith, none_met, one_met, kept.captures) in
        let loads : unloaded names u.loaded ≤ unloaded names w.loaded = omega (arith, fewer_left, k.loads) in
        record {
          loops = k.loops ∙ kept.loops;
          captures = k.captures ∙ one_less v.captures (length w.captures) open_ones;
          loads = loads;
          added = (k.added.0 ++ kept.added.0, k.added.1 ∙ ap (λ (xs : List (List ℕ)). k.added.0 ++ xs) kept.added.1 ∙ sym (append_assoc k.added.0 kept.added.0 w.loaded));
        }

    framed_there : IsFramed w → IsFramed (restarted name v)
    framed_there framed =
        let many : length v.frames ≡ length w.frames = same_many v.frames w.frames kept.loops in
        let floor : v.floor ≤ length v.frames = omega (arith, many, kept.floor, framed.floor) in
        record { loop = framed.loop; others = framed.others; loops = kept.loops ∙ framed.loops; floor = floor }

-- a run is what it is behind its items
tidy : (items : List Item) (e : End) (v : World) → (record { items = items; end = e; after = v }) ≡ behind items (ended e v)
tidy items e v = λ i. record { items = sym (append-nil items) i; end = e; after = v }

-- a run of its own begins over the world in which it begins
own_base : (w : World) → IsFramed w → IsBase nothing_away w
own_base w framed =
    let floored : w.floor ≤ 0 + length w.frames = omega (arith, framed.floor) in
    record { framed = inl (framed.loop, framed.others, framed.loops); floored = floored }

fits_itself : (names : List (List ℕ)) (codes : Codes) (w : World) → Sound codes w → Fits names codes nothing_away w [] 0 0 w
fits_itself names codes w sound =
    let saved : length w.saved + 0 ≡ 0 + length w.saved = omega arith in
    let caught : length w.captures + 0 + met w.parent ≡ 0 + length w.captures + met w.parent = omega arith in
    let meets : met w.parent ≤ met w.parent = omega arith in
    let loads : unloaded names w.loaded + met w.parent ≤ unloaded names w.loaded + met w.parent = omega arith in
    let low : 0 ≤ 0 = omega arith in
    record { frames = refl; outer = refl; floor = refl; saved = saved; caught = caught; meets = meets; loads = loads; added = ([], refl); escaped = low; capturing = low; sound = sound; here = refl }

fits_keeps : (names : List (List ℕ)) (codes : Codes) (w v : World) → Fits names codes nothing_away w [] 0 0 v → Keeps names w v
fits_keeps names codes w v fits =
    let saved : length v.saved ≡ length w.saved = omega (arith, fits.saved) in
    let captures : length v.captures + met w.parent ≡ length w.captures + met v.parent = omega (arith, fits.caught) in
    record { loops = fits.frames; outer = fits.outer; floor = fits.floor; saved = saved; captures = captures; meets = fits.meets; loads = fits.loads; added = fits.added }

forms_of_singles : (vs : List Val) → map form_of (map single vs) ++ [] ≡ replicate (length vs) single_form
forms_of_singles [] = refl
forms_of_singles (v ∷ vs) = ap (λ (forms : List shapes.Form). single_form ∷ forms) (forms_of_singles vs)

module _ (names : List (List ℕ)) (codes : Codes) (verified : AreAllVerified codes) (around : Around)
    (lists : (name : List ℕ) (h : Head) → around.head (standing name) ≡ Some h → is_among name names ≡ true) where
  abbrev s : Programs
  s = programs_of codes around

  -- a key that has no process
  nothing_found : (key : Key) → ((n : ℕ) → s.process n key ≡ None) → (n : ℕ) → runners s n key ≡ None
  nothing_found key none zero = ap (option_map {U = World → Run World} (λ (p : Process) (w : World). ended breaks w)) (none 0)
  nothing_found key none (suc n) = ap (option_map {U = World → Run World} (λ (p : Process) (w : World). followed (runners s n) key.part (run (answer s n) p w))) (none n)

  no_code : (key : Key) → codes.code key.stream ≡ None → (n : ℕ) → s.process n key ≡ None
  no_code key e n = ap (λ (o : Option (List Code)). option_and_then (part_run n key.part) o) e

  -- what a key's process comes to, and what follows in a template that is extended
  finds_at : (key : Key) (n : ℕ) (w : World) (p : Process) (q : Run World) → s.process n key ≡ Some p → followed (runners s n) key.part (run (answer s n) p w) ≡ q → Finds (runners s (suc n) key) w q
  finds_at key n w p q is comes =
      subst (λ (o : Option Process). Finds (option_map (λ (p : Process) (v : World). followed (runners s n) key.part (run (answer s n) p v)) o) w q) (sym is) comes

  -- a key's runs end, by themselves or with a fault
  abbrev Stopped : Key → World → (World → Type 0) → Type 0
  Stopped key w keeps = KeyEnds s key w keeps ⊎ KeyFaults codes s key w

  abbrev Runs : Key → Bounded → Type 0
  Runs key P = (n : ℕ) → s.process n key ≡ Some (P n)

  -- a part that nothing follows
  module _ (stream : Stream) (part : Part) (alone : (runs : Key → Option (World → Run World)) (r : Run World) → followed runs part r ≡ r) (P : Bounded)
      (process : Runs (record { stream = stream; part = part }) P) (w : World) (keeps : Option (List Val) → World → Type 0) (so : (v : World) → keeps None v → Sound codes v)
      (kept : World → Type 0) (kept_so : (vs : List Val) (v : World) → keeps (Some vs) v → kept v) where
    abbrev this_key : Key
    this_key = record { stream = stream; part = part }

    found_so : (n : ℕ) (q : Run World) → run (answer s n) (P n) w ≡ q → Finds (runners s (suc n) this_key) w q
    found_so n q is = finds_at this_key n w (P n) q (process n) (ap (followed (runners s n) part) is ∙ alone (runners s n) q)

    part_stops : Comes s w keeps P → Stopped this_key w kept
    part_stops (inl p) = inl (record { items = p.items; least = suc p.least; operands = p.operands; after = p.after; kept = kept_so p.operands p.after p.kept; is = at_bound })
      where
        at_bound : (n : ℕ) → suc p.least ≤ n → Finds (runners s n this_key) w (behind p.items (ended (ends p.operands) p.after))
        at_bound zero le = absurd (omega arith)
        at_bound (suc n) le = found_so n (behind p.items (ended (ends p.operands) p.after)) (p.is n n (omega arith) (omega arith))
    part_stops (inr p) = inr (record { items = p.items; least = suc p.least; kinds = p.kinds; after = p.after; kept = so p.after p.kept; is = at_bound })
      where
        at_bound : (n : ℕ) → suc p.least ≤ n → Finds (runners s n this_key) w (behind p.items (ended (faults p.kinds) p.after))
        at_bound zero le = absurd (omega arith)
        at_bound (suc n) le = found_so n (behind p.items (ended (faults p.kinds) p.after)) (p.is n n (omega arith) (omega arith))

  -- what they keep, in worlds that have what is reached alone
  abbrev KeptSo : World → World → Type 0
  KeptSo w v = Keeps names w v × Sound codes v

  abbrev KeepsSo : World → Option (List Val) → World → Type 0
  KeepsSo w (Some vs) v = KeptSo w v
  KeepsSo w None v = Sound codes v

  abbrev RanSo : World → World → Type 0
  RanSo w v = Ran names w v × Sound codes v

  abbrev parent_key : List ℕ → Key
  parent_key name = whole_of (own (standing name))

  -- a stream from its start, and the template that it extends
  module _ (stream : Stream) (code : List Code) (is : codes.code stream ≡ Some code) (w : World) (alone : w.parent ≡ None) where
    abbrev from_start : Bounded
    from_start m = exec code m 0 []

    process_is : Runs (whole_of stream) from_start
    process_is n = ap (λ (o : Option (List Code)). option_and_then (part_run n whole) o) is

    stops : Fails s w (KeepsSo w) from_start → Stopped (whole_of stream) w (RanSo w)
    stops p = inr (record { items = p.items; least = suc p.least; kinds = p.kinds; after = p.after; kept = p.kept; is = at_bound })
      where
        at_bound : (n : ℕ) → suc p.least ≤ n → Finds (runners s n (whole_of stream)) w (behind p.items (ended (faults p.kinds) p.after))
        at_bound zero le = absurd (omega arith)
        at_bound (suc n) le =
            finds_at (whole_of stream) n w (from_start n) (behind p.items (ended (faults p.kinds) p.after)) (process_is n)
            (ap (followed (runners s n) whole) (p.is n n (omega arith) (omega arith)))

    module _ (p : Finishes s w (KeepsSo w) from_start) where
      abbrev own_run : Run World
      own_run = behind p.items (ended (ends p.operands) p.after)

      ends_alone : p.after.parent ≡ None → Stopped (whole_of stream) w (RanSo w)
      ends_alone none = inl (record { items = p.items; least = suc p.least; operands = p.operands; after = p.after; kept = (ran_alone names w p.after alone p.kept.0 none, p.kept.1); is = at_bound })
        where
          at_bound : (n : ℕ) → suc p.least ≤ n → Finds (runners s n (whole_of stream)) w own_run
          at_bound zero le = absurd (omega arith)
          at_bound (suc n) le =
              finds_at (whole_of stream) n w (from_start n) own_run (process_is n)
              (ap (followed (runners s n) whole) (p.is n n (omega arith) (omega arith)) ∙ ap (went_on (runners s n) p.operands own_run) none)

      module _ (name : List ℕ) (some : p.after.parent ≡ Some name) where
        abbrev begun : World
        begun = restarted name p.after

        -- what the parent comes to is what follows
        goes_on : (n : ℕ) → p.least ≤ n → (q : Run World) → parent_run (runners s n (parent_key name)) begun ≡ q
            → Finds (runners s (suc n) (whole_of stream)) w (behind own_run.items (with_beneath p.operands q))
        goes_on n le q parent =
            finds_at (whole_of stream) n w (from_start n) (behind own_run.items (with_beneath p.operands q)) (process_is n)
            (ap (followed (runners s n) whole) (p.is n n le le) ∙ ap (went_on (runners s n) p.operands own_run) some
            ∙ ap (λ (x : Run World). behind own_run.items (with_beneath p.operands x)) parent)

        follows : KeyComes codes s (parent_key name) begun (RanSo begun) → Stopped (whole_of stream) w (RanSo w)
        follows (inl nothing) = inr (record { items = own_run.items ++ []; least = suc p.least; kinds = TemplateNotFound ∷ []; after = begun; kept = record { macros = p.kept.1.macros; frames = p.kept.1.frames; closed = p.kept.1.closed }; is = at_bound })
          where
            at_bound : (n : ℕ) → suc p.least ≤ n → Finds (runners s n (whole_of stream)) w (behind (own_run.items ++ []) (ended (faults (TemplateNotFound ∷ [])) begun))
            at_bound zero le = absurd (omega arith)
            at_bound (suc n) le =
                let q : Run World = ended (faults (TemplateNotFound ∷ [])) begun in
                subst (Finds (runners s (suc n) (whole_of stream)) w) (tidy (own_run.items ++ []) (faults (TemplateNotFound ∷ [])) begun)
                (goes_on n (omega arith) q (ap (λ (o : Option (World → Run World)). parent_run o begun) (nothing n)))
        follows (inr (inl k)) = inl (record {
          items = own_run.items ++ (k.items ++ []);
          least = suc (p.least + k.least);
          operands = k.operands ++ p.operands;
          after = k.after;
          kept = (ran_on names w p.after alone p.kept.0 name some k.after k.kept.0, k.kept.1);
          is = at_bound;
        })
          where
            at_bound : (n : ℕ) → suc (p.least + k.least) ≤ n
                → Finds (runners s n (whole_of stream)) w (behind (own_run.items ++ (k.items ++ [])) (ended (ends (k.operands ++ p.operands)) k.after))
            at_bound zero le = absurd (omega arith)
            at_bound (suc n) le =
                let q : Run World = behind k.items (ended (ends k.operands) k.after) in
                subst (Finds (runners s (suc n) (whole_of stream)) w) (tidy (own_run.items ++ (k.items ++ [])) (ends (k.operands ++ p.operands)) k.after)
                (goes_on n (omega arith) q (found_parent (runners s n (parent_key name)) begun q (k.is n (omega arith))))
        follows (inr (inr k)) = inr (record {
          items = own_run.items ++ (k.items ++ []);
          least = suc (p.least + k.least);
          kinds = k.kinds;
          after = k.after;
          kept = k.kept;
          is = at_bound;
        })
          where
            at_bound : (n : ℕ) → suc (p.least + k.least) ≤ n
                → Finds (runners s n (whole_of stream)) w (behind (own_run.items ++ (k.items ++ [])) (ended (faults k.kinds) k.after))
            at_bound zero le = absurd (omega arith)
            at_bound (suc n) le =
                let q : Run World = behind k.items (ended (faults k.kinds) k.after) in
                subst (Finds (runners s (suc n) (whole_of stream)) w) (tidy (own_run.items ++ (k.items ++ [])) (faults k.kinds) k.after)
                (goes_on n (omega arith) q (found_parent (runners s n (parent_key name)) begun q (k.is n (omega arith))))

  -- a stream comes to what its code does, if it has any
  comes_by : (stream : Stream) (w : World) → ((code : List Code) → codes.code stream ≡ Some code → Stopped (whole_of stream) w (RanSo w))
      → (o : Option (List Code)) → codes.code stream ≡ o → KeyComes codes s (whole_of stream) w (RanSo w)
  comes_by stream w stopped None is = inl (nothing_found (whole_of stream) (no_code (whole_of stream) is))
  comes_by stream w stopped (Some code) is = inr (stopped code is)

  module _ (depth : ℕ) (deeper : AllReach names codes s depth) where
    -- the code of a stream from a world on, over operands of a shape with nothing open
    runs_own : (code : List Code) → IsVerified code → (place : ℕ) (shape : Shape) (vs : List Val) → shape.frames ≡ [] → shape.escapes ≡ 0 → shape.captures ≡ 0
        → Reached code place (record shape { operands = map form_of (map single vs) ++ [] }) → (w : World) → codes.code w.here ≡ Some code → Sound codes w → IsFramed w → depth ≤ depth_of w
        → Comes s w (KeepsSo w) (λ m. exec code m place (map single vs))
    runs_own code v place shape vs no_frames no_escapes no_captures r w is sound framed deep =
        let zero_fits : Fits names codes nothing_away w [] shape.escapes shape.captures w =
        subst (λ n. Fits names codes nothing_away w [] shape.escapes n w) (sym no_captures) (subst (λ n. Fits names codes nothing_away w [] n 0 w) (sym no_escapes) (fits_itself names codes w sound)) in
        runs_from names codes s depth deeper lists v.kind code v.good shape.in_macro nothing_away w is (verified w.here code is).0 (own_base w framed) (omega (arith, deep)) (KeepsSo w) (λ z sound. sound)
        (λ us z none few fits. (fits_keeps names codes w z fits, fits.sound)) (λ l z rounds fits. absurd (cc)) [] 0 place shape (map single vs) w r refl
        (subst (λ (fs : List Opened). Opens nothing_away [] fs) (sym no_frames) (none_open refl)) zero_fits (λ push e. omega arith) tt (omega arith)

    -- what a parent comes to, where so many names were not loaded yet
    abbrev ParentComes : ℕ → Type 0
    ParentComes u = (name : List ℕ) (v : World) → v.here ≡ own (standing name) → Sound codes v → IsFramed v → v.parent ≡ None → depth ≤ depth_of v → unloaded names v.loaded < u
        → KeyComes codes s (parent_key name) v (RanSo v)

    module _ (u : ℕ) (next : ParentComes u) (stream : Stream) (code : List Code) (is : codes.code stream ≡ Some code) (w : World) (framed : IsFramed w)
        (alone : w.parent ≡ None) (deep : depth ≤ depth_of w) (few : unloaded names w.loaded < suc u) where
      parent_stops : (p : Finishes s w (KeepsSo w) (from_start stream code is w alone)) (parent : Option (List ℕ)) → p.after.parent ≡ parent → Stopped (whole_of stream) w (RanSo w)
      parent_stops p None none = ends_alone stream code is w alone p none
      parent_stops p (Some name) some =
          let same : depth_of p.after ≡ depth_of w = same_depth names w p.after p.kept.0 in
          let within : depth ≤ depth_of p.after = omega (arith, deep, same) in
          let fewer : unloaded names p.after.loaded < u = omega (arith, few, fewer_left names w p.after alone p.kept.0 name some) in
          let sound : Sound codes (restarted name p.after) = record { macros = p.kept.1.macros; frames = p.kept.1.frames; closed = p.kept.1.closed } in
          follows stream code is w alone p name some
          (next name (restarted name p.after) refl sound (framed_there names w p.after alone p.kept.0 name some framed) refl within fewer)

      code_stops : Comes s w (KeepsSo w) (from_start stream code is w alone) → Stopped (whole_of stream) w (RanSo w)
      code_stops (inr p) = stops stream code is w alone p
      code_stops (inl p) = parent_stops p p.after.parent refl

    -- by how many names were not loaded yet
    whole_stops : (u : ℕ) (stream : Stream) (code : List Code) → codes.code stream ≡ Some code → (w : World) → w.here ≡ stream → Sound codes w → IsFramed w → w.parent ≡ None → depth ≤ depth_of w
        → unloaded names w.loaded < u → Stopped (whole_of stream) w (RanSo w)
    whole_stops zero stream code is w here sound framed alone deep few = absurd (omega (arith, few))
    whole_stops (suc u) stream code is w here sound framed alone deep few =
        let next : ParentComes u = λ name v h k f a e l.
        comes_by (own (standing name)) v (λ code there. whole_stops u (own (standing name)) code there v h k f a e l) (codes.code (own (standing name))) refl in
        code_stops u next stream code is w framed alone deep few
        (runs_own code (verified stream code is).1 0 start [] refl refl refl begins w (ap codes.code here ∙ is) sound framed deep)

    whole_comes : (stream : Stream) (w : World) → w.here ≡ stream → Sound codes w → IsFramed w → w.parent ≡ None → depth ≤ depth_of w → KeyComes codes s (whole_of stream) w (RanSo w)
    whole_comes stream w here sound framed alone deep =
        comes_by stream w (λ code is. whole_stops (suc (unloaded names w.loaded)) stream code is w here sound framed alone deep (omega arith)) (codes.code stream) refl

    -- the body of a macro
    module _ (stream : Stream) (number : ℕ) (vs : List Val) (reached : IsBodyReached codes stream number) (w : World) (here : w.here ≡ stream) (sound : Sound codes w) (framed : IsFramed w) (deep : depth ≤ depth_of w) where
      abbrev body_key : Key
      body_key = record { stream = stream; part = body_of number vs }

      module _ (code : List Code) (is : codes.code stream ≡ Some code) where
        at_macro : (o : Option MacroPlace) → macro_at code number ≡ o → (n : ℕ) → s.process n body_key ≡ option_and_then (body_run n vs code) o
        at_macro o found n =
            ap (λ (c : Option (List Code)). option_and_then (part_run n (body_of number vs)) c) is ∙ ap (λ (m : Option MacroPlace). option_and_then (body_run n vs code) m) found

        counted_comes : (m : MacroPlace) → macro_at code number ≡ Some m → (same : Bool) → (m.count == length vs) ≡ same → KeyComes codes s body_key w (KeptSo w)
        counted_comes m found false e =
            inl (nothing_found body_key (λ n. at_macro (Some m) found n ∙ ap (λ b. if b then Some (exec code n m.offset (map single vs)) else None) e))
        counted_comes m found true e =
            let v : IsVerified code = (verified stream code is).1 in
            let many : m.count ≡ length vs = eqb-true m.count (length vs) e in
            let body : Reached code m.offset (shapes.body_of m.count) = reached.1 code is m found in
            let forms : map form_of (map single vs) ++ [] ≡ replicate m.count single_form = forms_of_singles vs ∙ ap (λ k. replicate k single_form) (sym many) in
            inr (part_stops stream (body_of number vs) (λ runs r. refl) (λ k. exec code k m.offset (map single vs))
            (λ n. at_macro (Some m) found n ∙ ap (λ b. if b then Some (exec code n m.offset (map single vs)) else None) e) w (KeepsSo w) (λ z sound. sound) (KeptSo w) (λ us v k. k)
            (runs_own code v m.offset (shapes.body_of m.count) vs refl refl refl
            (subst (λ (fs : List shapes.Form). Reached code m.offset (record (shapes.body_of m.count) { operands = fs })) (sym forms) body) w (ap codes.code here ∙ is) sound framed deep))

        macro_comes : (o : Option MacroPlace) → macro_at code number ≡ o → KeyComes codes s body_key w (KeptSo w)
        macro_comes None found = inl (nothing_found body_key (λ n. at_macro None found n))
        macro_comes (Some m) found = counted_comes m found (m.count == length vs) refl

      body_comes : (o : Option (List Code)) → codes.code stream ≡ o → KeyComes codes s body_key w (KeptSo w)
      body_comes None none = inl (nothing_found body_key (no_code body_key none))
      body_comes (Some code) is = macro_comes code is (macro_at code number) refl

    -- the rounds of a loop that is called
    module _ (stream : Stream) (number : ℕ) (reached : AreRoundsReached codes stream number) (w : World) (here : w.here ≡ stream) (sound : Sound codes w) (g : MayGoRound w) (deep : depth ≤ depth_of w) where
      abbrev RoundedEnd : World → Type 0
      RoundedEnd v = Rounded names w v × Sound codes v

      abbrev RoundedSo : Option (List Val) → World → Type 0
      RoundedSo (Some vs) v = RoundedEnd v
      RoundedSo None v = Sound codes v

      abbrev rounds_key : Key
      rounds_key = record { stream = stream; part = rounds_of number }

      abbrev beneath : World
      beneath = record w { frames = g.frames }

      same_frames : length w.frames ≡ suc (length g.frames)
      same_frames = ap (λ (fs : List Frame). length fs) g.is

      module _ (below : Shape) where
        abbrev left_away : Away
        left_away = record { rounds = true; forms = below.operands; escapes = below.escapes; captures = below.captures }

        rounds_base : IsBase left_away beneath
        rounds_base = let floored : w.floor ≤ 1 + length g.frames = omega (arith, g.floor, same_frames) in record { framed = inr refl; floored = floored }

        rounds_fit : Fits names codes left_away beneath (Some g.loop ∷ []) below.escapes below.captures w
        rounds_fit =
            let saved : length w.saved + below.escapes ≡ below.escapes + length w.saved = omega arith in
            let caught : length w.captures + below.captures + met w.parent ≡ below.captures + length w.captures + met w.parent = omega arith in
            let meets : met w.parent ≤ met w.parent = omega arith in
            let loads : unloaded names w.loaded + met w.parent ≤ unloaded names w.loaded + met w.parent = omega arith in
            let escaped : below.escapes ≤ below.escapes = omega arith in
            let capturing : below.captures ≤ below.captures = omega arith in
            record {
              frames = ap loops_of g.is ∙ ap (λ (o : Option Loop). o ∷ loops_of g.frames) g.looping;
              outer = refl;
              floor = refl;
              saved = saved;
              caught = caught;
              meets = meets;
              loads = loads;
              added = ([], refl);
              escaped = escaped;
              capturing = capturing;
              sound = sound;
              here = refl;
            }

        rounds_keep : (l : Loop) (z : World) → Fits names codes left_away beneath (Some l ∷ []) below.escapes below.captures z → Rounded names w z
        rounds_keep l z fits =
            let saved : length z.saved ≡ length w.saved = omega (arith, fits.saved) in
            let captures : length z.captures + met w.parent ≡ length w.captures + met z.parent = omega (arith, fits.caught) in
            let kept : Keeps names (record w { frames = loop_frame l ∷ g.frames }) z =
            record { loops = fits.frames; outer = fits.outer; floor = fits.floor; saved = saved; captures = captures; meets = fits.meets; loads = fits.loads; added = fits.added } in
            (l, subst (λ (fs : List Frame). Keeps names (record w { frames = loop_frame l ∷ fs }) z) (sym (ap (λ (fs : List Frame). drop 1 fs) g.is)) kept)

      module _ (code : List Code) (is : codes.code stream ≡ Some code) where
        at_rounds : (o : Option ℕ) → rounds_at code number ≡ o → (n : ℕ) → s.process n rounds_key ≡ option_map (λ place. exec code n place []) o
        at_rounds o found n =
            ap (λ (c : Option (List Code)). option_and_then (part_run n (rounds_of number)) c) is ∙ ap (λ (p : Option ℕ). option_map (λ place. exec code n place []) p) found

        rounds_run : (place push : ℕ) (below : Shape) → Reached code place (in_rounds push below) → Comes s w RoundedSo (λ m. exec code m place [])
        rounds_run place push below there =
            let v : IsVerified code = (verified stream code is).1 in
            let low : length below.operands ≤ length below.operands = omega arith in
            let no_escapes : below.escapes ≤ below.escapes = omega arith in
            let no_captures : below.captures ≤ below.captures = omega arith in
            runs_from names codes s depth deeper lists v.kind code v.good below.in_macro (left_away below) beneath (ap codes.code here ∙ is) (verified w.here code (ap codes.code here ∙ is)).0 (rounds_base below) (omega (arith, deep, same_frames)) RoundedSo (λ z sound. sound)
            (λ us z none few fits. let no : true ≡ false = ap (λ (a : Away). a.rounds) none in absurd (cc)) (λ l z rounds fits. (rounds_keep below l z fits, fits.sound)) (Some g.loop ∷ []) 0 place (in_rounds push below) [] w there refl
            (round_open refl g.called (record { operands = low; escapes = no_escapes; captures = no_captures }) refl refl) (rounds_fit below) (λ push e. omega arith)
            (λ q later t os z same at. absurd (never_closed (left_away below) t.frames refl at.opens)) (omega arith)

        rounds_come_at : (o : Option ℕ) → rounds_at code number ≡ o → KeyComes codes s rounds_key w RoundedEnd
        rounds_come_at None found = inl (nothing_found rounds_key (λ n. at_rounds None found n))
        rounds_come_at (Some place) found =
            let x = reached.1 code is place found in
            inr (part_stops stream (rounds_of number) (λ runs r. refl) (λ k. exec code k place []) (λ n. at_rounds (Some place) found n) w RoundedSo (λ z sound. sound) RoundedEnd (λ us v k. k) (rounds_run place x.0 x.1 x.2))

      rounds_come : (o : Option (List Code)) → codes.code stream ≡ o → KeyComes codes s rounds_key w RoundedEnd
      rounds_come None none = inl (nothing_found rounds_key (no_code rounds_key none))
      rounds_come (Some code) is = rounds_come_at code is (rounds_at code number) refl

  -- what the instructions of a stream leave at their end
  abbrev OwnSo : StreamKind → Option (List Val) → World → Type 0
  OwnSo kind (Some vs) v = LeftAtEnd kind false vs
  OwnSo kind None v = Unit {0}

  left_by_kind : (kind : StreamKind) (vs : List Val) → LeftAtEnd kind false vs → length vs ≡ length (end_of kind).operands
  left_by_kind kind vs (inl e) = e
  left_by_kind kind vs (inr within) = absurd (cc)

  own_comes : (depth : ℕ) → AllReach names codes s depth → (kind : StreamKind) (code : List Code) → IsGood kind code → (w : World) → codes.code w.here ≡ Some code → Sound codes w → IsFramed w → depth ≤ depth_of w
      → Comes s w (OwnSo kind) (λ m. exec code m 0 [])
  own_comes depth deeper kind code good w is sound framed deep =
      runs_from names codes s depth deeper lists kind code good false nothing_away w is (verified w.here code is).0 (own_base w framed) (omega (arith, deep)) (OwnSo kind) (λ z sound. tt)
      (λ us z none few fits. few) (λ l z rounds fits. absurd (cc)) [] 0 0 start [] w begins refl (none_open refl) (fits_itself names codes w sound) (λ push e. omega arith) tt (omega arith)

  own_leaves : (kind : StreamKind) (code : List Code) (w : World) → Comes s w (OwnSo kind) (λ m. exec code m 0 []) → (n : ℕ) × Leaves kind (run (answer s n) (exec code n 0 []) w).end
  own_leaves kind code w (inl p) =
      (p.least, subst (λ (r : Run World). Leaves kind r.end) (sym (p.is p.least p.least (omega arith) (omega arith))) (left_by_kind kind p.operands p.kept))
  own_leaves kind code w (inr p) = (p.least, subst (λ (r : Run World). Leaves kind r.end) (sym (p.is p.least p.least (omega arith) (omega arith))) tt)

  -- every part of a stream
  part_comes : (depth : ℕ) → AllReach names codes s depth → (stream : Stream) (part : Part) (w : World) → Starts part w → IsPartReached codes stream part → Sound codes w → w.here ≡ stream → depth ≤ depth_of w
      → KeyComes codes s (record { stream = stream; part = part }) w (LeavesSo names codes (record { stream = stream; part = part }) w)
  part_comes depth deeper stream whole w starts reached sound here deep = whole_comes depth deeper stream w here sound starts.0 starts.1 deep
  part_comes depth deeper stream (body_of number vs) w starts reached sound here deep = body_comes depth deeper stream number vs reached w here sound starts.0 deep (codes.code stream) refl
  part_comes depth deeper stream (rounds_of number) w starts reached sound here deep = rounds_come depth deeper stream number reached w here sound starts deep (codes.code stream) refl

  deep_at : (part : Part) (w : World) → Starts part w → w.floor + w.outer ≤ depth_of w
  deep_at whole w starts = omega (arith, starts.0.floor)
  deep_at (body_of number vs) w starts = omega (arith, starts.0.floor)
  deep_at (rounds_of number) w starts = omega (arith, starts.floor)

  -- the deeper a run begins, the fewer may follow
  all_come : (d depth : ℕ) → around.limit < depth + d → AllReach names codes s depth
  all_come zero depth enough key w starts reached sound here below few = absurd (omega (arith, enough, few))
  all_come (suc d) depth enough key w starts reached sound here below few =
      part_comes (w.floor + w.outer) (all_come d (w.floor + w.outer) (omega (arith, enough, below))) key.stream key.part w starts reached sound here (deep_at key.part w starts)

  -- what a key comes to that finds something
  found_end : (o : Option (World → Run World)) (w : World) (r : Run World) → Finds o w r → IsFinished r.end → IsFinished (ran o w).end
  found_end None w r found finished = absurd found
  found_end (Some runs) w r found finished = subst (λ (q : Run World). IsFinished q.end) (sym found) finished

  none_found : (f : Process → World → Run World) (o : Option Process) → IsSome o → option_map f o ≡ None → ⊥
  none_found f None some e = absurd (cc)
  none_found f (Some p) some e = absurd (cc)

  sound_end : (o : Option (World → Run World)) (w : World) (r : Run World) → Finds o w r → Sound codes r.after → Sound codes (ran o w).after
  sound_end None w r found sound = absurd found
  sound_end (Some runs) w r found sound = subst (λ (q : Run World). Sound codes q.after) (sym found) sound

  -- under some bound it is finished, and leaves what was reached alone
  abbrev EndsWell : Key → World → Type 0
  EndsWell key w = (n : ℕ) × IsFinished (ran (runners s n key) w).end × Sound codes (ran (runners s n key) w).after

  comes_end : (key : Key) (w : World) (keeps : World → Type 0) → ((v : World) → keeps v → Sound codes v) → IsSome (s.process 0 key) → KeyComes codes s key w keeps → EndsWell key w
  comes_end key w keeps so some (inl nothing) = absurd (none_found (λ p v. ended breaks v) (s.process 0 key) some (nothing 0))
  comes_end key w keeps so some (inr (inl k)) =
      let r : Run World = behind k.items (ended (ends k.operands) k.after) in (
        k.least,
        found_end (runners s k.least key) w r (k.is k.least (omega arith)) tt,
        sound_end (runners s k.least key) w r (k.is k.least (omega arith)) (so k.after k.kept),
      )
  comes_end key w keeps so some (inr (inr k)) =
      let r : Run World = behind k.items (ended (faults k.kinds) k.after) in
      (k.least, found_end (runners s k.least key) w r (k.is k.least (omega arith)) tt, sound_end (runners s k.least key) w r (k.is k.least (omega arith)) k.kept)

  begun_framed : (w : World) (fs : List Frame) → w.frames ≡ fs → MayBegin w → IsFramed w
  begun_framed w [] e may =
      let none : length w.frames ≡ 0 = ap (λ (gs : List Frame). length gs) e in
      absurd (omega (arith, none, may.framed))
  begun_framed w (f ∷ fs) e may = record { loop = f.loop; others = loops_of fs; loops = ap loops_of e; floor = may.floor }

  starts_at : (part : Part) (w : World) → MayStart part w → Starts part w
  starts_at whole w may = (begun_framed w w.frames refl may, may.alone)
  starts_at (body_of number vs) w may = (begun_framed w w.frames refl may, may.alone)
  starts_at (rounds_of number) w may = may

  key_ends : (key : Key) (w : World) → MayRun codes key w → IsSome (s.process 0 key) → EndsWell key w
  key_ends key w may some =
      let starts : Starts key.part w = starts_at key.part w may.start in
      comes_end key w (LeavesSo names codes key w) (λ v k. k.1) some
      (part_comes (w.floor + w.outer) (all_come (suc around.limit) (w.floor + w.outer) (omega arith)) key.stream key.part w starts may.reached (sound_of codes w may.sound) may.here (deep_at key.part w starts))

  stream_leaves : (stream : Stream) (kind : StreamKind) (code : List Code) → codes.code stream ≡ Some code → IsGood kind code → (w : World) → MayRun codes (whole_of stream) w
      → (n : ℕ) × Leaves kind (run (answer s n) (exec code n 0 []) w).end
  stream_leaves stream kind code is good w may =
      let starts : Starts whole w = starts_at whole w may.start in
      own_leaves kind code w
      (own_comes (w.floor + w.outer) (all_come (suc around.limit) (w.floor + w.outer) (omega arith)) kind code good w (ap codes.code may.here ∙ is) (sound_of codes w may.sound) starts.0 (deep_at whole w starts))

stands : (around : Around) (name : List ℕ) (h : Head) → around.head (standing name) ≡ Some h → IsSome (around.head (standing name))
stands around name h e = subst (λ (o : Option Head). IsSome o) (sym e) refl

pub every_stream_ends : EveryStreamEnds
every_stream_ends codes verified around names lists key some w may =
    let x = key_ends names codes verified around (λ name h e. lists name (stands around name h e)) key w may some in
    (x.0, x.1, sound_left codes (ran (runners (programs_of codes around) x.0 key) w).after x.2)

pub every_stream_leaves : EveryStreamLeaves
every_stream_leaves codes verified around names lists stream kind code is good w may =
    stream_leaves names codes verified around (λ name h e. lists name (stands around name h e)) stream kind code is good w may

-- in a state of its own nothing was made yet
module _ (codes : Codes) (id : ℕ) (globals : Globals) (head : Head) (context : Val) where
  abbrev first : World
  first = first_world id globals head context

  no_loop : All (IsLoopReached codes) (None ∷ [])
  no_loop zero d less = tt
  no_loop (suc k) d less = absurd (omega (arith, less))

  first_may : MayRun codes (whole_of (own rendered)) first
  first_may =
      let framed : 0 < 1 = omega arith in
      let floor : 1 ≤ 1 = omega arith in
      record {
        start = record { framed = framed; floor = floor; alone = refl };
        here = refl;
        reached = tt;
        sound = record { macros = λ k d less. absurd (omega (arith, less)); loops = no_loop };
      }

some_process : (o : Option (List Code)) → IsSome o → IsSome (option_and_then (part_run 0 whole) o)
some_process None some = absurd (cc)
some_process (Some code) some = refl

pub every_first_run_ends : EveryFirstRunEnds
every_first_run_ends codes verified around names lists some id globals head context =
    let x = every_stream_ends codes verified around names lists (whole_of (own rendered)) (some_process (codes.code (own rendered)) some) (first_world id globals head context) (first_may codes id globals head context) in
    (x.0, x.1)
