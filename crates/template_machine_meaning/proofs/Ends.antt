-- Every run ends, in one way.
use Rattle.std.proofs.Common.{◌≡◌, ℕ, ◌+◌, ◌<◌, ◌≤◌, ◌⊎◌, inl, inr, zero, suc, ◌==◌, Bool, true, false, if◌then◌else◌, IsTrue, List, [], ◌∷◌, ◌++◌, drop, length, Option, None, Some, option_map, refl, sym, ap, subst, ◌∙◌, append_assoc, append-nil, arith}
use Rattle.std.specs.Prelude.{IsSome}
use Rattle.std.specs.Option.{ForSome, option_and_then}
use Rattle.template_values_errors.specs.declared.ErrorKind.TheVariants.{TemplateNotFound}
use Rattle.template_values_model.specs.Val as values
use Rattle.template_values_model.specs.Val.{Val}
use Rattle.template_compiler_tree.specs.Tree.{Statements, no_statements, statements_more, no_expressions}
use Rattle.template_compiler_process.specs.Process.{no_counts, close_loop, tells, value, Process, over, asks, cut_short, on_done, on_value, truth_asked}
use Rattle.template_compiler_process.specs.Drive.{End, ends, faults, breaks}
use Rattle.template_compiler_process.specs.Trace.{Item, Run, run, behind, ended, replied}
use Rattle.template_compiler_process.specs.Approximants.{IsFinished, IsUnfinished}
use Rattle.template_compiler_walk.specs.Runnable.{IsRunnableTemplate}
use Rattle.template_compiler_walk.specs.Statements.{number_of, outside, rounds, loop_end, arguments_walk, statements_walk, template_walk, macro_walk, rounds_walk}
use Rattle.template_compiler_walk.specs.Counting.{MacroBody, LoopRounds, macro_numbered, rounds_numbered}
use Rattle.template_compiler_names.specs.Names.{reversed}
use Rattle.template_machine_meaning.specs.World.{Loop, Frame, Capture, World, loop_frame, depth_of}
use Rattle.template_machine_meaning.specs.Replies.{told}
use Rattle.template_machine_meaning.specs.Captures.{around_innermost}
use Rattle.template_machine_meaning.specs.Keys as keys
use Rattle.template_machine_meaning.specs.Keys.{Home, Stream, own, block_of, Part, whole, body_of, rounds_of, Key, whole_of, Head}
use Rattle.template_machine_meaning.specs.Plans.{ran, restarted, with_beneath, parent_run, went_on, followed}
use Rattle.template_machine_meaning.specs.Blocks.{is_among}
use Rattle.template_machine_meaning.specs.Surroundings.{Programs, runners, gave_none, answer}
use Rattle.template_machine_meaning.specs.Meaning as meanings
use Rattle.template_machine_meaning.specs.Meaning.{Standing, Setting, template_at, tree_in, tree_of, part_walk, head_of, walks_of, named_so, meaning}
use Rattle.template_machine_meaning.specs.Laws.{AreAllRunnable, ListsAll, MayBegin, MayGoRound, MayStart, EveryKeyEnds, EveryRunEnds, OneMeaning}
use Rattle.template_machine_meaning.proofs.Bounds.{meanings_extend}
use Rattle.template_machine_meaning.proofs.Settling.{Walk, Settles, Passes, Stops, settles_then, settles_now}
use Rattle.template_machine_meaning.proofs.Keeping.{Keeps, Ran, keeps_itself, loops_of, met, unloaded, same_many, same_depth, top, IsFramed, behind_frame, on_loop_is}
use Rattle.template_machine_meaning.proofs.Blocks.{Kept}
use Rattle.template_machine_meaning.proofs.Loops.{Leave, goes, breaks_out, continues, loop_at, frame_at, InRound, AtEnd, asks_own, called_leaves}
use Rattle.template_machine_meaning.proofs.Statements.{LeavesTo, body_walk, round_of, settles_statements, settles_called_rounds, settles_macro}
use Rattle.template_machine_meaning.proofs.Numbered.{MacroRuns, RoundsRun, IsIfFound, macro_runs, rounds_run}
use Rattle.template_machine_meaning.proofs.Entering.{Finds, KeyEnds, KeyFaults, KeyComes, Starts, Rounded, Leaves, AllCome}
use Rattle.template_machine_meaning.proofs.Bodied.{block_runs}

-- outside of loops there is one way out
abbrev out_of : Leave → Walk (Unit {0})
out_of goes m go = go tt
out_of _ m go = cut_short

only_out : (names : List (List ℕ)) (s : Programs) (base w : World) (o : Leave) → LeavesTo names false base o w → Settles {O = Unit {0}} s w (Kept names base) (out_of o)
only_out names s base w goes leaves = settles_now s w (Kept names base) tt leaves.0
only_out names s base w breaks_out leaves = let h : IsTrue false = leaves.1 in absurd (cc)
only_out names s base w continues leaves = let h : IsTrue false = leaves.1 in absurd (cc)

-- a template that runs from a world on settles, and keeps it
abbrev TemplateSettles : List (List ℕ) → Programs → World → Statements → Type 0
TemplateSettles names s w t = Settles {O = Unit {0}} s w (Kept names w) (λ m go. statements_walk m no_counts t outside (go tt))

-- the names are those of all templates that stand
abbrev Lists : List (List ℕ) → Programs → Type 0
Lists names s = (name : List ℕ) (h : Head) → s.around.head (keys.standing name) ≡ Some h → is_among name names ≡ true

template_settles : (names : List (List ℕ)) (s : Programs) (depth : ℕ) → AllCome names s depth → Lists names s
    → (t : Statements) → IsRunnableTemplate t → (w : World) → IsFramed w → depth ≤ depth_of w → TemplateSettles names s w t
template_settles names s depth deeper lists t h w framed deep =
    settles_then s w (LeavesTo names false w) (Kept names w) (body_walk no_counts t) out_of
    (settles_statements names s depth deeper lists false no_counts t h w (framed, deep) w (keeps_itself names w))
    (λ o x leaves. only_out names s w x o leaves)

-- and so do the body of a macro over its arguments
macro_settles : (names : List (List ℕ)) (s : Programs) (depth : ℕ) → AllCome names s depth → Lists names s
    → (b : MacroBody) → MacroRuns b → (vs : List Val) (w : World) → IsFramed w → depth ≤ depth_of w
    → Settles {O = Unit {0}} s w (Kept names w)
    (λ m go. arguments_walk (reversed b.arguments no_expressions) (reversed b.defaults no_expressions) vs (statements_walk m b.first b.body outside (go tt)))
macro_settles names s depth deeper lists b runs vs w framed deep =
    settles_then s w (LeavesTo names false w) (Kept names w)
    (λ m go. arguments_walk (reversed b.arguments no_expressions) (reversed b.defaults no_expressions) vs (body_walk b.first b.body m go)) out_of
    (settles_macro names s depth deeper lists b runs vs w (framed, deep))
    (λ o x leaves. only_out names s w x o leaves)

-- the tree of each stream is made of constructs that have a walk
abbrev AreStreamsRunnable : Setting → Option Standing → Type 0
AreStreamsRunnable setting root = (stream : Stream) (t : Statements) → tree_of setting root stream ≡ Some t → IsRunnableTemplate t

-- behind what was left by a run whose template extends another
one_less : (captures : List Capture) (n : ℕ) → length captures ≡ suc n → length (around_innermost captures) ≡ n
one_less [] n e = absurd (omega (arith, e))
one_less (c ∷ captures) n e = omega (arith, e)

module _ (names : List (List ℕ)) (w v : World) (alone : w.parent ≡ None) (kept : Keeps names w v) where
  none_met : met w.parent ≡ 0
  none_met = ap met alone

  ran_alone : v.parent ≡ None → Ran names w v
  ran_alone none =
      let nothing : met v.parent ≡ 0 = ap met none in
      let captures : length v.captures ≡ length w.captures = omega (arith, none_met, nothing, kept.captures) in
      let loads : unloaded names v.loaded ≤ unloaded names w.loaded = omega (arith, none_met, nothing, kept.loads) in
      record { loops = kept.loops; captures = captures; loads = loads; added = kept.added }

  module _ (name : List ℕ) (some : v.parent ≡ Some name) where
    one_met : met v.parent ≡ 1
    one_met = ap met some

    fewer_left : unloaded names v.loaded < unloaded names w.loaded
    fewer_left = omega (arith, none_met, one_met, kept.loads)

    ran_on : (u : World) → Ran names (restarted name v) u → Ran names w u
    ran_on u k =
        let open_ones : length v.captures ≡ suc (length w.captures) = omega (arith, none_met, one_met, kept.captures) in
        let loads : unloaded names u.loaded ≤ unloaded names w.loaded = omega (arith, fewer_left, k.loads) in
        record {
          loops = k.loops ∙ kept.loops;
          captures = k.captures ∙ one_less v.captures (length w.captures) open_ones;
          loads = loads;
          added = (k.added.0 ++ kept.added.0, k.added.1 ∙ ap (λ (xs : List (List ℕ)). k.added.0 ++ xs) kept.added.1 ∙ sym (append_assoc k.added.0 kept.added.0 w.loaded));
        }

    framed_there : IsFramed w → IsFramed (restarted name v)
    framed_there framed =
        let many : length v.frames ≡ length w.frames = same_many v.frames w.frames kept.loops in
        let floor : v.floor ≤ length v.frames = omega (arith, many, kept.floor, framed.floor) in
        record { loop = framed.loop; others = framed.others; loops = kept.loops ∙ framed.loops; floor = floor }

-- a run is what it is behind its items
tidy : (items : List Item) (e : End) (v : World) → (record { items = items; end = e; after = v }) ≡ behind items (ended e v)
tidy items e v = λ i. record { items = sym (append-nil items) i; end = e; after = v }

pub found_parent : (o : Option (World → Run World)) (w : World) (r : Run World) → Finds o w r → parent_run o w ≡ r
found_parent None w r found = absurd found
found_parent (Some runs) w r found = found

module _ (names : List (List ℕ)) (setting : Setting) (root : Option Standing) (name_given : List ℕ) (all : AreStreamsRunnable setting root)
    (lists : Lists names (named_so name_given (walks_of setting root))) where
  abbrev s : Programs
  s = named_so name_given (walks_of setting root)

  -- where there is a tree the walk of a part of it is found, and what follows in a template that is extended
  finds_part : (part : Part) (n : ℕ) (w : World) (t : Statements) (p : Process) (q : Run World) → part_walk n part t ≡ Some p → followed (runners s n) part (run (answer s n) p w) ≡ q
      → (o : Option Statements) → o ≡ Some t
      → Finds (option_map (λ (p : Process) (v : World). followed (runners s n) part (run (answer s n) p v)) (option_and_then (part_walk n part) o)) w q
  finds_part part n w t p q is comes o e =
      subst (λ (x : Option Statements). Finds (option_map (λ (p : Process) (v : World). followed (runners s n) part (run (answer s n) p v)) (option_and_then (part_walk n part) x)) w q) (sym e)
      (subst (λ (x : Option Process). Finds (option_map (λ (p : Process) (v : World). followed (runners s n) part (run (answer s n) p v)) x) w q) (sym is) comes)

  finds_walk : (n : ℕ) (w : World) (t : Statements) (r q : Run World) → run (answer s n) (template_walk n t) w ≡ r → followed (runners s n) whole r ≡ q
      → (o : Option Statements) → o ≡ Some t
      → Finds (option_map (λ (p : Process) (v : World). followed (runners s n) whole (run (answer s n) p v)) (option_and_then (part_walk n whole) o)) w q
  finds_walk n w t r q is follows o e = finds_part whole n w t (template_walk n t) q refl (ap (followed (runners s n) whole) is ∙ follows) o e

  -- a key that has no process
  nothing_found : (key : Key) → ((n : ℕ) → s.process n key ≡ None) → (n : ℕ) → runners s n key ≡ None
  nothing_found key none zero = ap (option_map {U = World → Run World} (λ (p : Process) (w : World). ended breaks w)) (none 0)
  nothing_found key none (suc n) = ap (option_map {U = World → Run World} (λ (p : Process) (w : World). followed (runners s n) key.part (run (answer s n) p w))) (none n)

  no_tree : (key : Key) → tree_of setting root key.stream ≡ None → (n : ℕ) → s.process n key ≡ None
  no_tree key e n = ap (λ (o : Option Statements). option_and_then (part_walk n key.part) o) e

  -- a key's runs end, by themselves or with a fault
  abbrev Stopped : Key → World → Type 0
  Stopped key w = KeyEnds s key w (Leaves names key.part w) ⊎ KeyFaults s key w

  abbrev parent_key : List ℕ → Key
  parent_key name = whole_of (own (keys.standing name))

  module _ (stream : Stream) (t : Statements) (is : tree_in setting root stream whole ≡ Some t) (w : World) (alone : w.parent ≡ None) where
    stops : Stops {O = Unit {0}} s w (λ m go. statements_walk m no_counts t outside (go tt)) → Stopped (whole_of stream) w
    stops p = inr (record {
      items = p.items;
      least = suc p.least;
      kinds = p.kinds;
      after = p.after;
      is = at_bound;
    })
      where
        at_bound : (n : ℕ) → suc p.least ≤ n → Finds (runners s n (whole_of stream)) w (behind p.items (ended (faults p.kinds) p.after))
        at_bound zero le = absurd (omega arith)
        at_bound (suc n) le =
            let r : Run World = behind p.items (ended (faults p.kinds) p.after) in
            finds_walk n w t r r (p.is n n (omega arith) (omega arith) (λ o. over [])) refl (tree_in setting root stream whole) is

    module _ (p : Passes {O = Unit {0}} s w (Kept names w) (λ m go. statements_walk m no_counts t outside (go tt))) where
      abbrev own_run : Run World
      own_run = behind p.items (ended (ends []) p.after)

      ends_alone : p.after.parent ≡ None → Stopped (whole_of stream) w
      ends_alone none = inl (record {
        items = p.items;
        least = suc p.least;
        operands = [];
        after = p.after;
        kept = ran_alone names w p.after alone p.shaped none;
        is = at_bound;
      })
        where
          at_bound : (n : ℕ) → suc p.least ≤ n → Finds (runners s n (whole_of stream)) w own_run
          at_bound zero le = absurd (omega arith)
          at_bound (suc n) le =
              finds_walk n w t own_run own_run (p.is n n (omega arith) (omega arith) (λ o. over [])) (ap (went_on (runners s n) [] own_run) none) (tree_in setting root stream whole) is

      module _ (name : List ℕ) (some : p.after.parent ≡ Some name) where
        abbrev begun : World
        begun = restarted name p.after

        -- what the parent comes to is what follows
        goes_on : (n : ℕ) → p.least ≤ n → (q : Run World) → parent_run (runners s n (parent_key name)) begun ≡ q
            → Finds (runners s (suc n) (whole_of stream)) w (behind own_run.items (with_beneath [] q))
        goes_on n le q parent =
            finds_walk n w t own_run (behind own_run.items (with_beneath [] q)) (p.is n n le le (λ o. over []))
            (ap (went_on (runners s n) [] own_run) some ∙ ap (λ (x : Run World). behind own_run.items (with_beneath [] x)) parent) (tree_in setting root stream whole) is

        follows : KeyComes s (parent_key name) begun (Ran names begun) → Stopped (whole_of stream) w
        follows (inl nothing) = inr (record {
          items = own_run.items ++ [];
          least = suc p.least;
          kinds = TemplateNotFound ∷ [];
          after = begun;
          is = at_bound;
        })
          where
            at_bound : (n : ℕ) → suc p.least ≤ n → Finds (runners s n (whole_of stream)) w (behind (own_run.items ++ []) (ended (faults (TemplateNotFound ∷ [])) begun))
            at_bound zero le = absurd (omega arith)
            at_bound (suc n) le =
                let q : Run World = ended (faults (TemplateNotFound ∷ [])) begun in
                let within : p.least ≤ n = omega arith in
                subst (Finds (runners s (suc n) (whole_of stream)) w) (tidy (own_run.items ++ []) (faults (TemplateNotFound ∷ [])) begun)
                (goes_on n within q (ap (λ (o : Option (World → Run World)). parent_run o begun) (nothing n)))
        follows (inr (inl k)) = inl (record {
          items = own_run.items ++ (k.items ++ []);
          least = suc (p.least + k.least);
          operands = k.operands ++ [];
          after = k.after;
          kept = ran_on names w p.after alone p.shaped name some k.after k.kept;
          is = at_bound;
        })
          where
            at_bound : (n : ℕ) → suc (p.least + k.least) ≤ n
                → Finds (runners s n (whole_of stream)) w (behind (own_run.items ++ (k.items ++ [])) (ended (ends (k.operands ++ [])) k.after))
            at_bound zero le = absurd (omega arith)
            at_bound (suc n) le =
                let q : Run World = behind k.items (ended (ends k.operands) k.after) in
                let within : p.least ≤ n = omega arith in
                subst (Finds (runners s (suc n) (whole_of stream)) w) (tidy (own_run.items ++ (k.items ++ [])) (ends (k.operands ++ [])) k.after)
                (goes_on n within q (found_parent (runners s n (parent_key name)) begun q (k.is n (omega arith))))
        follows (inr (inr k)) = inr (record {
          items = own_run.items ++ (k.items ++ []);
          least = suc (p.least + k.least);
          kinds = k.kinds;
          after = k.after;
          is = at_bound;
        })
          where
            at_bound : (n : ℕ) → suc (p.least + k.least) ≤ n
                → Finds (runners s n (whole_of stream)) w (behind (own_run.items ++ (k.items ++ [])) (ended (faults k.kinds) k.after))
            at_bound zero le = absurd (omega arith)
            at_bound (suc n) le =
                let q : Run World = behind k.items (ended (faults k.kinds) k.after) in
                let within : p.least ≤ n = omega arith in
                subst (Finds (runners s (suc n) (whole_of stream)) w) (tidy (own_run.items ++ (k.items ++ [])) (faults k.kinds) k.after)
                (goes_on n within q (found_parent (runners s n (parent_key name)) begun q (k.is n (omega arith))))

  -- a stream comes to what its tree does, if it has one
  comes_by : (stream : Stream) (w : World) → ((t : Statements) → tree_in setting root stream whole ≡ Some t → Stopped (whole_of stream) w)
      → (o : Option Statements) → tree_in setting root stream whole ≡ o → KeyComes s (whole_of stream) w (Ran names w)
  comes_by stream w stopped None is = inl (nothing_found (whole_of stream) (no_tree (whole_of stream) is))
  comes_by stream w stopped (Some t) is = inr (stopped t is)

  module _ (depth : ℕ) (deeper : AllCome names s depth) where
    -- what a parent comes to, where so many names were not loaded yet
    abbrev ParentComes : ℕ → Type 0
    ParentComes u = (name : List ℕ) (v : World) → IsFramed v → v.parent ≡ None → depth ≤ depth_of v → unloaded names v.loaded < u → KeyComes s (parent_key name) v (Ran names v)

    module _ (u : ℕ) (next : ParentComes u) (stream : Stream) (t : Statements) (is : tree_in setting root stream whole ≡ Some t) (w : World) (framed : IsFramed w)
        (alone : w.parent ≡ None) (deep : depth ≤ depth_of w) (few : unloaded names w.loaded < suc u) where
      parent_stops : (p : Passes {O = Unit {0}} s w (Kept names w) (λ m go. statements_walk m no_counts t outside (go tt))) (parent : Option (List ℕ)) → p.after.parent ≡ parent → Stopped (whole_of stream) w
      parent_stops p None none = ends_alone stream t is w alone p none
      parent_stops p (Some name) some =
          let same : depth_of p.after ≡ depth_of w = same_depth names w p.after p.shaped in
          let within : depth ≤ depth_of p.after = omega (arith, deep, same) in
          let fewer : unloaded names p.after.loaded < u = omega (arith, few, fewer_left names w p.after alone p.shaped name some) in
          follows stream t is w alone p name some
          (next name (restarted name p.after) (framed_there names w p.after alone p.shaped name some framed) refl within fewer)

      settled_stops : TemplateSettles names s w t → Stopped (whole_of stream) w
      settled_stops (inr p) = stops stream t is w alone p
      settled_stops (inl p) = parent_stops p p.after.parent refl

    -- by how many names were not loaded yet
    whole_stops : (u : ℕ) (stream : Stream) (t : Statements) → tree_in setting root stream whole ≡ Some t → (w : World) → IsFramed w → w.parent ≡ None → depth ≤ depth_of w
        → unloaded names w.loaded < u → Stopped (whole_of stream) w
    whole_stops zero stream t is w framed alone deep few = absurd (omega (arith, few))
    whole_stops (suc u) stream t is w framed alone deep few =
        let next : ParentComes u = λ name v f a e l.
        comes_by (own (keys.standing name)) v (λ tree there. whole_stops u (own (keys.standing name)) tree there v f a e l)
        (tree_in setting root (own (keys.standing name)) whole) refl in
        settled_stops u next stream t is w framed alone deep few (template_settles names s depth deeper lists t (all stream t is) w framed deep)

    whole_comes : (stream : Stream) (w : World) → IsFramed w → w.parent ≡ None → depth ≤ depth_of w → KeyComes s (whole_of stream) w (Ran names w)
    whole_comes stream w framed alone deep =
        comes_by stream w (λ t is. whole_stops (suc (unloaded names w.loaded)) stream t is w framed alone deep (omega arith)) (tree_in setting root stream whole) refl

  -- the body of a macro
  abbrev body_key : Stream → ℕ → List Val → Key
  body_key stream number vs = record { stream = stream; part = body_of number vs }

  module _ (depth : ℕ) (deeper : AllCome names s depth) (stream : Stream) (number : ℕ) (vs : List Val) (w : World) (framed : IsFramed w) (deep : depth ≤ depth_of w) where
    module _ (t : Statements) (is : tree_of setting root stream ≡ Some t) (b : MacroBody) (found : macro_numbered number t ≡ Some b) where
      counted_walk : (n : ℕ) (same : Bool) → (number_of b.arguments == length vs) ≡ same
          → part_walk n (body_of number vs) t ≡ (if same then Some (macro_walk n b vs) else None)
      counted_walk n same e =
          ap (λ (o : Option MacroBody). option_and_then (meanings.body_walk n vs) o) found ∙ ap (λ c. if c then Some (macro_walk n b vs) else None) e

      body_stops : (number_of b.arguments == length vs) ≡ true
          → Settles {O = Unit {0}} s w (Kept names w)
          (λ m go. arguments_walk (reversed b.arguments no_expressions) (reversed b.defaults no_expressions) vs (statements_walk m b.first b.body outside (go tt)))
          → Stopped (body_key stream number vs) w
      body_stops same (inl p) = inl (record {
        items = p.items;
        least = suc p.least;
        operands = [];
        after = p.after;
        kept = p.shaped;
        is = at_bound;
      })
        where
          at_bound : (n : ℕ) → suc p.least ≤ n → Finds (runners s n (body_key stream number vs)) w (behind p.items (ended (ends []) p.after))
          at_bound zero le = absurd (omega arith)
          at_bound (suc n) le =
              finds_part (body_of number vs) n w t (macro_walk n b vs) (behind p.items (ended (ends []) p.after)) (counted_walk n true same)
              (p.is n n (omega arith) (omega arith) (λ o. over [])) (tree_of setting root stream) is
      body_stops same (inr p) = inr (record {
        items = p.items;
        least = suc p.least;
        kinds = p.kinds;
        after = p.after;
        is = at_bound;
      })
        where
          at_bound : (n : ℕ) → suc p.least ≤ n → Finds (runners s n (body_key stream number vs)) w (behind p.items (ended (faults p.kinds) p.after))
          at_bound zero le = absurd (omega arith)
          at_bound (suc n) le =
              finds_part (body_of number vs) n w t (macro_walk n b vs) (behind p.items (ended (faults p.kinds) p.after)) (counted_walk n true same)
              (p.is n n (omega arith) (omega arith) (λ o. over [])) (tree_of setting root stream) is

      counted_comes : (same : Bool) → (number_of b.arguments == length vs) ≡ same → MacroRuns b → KeyComes s (body_key stream number vs) w (Keeps names w)
      counted_comes false e runs =
          inl (nothing_found (body_key stream number vs) (λ n. ap (λ (o : Option Statements). option_and_then (part_walk n (body_of number vs)) o) is ∙ counted_walk n false e))
      counted_comes true e runs = inr (body_stops e (macro_settles names s depth deeper lists b runs vs w framed deep))

    macro_comes : (t : Statements) → tree_of setting root stream ≡ Some t → (o : Option MacroBody) → macro_numbered number t ≡ o → IsIfFound MacroRuns o
        → KeyComes s (body_key stream number vs) w (Keeps names w)
    macro_comes t is None none runs =
        inl (nothing_found (body_key stream number vs)
        (λ n. ap (λ (o : Option Statements). option_and_then (part_walk n (body_of number vs)) o) is ∙ ap (λ (o : Option MacroBody). option_and_then (meanings.body_walk n vs) o) none))
    macro_comes t is (Some b) found runs = counted_comes t is b found (number_of b.arguments == length vs) refl runs

    body_comes : (o : Option Statements) → tree_of setting root stream ≡ o → KeyComes s (body_key stream number vs) w (Keeps names w)
    body_comes None none = inl (nothing_found (body_key stream number vs) (no_tree (body_key stream number vs) none))
    body_comes (Some t) is =
        macro_comes t is (macro_numbered number t) refl (macro_runs number t (all stream t is))

  -- the rounds of a loop that is called
  abbrev rounds_key : Stream → ℕ → Key
  rounds_key stream number = record { stream = stream; part = rounds_of number }

  -- the answer to the closing of its frame ends them
  rounds_end : (base w : World) (opened : Loop) (asked : ℕ) → opened.called ≡ true → InRound names base opened asked w → (otherwise : Statements) (n : ℕ)
      → run (answer s n) (loop_end otherwise cut_short cut_short) w ≡ ended (ends []) w
  rounds_end base w opened asked called inside no_statements n =
      ap (replied (λ a t. run (answer s n) (on_done cut_short a) t)) (called_leaves names s base w opened asked called inside n)
  rounds_end base w opened asked called inside (statements_more st ss) n =
      let t = top w (Some (loop_at opened asked)) (loops_of base.frames) inside.loops in
      let go : Val → Process = λ flag. asks close_loop (on_done (truth_asked flag cut_short cut_short)) in
      ap (replied (λ a v. run (answer s n) (on_value go a) v))
      (on_loop_is w t.frame t.rest (loop_at opened asked) t.frames (asks_own names base w opened asked (inl called) inside t) t.own (λ f l fs. told w (tells (value (values.truth (gave_none l))))))
      ∙ ap (replied (λ a v. run (answer s n) (on_done (truth_asked (values.truth (gave_none (loop_at opened asked))) cut_short cut_short) a) v)) (called_leaves names s base w opened asked called inside n)

  module _ (depth : ℕ) (deeper : AllCome names s depth) (stream : Stream) (number : ℕ) (w : World) (g : MayGoRound w) (deep : depth ≤ depth_of w) where
    abbrev under : World
    under = record w { frames = g.frames }

    same_frames : length w.frames ≡ suc (length g.frames)
    same_frames = ap (λ (fs : List Frame). length fs) g.is

    framed_inside : (asked : ℕ) → IsFramed (behind_frame under (frame_at g.loop asked)) × (depth ≤ depth_of (behind_frame under (frame_at g.loop asked)))
    framed_inside asked =
        let floor : w.floor ≤ suc (length g.frames) = omega (arith, g.floor, same_frames) in
        let within : depth ≤ suc (length g.frames) + w.outer = omega (arith, deep, same_frames) in
        (record { loop = Some (loop_at g.loop asked); others = loops_of g.frames; loops = refl; floor = floor }, within)

    starts_inside : InRound names under g.loop g.loop.asked w
    starts_inside =
        let meets : met w.parent ≤ met w.parent = omega arith in
        let loads : unloaded names w.loaded + met w.parent ≤ unloaded names w.loaded + met w.parent = omega arith in
        record {
          loops = ap loops_of g.is ∙ ap (λ (o : Option Loop). o ∷ loops_of g.frames) g.looping;
          outer = refl;
          floor = refl;
          saved = refl;
          captures = refl;
          meets = meets;
          loads = loads;
          added = ([], refl);
        }

    module _ (t : Statements) (is : tree_of setting root stream ≡ Some t) (r : LoopRounds) (found : rounds_numbered number t ≡ Some r) where
      found_walk : (n : ℕ) → part_walk n (rounds_of number) t ≡ Some (rounds_walk n r)
      found_walk n = ap (λ (o : Option LoopRounds). option_map (rounds_walk n) o) found

      rounds_stop : Settles {O = Unit {0}} s w (AtEnd names under g.loop) (λ m go. rounds m (round_of r.target r.first r.body m) (go tt)) → Stopped (rounds_key stream number) w
      rounds_stop (inl p) =
          let asked : ℕ = p.shaped.0 in
          let l : Loop = loop_at g.loop asked in
          inl (record {
            items = p.items;
            least = suc p.least;
            operands = [];
            after = p.after;
            kept = (
              l,
              subst (λ (fs : List Frame). Keeps names (record w { frames = loop_frame l ∷ fs }) p.after) (sym (ap (λ (fs : List Frame). drop 1 fs) g.is)) p.shaped.1,
            );
            is = at_bound;
          })
        where
          at_bound : (n : ℕ) → suc p.least ≤ n → Finds (runners s n (rounds_key stream number)) w (behind p.items (ended (ends []) p.after))
          at_bound zero le = absurd (omega arith)
          at_bound (suc n) le =
              finds_part (rounds_of number) n w t (rounds_walk n r) (behind p.items (ended (ends []) p.after)) (found_walk n)
              (p.is n n (omega arith) (omega arith) (λ o. loop_end r.otherwise cut_short cut_short)
              ∙ ap (behind p.items) (rounds_end under p.after g.loop p.shaped.0 g.called p.shaped.1 r.otherwise n))
              (tree_of setting root stream) is
      rounds_stop (inr p) = inr (record {
        items = p.items;
        least = suc p.least;
        kinds = p.kinds;
        after = p.after;
        is = at_bound;
      })
        where
          at_bound : (n : ℕ) → suc p.least ≤ n → Finds (runners s n (rounds_key stream number)) w (behind p.items (ended (faults p.kinds) p.after))
          at_bound zero le = absurd (omega arith)
          at_bound (suc n) le =
              finds_part (rounds_of number) n w t (rounds_walk n r) (behind p.items (ended (faults p.kinds) p.after)) (found_walk n)
              (p.is n n (omega arith) (omega arith) (λ o. loop_end r.otherwise cut_short cut_short)) (tree_of setting root stream) is

    loop_comes : (t : Statements) → tree_of setting root stream ≡ Some t → (o : Option LoopRounds) → rounds_numbered number t ≡ o → IsIfFound RoundsRun o
        → KeyComes s (rounds_key stream number) w (Rounded names w)
    loop_comes t is None none runs =
        inl (nothing_found (rounds_key stream number)
        (λ n. ap (λ (o : Option Statements). option_and_then (part_walk n (rounds_of number)) o) is ∙ ap (λ (o : Option LoopRounds). option_map (rounds_walk n) o) none))
    loop_comes t is (Some r) found runs =
        inr (rounds_stop t is r found
        (settles_called_rounds names s depth deeper lists r runs under g.loop g.called framed_inside g.loop.asked w starts_inside))

    rounds_come : (o : Option Statements) → tree_of setting root stream ≡ o → KeyComes s (rounds_key stream number) w (Rounded names w)
    rounds_come None none = inl (nothing_found (rounds_key stream number) (no_tree (rounds_key stream number) none))
    rounds_come (Some t) is = loop_comes t is (rounds_numbered number t) refl (rounds_run number t (all stream t is))

  -- every part of a stream
  part_comes : (depth : ℕ) → AllCome names s depth → (stream : Stream) (part : Part) (w : World) → Starts part w → depth ≤ depth_of w
      → KeyComes s (record { stream = stream; part = part }) w (Leaves names part w)
  part_comes depth deeper stream whole w starts deep = whole_comes depth deeper stream w starts.0 starts.1 deep
  part_comes depth deeper stream (body_of number vs) w starts deep =
      body_comes depth deeper stream number vs w starts.0 deep (tree_of setting root stream) refl
  part_comes depth deeper stream (rounds_of number) w starts deep =
      rounds_come depth deeper stream number w starts deep (tree_of setting root stream) refl

  deep_at : (part : Part) (w : World) → Starts part w → w.floor + w.outer ≤ depth_of w
  deep_at whole w starts = omega (arith, starts.0.floor)
  deep_at (body_of number vs) w starts = omega (arith, starts.0.floor)
  deep_at (rounds_of number) w starts = omega (arith, starts.floor)

  -- the deeper a run begins, the fewer may follow
  all_come : (d depth : ℕ) → setting.limit < depth + d → AllCome names s depth
  all_come zero depth enough key w starts below few = absurd (omega (arith, enough, few))
  all_come (suc d) depth enough key w starts below few =
      part_comes (w.floor + w.outer) (all_come d (w.floor + w.outer) (omega (arith, enough, below))) key.stream key.part w starts (deep_at key.part w starts)

  -- what a key comes to that finds a tree
  found_end : (o : Option (World → Run World)) (w : World) (r : Run World) → Finds o w r → IsFinished r.end → IsFinished (ran o w).end
  found_end None w r found finished = absurd found
  found_end (Some runs) w r found finished = subst (λ (q : Run World). IsFinished q.end) (sym found) finished

  stopped_end : (key : Key) (w : World) → Stopped key w → (least : ℕ) × ((n : ℕ) → least ≤ n → IsFinished (ran (runners s n key) w).end)
  stopped_end key w (inl k) = (k.least, λ n le. found_end (runners s n key) w (behind k.items (ended (ends k.operands) k.after)) (k.is n le) tt)
  stopped_end key w (inr k) = (k.least, λ n le. found_end (runners s n key) w (behind k.items (ended (faults k.kinds) k.after)) (k.is n le) tt)

  begun_framed : (w : World) (fs : List Frame) → w.frames ≡ fs → MayBegin w → IsFramed w
  begun_framed w [] e may =
      let none : length w.frames ≡ 0 = ap (λ (gs : List Frame). length gs) e in
      absurd (omega (arith, none, may.framed))
  begun_framed w (f ∷ fs) e may = record { loop = f.loop; others = loops_of fs; loops = ap loops_of e; floor = may.floor }

  stream_ends : (stream : Stream) (t : Statements) → tree_in setting root stream whole ≡ Some t → (w : World) → MayBegin w
      → (least : ℕ) × ((n : ℕ) → least ≤ n → IsFinished (ran (runners s n (whole_of stream)) w).end)
  stream_ends stream t is w may =
      let framed : IsFramed w = begun_framed w w.frames refl may in
      let deep : w.floor + w.outer ≤ depth_of w = omega (arith, may.floor) in
      stopped_end (whole_of stream) w
      (whole_stops (w.floor + w.outer) (all_come (suc setting.limit) (w.floor + w.outer) (omega arith)) (suc (unloaded names w.loaded)) stream t is w framed may.alone deep (omega arith))

  starts_at : (part : Part) (w : World) → MayStart part w → Starts part w
  starts_at whole w may = (begun_framed w w.frames refl may, may.alone)
  starts_at (body_of number vs) w may = (begun_framed w w.frames refl may, may.alone)
  starts_at (rounds_of number) w may = may

  none_found : (f : Process → World → Run World) (o : Option Process) → IsSome o → option_map f o ≡ None → ⊥
  none_found f None some e = absurd (cc)
  none_found f (Some p) some e = absurd (cc)

  comes_end : (key : Key) (w : World) → IsSome (s.process 0 key) → KeyComes s key w (Leaves names key.part w) → (n : ℕ) × IsFinished (ran (runners s n key) w).end
  comes_end key w some (inl nothing) = absurd (none_found (λ p v. ended breaks v) (s.process 0 key) some (nothing 0))
  comes_end key w some (inr stopped) = let at = stopped_end key w stopped in (at.0, at.1 at.0 (omega arith))

  key_ends : (key : Key) (w : World) → MayStart key.part w → IsSome (s.process 0 key) → (n : ℕ) × IsFinished (ran (runners s n key) w).end
  key_ends key w may some =
      let starts : Starts key.part w = starts_at key.part w may in
      comes_end key w some
      (part_comes (w.floor + w.outer) (all_come (suc setting.limit) (w.floor + w.outer) (omega arith)) key.stream key.part w starts (deep_at key.part w starts))

-- the template that is rendered, and those that stand
module _ (setting : Setting) (all : AreAllRunnable setting) (root : Option Standing) (h : ForSome root (λ (t : Standing). IsRunnableTemplate t.tree)) where
  standing_at : (home : Home) (x : Standing) → template_at setting root home ≡ Some x → IsRunnableTemplate x.tree
  standing_at keys.rendered x e = h x e
  standing_at (keys.standing name) x e = all name x e
  standing_at (keys.kept number) x e = absurd (cc)

  own_runs : (home : Home) (o : Option Standing) → template_at setting root home ≡ o → (t : Statements) → option_map (λ (x : Standing). x.tree) o ≡ Some t → IsRunnableTemplate t
  own_runs home None e t is = absurd (cc)
  own_runs home (Some x) e t is = let same : x.tree ≡ t = cc in subst IsRunnableTemplate same (standing_at home x e)

  body_runs : (home : Home) (name : List ℕ) (o : Option Standing) → template_at setting root home ≡ o → (t : Statements) → option_and_then (meanings.body_of name) o ≡ Some t → IsRunnableTemplate t
  body_runs home name None e t is = absurd (cc)
  body_runs home name (Some x) e t is = block_runs name x.tree (standing_at home x e) t is

  runs : AreStreamsRunnable setting root
  runs (own home) t e = own_runs home (template_at setting root home) refl t e
  runs (block_of home name) t e = body_runs home name (template_at setting root home) refl t e

stands : (o : Option Standing) (h : Head) → option_map head_of o ≡ Some h → IsSome o
stands None h e = absurd (cc)
stands (Some x) h e = refl

listed : (setting : Setting) (names : List (List ℕ)) → ListsAll setting names → (root : Option Standing) (called : List ℕ)
    → Lists names (named_so called (walks_of setting root))
listed setting names all root called name h e = all name (stands (setting.templates name) h e)

only_root : (root : Standing) → IsRunnableTemplate root.tree → ForSome (Some root) (λ (t : Standing). IsRunnableTemplate t.tree)
only_root root h x e = let same : root ≡ x = cc in subst (λ (y : Standing). IsRunnableTemplate y.tree) same h

pub every_run_ends : EveryRunEnds
every_run_ends setting names lists all root h w may =
    let at = stream_ends names setting (Some root) root.name (runs setting all (Some root) (only_root root h)) (listed setting names lists (Some root) root.name)
    (own keys.rendered) root.tree refl w may in
    (at.0, at.1 (suc at.0) (omega arith))

pub every_key_ends : EveryKeyEnds
every_key_ends setting names lists all root h name key some w may =
    key_ends names setting root name (runs setting all root h) (listed setting names lists root name) key w may some

not_both : (e : End) → IsFinished e → IsUnfinished e → ⊥
not_both (ends operands) h u = u
not_both (faults kinds) h u = u
not_both _ h u = h

same_under : (setting : Setting) (n m : ℕ) → n ≤ m → (root : Standing) (w : World) → IsFinished (meaning setting root n w).end → meaning setting root n w ≡ meaning setting root m w
same_under setting n m less root w h =
    elim (meanings_extend setting n m less root w) [ inl same ↦ sym same | inr more ↦ absurd (not_both (meaning setting root n w).end h more.0) ]

in_order : (n m : ℕ) → (n ≤ m) ⊎ (m ≤ n)
in_order zero m = inl (omega arith)
in_order (suc n) zero = inr (omega arith)
in_order (suc n) (suc m) = elim (in_order n m) [ inl h ↦ inl (omega arith) | inr h ↦ inr (omega arith) ]

pub one_meaning : OneMeaning
one_meaning setting n m root w h k =
    elim (in_order n m) [ inl less ↦ same_under setting n m less root w h | inr less ↦ sym (same_under setting m n less root w k) ]
