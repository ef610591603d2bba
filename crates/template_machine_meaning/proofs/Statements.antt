-- Each runnable statement settles.
use Rattle.std.proofs.Common.{◌≡◌, ℕ, ◌+◌, ◌-◌, ◌≤◌, inl, inr, ◌++◌, suc, Bool, true, false, ◌&&◌, IsTrue, List, [], ◌∷◌, length, Option, None, Some, Result, Ok, Err, refl, sym, ap, ◌∙◌, arith}
use Rattle.std.specs.Prelude.{if◌then◌else◌}
use Rattle.template_values_errors.specs.declared.ErrorKind.{ErrorKind}
use Rattle.template_values_errors.specs.declared.ErrorKind.TheVariants.{UndefinedError}
use Rattle.template_values_errors.specs.declared.modes.AutoEscape.{AutoEscape}
use Rattle.template_values_model.specs.Val as values
use Rattle.template_values_model.specs.Val.{Val}
use Rattle.template_values_core.specs.Answers.{text_in}
use Rattle.template_values_forms.specs.Escaped.{escaped}
use Rattle.template_values_operators.specs.Iterated.{iterated}
use Rattle.template_callables.specs.Callables as callables
use Rattle.template_callables.specs.Callables.{View, Formatted, writes, forbids}
use Rattle.template_compiler_tree.specs.Tree as tree
use Rattle.template_compiler_tree.specs.Kinds.{is_empty}
use Rattle.template_compiler_tree.specs.Tree.{Expression, Expressions, no_expressions, expressions_more, Arguments, variable, positional, keyword, positional_spread, keyword_spread, no_arguments, arguments_more, macro, Statement, Statements, Imports, call, absent, given, raw, print, for_loop, if_condition, with_block, set, set_block, auto_escape, filter_block, block, import, from_import, extends, include, continue_loop, break_loop, do_call, no_statements, statements_more, no_imports, imports_more}
use Rattle.template_compiler_process.specs.Process as events
use Rattle.template_compiler_process.specs.Process.{Counts, no_counts, counted_together, Looping, Making, Ask, store, truth_of, write_raw, write_value, open_frame, close_frame, open_loop, did_not_iterate, close_loop, open_escape, close_escape, begin_capture, end_capture, load_blocks, export_locals, done, value, tells, fails, Process, step, asks, on_done, on_value, on_truth, done_asked}
use Rattle.template_compiler_process.specs.Trace.{written, Reply, run, replied}
use Rattle.template_compiler_names.specs.Enclosed.{enclosed_names}
use Rattle.template_compiler_walk.specs.Counting.{loop_counts, counts_by, counts_among, MacroBody, LoopRounds}
use Rattle.template_compiler_names.specs.Names.{reversed}
use Rattle.template_compiler_walk.specs.Expressions.{Giving, Passing, alone, spreads, Callee, by_name, by_block, callee_of, object_walk, positional_walks, keyword_walks, expression_walk, expressions_walk, filters_walk}
use Rattle.template_compiler_walk.specs.Statements.{closing, capturing, target_walk, assignments_walk, rounds, iterable_walk, loop_end, looping_behind, Printed, prints_value, prints_block, prints_super, prints_rounds, is_super_name, is_loop_name, printed_rounds, printed_by, printed_of, printed_walk, making_of, making_walk, declared_walk, caller_name, calling_walk, arguments_walk, imported_names, stored_as, imports_stored, apart, past, statement_walk, statements_walk}
use Rattle.template_compiler_walk.specs.Runnable.{IsRunnable, AreRunnableArguments, AreRunnable, AreFilters, IsTarget, AreTargets, AreImports, IsRunnableStatement, AreRunnableStatements}
use Rattle.template_machine_meaning.specs.World.{Loop, Frame, Capture, keeps, drops, World, empty_frame, depth_of, has_room, loop_over, counted_loop}
use Rattle.template_machine_meaning.specs.Captures.{with_text}
use Rattle.template_machine_meaning.specs.Records.{known_of}
use Rattle.template_machine_meaning.specs.Undefined.{forbids_printing, forbids_iterating}
use Rattle.template_machine_meaning.specs.Replies.{told, changed, refused, guarded, replied_with, changed_with, kinded}
use Rattle.template_machine_meaning.specs.Keys.{standing, Head}
use Rattle.template_machine_meaning.specs.Calls.{view_of}
use Rattle.template_machine_meaning.specs.Blocks.{is_among}
use Rattle.template_machine_meaning.specs.Modules.{module_of}
use Rattle.template_machine_meaning.specs.Surroundings.{Programs, text_reply, printed_reply, formatted_reply, format_reply, rounds_here, opened_loop, gave_none, escape_named, escape_put_back, answer}
use Rattle.template_machine_meaning.proofs.Settling.{Walk, Settles, settles_then, settles_now, settles_step, settles_value, settles_refused, settles_before, settles_to, settles_weaker}
use Rattle.template_machine_meaning.proofs.Keeping.{Keeps, keeps_itself, keeps_on, loops_of, met, top, IsFramed, framed_on, same_depth, behind_frame, framed_behind, on_frames_is, on_loop_is, capturing_in}
use Rattle.template_machine_meaning.proofs.Entering.{AllCome}
use Rattle.template_machine_meaning.proofs.Blocks.{Kept, settles_failed, settles_block, settles_super_block, settles_recurse, settles_load, settles_taken}
use Rattle.template_machine_meaning.proofs.Expressions.{settles_tested, value_walk, EachPassed, none_passed, alone_more, spread_more, Always, settles_called, settles_expression, settles_object, settles_positional, settles_keyword, settles_all, settles_filters}
use Rattle.template_machine_meaning.proofs.Scopes.{settles_target, settles_making, settles_assignments, settles_arguments, settles_pushed, settles_closed}
use Rattle.template_machine_meaning.proofs.Loops.{Leave, goes, breaks_out, continues, exits_of, loop_at, frame_at, InRound, AtEnd, MayAsk, asks_own, loop_closed, Round, Turns, settles_rounds}
use Rattle.template_machine_meaning.proofs.Sifting.{settles_iterable}
use Rattle.template_machine_meaning.proofs.Numbered.{MacroRuns, RoundsRun}
use Rattle.template_machine_meaning.proofs.Included.{settles_include}

-- `break` and `continue` lead out of loops alone
abbrev pub MayLeave : Bool → Leave → Type 0
MayLeave looping goes = Unit {0}
MayLeave looping breaks_out = IsTrue looping
MayLeave looping continues = IsTrue looping

-- what is come to keeps what the base has
abbrev pub LeavesTo : List (List ℕ) → Bool → World → Leave → World → Type 0
LeavesTo names looping base o w = Keeps names base w × MayLeave looping o

-- the walk of statements, before what follows each way out
abbrev pub body_walk : Counts → Statements → Walk Leave
body_walk first ss m go = statements_walk m first ss (exits_of go) (go goes)

-- parameters and defaults from the last to the first
targets_reversed : (es behind : Expressions) → AreTargets es → AreTargets behind → AreTargets (reversed es behind)
targets_reversed no_expressions behind are h = h
targets_reversed (expressions_more e es) behind are h = targets_reversed es (expressions_more e behind) are.1 (are.0, h)

defaults_reversed : (es behind : Expressions) → AreRunnable es → AreRunnable behind → AreRunnable (reversed es behind)
defaults_reversed no_expressions behind are h = h
defaults_reversed (expressions_more e es) behind are h = defaults_reversed es (expressions_more e behind) are.1 (are.0, h)

-- none taken off
none_off : (m : ℕ) → m ≡ m - 0
none_off m = omega arith

-- a round of a loop: the target, then the body
abbrev pub round_of : Expression → Counts → Statements → Round
round_of target first body m item inner again = target_walk target item (statements_walk m first body inner again)

module _ (names : List (List ℕ)) (s : Programs) (depth : ℕ) (deeper : AllCome names s depth)
    (lists : (name : List ℕ) (h : Head) → s.around.head (standing name) ≡ Some h → is_among name names ≡ true) where
  -- what settles from every world that keeps what the base has
  abbrev Leads : Bool → World → Walk Leave → Type 0
  Leads looping base P = (w : World) → Keeps names base w → Settles {O = Leave} s w (LeavesTo names looping base) P

  abbrev Frames : World → Type 0
  Frames base = IsFramed base × (depth ≤ depth_of base)

  frames_on : (base w : World) → Frames base → Keeps names base w → Frames w
  frames_on base w framed kept =
      let within : depth ≤ depth_of w = omega (arith, framed.1, same_depth names base w kept) in
      (framed_on names base w framed.0 kept, within)

  frames_behind : (w : World) (f : Frame) → Frames w → Frames (behind_frame w f)
  frames_behind w f framed =
      let within : depth ≤ suc (length w.frames) + w.outer = omega (arith, framed.1) in
      (framed_behind w f framed.0.floor, within)

  frames_aside : (w : World) (captures : List Capture) (escape : AutoEscape) (saved : List AutoEscape) → Frames w → Frames (record w { captures = captures; escape = escape; saved = saved })
  frames_aside w captures escape saved framed = (record { loop = framed.0.loop; others = framed.0.others; loops = framed.0.loops; floor = framed.0.floor }, framed.1)

  -- a text is written, where these captures are open
  abbrev text_into : World → List ℕ → List Capture → Reply World
  text_into w text captures = elim captures [
    | [] ↦ record { told = tells done; items = written text ∷ []; after = w }
    | c ∷ cs ↦ changed (record w { captures = with_text text c ∷ cs }) done
  ]

  written_out : (looping : Bool) (base w : World) → Keeps names base w → (e : Ask) (text : List ℕ) → ((n : ℕ) → answer s n w e ≡ text_reply w text)
      → (captures : List Capture) → w.captures ≡ captures → Settles {O = Leave} s w (LeavesTo names looping base) (λ m go. step (asks e (on_done (go goes))))
  written_out looping base w kept e text is [] none =
      settles_step s w (LeavesTo names looping base) (λ m go. asks e (on_done (go goes)))
      (settles_before s w w (LeavesTo names looping base) (written text ∷ []) 0 (λ m go. asks e (on_done (go goes))) (λ m go. go goes)
      (λ n m le ge go. ap (replied (λ a t. run (answer s n) (on_done (go goes) a) t)) (is n ∙ ap (text_into w text) none))
      (settles_now s w (LeavesTo names looping base) goes (kept, tt)))
  written_out looping base w kept e text is (c ∷ cs) some =
      let z : World = record w { captures = with_text text c ∷ cs } in
      let kept_there : Keeps names base z = record { loops = kept.loops; outer = kept.outer; floor = kept.floor; saved = kept.saved; captures = ap (λ (ds : List Capture). length ds + met base.parent) (sym some) ∙ kept.captures; meets = kept.meets; loads = kept.loads; added = kept.added } in
      settles_step s w (LeavesTo names looping base) (λ m go. asks e (on_done (go goes)))
      (settles_to s w z (LeavesTo names looping base) e (λ m go. go goes) (λ n. is n ∙ ap (text_into w text) some)
      (settles_now s z (LeavesTo names looping base) goes (kept_there, tt)))

  failed_out : (looping : Bool) (base w : World) (e : Ask) (kinds : List ErrorKind) → ((n : ℕ) → answer s n w e ≡ told w (fails kinds))
      → Settles {O = Leave} s w (LeavesTo names looping base) (λ m go. step (asks e (on_done (go goes))))
  failed_out looping base w e kinds is =
      settles_step s w (LeavesTo names looping base) (λ m go. asks e (on_done (go goes)))
      (settles_failed s w (LeavesTo names looping base) e kinds (λ go. on_done (go goes)) is)

  -- a value is written: under the escape in force, or as a formatter says
  module _ (looping : Bool) (base w : World) (kept : Keeps names base w) (v : Val) where
    abbrev Writes : Type 0
    Writes = Settles {O = Leave} s w (LeavesTo names looping base) (λ m go. step (asks (write_value v) (on_done (go goes))))

    text_out : (r : Result (List ℕ) ErrorKind) → ((n : ℕ) → answer s n w (write_value v) ≡ printed_reply w r) → Writes
    text_out (Ok text) is = written_out looping base w kept (write_value v) text is w.captures refl
    text_out (Err kind) is = failed_out looping base w (write_value v) (kind ∷ []) is

    formatted_out : (f : Formatted) → ((n : ℕ) → answer s n w (write_value v) ≡ formatted_reply w v f) → Writes
    formatted_out (writes text) is = written_out looping base w kept (write_value v) text is w.captures refl
    formatted_out (callables.escapes other) is = text_out (kinded (escaped w.escape (known_of w) other)) is
    formatted_out (forbids kinds) is = failed_out looping base w (write_value v) kinds is

    format_out : (o : Option (View → Val → Formatted)) → ((n : ℕ) → answer s n w (write_value v) ≡ format_reply s.around w v o) → Writes
    format_out None is = text_out (kinded (escaped w.escape (known_of w) v)) is
    format_out (Some formats) is = formatted_out (formats (view_of s.around w) v) is

    printed_by_rule : (b : Bool) → forbids_printing s.around.undefined v ≡ b → Writes
    printed_by_rule true e =
        failed_out looping base w (write_value v) (UndefinedError ∷ [])
        (λ n. ap (λ (b : Bool). if b then refused w UndefinedError else format_reply s.around w v s.around.callables.formats) e)
    printed_by_rule false e =
        format_out s.around.callables.formats
        (λ n. ap (λ (b : Bool). if b then refused w UndefinedError else format_reply s.around w v s.around.callables.formats) e)

    printed_out : Writes
    printed_out = printed_by_rule (forbids_printing s.around.undefined v) refl

  -- an expression first
  valued : (looping : Bool) (base : World) → Frames base → (w : World) → Keeps names base w → (e : Expression) → IsRunnable e → (Q : Val → Walk Leave) → ((v : Val) → Leads looping base (Q v))
      → Settles {O = Leave} s w (LeavesTo names looping base) (λ m go. expression_walk e (λ v. Q v m go))
  valued looping base framed w kept e h Q next =
      settles_then s w (Kept names base) (LeavesTo names looping base) (λ m go. expression_walk e go) Q (settles_expression names s depth deeper base framed.1 e h w kept) (λ v x k. next v x k)

  -- what is tested leads to one of two
  tested : (looping : Bool) (base w : World) (v : Val) (P Q : Walk Leave) → Settles {O = Leave} s w (LeavesTo names looping base) P → Settles {O = Leave} s w (LeavesTo names looping base) Q
      → Settles {O = Leave} s w (LeavesTo names looping base) (λ m go. step (asks (truth_of v) (on_truth (P m go) (Q m go))))
  tested looping base w v P Q p q = settles_tested s w (LeavesTo names looping base) v P Q p q

  -- a target last
  targeted : (looping : Bool) (base w : World) → Keeps names base w → Frames base → (target : Expression) → IsTarget target → (v : Val) → Settles {O = Leave} s w (LeavesTo names looping base) (λ m go. target_walk target v (go goes))
  targeted looping base w kept framed target h v =
      settles_then s w (Kept names base) (LeavesTo names looping base) (λ m go. target_walk target v (go tt)) (λ o m go. go goes)
      (settles_target names s depth deeper base framed.0 framed.1 target h v w kept)
      (λ o x k. settles_now s x (LeavesTo names looping base) goes (k, tt))

  -- behind a loop: its else part, if it has one, where no item was given
  ended_loop : (looping : Bool) (base w : World) (own : Loop) (asked : ℕ) → own.called ≡ false → base.floor ≤ length base.frames → InRound names base own asked w → (otherwise : Statements) (Q : Walk Leave)
      → ((z : World) → Keeps names base z → Settles {O = Leave} s z (LeavesTo names looping base) Q) → Settles {O = Leave} s w (LeavesTo names looping base) (λ m go. loop_end otherwise (Q m go) (go goes))
  ended_loop looping base w own asked called floored inside no_statements Q next =
      loop_closed names s base w own asked called floored inside (LeavesTo names looping base) (λ m go. go goes) (λ z kept. settles_now s z (LeavesTo names looping base) goes (kept, tt))
  ended_loop looping base w own asked called floored inside (statements_more s₀ ss) Q next =
      let t = top w (Some (loop_at own asked)) (loops_of base.frames) inside.loops in
      settles_then s w (Kept names (behind_frame base (frame_at own asked))) (LeavesTo names looping base) (λ m go. asks did_not_iterate (on_value go))
      (λ flag m go. asks close_loop (on_done (step (asks (truth_of flag) (on_truth (Q m go) (go goes))))))
      (settles_value s w (Kept names (behind_frame base (frame_at own asked))) did_not_iterate (Ok (values.truth (gave_none (loop_at own asked)))) (λ v. inside)
      (λ n. on_loop_is w t.frame t.rest (loop_at own asked) t.frames (asks_own names base w own asked (inr floored) inside t) t.own (λ f l fs. told w (tells (value (values.truth (gave_none l)))))))
      (λ flag x here. loop_closed names s base x own asked called floored here (LeavesTo names looping base) (λ m go. step (asks (truth_of flag) (on_truth (Q m go) (go goes))))
      (λ z kept. tested looping base z flag Q (λ m go. go goes) (next z kept) (settles_now s z (LeavesTo names looping base) goes (kept, tt))))

  -- behind a branch that an else part follows
  stepped_past : (looping : Bool) (base w : World) → Keeps names base w → (otherwise : Statements) → Settles {O = Leave} s w (LeavesTo names looping base) (λ m go. past otherwise (go goes))
  stepped_past looping base w kept no_statements = settles_now s w (LeavesTo names looping base) goes (kept, tt)
  stepped_past looping base w kept (statements_more s₀ ss) = settles_step s w (LeavesTo names looping base) (λ m go. go goes) (settles_now s w (LeavesTo names looping base) goes (kept, tt))

  -- an escape is put back
  abbrev escaping_in : World → AutoEscape → World
  escaping_in w rule = record w { escape = rule; saved = w.escape ∷ w.saved }

  escape_closed : (base w y : World) (rule : AutoEscape) → Keeps names base w → Keeps names (escaping_in w rule) y → (fs : List AutoEscape) → y.saved ≡ fs
      → (looping : Bool) (o : Leave) → MayLeave looping o → Settles {O = Leave} s y (LeavesTo names looping base) (λ m go. asks close_escape (on_done (go o)))
  escape_closed base w y rule kept inside [] e looping o may =
      let none : length y.saved ≡ 0 = ap (λ (rules : List AutoEscape). length rules) e in
      absurd (omega (arith, none, inside.saved))
  escape_closed base w y rule kept inside (f ∷ fs) e looping o may =
      let z : World = record y { escape = f; saved = fs } in
      let more : length y.saved ≡ suc (length fs) = ap (λ (rules : List AutoEscape). length rules) e in
      let same : length fs ≡ length w.saved = omega (arith, more, inside.saved) in
      let kept_there : Keeps names w z = record { loops = inside.loops; outer = inside.outer; floor = inside.floor; saved = same; captures = inside.captures; meets = inside.meets; loads = inside.loads; added = inside.added } in
      settles_to s y z (LeavesTo names looping base) close_escape (λ m go. go o) (λ n. ap (escape_put_back y) e)
      (settles_now s z (LeavesTo names looping base) o (keeps_on names base w z kept kept_there, may))

  -- a captured text is taken, or dropped on the way out
  abbrev taken_out : (Val → Walk Leave) → Leave → Val → Walk Leave
  taken_out takes goes v m go = takes v m go
  taken_out takes breaks_out v m go = go breaks_out
  taken_out takes continues v m go = go continues

  out_settles : (looping : Bool) (base w : World) → Keeps names base w → (takes : Val → Walk Leave) → ((v : Val) → Leads looping base (takes v)) → (o : Leave) → MayLeave looping o
      → (v : Val) → Settles {O = Leave} s w (LeavesTo names looping base) (taken_out takes o v)
  out_settles looping base w kept takes lead goes may v = lead v w kept
  out_settles looping base w kept takes lead breaks_out may v = settles_now s w (LeavesTo names looping base) breaks_out (kept, may)
  out_settles looping base w kept takes lead continues may v = settles_now s w (LeavesTo names looping base) continues (kept, may)

  -- behind a captured body
  abbrev capture_out : (Val → Walk Leave) → Leave → Walk Leave
  capture_out takes o m go = step (asks end_capture (on_value (λ text. taken_out takes o text m go)))

  capture_closed : (base w y : World) (c : Capture) → Keeps names base w → Keeps names (capturing_in w c) y → (looping : Bool) (takes : Val → Walk Leave) → ((v : Val) → Leads looping base (takes v))
      → (o : Leave) → MayLeave looping o → Settles {O = Leave} s y (LeavesTo names looping base) (capture_out takes o)
  capture_closed base w y c kept inside looping takes lead o may =
      settles_step s y (LeavesTo names looping base) (λ m go. asks end_capture (on_value (λ text. taken_out takes o text m go)))
      (settles_then s y (Kept names w) (LeavesTo names looping base) (λ m go. asks end_capture (on_value go)) (taken_out takes o) (settles_taken names s w y c inside)
      (λ text z k. out_settles looping base z (keeps_on names base w z kept k) takes lead o may text))

  -- rounds under a whole bound
  whole_rounds : {O : Type 0} (w : World) (shape : O → World → Type 0) (round : Round) (K : ℕ → (O → Process) → Process)
      → Settles {O = O} s w shape (λ m go. rounds (m - 0) (round m) (K m go)) → Settles {O = O} s w shape (λ m go. rounds m (round m) (K m go))
  whole_rounds w shape round K h =
      settles_before s w w shape [] 0 (λ m go. rounds m (round m) (K m go)) (λ m go. rounds (m - 0) (round m) (K m go))
      (λ n m le ge go. let less : m ≡ m - 0 = omega arith in ap (λ b. run (answer s n) (rounds b (round m) (K m go)) w) less) h

  -- behind a statement, and behind a branch
  abbrev more_out : Counts → Statements → Leave → Walk Leave
  more_out first ss goes m go = statements_walk m first ss (exits_of go) (go goes)
  more_out first ss breaks_out m go = go breaks_out
  more_out first ss continues m go = go continues

  abbrev branch_out : Statements → Leave → Walk Leave
  branch_out otherwise goes m go = past otherwise (go goes)
  branch_out otherwise breaks_out m go = go breaks_out
  branch_out otherwise continues m go = go continues

  branch_settles : (looping : Bool) (base : World) (otherwise : Statements) (o : Leave) (w : World) → LeavesTo names looping base o w → Settles {O = Leave} s w (LeavesTo names looping base) (branch_out otherwise o)
  branch_settles looping base otherwise goes w leaves = stepped_past looping base w leaves.0 otherwise
  branch_settles looping base otherwise breaks_out w leaves = settles_now s w (LeavesTo names looping base) breaks_out leaves
  branch_settles looping base otherwise continues w leaves = settles_now s w (LeavesTo names looping base) continues leaves

  -- statements that settle from every world that keeps what a base has, for each base
  abbrev BodySettles : Bool → Counts → Statements → Type 0
  BodySettles looping first ss = (base : World) → Frames base → Leads looping base (body_walk first ss)

  -- each round settles, in the frame of a loop that may be asked
  round_settles : (target : Expression) (first : Counts) (body : Statements) → IsTarget target → BodySettles true first body
      → (w : World) (own : Loop) (may : MayAsk w own) → ((asked : ℕ) → Frames (behind_frame w (frame_at own asked))) → Turns names s w own may (round_of target first body)
  round_settles target first body h bodies w own may framed v asked y here =
      let frame : World = behind_frame w (frame_at own asked) in
      settles_weaker s y (LeavesTo names true frame) (Kept names frame) (λ m go. round_of target first body m v (exits_of go) (go goes)) (λ o z leaves. leaves.0)
      (settles_then s y (Kept names frame) (LeavesTo names true frame) (λ m go. target_walk target v (go tt)) (λ o m go. statements_walk m first body (exits_of go) (go goes))
      (settles_target names s depth deeper frame (framed asked).0 (framed asked).1 target h v y here)
      (λ o z k. bodies frame (framed asked) z k))

  -- a loop over items
  rounds_settle : (looping : Bool) (target : Expression) (first : Counts) (body : Statements) (last : Counts) (otherwise : Statements) → IsTarget target → BodySettles true first body → BodySettles looping last otherwise
      → (base : World) → Frames base → (w : World) → Keeps names base w → (own : Loop) → own.called ≡ false
      → Settles {O = Leave} s (behind_frame w (frame_at own 0)) (LeavesTo names looping base) (λ m go. rounds m (round_of target first body m) (loop_end otherwise (statements_walk m last otherwise (exits_of go) (go goes)) (go goes)))
  rounds_settle looping target first body last otherwise h bodies others base framed w kept own called =
      let inside : World = behind_frame w (frame_at own 0) in
      let framed_here : Frames w = frames_on base w framed kept in
      whole_rounds inside (LeavesTo names looping base) (round_of target first body) (λ m go. loop_end otherwise (statements_walk m last otherwise (exits_of go) (go goes)) (go goes))
      (settles_then s inside (AtEnd names w own) (LeavesTo names looping base) (λ m go. rounds (m - 0) (round_of target first body m) (go tt)) (λ o m go. loop_end otherwise (statements_walk m last otherwise (exits_of go) (go goes)) (go goes))
      (settles_rounds names s w own (inr framed_here.0.floor) (round_of target first body) (length own.items) 0 0 (omega arith)
      (round_settles target first body h bodies w own (inr framed_here.0.floor) (λ asked. frames_behind w (frame_at own asked) framed_here))
      inside (keeps_itself names inside))
      (λ o y at.
      settles_weaker s y (LeavesTo names looping w) (LeavesTo names looping base) (λ m go. loop_end otherwise (statements_walk m last otherwise (exits_of go) (go goes)) (go goes)) (λ o z leaves. (keeps_on names base w z kept leaves.0, leaves.1))
      (ended_loop looping w y own at.0 called framed_here.0.floor at.1 otherwise (body_walk last otherwise)
      (λ z k. others w framed_here z k))))

  looped : (looping : Bool) (how : Looping) (target : Expression) (first : Counts) (body : Statements) (last : Counts) (otherwise : Statements) (v : Val) → IsTarget target → BodySettles true first body → BodySettles looping last otherwise
      → (base : World) → Frames base → (w : World) → Keeps names base w → (r : Result (List Val) ErrorKind) → guarded (forbids_iterating s.around.undefined v) (kinded (iterated (known_of w) v)) ≡ r
      → Settles {O = Leave} s w (LeavesTo names looping base) (λ m go. asks (open_loop how v) (on_done (rounds m (round_of target first body m) (loop_end otherwise (statements_walk m last otherwise (exits_of go) (go goes)) (go goes)))))
  looped looping how target first body last otherwise v h bodies others base framed w kept (Ok vs) e =
      let own : Loop = loop_over w how.variable (rounds_here w how.rounds) vs in
      settles_pushed s w (counted_loop w) (LeavesTo names looping base) (open_loop how v) (frame_at own 0) (λ m go. rounds m (round_of target first body m) (loop_end otherwise (statements_walk m last otherwise (exits_of go) (go goes)) (go goes))) (has_room s.around.limit 1 w) refl
      (λ n. ap (λ r. changed_with w (λ after. done) (λ after. after) (opened_loop s.around.limit w how r)) e)
      (rounds_settle looping target first body last otherwise h bodies others base framed (counted_loop w) (record { loops = kept.loops; outer = kept.outer; floor = kept.floor; saved = kept.saved; captures = kept.captures; meets = kept.meets; loads = kept.loads; added = kept.added }) own refl)
  looped looping how target first body last otherwise v h bodies others base framed w kept (Err kind) e =
      settles_refused s w (LeavesTo names looping base) (open_loop how v) kind (λ m go. on_done (rounds m (round_of target first body m) (loop_end otherwise (statements_walk m last otherwise (exits_of go) (go goes)) (go goes))))
      (λ n. ap (λ r. changed_with w (λ after. done) (λ after. after) (opened_loop s.around.limit w how r)) e)

  -- an escape for a body
  escaping : (looping : Bool) (first : Counts) (body : Statements) → BodySettles looping first body → (base : World) → Frames base → (w : World) → Keeps names base w → (v : Val) (r : Result AutoEscape ErrorKind) → escape_named w.first v (text_in v) ≡ r
      → Settles {O = Leave} s w (LeavesTo names looping base) (λ m go. asks (open_escape v) (on_done (statements_walk m first body (closing close_escape (exits_of go)) (asks close_escape (on_done (go goes))))))
  escaping looping first body bodies base framed w kept v (Err kind) e =
      settles_refused s w (LeavesTo names looping base) (open_escape v) kind (λ m go. on_done (statements_walk m first body (closing close_escape (exits_of go)) (asks close_escape (on_done (go goes)))))
      (λ n. ap (changed_with w (λ rule. done) (λ rule. record w { escape = rule; saved = w.escape ∷ w.saved })) e)
  escaping looping first body bodies base framed w kept v (Ok rule) e =
      let inside : World = escaping_in w rule in
      let framed_inside : Frames inside = frames_aside w w.captures rule (w.escape ∷ w.saved) (frames_on base w framed kept) in
      settles_to s w inside (LeavesTo names looping base) (open_escape v) (λ m go. statements_walk m first body (closing close_escape (exits_of go)) (asks close_escape (on_done (go goes))))
      (λ n. ap (changed_with w (λ rule. done) (λ rule. record w { escape = rule; saved = w.escape ∷ w.saved })) e)
      (settles_then s inside (LeavesTo names looping inside) (LeavesTo names looping base) (body_walk first body) (λ o m go. asks close_escape (on_done (go o))) (bodies inside framed_inside inside (keeps_itself names inside))
      (λ o y l. escape_closed base w y rule kept l.0 y.saved refl looping o l.1))

  -- a capture for a body, whose text is taken
  captured_body : (looping : Bool) (first : Counts) (body : Statements) → BodySettles looping first body → (base : World) → Frames base → (w : World) → Keeps names base w
      → (takes : Val → Walk Leave) → ((v : Val) → Leads looping base (takes v))
      → Settles {O = Leave} s w (LeavesTo names looping base) (λ m go. asks (begin_capture true) (on_done (statements_walk m first body (capturing (exits_of go)) (capture_out takes goes m go))))
  captured_body looping first body bodies base framed w kept takes lead =
      let inside : World = capturing_in w (keeps []) in
      let framed_inside : Frames inside = frames_aside w (keeps [] ∷ w.captures) w.escape w.saved (frames_on base w framed kept) in
      settles_to s w inside (LeavesTo names looping base) (begin_capture true) (λ m go. statements_walk m first body (capturing (exits_of go)) (capture_out takes goes m go)) (λ n. refl)
      (settles_then s inside (LeavesTo names looping inside) (LeavesTo names looping base) (body_walk first body) (capture_out takes) (bodies inside framed_inside inside (keeps_itself names inside))
      (λ o y l. capture_closed base w y (keeps []) kept l.0 looping takes lead o l.1))

  -- filters first, over a text
  filtered_text : (looping : Bool) (base : World) → Frames base → (w : World) → Keeps names base w → (filters : Expression) → AreFilters filters → (v : Val) → (Q : Val → Walk Leave) → ((u : Val) → Leads looping base (Q u))
      → Settles {O = Leave} s w (LeavesTo names looping base) (λ m go. filters_walk filters v (λ u. Q u m go))
  filtered_text looping base framed w kept filters h v Q next =
      settles_then s w (Kept names base) (LeavesTo names looping base) (λ m go. filters_walk filters v go) Q (settles_filters names s depth deeper base framed.1 filters h v w kept) (λ u x k. next u x k)

  -- a block where it stands
  block_out : (looping : Bool) (base : World) → Frames base → (w : World) → Keeps names base w → (name : List ℕ) → Settles {O = Leave} s w (LeavesTo names looping base) (λ m go. step (asks (events.call_block name) (on_done (go goes))))
  block_out looping base framed w kept name =
      settles_step s w (LeavesTo names looping base) (λ m go. asks (events.call_block name) (on_done (go goes)))
      (settles_then s w (Kept names w) (LeavesTo names looping base) (λ m go. asks (events.call_block name) (on_done (go tt))) (λ o m go. go goes)
      (settles_block names s depth deeper w (frames_on base w framed kept).1 name)
      (λ o y k. settles_now s y (LeavesTo names looping base) goes (keeps_on names base w y kept k, tt)))

  -- what is printed
  abbrev RunsPrinted : Printed → Type 0
  RunsPrinted (prints_rounds e) = IsRunnable e
  RunsPrinted _ = Unit {0}

  rounds_runs : (args : Arguments) → AreRunnableArguments args → RunsPrinted (printed_rounds args)
  rounds_runs no_arguments h = tt
  rounds_runs (arguments_more (positional e) no_arguments) h = h.0
  rounds_runs (arguments_more (positional e) (arguments_more a args)) h = tt
  rounds_runs (arguments_more (keyword name e) args) h = tt
  rounds_runs (arguments_more (positional_spread e) args) h = tt
  rounds_runs (arguments_more (keyword_spread e) args) h = tt

  either_runs : (b : Bool) (p q : Printed) → RunsPrinted p → RunsPrinted q → RunsPrinted (if b then p else q)
  either_runs true p q first second = first
  either_runs false p q first second = second

  callee_runs : (callee : Callee) (args : Arguments) → AreRunnableArguments args → RunsPrinted (printed_by callee args)
  callee_runs (by_name name) args h =
      either_runs (is_super_name name && is_empty args) prints_super (if is_loop_name name then printed_rounds args else prints_value) tt
      (either_runs (is_loop_name name) (printed_rounds args) prints_value (rounds_runs args h) tt)
  callee_runs (by_block name) args h = tt
  callee_runs _ args h = tt

  print_runs : (e : Expression) → IsRunnable e → RunsPrinted (printed_of e)
  print_runs (call callee args) h = callee_runs (callee_of callee args) args h.1
  print_runs _ h = tt

  printed_settles : (looping : Bool) (base : World) → Frames base → (w : World) → Keeps names base w → (e : Expression) → IsRunnable e → (p : Printed) → RunsPrinted p
      → Settles {O = Leave} s w (LeavesTo names looping base) (λ m go. printed_walk p (expression_walk e) (go goes))
  printed_settles looping base framed w kept e h prints_value runs =
      valued looping base framed w kept e h (λ v m go. step (asks (write_value v) (on_done (go goes)))) (λ v x k. printed_out looping base x k v)
  printed_settles looping base framed w kept e h (prints_block name) runs = block_out looping base framed w kept name
  printed_settles looping base framed w kept e h prints_super runs =
      settles_step s w (LeavesTo names looping base) (λ m go. asks events.super_block (on_done (go goes)))
      (settles_then s w (Kept names w) (LeavesTo names looping base) (λ m go. asks events.super_block (on_done (go tt))) (λ o m go. go goes)
      (settles_super_block names s depth deeper w (frames_on base w framed kept).1)
      (λ o y k. settles_now s y (LeavesTo names looping base) goes (keeps_on names base w y kept k, tt)))
  printed_settles looping base framed w kept e h (prints_rounds x) runs =
      valued looping base framed w kept x runs (λ v m go. step (asks (events.recurse v) (on_done (go goes))))
      (λ v y k. settles_step s y (LeavesTo names looping base) (λ m go. asks (events.recurse v) (on_done (go goes)))
      (settles_then s y (Kept names y) (LeavesTo names looping base) (λ m go. asks (events.recurse v) (on_done (go tt))) (λ o m go. go goes)
      (settles_recurse names s depth deeper y (frames_on base y framed k).1 v)
      (λ o z j. settles_now s z (LeavesTo names looping base) goes (keeps_on names base y z k j, tt))))

  -- a macro is made, and what is made is stored
  made_settles : (base : World) → Frames base → (making : Making) (ids : List (List ℕ)) → (w : World) → Keeps names base w → Settles {O = Val} s w (Kept names base) (λ m go. making_walk making ids go)
  made_settles base framed making ids w kept = settles_making names s depth deeper base framed.0 framed.1 making ids w kept

  macro_out : (looping : Bool) (base : World) → Frames base → (w : World) → Keeps names base w → (making : Making) (ids : List (List ℕ)) (name : List ℕ)
      → Settles {O = Leave} s w (LeavesTo names looping base) (λ m go. making_walk making ids (λ v. done_asked (store name v) (go goes)))
  macro_out looping base framed w kept making ids name =
      settles_then s w (Kept names base) (LeavesTo names looping base) (λ m go. making_walk making ids go) (λ v m go. done_asked (store name v) (go goes)) (made_settles base framed making ids w kept)
      (λ v x k. targeted looping base x k framed (variable name) tt v)

  -- a call with what its body is made as the last keyword
  module _ (base : World) (framed : Frames base) where
    abbrev EachNamed : List (Passing (List ℕ × Giving) Giving) → Type 0
    EachNamed args = EachPassed names s depth deeper base framed.1 value_walk args

    and_last : (args : List (Passing (List ℕ × Giving) Giving)) (name : List ℕ) (walk : Giving) → EachNamed args → Always names s depth deeper base framed.1 (λ m go. walk go)
        → EachNamed (args ++ alone (name, walk) ∷ [])
    and_last [] name walk none_passed always = alone_more always none_passed
    and_last (alone x ∷ args) name walk (alone_more f each) always = alone_more f (and_last args name walk each always)
    and_last (spreads x ∷ args) name walk (spread_more f each) always = spread_more f (and_last args name walk each always)

    calling_settles : (callee : Expression) (passed : Arguments) → IsRunnable callee → AreRunnableArguments passed → (making : Making) (ids : List (List ℕ))
        → Always names s depth deeper base framed.1 (λ m go. calling_walk callee passed (making_walk making ids) go)
    calling_settles callee passed runs are making ids =
        settles_called names s depth deeper base framed.1 (callee_of callee passed) (expression_walk callee) (object_walk callee)
        (settles_expression names s depth deeper base framed.1 callee runs) (settles_object names s depth deeper base framed.1 callee passed runs)
        (positional_walks passed) (settles_positional names s depth deeper base framed.1 passed are)
        (keyword_walks passed ++ alone (caller_name, making_walk making ids) ∷ [])
        (and_last (keyword_walks passed) caller_name (making_walk making ids) (settles_keyword names s depth deeper base framed.1 passed are) (made_settles base framed making ids))

  -- an include
  include_out : (w : World) → Frames w → (ignore_missing : Bool) (v : Val) → Settles {O = Unit {0}} s w (Kept names w) (λ m go. asks (events.include ignore_missing v) (on_done (go tt)))
  include_out w framed ignore_missing v = settles_include names s w ignore_missing v framed.0 depth framed.1 deeper

  -- a template runs in a frame of its own
  abbrev InOwn : {O : Type 0} → World → O → World → Type 0
  InOwn w o z = Keeps names (behind_frame w empty_frame) z

  apart_settles : (w : World) → Frames w → (e : Expression) → IsRunnable e → Settles {O = Unit {0}} s w (InOwn w) (λ m go. apart e (go tt))
  apart_settles w framed e h =
      let inside : World = behind_frame w empty_frame in
      let framed_inside : Frames inside = frames_behind w empty_frame framed in
      settles_pushed s w w (InOwn w) open_frame empty_frame (λ m go. expression_walk e (λ v. step (asks (events.include false v) (on_done (go tt))))) (has_room s.around.limit 1 w) refl (λ n. refl)
      (settles_then s inside (Kept names inside) (InOwn w) (λ m go. expression_walk e go) (λ v m go. step (asks (events.include false v) (on_done (go tt))))
      (settles_expression names s depth deeper inside framed_inside.1 e h inside (keeps_itself names inside))
      (λ v x k. settles_step s x (InOwn w) (λ m go. asks (events.include false v) (on_done (go tt)))
      (settles_weaker s x (Kept names x) (InOwn w) (λ m go. asks (events.include false v) (on_done (go tt))) (λ o z i. keeps_on names inside x z k i)
      (include_out x (frames_on inside x framed_inside k) false v))))

  -- its names
  exported : (w z : World) → Keeps names (behind_frame w empty_frame) z → (v : Val) → Settles {O = Val} s z (InOwn w) (λ m go. asks (export_locals v) (on_value go))
  exported w z kept v =
      let t = top z None (loops_of w.frames) kept.loops in
      settles_value s z (InOwn w) (export_locals v) (kinded (module_of t.frame.locals v)) (λ u. kept)
      (λ n. on_frames_is z t.frame t.rest t.frames (λ f fs. replied_with z value (kinded (module_of f.locals v))))

  -- all of them as a module
  imported_out : (looping : Bool) (base : World) → Frames base → (w : World) → Keeps names base w → (e target : Expression) → IsRunnable e → IsTarget target
      → Settles {O = Leave} s w (LeavesTo names looping base) (λ m go. statement_walk m no_counts (import e target) (exits_of go) (go goes))
  imported_out looping base framed w kept e target h is_target =
      let inside : World = capturing_in w (keeps []) in
      let framed_here : Frames w = frames_on base w framed kept in
      let framed_inside : Frames inside = frames_aside w (keeps [] ∷ w.captures) w.escape w.saved framed_here in
      let stored : Val → Walk Leave = λ v m go. asks close_frame (on_done (target_walk target v (go goes))) in
      let taken : Val → Walk Leave = λ text m go. asks (export_locals text) (on_value (λ v. stored v m go)) in
      let rest : Walk Leave = λ m go. step (asks end_capture (on_value (λ text. taken text m go))) in
      settles_to s w inside (LeavesTo names looping base) (begin_capture true) (λ m go. apart e (rest m go)) (λ n. refl)
      (settles_then s inside (InOwn inside) (LeavesTo names looping base) (λ m go. apart e (go tt)) (λ o. rest) (apart_settles inside framed_inside e h)
      (λ o y k. settles_step s y (LeavesTo names looping base) (λ m go. asks end_capture (on_value (λ text. taken text m go)))
      (settles_then s y (InOwn w) (LeavesTo names looping base) (λ m go. asks end_capture (on_value go)) taken (settles_taken names s (behind_frame w empty_frame) y (keeps []) k)
      (λ text z j. settles_then s z (InOwn w) (LeavesTo names looping base) (λ m go. asks (export_locals text) (on_value go)) stored (exported w z j text)
      (λ v u i. settles_closed names s w u empty_frame framed_here.0.floor i (LeavesTo names looping base) (λ m go. target_walk target v (go goes))
      (λ x l. targeted looping base x (keeps_on names base w x kept l) framed target is_target v))))))

  -- some of them, each as a name
  runnable_names : (imports : Imports) → AreImports imports → AreRunnable (imported_names imports)
  runnable_names no_imports h = tt
  runnable_names (imports_more e alias more) h = (h.0, runnable_names more h.2)

  settles_imports : (base : World) → Frames base → (imports : Imports) → AreImports imports → (vs : List Val) (w : World) → Keeps names base w
      → Settles {O = Unit {0}} s w (Kept names base) (λ m go. imports_stored imports vs (go tt))
  settles_imports base framed no_imports h vs w kept = settles_now s w (Kept names base) tt kept
  settles_imports base framed (imports_more e alias more) h [] w kept = settles_now s w (Kept names base) tt kept
  settles_imports base framed (imports_more e alias more) h (v ∷ vs) w kept =
      settles_then s w (Kept names base) (Kept names base) (λ m go. imports_stored more vs (go tt)) (λ o m go. target_walk (stored_as e alias) v (go tt))
      (settles_imports base framed more h.2 vs w kept)
      (λ o x k. settles_target names s depth deeper base framed.0 framed.1 (stored_as e alias) h.1 v x k)

  imports_out : (looping : Bool) (base : World) → Frames base → (w : World) → Keeps names base w → (e : Expression) (imports : Imports) → IsRunnable e → AreImports imports
      → Settles {O = Leave} s w (LeavesTo names looping base) (λ m go. statement_walk m no_counts (from_import e imports) (exits_of go) (go goes))
  imports_out looping base framed w kept e imports h are =
      let inside : World = capturing_in w drops in
      let framed_here : Frames w = frames_on base w framed kept in
      let framed_inside : Frames inside = frames_aside w (drops ∷ w.captures) w.escape w.saved framed_here in
      let own : World = behind_frame inside empty_frame in
      let framed_own : Frames own = frames_behind inside empty_frame framed_inside in
      let last : Walk Leave = λ m go. step (asks end_capture (on_value (λ dropped. go goes))) in
      let stored : List Val → Walk Leave = λ vs m go. imports_stored imports vs (last m go) in
      let closes : List Val → Walk Leave = λ vs m go. asks close_frame (on_done (stored vs m go)) in
      let rest : Walk Leave = λ m go. expressions_walk (imported_names imports) (λ vs. closes vs m go) in
      settles_to s w inside (LeavesTo names looping base) (begin_capture false) (λ m go. apart e (rest m go)) (λ n. refl)
      (settles_then s inside (InOwn inside) (LeavesTo names looping base) (λ m go. apart e (go tt)) (λ o. rest) (apart_settles inside framed_inside e h)
      (λ o y k. settles_then s y (Kept names own) (LeavesTo names looping base) (λ m go. expressions_walk (imported_names imports) go) closes
      (settles_all names s depth deeper own framed_own.1 (imported_names imports) (runnable_names imports are) y k)
      (λ vs z j. settles_closed names s inside z empty_frame framed_inside.0.floor j (LeavesTo names looping base) (stored vs)
      (λ x l. settles_then s x (Kept names inside) (LeavesTo names looping base) (λ m go. imports_stored imports vs (go tt)) (λ o. last)
      (settles_imports inside framed_inside imports are vs x l)
      (λ o u i. settles_step s u (LeavesTo names looping base) (λ m go. asks end_capture (on_value (λ dropped. go goes)))
      (settles_then s u (Kept names w) (LeavesTo names looping base) (λ m go. asks end_capture (on_value go)) (λ dropped m go. go goes) (settles_taken names s w u drops i)
      (λ dropped a f. settles_now s a (LeavesTo names looping base) goes (keeps_on names base w a kept f, tt))))))))

  -- a template that is extended
  extends_out : (looping : Bool) (base w : World) → Keeps names base w → (v : Val) → Settles {O = Leave} s w (LeavesTo names looping base) (λ m go. asks (load_blocks v) (on_done (go goes)))
  extends_out looping base w kept v =
      settles_then s w (Kept names w) (LeavesTo names looping base) (λ m go. asks (load_blocks v) (on_done (go tt))) (λ o m go. go goes) (settles_load names s lists w v)
      (λ o y k. settles_now s y (LeavesTo names looping base) goes (keeps_on names base w y kept k, tt))

  mutual
    pub settles_statement : (looping : Bool) (first : Counts) (st : Statement) → IsRunnableStatement looping st → (base : World) → Frames base → Leads looping base (λ m go. statement_walk m first st (exits_of go) (go goes))
    settles_statement looping first (raw text) h base framed w kept = written_out looping base w kept (write_raw text) text (λ n. refl) w.captures refl
    settles_statement looping first (print e) h base framed w kept = printed_settles looping base framed w kept e h (printed_of e) (print_runs e h)
    settles_statement looping first (for_loop target e condition recursive body otherwise) h base framed w kept =
        let how : Looping = looping_behind recursive first in
        let own : Counts = counted_together first (loop_counts recursive) in
        let last : Counts = counted_together own (counts_among body) in
        settles_then s w (Kept names base) (LeavesTo names looping base) (λ m go. iterable_walk m target e condition go)
        (λ v m go. asks (open_loop how v) (on_done (rounds m (round_of target own body m) (loop_end otherwise (statements_walk m last otherwise (exits_of go) (go goes)) (go goes)))))
        (settles_iterable names s depth deeper base framed.0 framed.1 target e condition h.0 h.1 h.2 w kept)
        (λ v x k. looped looping how target own body last otherwise v h.0 (settles_statements true own body h.3) (settles_statements looping last otherwise h.4) base framed x k (guarded (forbids_iterating s.around.undefined v) (kinded (iterated (known_of x) v))) refl)
    settles_statement looping first (if_condition e body otherwise) h base framed w kept =
        let last : Counts = counted_together first (counts_among body) in
        valued looping base framed w kept e h.0 (λ v m go. step (asks (truth_of v) (on_truth (statements_walk m first body (exits_of go) (past otherwise (go goes))) (statements_walk m last otherwise (exits_of go) (go goes)))))
        (λ v x k. tested looping base x v (λ m go. statements_walk m first body (exits_of go) (past otherwise (go goes))) (body_walk last otherwise)
        (settles_then s x (LeavesTo names looping base) (LeavesTo names looping base) (body_walk first body) (branch_out otherwise) (settles_statements looping first body h.1 base framed x k) (λ o y kept. branch_settles looping base otherwise o y kept))
        (settles_statements looping last otherwise h.2 base framed x k))
    settles_statement looping first (with_block assignments body) h base framed w kept =
        let inside : World = behind_frame w empty_frame in
        let framed_here : Frames w = frames_on base w framed kept in
        let framed_inside : Frames inside = frames_behind w empty_frame framed_here in
        settles_pushed s w w (LeavesTo names looping base) open_frame empty_frame (λ m go. assignments_walk assignments (statements_walk m first body (closing close_frame (exits_of go)) (asks close_frame (on_done (go goes))))) (has_room s.around.limit 1 w) refl (λ n. refl)
        (settles_then s inside (Kept names inside) (LeavesTo names looping base) (λ m go. assignments_walk assignments (go tt)) (λ o m go. statements_walk m first body (closing close_frame (exits_of go)) (asks close_frame (on_done (go goes))))
        (settles_assignments names s depth deeper inside framed_inside.0 framed_inside.1 assignments h.0 inside (keeps_itself names inside))
        (λ o x k. settles_then s x (LeavesTo names looping inside) (LeavesTo names looping base) (body_walk first body) (λ o m go. asks close_frame (on_done (go o))) (settles_statements looping first body h.1 inside framed_inside x k)
        (λ o y l. settles_closed names s w y empty_frame framed_here.0.floor l.0 (LeavesTo names looping base) (λ m go. go o)
        (λ z i. settles_now s z (LeavesTo names looping base) o (keeps_on names base w z kept i, l.1)))))
    settles_statement looping first (set target e) h base framed w kept =
        valued looping base framed w kept e h.1 (λ v m go. target_walk target v (go goes)) (λ v x k. targeted looping base x k framed target h.0 v)
    settles_statement looping first (set_block target absent body) h base framed w kept =
        captured_body looping first body (settles_statements looping first body h.1) base framed w kept (λ v m go. target_walk target v (go goes)) (λ v x k. targeted looping base x k framed target h.0 v)
    settles_statement looping first (set_block target (given filters) body) h base framed w kept =
        captured_body looping first body (settles_statements looping first body h.2) base framed w kept (λ text m go. filters_walk filters text (λ v. target_walk target v (go goes)))
        (λ text x k. filtered_text looping base framed x k filters h.0 text (λ v m go. target_walk target v (go goes)) (λ v y l. targeted looping base y l framed target h.1 v))
    settles_statement looping first (filter_block filters body) h base framed w kept =
        captured_body looping first body (settles_statements looping first body h.1) base framed w kept (λ text m go. filters_walk filters text (λ v. step (asks (write_value v) (on_done (go goes)))))
        (λ text x k. filtered_text looping base framed x k filters h.0 text (λ v m go. step (asks (write_value v) (on_done (go goes))))
        (λ v y l. printed_out looping base y l v))
    settles_statement looping first (auto_escape e body) h base framed w kept =
        valued looping base framed w kept e h.0 (λ v m go. asks (open_escape v) (on_done (statements_walk m first body (closing close_escape (exits_of go)) (asks close_escape (on_done (go goes))))))
        (λ v x k. escaping looping first body (settles_statements looping first body h.1) base framed x k v (escape_named x.first v (text_in v)) refl)
    settles_statement looping first (include e ignore_missing) h base framed w kept =
        valued looping base framed w kept e h (λ v m go. step (asks (events.include ignore_missing v) (on_done (go goes))))
        (λ v x k. settles_step s x (LeavesTo names looping base) (λ m go. asks (events.include ignore_missing v) (on_done (go goes)))
        (settles_then s x (Kept names x) (LeavesTo names looping base) (λ m go. asks (events.include ignore_missing v) (on_done (go tt))) (λ o m go. go goes)
        (include_out x (frames_on base x framed k) ignore_missing v)
        (λ o y l. settles_now s y (LeavesTo names looping base) goes (keeps_on names base x y k l, tt))))
    settles_statement looping first (block name required body) h base framed w kept = block_out looping base framed w kept name
    settles_statement looping first (import e target) h base framed w kept = imported_out looping base framed w kept e target h.0 h.1
    settles_statement looping first (from_import e imports) h base framed w kept = imports_out looping base framed w kept e imports h.0 h.1
    settles_statement looping first (extends e) h base framed w kept =
        valued looping base framed w kept e h (λ v m go. asks (load_blocks v) (on_done (go goes))) (λ v x k. extends_out looping base x k v)
    settles_statement looping first (macro name arguments defaults body) h base framed w kept =
        macro_out looping base framed w kept (making_of first name arguments defaults body) (enclosed_names arguments defaults body) name
    settles_statement looping first (tree.call_block callee passed arguments defaults body) h base framed w kept =
        settles_then s w (Kept names base) (LeavesTo names looping base) (λ m go. calling_walk callee passed (declared_walk first caller_name arguments defaults body) go)
        (λ v m go. step (asks (write_value v) (on_done (go goes))))
        (calling_settles base framed callee passed h.0.0 h.0.1 (making_of first caller_name arguments defaults body) (enclosed_names arguments defaults body) w kept)
        (λ v x k. printed_out looping base x k v)
    settles_statement looping first (do_call callee args) h base framed w kept =
        valued looping base framed w kept (call callee args) h (λ v m go. go goes) (λ v x k. settles_now s x (LeavesTo names looping base) goes (k, tt))
    settles_statement looping first continue_loop h base framed w kept = settles_now s w (LeavesTo names looping base) continues (kept, h)
    settles_statement looping first break_loop h base framed w kept = settles_now s w (LeavesTo names looping base) breaks_out (kept, h)
    settles_statement looping first _ h base framed w kept = absurd h

    pub settles_statements : (looping : Bool) (first : Counts) (ss : Statements) → AreRunnableStatements looping ss → (base : World) → Frames base → Leads looping base (body_walk first ss)
    settles_statements looping first no_statements h base framed w kept = settles_now s w (LeavesTo names looping base) goes (kept, tt)
    settles_statements looping first (statements_more st ss) h base framed w kept =
        let last : Counts = counted_together first (counts_by st) in
        settles_then s w (LeavesTo names looping base) (LeavesTo names looping base) (λ m go. statement_walk m first st (exits_of go) (go goes)) (more_out last ss) (settles_statement looping first st h.0 base framed w kept)
        (λ o x leaves. (elim o as (λ o. MayLeave looping o → Settles {O = Leave} s x (LeavesTo names looping base) (more_out last ss o)) [
          | goes ↦ λ may. settles_statements looping last ss h.1 base framed x leaves.0
          | breaks_out ↦ λ may. settles_now s x (LeavesTo names looping base) breaks_out (leaves.0, may)
          | continues ↦ λ may. settles_now s x (LeavesTo names looping base) continues (leaves.0, may)
        ]) leaves.1)

  -- the rounds of a loop that is called, up to the end of the loop
  pub settles_called_rounds : (r : LoopRounds) → RoundsRun r → (base : World) (own : Loop) → own.called ≡ true → ((asked : ℕ) → Frames (behind_frame base (frame_at own asked)))
      → (asked : ℕ) (w : World) → InRound names base own asked w
      → Settles {O = Unit {0}} s w (AtEnd names base own) (λ m go. rounds m (round_of r.target r.first r.body m) (go tt))
  settles_called_rounds r runs base own called framed asked w inside =
      settles_before s w w (AtEnd names base own) [] 0 (λ m go. rounds m (round_of r.target r.first r.body m) (go tt)) (λ m go. rounds (m - 0) (round_of r.target r.first r.body m) (go tt))
      (λ n m le ge go. ap (λ b. run (answer s n) (rounds b (round_of r.target r.first r.body m) (go tt)) w) (none_off m))
      (settles_rounds names s base own (inl called) (round_of r.target r.first r.body) (length own.items) 0 asked (omega arith)
      (round_settles r.target r.first r.body runs.0 (settles_statements true r.first r.body runs.1) base own (inl called) framed) w inside)

  -- the body of a macro, over its arguments, before each way out
  pub settles_macro : (b : MacroBody) → MacroRuns b → (vs : List Val) (base : World) → Frames base
      → Settles {O = Leave} s base (LeavesTo names false base)
      (λ m go. arguments_walk (reversed b.arguments no_expressions) (reversed b.defaults no_expressions) vs (body_walk b.first b.body m go))
  settles_macro b runs vs base framed =
      settles_then s base (Kept names base) (LeavesTo names false base)
      (λ m go. arguments_walk (reversed b.arguments no_expressions) (reversed b.defaults no_expressions) vs (go tt)) (λ o. body_walk b.first b.body)
      (settles_arguments names s depth deeper base framed.0 framed.1 (reversed b.arguments no_expressions) (reversed b.defaults no_expressions)
      (targets_reversed b.arguments no_expressions runs.0 tt) (defaults_reversed b.defaults no_expressions runs.1 tt) vs base (keeps_itself names base))
      (λ o x k. settles_statements false b.first b.body runs.2 base framed x k)
