-- What a loop goes over settles. With a condition a loop of its own gathers it: there are as many rounds as it has items, at
-- most.
use Rattle.std.proofs.Common.{◌≡◌, ℕ, ◌+◌, ◌-◌, ◌≤◌, inr, zero, suc, Bool, true, false, List, [], ◌∷◌, ◌++◌, length, slice_get, Option, None, Some, Result, Ok, Err, refl, ap, ◌∙◌, arith}
use Rattle.std.proofs.lemmas.Option.{slice_get_within}
use Rattle.template_values_errors.specs.declared.ErrorKind.{ErrorKind}
use Rattle.template_values_model.specs.Val.{Val}
use Rattle.template_values_operators.specs.Iterated.{iterated}
use Rattle.template_values_operators.specs.Kinds.{list_made}
use Rattle.template_compiler_tree.specs.Tree.{Expression, Optional, absent, given}
use Rattle.template_compiler_process.specs.Process.{spread, build_list, truth_of, open_loop, next_item, close_loop, Answer, done, item, no_item, Process, step, asks, on_done, on_value, on_truth, on_item, on_all}
use Rattle.template_compiler_process.specs.Trace.{paid, run, behind, replied}
use Rattle.template_compiler_walk.specs.Expressions.{expression_walk}
use Rattle.template_compiler_walk.specs.Statements.{target_walk, nameless_loop, kept_rounds, sifting, iterable_walk}
use Rattle.template_compiler_walk.specs.Runnable.{IsRunnable, IsRunnableIfGiven, IsTarget}
use Rattle.template_machine_meaning.specs.World.{Loop, World, depth_of, has_room, loop_over, counted_loop}
use Rattle.template_machine_meaning.specs.Records.{known_of}
use Rattle.template_machine_meaning.specs.Undefined.{forbids_iterating}
use Rattle.template_machine_meaning.specs.Replies.{changed, guarded, changed_with, kinded}
use Rattle.template_machine_meaning.specs.Surroundings.{Programs, next_reply, opened_loop, answer}
use Rattle.template_machine_meaning.proofs.Settling.{Walk, Settles, settles_then, settles_now, settles_step, settles_refused, settles_before}
use Rattle.template_machine_meaning.proofs.Keeping.{Keeps, keeps_itself, keeps_on, loops_of, Top, top, IsFramed, framed_on, same_depth, behind_frame, framed_behind, on_loop_is}
use Rattle.template_machine_meaning.proofs.Entering.{AllCome}
use Rattle.template_machine_meaning.proofs.Blocks.{Kept}
use Rattle.template_machine_meaning.proofs.Expressions.{settles_tested, given_by, settles_expression}
use Rattle.template_machine_meaning.proofs.Scopes.{settles_target, settles_pushed}
use Rattle.template_machine_meaning.proofs.Loops.{loop_at, frame_at, InRound, AtEnd, MayAsk, asks_own, loop_closed}

-- a round over an item, before what follows where that is kept, and where it is not
abbrev Sift : Type 0
Sift = Val → Process → Process → Process

-- behind a round: the next one
abbrev after_sifting : Sift → ℕ → List Val → Val → Bool → Walk (List Val)
after_sifting sift j kept v true m go = step (step (step (step (kept_rounds (m - j) sift (kept ++ v ∷ []) go))))
after_sifting sift j kept v false m go = step (kept_rounds (m - j) sift kept go)

-- at what a round is answered that asks for an item
abbrev at_answer : Sift → ℕ → List Val → ℕ → (List Val → Process) → Answer → Process
at_answer sift j kept m go = on_item (λ v. sift v (after_sifting sift (suc j) kept v true m go) (after_sifting sift (suc j) kept v false m go)) (go kept)

three_stepped : {O : Type 0} (s : Programs) (w : World) (shape : O → World → Type 0) (P : Walk O) → Settles {O = O} s w shape P → Settles {O = O} s w shape (λ m go. step (step (step (P m go))))
three_stepped s w shape P p =
    settles_step s w shape (λ m go. step (step (P m go))) (settles_step s w shape (λ m go. step (P m go)) (settles_step s w shape P p))

module _ (names : List (List ℕ)) (s : Programs) (base : World) (own : Loop) (may : MayAsk base own) (sift : Sift) where
  -- each round settles, in the loop's frame
  abbrev Sifts : Type 0
  Sifts = (v : Val) (asked : ℕ) (w : World) → InRound names base own asked w → Settles {O = Bool} s w (Kept names (behind_frame base (frame_at own asked))) (λ m go. sift v (go true) (go false))

  abbrev Gathers : ℕ → List Val → World → Type 0
  Gathers j kept w = Settles {O = List Val} s w (AtEnd names base own) (λ m go. kept_rounds (m - j) sift kept go)

  asked_next : (n m j : ℕ) → suc j ≤ m → (kept : List Val) (w : World) (go : List Val → Process)
      → run (answer s n) (kept_rounds (m - j) sift kept go) w ≡ behind (paid [] ∷ []) (replied (λ a t. run (answer s n) (at_answer sift j kept m go a) t) (answer s n w next_item))
  asked_next n m j le kept w go =
      let more : m - j ≡ suc (m - suc j) = omega arith in
      ap (λ b. run (answer s n) (kept_rounds b sift kept go) w) more

  behind_sifting : (j asked : ℕ) (kept : List Val) (v : Val) → ((more : List Val) (u : World) → InRound names base own asked u → Gathers (suc j) more u)
      → (o : Bool) (u : World) → InRound names base own asked u → Settles {O = List Val} s u (AtEnd names base own) (after_sifting sift (suc j) kept v o)
  behind_sifting j asked kept v later true u inside =
      three_stepped s u (AtEnd names base own) (λ m go. step (kept_rounds (m - suc j) sift (kept ++ v ∷ []) go))
      (settles_step s u (AtEnd names base own) (λ m go. kept_rounds (m - suc j) sift (kept ++ v ∷ []) go) (later (kept ++ v ∷ []) u inside))
  behind_sifting j asked kept v later false u inside =
      settles_step s u (AtEnd names base own) (λ m go. kept_rounds (m - suc j) sift kept go) (later kept u inside)

  next_sifted : (j asked : ℕ) (kept : List Val) (w z : World) (v : Val) → InRound names base own asked z → Sifts
      → ((more : List Val) (u : World) → InRound names base own asked u → Gathers (suc j) more u)
      → ((n : ℕ) → answer s n w next_item ≡ changed z (item v)) → Gathers j kept w
  next_sifted j asked kept w z v inside sifts later is =
      settles_before s w z (AtEnd names base own) (paid [] ∷ []) (suc j) (λ m go. kept_rounds (m - j) sift kept go)
      (λ m go. sift v (after_sifting sift (suc j) kept v true m go) (after_sifting sift (suc j) kept v false m go))
      (λ n m le ge go. asked_next n m j ge kept w go ∙ ap (λ r. behind (paid [] ∷ []) (replied (λ a t. run (answer s n) (at_answer sift j kept m go a) t) r)) (is n))
      (settles_then s z (Kept names (behind_frame base (frame_at own asked))) (AtEnd names base own) (λ m go. sift v (go true) (go false)) (after_sifting sift (suc j) kept v)
      (sifts v asked z inside) (behind_sifting j asked kept v later))

  last_sifted : (j asked : ℕ) (kept : List Val) (w z : World) → InRound names base own asked z → ((n : ℕ) → answer s n w next_item ≡ changed z no_item) → Gathers j kept w
  last_sifted j asked kept w z inside is =
      settles_before s w z (AtEnd names base own) (paid [] ∷ []) (suc j) (λ m go. kept_rounds (m - j) sift kept go) (λ m go. go kept)
      (λ n m le ge go. asked_next n m j ge kept w go ∙ ap (λ r. behind (paid [] ∷ []) (replied (λ a t. run (answer s n) (at_answer sift j kept m go a) t) r)) (is n))
      (settles_now s z (AtEnd names base own) kept (asked, inside))

  sifted_by : (d j asked : ℕ) → length own.items ≤ asked + d → Sifts → (kept : List Val) (w : World) → InRound names base own asked w → Top w (Some (loop_at own asked)) (loops_of base.frames)
      → (o : Option Val) → slice_get own.items asked ≡ o → Gathers j kept w
  sifted_by d j asked few sifts kept w inside t None none =
      let z : World = record w { frames = record t.frame { loop = Some (loop_at own (asked + 1)) } ∷ t.rest } in
      last_sifted j (asked + 1) kept w z (record { loops = ap (λ ls. Some (loop_at own (asked + 1)) ∷ ls) t.others; outer = inside.outer; floor = inside.floor; saved = inside.saved; captures = inside.captures; meets = inside.meets; loads = inside.loads; added = inside.added })
      (λ n. on_loop_is w t.frame t.rest (loop_at own asked) t.frames (asks_own names base w own asked may inside t) t.own (λ f k fs. next_reply w f k fs (slice_get k.items k.asked))
      ∙ ap (next_reply w t.frame (loop_at own asked) t.rest) none)
  sifted_by zero j asked few sifts kept w inside t (Some v) some = absurd (omega (arith, slice_get_within own.items asked v some))
  sifted_by (suc d) j asked few sifts kept w inside t (Some v) some =
      let z : World = record w { frames = record t.frame { locals = []; loop = Some (loop_at own (asked + 1)) } ∷ t.rest } in
      next_sifted j (asked + 1) kept w z v (record { loops = ap (λ ls. Some (loop_at own (asked + 1)) ∷ ls) t.others; outer = inside.outer; floor = inside.floor; saved = inside.saved; captures = inside.captures; meets = inside.meets; loads = inside.loads; added = inside.added }) sifts
      (λ more u here. sifted_by d (suc j) (asked + 1) (omega arith) sifts more u here (top u (Some (loop_at own (asked + 1))) (loops_of base.frames) here.loops) (slice_get own.items (asked + 1)) refl)
      (λ n. on_loop_is w t.frame t.rest (loop_at own asked) t.frames (asks_own names base w own asked may inside t) t.own (λ f k fs. next_reply w f k fs (slice_get k.items k.asked))
      ∙ ap (next_reply w t.frame (loop_at own asked) t.rest) some)

  settles_kept : (d j asked : ℕ) → length own.items ≤ asked + d → Sifts → (kept : List Val) (w : World) → InRound names base own asked w → Gathers j kept w
  settles_kept d j asked few sifts kept w inside =
      sifted_by d j asked few sifts kept w inside (top w (Some (loop_at own asked)) (loops_of base.frames) inside.loops) (slice_get own.items asked) refl

-- behind the rounds: the loop's frame is closed, and the list is made
abbrev listed : List Val → Walk Val
listed vs m go = asks close_loop (on_done (step (asks (build_list vs) (on_value go))))

-- a loop over a value that gathers what a condition keeps, behind what was kept before
abbrev sifted_walk : Expression → Expression → List Val → Val → Walk Val
sifted_walk target condition kept v m go = asks (open_loop nameless_loop v) (on_done (kept_rounds m (sifting target condition) kept (λ vs. listed vs m go)))

module _ (names : List (List ℕ)) (s : Programs) (depth : ℕ) (deeper : AllCome names s depth)
    (target condition : Expression) (is_target : IsTarget target) (runs : IsRunnable condition) where
  settles_sifting : (base : World) → IsFramed base → depth ≤ depth_of base → (v : Val) (w : World) → Keeps names base w → Settles {O = Bool} s w (Kept names base) (λ m go. sifting target condition v (go true) (go false))
  settles_sifting base framed deep v w kept =
      settles_then s w (Kept names base) (Kept names base) (λ m go. target_walk target v (go tt)) (λ o m go. expression_walk condition (λ c. step (asks (truth_of c) (on_truth (go true) (go false)))))
      (settles_target names s depth deeper base framed deep target is_target v w kept)
      (λ o x k. settles_then s x (Kept names base) (Kept names base) (λ m go. expression_walk condition go) (λ c m go. step (asks (truth_of c) (on_truth (go true) (go false))))
      (settles_expression names s depth deeper base deep condition runs x k)
      (λ c y l. settles_tested s y (Kept names base) c (λ m go. go true) (λ m go. go false) (settles_now s y (Kept names base) true l) (settles_now s y (Kept names base) false l)))

  gathered : (base w : World) → w.floor ≤ length w.frames → depth ≤ depth_of w → Keeps names base w → (own : Loop) → own.called ≡ false
      → Settles {O = Val} s (behind_frame w (frame_at own 0)) (Kept names base) (λ m go. kept_rounds m (sifting target condition) [] (λ vs. listed vs m go))
  gathered base w floored deep kept own called =
      let inside : World = behind_frame w (frame_at own 0) in
      settles_before s inside inside (Kept names base) [] 0 (λ m go. kept_rounds m (sifting target condition) [] (λ vs. listed vs m go)) (λ m go. kept_rounds (m - 0) (sifting target condition) [] (λ vs. listed vs m go))
      (λ n m le ge go. let less : m ≡ m - 0 = omega arith in ap (λ b. run (answer s n) (kept_rounds b (sifting target condition) [] (λ vs. listed vs m go)) inside) less)
      (settles_then s inside (AtEnd names w own) (Kept names base) (λ m go. kept_rounds (m - 0) (sifting target condition) [] go) listed
      (settles_kept names s w own (inr floored) (sifting target condition) (length own.items) 0 0 (omega arith)
      (λ v asked y here. settles_sifting (behind_frame w (frame_at own asked)) (framed_behind w (frame_at own asked) floored)
      (let within : depth ≤ suc (length w.frames) + w.outer = omega (arith, deep) in within) v y here)
      [] inside (keeps_itself names inside))
      (λ vs y at. loop_closed names s w y own at.0 called floored at.1 (Kept names base) (λ m go. step (asks (build_list vs) (on_value go)))
      (λ z k. given_by names s depth deeper base (let within : depth ≤ depth_of base = omega (arith, deep, same_depth names base w kept) in within) z (keeps_on names base w z kept k) (build_list vs) (kinded (list_made vs)) (λ n. refl))))

  sifted : (base w : World) → w.floor ≤ length w.frames → depth ≤ depth_of w → Keeps names base w → (v : Val) (r : Result (List Val) ErrorKind) → guarded (forbids_iterating s.around.undefined v) (kinded (iterated (known_of w) v)) ≡ r
      → Settles {O = Val} s w (Kept names base) (sifted_walk target condition [] v)
  sifted base w floored deep kept v (Ok vs) e =
      let own : Loop = loop_over w false None vs in
      settles_pushed s w (counted_loop w) (Kept names base) (open_loop nameless_loop v) (frame_at own 0) (λ m go. kept_rounds m (sifting target condition) [] (λ us. listed us m go)) (has_room s.around.limit 1 w) refl
      (λ n. ap (λ r. changed_with w (λ after. done) (λ after. after) (opened_loop s.around.limit w nameless_loop r)) e)
      (gathered base (counted_loop w) floored deep (record { loops = kept.loops; outer = kept.outer; floor = kept.floor; saved = kept.saved; captures = kept.captures; meets = kept.meets; loads = kept.loads; added = kept.added }) own refl)
  sifted base w floored deep kept v (Err kind) e =
      settles_refused s w (Kept names base) (open_loop nameless_loop v) kind (λ m go. on_done (kept_rounds m (sifting target condition) [] (λ us. listed us m go)))
      (λ n. ap (λ r. changed_with w (λ after. done) (λ after. after) (opened_loop s.around.limit w nameless_loop r)) e)

pub settles_iterable : (names : List (List ℕ)) (s : Programs) (depth : ℕ) → AllCome names s depth → (base : World) → IsFramed base → depth ≤ depth_of base
    → (target e : Expression) (condition : Optional) → IsTarget target → IsRunnable e → IsRunnableIfGiven condition
    → (w : World) → Keeps names base w → Settles {O = Val} s w (Kept names base) (λ m go. iterable_walk m target e condition go)
settles_iterable names s depth deeper base framed deep target e absent is_target runs tests w kept = settles_expression names s depth deeper base deep e runs w kept
settles_iterable names s depth deeper base framed deep target e (given condition) is_target runs tests w kept =
    settles_step s w (Kept names base) (λ m go. asks (spread []) (on_all (λ none_yet. expression_walk e (λ v. sifted_walk target condition none_yet v m go))))
    (settles_before s w w (Kept names base) [] 0 (λ m go. asks (spread []) (on_all (λ none_yet. expression_walk e (λ v. sifted_walk target condition none_yet v m go))))
    (λ m go. expression_walk e (λ v. sifted_walk target condition [] v m go)) (λ n m le ge go. refl)
    (settles_then s w (Kept names base) (Kept names base) (λ m go. expression_walk e go) (sifted_walk target condition []) (settles_expression names s depth deeper base deep e runs w kept)
    (λ v x k. sifted names s depth deeper target condition is_target tests base x (framed_on names base x framed k).floor
    (let within : depth ≤ depth_of x = omega (arith, deep, same_depth names base x k) in within) k v
    (guarded (forbids_iterating s.around.undefined v) (kinded (iterated (known_of x) v))) refl)))
