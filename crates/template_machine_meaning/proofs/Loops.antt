-- A loop's rounds settle: there are as many as it has items, at most.
use Rattle.std.proofs.Common.{◌≡◌, ℕ, ◌+◌, ◌-◌, ◌≤◌, ◌⊎◌, inl, inr, zero, suc, Bool, true, false, List, [], ◌∷◌, ◌++◌, length, slice_get, Option, None, Some, if◌then◌else◌, refl, ap, ◌∙◌, arith}
use Rattle.std.proofs.lemmas.Option.{slice_get_within}
use Rattle.template_values_model.specs.Val.{Val}
use Rattle.template_compiler_process.specs.Process.{next_item, close_loop, done, leaves, item, no_item, Process, step, asks, on_done, on_item}
use Rattle.template_compiler_process.specs.Trace.{paid, run, behind, replied}
use Rattle.template_compiler_walk.specs.Statements.{Exits, rounds}
use Rattle.template_machine_meaning.specs.World.{Loop, Frame, World, loop_frame, drop_given}
use Rattle.template_machine_meaning.specs.Replies.{told, changed}
use Rattle.template_machine_meaning.specs.Leaving.{is_held, loop_left}
use Rattle.template_machine_meaning.specs.Surroundings.{Programs, is_own, next_reply, closed_reply, answer}
use Rattle.template_machine_meaning.proofs.Settling.{Walk, Settles, settles_then, settles_now, settles_step, settles_before, settles_to}
use Rattle.template_machine_meaning.proofs.Keeping.{Keeps, loops_of, Top, top, behind_frame, may_close, may_ask, on_loop_is}
use Rattle.template_machine_meaning.proofs.Blocks.{Kept}

-- how a statement comes to its end
pub data Leave : Type 0 where
  goes : Leave
  breaks_out : Leave
  continues : Leave

-- the ways out, before what follows each
abbrev pub exits_of : (Leave → Process) → Exits
exits_of go = record { on_break = go breaks_out; on_continue = go continues }

-- a loop of which so many items were asked for
abbrev pub loop_at : Loop → ℕ → Loop
loop_at l asked = record l { asked = asked }

-- its frame
abbrev pub frame_at : Loop → ℕ → Frame
frame_at l asked = loop_frame (loop_at l asked)

-- in a round of a loop whose frame stands over a base
abbrev pub InRound : List (List ℕ) → World → Loop → ℕ → World → Type 0
InRound names base l asked w = Keeps names (behind_frame base (frame_at l asked)) w

-- behind its last round
abbrev pub AtEnd : {O : Type 0} → List (List ℕ) → World → Loop → O → World → Type 0
AtEnd names base l o w = (asked : ℕ) × InRound names base l asked w

-- its frame may be closed, or its rounds were called
abbrev pub MayAsk : World → Loop → Type 0
MayAsk base own = (own.called ≡ true) ⊎ (base.floor ≤ length base.frames)

pub asks_own : (names : List (List ℕ)) (base w : World) (own : Loop) (asked : ℕ) → MayAsk base own → InRound names base own asked w → (t : Top w (Some (loop_at own asked)) (loops_of base.frames))
    → is_own w (loop_at own asked) ≡ true
asks_own names base w own asked (inl called) inside t =
    may_ask w (loop_at own asked) t.rest (ap (λ (fs : List Frame). length fs) t.frames) (inl called)
asks_own names base w own asked (inr floored) inside t =
    may_ask w (loop_at own asked) t.rest (ap (λ (fs : List Frame). length fs) t.frames) (inr (may_close names base w (frame_at own asked) floored inside t))

-- the loop came to its end, whether it stays known or not
abbrev left_by : World → Loop → Bool → World
left_by w l kept = if kept then record w { closed = w.closed ++ l ∷ [] } else record w { given = drop_given l.number w.given }

-- its frame is closed
left_keeps : (names : List (List ℕ)) (base w : World) (own : Loop) (asked : ℕ) → InRound names base own asked w → (t : Top w (Some (loop_at own asked)) (loops_of base.frames)) → (l : Loop) (kept : Bool)
    → Keeps names base (record (left_by w l kept) { frames = t.rest })
left_keeps names base w own asked inside t l true = record { loops = t.others; outer = inside.outer; floor = inside.floor; saved = inside.saved; captures = inside.captures; meets = inside.meets; loads = inside.loads; added = inside.added }
left_keeps names base w own asked inside t l false = record { loops = t.others; outer = inside.outer; floor = inside.floor; saved = inside.saved; captures = inside.captures; meets = inside.meets; loads = inside.loads; added = inside.added }

pub loop_closed : {O : Type 0} (names : List (List ℕ)) (s : Programs) (base w : World) (own : Loop) (asked : ℕ) → own.called ≡ false → base.floor ≤ length base.frames → InRound names base own asked w → (shape : O → World → Type 0) (Q : Walk O)
    → ((z : World) → Keeps names base z → Settles {O = O} s z shape Q) → Settles {O = O} s w shape (λ m go. asks close_loop (on_done (Q m go)))
loop_closed names s base w own asked called floored inside shape Q next =
    let t = top w (Some (loop_at own asked)) (loops_of base.frames) inside.loops in
    let l : Loop = loop_at own asked in
    let z : World = record (loop_left w l) { frames = t.rest } in
    settles_to s w z shape close_loop Q
    (λ n. on_loop_is w t.frame t.rest l t.frames (asks_own names base w own asked (inr floored) inside t) t.own (λ f k fs. closed_reply w k fs)
    ∙ ap (λ b. if b then told w leaves else changed z done) called)
    (next z (left_keeps names base w own asked inside t l (is_held w l)))

-- where its rounds were called its frame stays, and the run ends
pub called_leaves : (names : List (List ℕ)) (s : Programs) (base w : World) (own : Loop) (asked : ℕ) → own.called ≡ true → InRound names base own asked w
    → (n : ℕ) → answer s n w close_loop ≡ told w leaves
called_leaves names s base w own asked called inside n =
    let t = top w (Some (loop_at own asked)) (loops_of base.frames) inside.loops in
    let l : Loop = loop_at own asked in
    on_loop_is w t.frame t.rest l t.frames (asks_own names base w own asked (inl called) inside t) t.own (λ f k fs. closed_reply w k fs)
    ∙ ap (λ b. if b then told w leaves else changed (record (loop_left w l) { frames = t.rest }) done) called

-- a round under a bound, over an item
abbrev pub Round : Type 0
Round = ℕ → Val → Exits → Process → Process

-- behind a round: the next one, or the end
abbrev after_round : Round → ℕ → Leave → Walk (Unit {0})
after_round round j goes m go = step (rounds (m - j) (round m) (go tt))
after_round round j continues m go = step (rounds (m - j) (round m) (go tt))
after_round round j breaks_out m go = step (go tt)

module _ (names : List (List ℕ)) (s : Programs) (base : World) (own : Loop) (may : MayAsk base own) (round : Round) where
  -- each round settles, in the loop's frame
  abbrev pub Turns : Type 0
  Turns = (v : Val) (asked : ℕ) (w : World) → InRound names base own asked w → Settles {O = Leave} s w (Kept names (behind_frame base (frame_at own asked))) (λ m go. round m v (exits_of go) (go goes))

  abbrev Ends : ℕ → World → Type 0
  Ends j w = Settles {O = Unit {0}} s w (AtEnd names base own) (λ m go. rounds (m - j) (round m) (go tt))

  next_round : (j asked : ℕ) (w z : World) (v : Val) → InRound names base own asked z → Turns → ((u : World) → InRound names base own asked u → Ends (suc j) u)
      → ((n : ℕ) → answer s n w next_item ≡ changed z (item v)) → Ends j w
  next_round j asked w z v inside turns later is =
      let after : (o : Leave) (u : World) → InRound names base own asked u → Settles {O = Unit {0}} s u (AtEnd names base own) (after_round round (suc j) o) =
      λ o u kept. elim o as (λ o. Settles {O = Unit {0}} s u (AtEnd names base own) (after_round round (suc j) o)) [
        | goes ↦ settles_step s u (AtEnd names base own) (λ m go. rounds (m - suc j) (round m) (go tt)) (later u kept)
        | breaks_out ↦ settles_step s u (AtEnd names base own) (λ m go. go tt) (settles_now s u (AtEnd names base own) tt (asked, kept))
        | continues ↦ settles_step s u (AtEnd names base own) (λ m go. rounds (m - suc j) (round m) (go tt)) (later u kept)
      ] in
      let turn = settles_then s z (Kept names (behind_frame base (frame_at own asked))) (AtEnd names base own) (λ m go. round m v (exits_of go) (go goes)) (after_round round (suc j)) (turns v asked z inside) after in
      settles_before s w z (AtEnd names base own) (paid [] ∷ []) (suc j) (λ m go. rounds (m - j) (round m) (go tt))
      (λ m go. round m v (exits_of (λ o. after_round round (suc j) o m go)) (after_round round (suc j) goes m go))
      (λ n m le ge go.
      let more : m - j ≡ suc (m - suc j) = omega arith in
      ap (λ b. run (answer s n) (rounds b (round m) (go tt)) w) more
      ∙ ap (λ r. behind (paid [] ∷ []) (replied (λ a t. run (answer s n) (on_item (λ u. round m u (exits_of (λ o. after_round round (suc j) o m go)) (after_round round (suc j) goes m go)) (go tt) a) t) r)) (is n))
      turn

  last_round : (j asked : ℕ) (w z : World) → InRound names base own asked z → ((n : ℕ) → answer s n w next_item ≡ changed z no_item) → Ends j w
  last_round j asked w z inside is =
      settles_before {O = Unit {0}} s w z (AtEnd names base own) (paid [] ∷ []) (suc j) (λ m go. rounds (m - j) (round m) (go tt)) (λ m go. go tt)
      (λ n m le ge go.
      let more : m - j ≡ suc (m - suc j) = omega arith in
      ap (λ b. run (answer s n) (rounds b (round m) (go tt)) w) more
      ∙ ap (λ r. behind (paid [] ∷ []) (replied (λ a t. run (answer s n) (on_item (λ u. round m u (exits_of (λ o. after_round round (suc j) o m go)) (after_round round (suc j) goes m go)) (go tt) a) t) r)) (is n))
      (settles_now s z (AtEnd names base own) tt (asked, inside))

  rounds_by : (d j asked : ℕ) → length own.items ≤ asked + d → Turns → (w : World) → InRound names base own asked w → Top w (Some (loop_at own asked)) (loops_of base.frames)
      → (o : Option Val) → slice_get own.items asked ≡ o → Ends j w
  rounds_by d j asked few turns w inside t None none =
      let z : World = record w { frames = record t.frame { loop = Some (loop_at own (asked + 1)) } ∷ t.rest } in
      last_round j (asked + 1) w z (record { loops = ap (λ ls. Some (loop_at own (asked + 1)) ∷ ls) t.others; outer = inside.outer; floor = inside.floor; saved = inside.saved; captures = inside.captures; meets = inside.meets; loads = inside.loads; added = inside.added })
      (λ n. on_loop_is w t.frame t.rest (loop_at own asked) t.frames (asks_own names base w own asked may inside t) t.own (λ f k fs. next_reply w f k fs (slice_get k.items k.asked))
      ∙ ap (next_reply w t.frame (loop_at own asked) t.rest) none)
  rounds_by zero j asked few turns w inside t (Some v) some = absurd (omega (arith, slice_get_within own.items asked v some))
  rounds_by (suc d) j asked few turns w inside t (Some v) some =
      let z : World = record w { frames = record t.frame { locals = []; loop = Some (loop_at own (asked + 1)) } ∷ t.rest } in
      next_round j (asked + 1) w z v (record { loops = ap (λ ls. Some (loop_at own (asked + 1)) ∷ ls) t.others; outer = inside.outer; floor = inside.floor; saved = inside.saved; captures = inside.captures; meets = inside.meets; loads = inside.loads; added = inside.added }) turns
      (λ u kept. rounds_by d (suc j) (asked + 1) (omega arith) turns u kept (top u (Some (loop_at own (asked + 1))) (loops_of base.frames) kept.loops) (slice_get own.items (asked + 1)) refl)
      (λ n. on_loop_is w t.frame t.rest (loop_at own asked) t.frames (asks_own names base w own asked may inside t) t.own (λ f k fs. next_reply w f k fs (slice_get k.items k.asked))
      ∙ ap (next_reply w t.frame (loop_at own asked) t.rest) some)

  pub settles_rounds : (d j asked : ℕ) → length own.items ≤ asked + d → Turns → (w : World) → InRound names base own asked w → Ends j w
  settles_rounds d j asked few turns w inside =
      rounds_by d j asked few turns w inside (top w (Some (loop_at own asked)) (loops_of base.frames) inside.loops) (slice_get own.items asked) refl
