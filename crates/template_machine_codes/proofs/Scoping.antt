-- What opens and closes frames, escapes and captures comes to what follows it, or to a fault.
use Rattle.std.proofs.Common.{◌≡◌, ℕ, suc, ◌≤◌, inl, inr, Bool, true, false, List, [], ◌∷◌, length, slice_get, Option, None, Some, Result, Ok, Err, refl, ap, ◌∙◌, arith}
use Rattle.std.specs.Prelude.{if◌then◌else◌}
use Rattle.template_values_errors.specs.declared.ErrorKind.{ErrorKind}
use Rattle.template_values_errors.specs.declared.ErrorKind.TheVariants.{InvalidOperation}
use Rattle.template_values_errors.specs.declared.modes.AutoEscape.{AutoEscape}
use Rattle.template_values_model.specs.Val as values
use Rattle.template_values_model.specs.Val.{Val}
use Rattle.template_values_core.specs.Answers.{text_in}
use Rattle.template_values_operators.specs.Iterated.{iterated}
use Rattle.template_compiler_process.specs.Process.{Looping, Ask, Answer, next_item, did_not_iterate, close_loop, open_frame, close_frame, open_loop, open_escape, close_escape, end_capture, begin_capture, done, value, leaves, tells, breaks_off, Process, asks, on_done, on_value, on_item}
use Rattle.template_compiler_process.specs.Trace.{Reply, run, replied}
use Rattle.template_machine_meaning.specs.World.{Loop, Frame, Capture, World, empty_frame, loop_frame, loop_over, counted_loop, has_room}
use Rattle.template_machine_meaning.specs.Captures.{captured, capture_begun}
use Rattle.template_machine_meaning.specs.Records.{known_of}
use Rattle.template_machine_meaning.specs.Leaving.{loop_left}
use Rattle.template_machine_meaning.specs.Undefined.{forbids_iterating}
use Rattle.template_machine_meaning.specs.Replies.{told, changed, refused, kinded, guarded, changed_with}
use Rattle.template_machine_meaning.specs.Surroundings.{Programs, pushed, rounds_here, opened_loop, is_own, asked_once, next_reply, gave_none, closed_reply, escape_named, escape_put_back, answer}
use Rattle.template_machine_meaning.proofs.Keeping.{loops_of, Top, top, on_own_is, on_loop_is}
use Rattle.template_machine_codes.proofs.Coming.{Bounded, Comes, comes_behind}

module _ (s : Programs) (w : World) (keeps : Option (List Val) → World → Type 0) (stays : keeps None w) where
  -- an event that is done leads to what follows, in another world
  pub comes_to : (z : World) (e : Ask) (Q : Bounded) → ((n : ℕ) → answer s n w e ≡ changed z done) → Comes s z keeps Q → Comes s w keeps (λ m. asks e (on_done (Q m)))
  comes_to z e Q is h =
      comes_behind s w z keeps [] 0 (λ m. asks e (on_done (Q m))) Q (λ n m le ge. ap (replied (λ a t. run (answer s n) (on_done (Q m) a) t)) (is n)) h

  -- so does one that gives a value
  pub comes_given : (z : World) (e : Ask) (v : Val) (Q : Val → Bounded) → ((n : ℕ) → answer s n w e ≡ changed z (value v)) → Comes s z keeps (Q v) → Comes s w keeps (λ m. asks e (on_value (λ u. Q u m)))
  comes_given z e v Q is h =
      comes_behind s w z keeps [] 0 (λ m. asks e (on_value (λ u. Q u m))) (Q v) (λ n m le ge. ap (replied (λ a t. run (answer s n) (on_value (λ u. Q u m) a) t)) (is n)) h

  -- one that is refused fails
  pub comes_refused : (e : Ask) (kind : ErrorKind) (K : ℕ → Answer → Process) → ((n : ℕ) → answer s n w e ≡ refused w kind) → Comes s w keeps (λ m. asks e (K m))
  comes_refused e kind K is =
      inr (record { items = []; least = 0; kinds = kind ∷ []; after = w; kept = stays; is = λ n m le ge. ap (replied (λ a t. run (answer s n) (K m a) t)) (is n) })

  -- a frame is pushed where there is room for it
  pub comes_pushed : (u : World) (e : Ask) (f : Frame) (Q : Bounded) (room : Bool) → has_room s.around.limit 1 u ≡ room
      → ((n : ℕ) → answer s n w e ≡ changed_with w (λ after. done) (λ after. after) (pushed s.around.limit u f))
      → (room ≡ true → Comes s (record u { frames = f ∷ u.frames }) keeps Q) → Comes s w keeps (λ m. asks e (on_done (Q m)))
  comes_pushed u e f Q true room is h =
      comes_to (record u { frames = f ∷ u.frames }) e Q
      (λ n. is n ∙ ap (λ b. changed_with w (λ after. done) (λ after. after) (if b then Ok (record u { frames = f ∷ u.frames }) else Err InvalidOperation)) room) (h refl)
  comes_pushed u e f Q false room is h =
      comes_refused e InvalidOperation (λ m. on_done (Q m))
      (λ n. is n ∙ ap (λ b. changed_with w (λ after. done) (λ after. after) (if b then Ok (record u { frames = f ∷ u.frames }) else Err InvalidOperation)) room)

  pub with_pushed : (Q : Bounded) → (has_room s.around.limit 1 w ≡ true → Comes s (record w { frames = empty_frame ∷ w.frames }) keeps Q) → Comes s w keeps (λ m. asks open_frame (on_done (Q m)))
  with_pushed Q h = comes_pushed w open_frame empty_frame Q (has_room s.around.limit 1 w) refl (λ n. refl) h

  -- a loop's frame
  abbrev pub loop_opened : Looping → List Val → Loop
  loop_opened how vs = loop_over w how.variable (rounds_here w how.rounds) vs

  abbrev pub in_loop : Looping → List Val → World
  in_loop how vs = record (counted_loop w) { frames = loop_frame (loop_opened how vs) ∷ w.frames }

  module _ (how : Looping) (v : Val) (Q : Bounded) (h : (vs : List Val) → has_room s.around.limit 1 w ≡ true → Comes s (in_loop how vs) keeps Q) where
    loop_by : (r : Result (List Val) ErrorKind) → ((n : ℕ) → answer s n w (open_loop how v) ≡ changed_with w (λ after. done) (λ after. after) (opened_loop s.around.limit w how r))
        → Comes s w keeps (λ m. asks (open_loop how v) (on_done (Q m)))
    loop_by (Ok vs) is = comes_pushed (counted_loop w) (open_loop how v) (loop_frame (loop_opened how vs)) Q (has_room s.around.limit 1 w) refl is (h vs)
    loop_by (Err kind) is = comes_refused (open_loop how v) kind (λ m. on_done (Q m)) is

    pub loop_pushed : Comes s w keeps (λ m. asks (open_loop how v) (on_done (Q m)))
    loop_pushed = loop_by (guarded (forbids_iterating s.around.undefined v) (kinded (iterated (known_of w) v))) (λ n. refl)

  -- the innermost frame, with its loop; over these
  module _ (l : Loop) (others : List (Option Loop)) (loops : loops_of w.frames ≡ Some l ∷ others) (own : is_own w l ≡ true) where
    abbrev here : Top w (Some l) others
    here = top w (Some l) others loops

    abbrev pub next_world : World
    next_world = record w { frames = record here.frame { locals = []; loop = Some (asked_once l) } ∷ here.rest }

    abbrev pub last_world : World
    last_world = record w { frames = record here.frame { loop = Some (asked_once l) } ∷ here.rest }

    pub next_loops : loops_of next_world.frames ≡ Some (asked_once l) ∷ others
    next_loops = ap (λ (ls : List (Option Loop)). Some (asked_once l) ∷ ls) here.others

    pub last_loops : loops_of last_world.frames ≡ Some (asked_once l) ∷ others
    last_loops = ap (λ (ls : List (Option Loop)). Some (asked_once l) ∷ ls) here.others

    module _ (Q : Val → Bounded) (P : Bounded) where
      asked_by : (o : Option Val) → slice_get l.items l.asked ≡ o → ((v : Val) → o ≡ Some v → Comes s next_world keeps (Q v)) → (o ≡ None → Comes s last_world keeps P)
          → Comes s w keeps (λ m. asks next_item (on_item (λ v. Q v m) (P m)))
      asked_by (Some v) is more last =
          comes_behind s w next_world keeps [] 0 (λ m. asks next_item (on_item (λ u. Q u m) (P m))) (Q v)
          (λ n m le ge. ap (replied (λ a t. run (answer s n) (on_item (λ u. Q u m) (P m) a) t))
          (on_loop_is w here.frame here.rest l here.frames own here.own (λ f k fs. next_reply w f k fs (slice_get k.items k.asked)) ∙ ap (next_reply w here.frame l here.rest) is)) (more v refl)
      asked_by None is more last =
          comes_behind s w last_world keeps [] 0 (λ m. asks next_item (on_item (λ u. Q u m) (P m))) P
          (λ n m le ge. ap (replied (λ a t. run (answer s n) (on_item (λ u. Q u m) (P m) a) t))
          (on_loop_is w here.frame here.rest l here.frames own here.own (λ f k fs. next_reply w f k fs (slice_get k.items k.asked)) ∙ ap (next_reply w here.frame l here.rest) is)) (last refl)

      pub item_asked : ((v : Val) → slice_get l.items l.asked ≡ Some v → Comes s next_world keeps (Q v)) → Comes s last_world keeps P → Comes s w keeps (λ m. asks next_item (on_item (λ v. Q v m) (P m)))
      item_asked more last = asked_by (slice_get l.items l.asked) refl more (λ e. last)

    -- whether no item was given
    pub given_none : (Q : Val → Bounded) → ((v : Val) → Comes s w keeps (Q v)) → Comes s w keeps (λ m. asks did_not_iterate (on_value (λ v. Q v m)))
    given_none Q h =
        comes_given w did_not_iterate (values.truth (gave_none l)) Q
        (λ n. on_loop_is w here.frame here.rest l here.frames own here.own (λ f k fs. told w (tells (value (values.truth (gave_none k)))))) (h (values.truth (gave_none l)))

    -- its frame is closed
    abbrev pub behind_loop : World
    behind_loop = record (loop_left w l) { frames = here.rest }

    pub loop_popped : l.called ≡ false → (Q : Bounded) → Comes s behind_loop keeps Q → Comes s w keeps (λ m. asks close_loop (on_done (Q m)))
    loop_popped called Q h =
        comes_to behind_loop close_loop Q
        (λ n. on_loop_is w here.frame here.rest l here.frames own here.own (λ f k fs. closed_reply w k fs) ∙ ap (λ b. if b then told w leaves else changed behind_loop done) called) h

    -- where its rounds were called its frame stays, and the run ends
    pub rounds_left : l.called ≡ true → keeps (Some []) w → (Q : Bounded) → Comes s w keeps (λ m. asks close_loop (on_done (Q m)))
    rounds_left called kept Q = inl (record {
      items = [];
      least = 0;
      operands = [];
      after = w;
      kept = kept;
      is = λ n m le ge. ap (replied (λ a t. run (answer s n) (on_done (Q m) a) t))
          (on_loop_is w here.frame here.rest l here.frames own here.own (λ f k fs. closed_reply w k fs) ∙ ap (λ b. if b then told w leaves else changed behind_loop done) called);
    })

    pub rest_loops : loops_of here.rest ≡ others
    rest_loops = here.others

  -- a frame of none is closed
  module _ (others : List (Option Loop)) (loops : loops_of w.frames ≡ None ∷ others) where
    abbrev inner : Top w None others
    inner = top w None others loops

    abbrev pub behind_with : World
    behind_with = record w { frames = inner.rest }

    pub with_loops : loops_of behind_with.frames ≡ others
    with_loops = inner.others

    pub with_popped : ((rest : List Frame) → loops_of rest ≡ others → w.floor ≤ length rest) → (Q : Bounded) → Comes s behind_with keeps Q → Comes s w keeps (λ m. asks close_frame (on_done (Q m)))
    with_popped floored Q h =
        comes_to behind_with close_frame Q
        (λ n. on_own_is w inner.frame inner.rest inner.frames (floored inner.rest inner.others) (λ g gs. changed (record w { frames = gs }) done)) h

  -- escapes
  abbrev pub escaping : AutoEscape → World
  escaping rule = record w { escape = rule; saved = w.escape ∷ w.saved }

  escape_by : (v : Val) (Q : Bounded) (r : Result AutoEscape ErrorKind) → ((n : ℕ) → answer s n w (open_escape v) ≡ changed_with w (λ rule. done) (λ rule. escaping rule) r)
      → ((rule : AutoEscape) → Comes s (escaping rule) keeps Q) → Comes s w keeps (λ m. asks (open_escape v) (on_done (Q m)))
  escape_by v Q (Ok rule) is h = comes_to (escaping rule) (open_escape v) Q is (h rule)
  escape_by v Q (Err kind) is h = comes_refused (open_escape v) kind (λ m. on_done (Q m)) is

  pub escape_pushed : (v : Val) (Q : Bounded) → ((rule : AutoEscape) → Comes s (escaping rule) keeps Q) → Comes s w keeps (λ m. asks (open_escape v) (on_done (Q m)))
  escape_pushed v Q h = escape_by v Q (escape_named w.first v (text_in v)) (λ n. refl) h

  pub escape_popped : (rules : List AutoEscape) → w.saved ≡ rules → suc 0 ≤ length rules → (Q : Bounded)
      → ((rule : AutoEscape) (rest : List AutoEscape) → w.saved ≡ rule ∷ rest → Comes s (record w { escape = rule; saved = rest }) keeps Q) → Comes s w keeps (λ m. asks close_escape (on_done (Q m)))
  escape_popped [] e some Q h = absurd (omega (arith, some))
  escape_popped (rule ∷ rest) e some Q h = comes_to (record w { escape = rule; saved = rest }) close_escape Q (λ n. ap (escape_put_back w) e) (h rule rest e)

  -- captures
  pub capture_pushed : (keep : Bool) (Q : Bounded) → Comes s (record w { captures = capture_begun keep ∷ w.captures }) keeps Q → Comes s w keeps (λ m. asks (begin_capture keep) (on_done (Q m)))
  capture_pushed keep Q h = comes_to (record w { captures = capture_begun keep ∷ w.captures }) (begin_capture keep) Q (λ n. refl) h

  abbrev ended_among : List Capture → Reply World
  ended_among captures = elim captures [
    | [] ↦ told w breaks_off
    | c ∷ cs ↦ changed (record w { captures = cs }) (value (captured w.escape c))
  ]

  pub capture_popped : (captures : List Capture) → w.captures ≡ captures → suc 0 ≤ length captures → (Q : Val → Bounded)
      → ((v : Val) (c : Capture) (rest : List Capture) → w.captures ≡ c ∷ rest → Comes s (record w { captures = rest }) keeps (Q v)) → Comes s w keeps (λ m. asks end_capture (on_value (λ v. Q v m)))
  capture_popped [] e some Q h = absurd (omega (arith, some))
  capture_popped (c ∷ rest) e some Q h = comes_given (record w { captures = rest }) end_capture (captured w.escape c) Q (λ n. ap ended_among e) (h (captured w.escape c) c rest e)
