-- What a walk comes to, as in the meaning, where a fault leaves a world, too, that has what was reached alone.
use Rattle.std.proofs.Common.{◌≡◌, ℕ, ◌+◌, ◌≤◌, ◌⊎◌, inl, inr, List, [], ◌∷◌, ◌++◌, map, None, Result, Ok, Err, refl, ap, ◌∙◌, arith}
use Rattle.template_values_errors.specs.declared.ErrorKind.{ErrorKind}
use Rattle.template_values_errors.specs.declared.ErrorKind.TheVariants.{InvalidOperation}
use Rattle.template_values_model.specs.Val.{Val}
use Rattle.template_compiler_process.specs.Process as events
use Rattle.template_compiler_process.specs.Process.{Ask, Answer, Told, done, value, tells, fails, Process, asks, on_done, on_value, on_all}
use Rattle.template_compiler_process.specs.Drive.{ends, faults}
use Rattle.template_compiler_process.specs.Trace.{Item, Run, run, behind, ended, replied}
use Rattle.template_machine_meaning.specs.World.{World}
use Rattle.template_machine_meaning.specs.Replies.{told, changed, replied_with}
use Rattle.template_machine_meaning.specs.Keys.{Key}
use Rattle.template_machine_meaning.specs.Turnings.{Turning, turned}
use Rattle.template_machine_meaning.specs.Plans.{Within, enters, caller_of, after_by, given, wrapped_by, came, as_set, came_from, settled}
use Rattle.template_machine_meaning.specs.Surroundings.{plan, Programs, runners, answer}
use Rattle.template_machine_meaning.proofs.Settling.{Walk, Passes, answered, behind-behind}
use Rattle.template_machine_meaning.proofs.Entering.{KeyEnds, Finds, found_run, Reads}
use Rattle.template_machine_codes.specs.Streams.{Codes}
use Rattle.template_machine_codes.proofs.Sound.{Sound, sound_after}

module _ (codes : Codes) where
  pub record Stops {O : Type 0} (s : Programs) (w : World) (P : Walk O) : Type 0 where
    pub items : List Item
    pub least : ℕ
    pub kinds : List ErrorKind
    pub after : World
    pub kept : Sound codes after
    pub is : (n m : ℕ) → least ≤ n → least ≤ m → (go : O → Process) → run (answer s n) (P m go) w ≡ behind items (ended (faults kinds) after)

  abbrev pub Settles : {O : Type 0} → Programs → World → (O → World → Type 0) → Walk O → Type 0
  Settles {O} s w shape P = Passes {O = O} s w shape P ⊎ Stops {O = O} s w P

  -- what is over at once
  pub settles_now : {O : Type 0} (s : Programs) (w : World) (shape : O → World → Type 0) (o : O) → shape o w → Settles {O = O} s w shape (λ m go. go o)
  settles_now s w shape o shaped = inl (record { items = []; least = 0; out = o; after = w; shaped = shaped; is = λ n m le ge go. refl })

  -- an event that is refused, or fails
  pub settles_failed : {O : Type 0} (s : Programs) (w : World) (shape : O → World → Type 0) (e : Ask) (kinds : List ErrorKind) (K : (O → Process) → Answer → Process) → Sound codes w
      → ((n : ℕ) → answer s n w e ≡ told w (fails kinds)) → Settles {O = O} s w shape (λ m go. asks e (K go))
  settles_failed s w shape e kinds K sound is =
      inr (record { items = []; least = 0; kinds = kinds; after = w; kept = sound; is = λ n m le ge go. answered s w e (told w (fails kinds)) K is n go })

  -- an event that gives a value, or items, or is refused, and changes nothing
  pub settles_value : (s : Programs) (w : World) (shape : Val → World → Type 0) (e : Ask) (r : Result Val ErrorKind) → Sound codes w
      → ((v : Val) → shape v w) → ((n : ℕ) → answer s n w e ≡ replied_with w value r) → Settles {O = Val} s w shape (λ m go. asks e (on_value go))
  settles_value s w shape e (Ok v) sound shaped is =
      inl (record { items = []; least = 0; out = v; after = w; shaped = shaped v; is = λ n m le ge go. answered s w e (told w (tells (value v))) on_value is n go })
  settles_value s w shape e (Err kind) sound shaped is = settles_failed s w shape e (kind ∷ []) on_value sound is

  pub settles_items : (s : Programs) (w : World) (shape : List Val → World → Type 0) (e : Ask) (r : Result (List Val) ErrorKind) → Sound codes w
      → ((vs : List Val) → shape vs w) → ((n : ℕ) → answer s n w e ≡ replied_with w events.items r) → Settles {O = List Val} s w shape (λ m go. asks e (on_all go))
  settles_items s w shape e (Ok vs) sound shaped is =
      inl (record { items = []; least = 0; out = vs; after = w; shaped = shaped vs; is = λ n m le ge go. answered s w e (told w (tells (events.items vs))) on_all is n go })
  settles_items s w shape e (Err kind) sound shaped is = settles_failed s w shape e (kind ∷ []) on_all sound is

  -- an event that gives a value, or is done, and leaves another world
  pub settles_given : (s : Programs) (w after : World) (shape : Val → World → Type 0) (e : Ask) (v : Val)
      → shape v after → ((n : ℕ) → answer s n w e ≡ changed after (value v)) → Settles {O = Val} s w shape (λ m go. asks e (on_value go))
  settles_given s w after shape e v shaped is =
      inl (record { items = []; least = 0; out = v; after = after; shaped = shaped; is = λ n m le ge go. answered s w e (changed after (value v)) on_value is n go })

  pub settles_done : (s : Programs) (w after : World) (shape : Unit {0} → World → Type 0) (e : Ask)
      → shape tt after → ((n : ℕ) → answer s n w e ≡ changed after done) → Settles {O = Unit {0}} s w shape (λ m go. asks e (on_done (go tt)))
  settles_done s w after shape e shaped is =
      inl (record { items = []; least = 0; out = tt; after = after; shaped = shaped; is = λ n m le ge go. ap (replied (λ a t. run (answer s n) (on_done (go tt) a) t)) (is n) })

  -- how a key's runs end with a fault
  pub record KeyFaults (s : Programs) (key : Key) (w : World) : Type 0 where
    pub items : List Item
    pub least : ℕ
    pub kinds : List ErrorKind
    pub after : World
    pub kept : Sound codes after
    pub is : (n : ℕ) → least ≤ n → Finds (runners s n key) w (behind items (ended (faults kinds) after))

  -- a key that finds nothing, or whose runs end, by themselves or with a fault
  abbrev pub KeyComes : Programs → Key → World → (World → Type 0) → Type 0
  KeyComes s key w keeps = ((n : ℕ) → runners s n key ≡ None) ⊎ KeyEnds s key w keeps ⊎ KeyFaults s key w

  pub comes_so : (s : Programs) (key : Key) (w : World) (keeps holds : World → Type 0) → ((v : World) → keeps v → holds v) → KeyComes s key w keeps → KeyComes s key w holds
  comes_so s key w keeps holds less (inl nothing) = inl nothing
  comes_so s key w keeps holds less (inr (inl k)) =
      inr (inl (record { items = k.items; least = k.least; operands = k.operands; after = k.after; kept = less k.after k.kept; is = k.is }))
  comes_so s key w keeps holds less (inr (inr k)) = inr (inr k)

-- a fault stays one, whatever is made of values
turned_fails : (w : World) (ts : List Turning) (kinds : List ErrorKind) → turned w ts (fails kinds) ≡ fails kinds
turned_fails w [] kinds = refl
turned_fails w (t ∷ ts) kinds = turned_fails w ts kinds

module _ (codes : Codes) (O : Type 0) (s : Programs) (w : World) (sound : Sound codes w) (e : Ask) (shape : O → World → Type 0) (read : (O → Process) → Answer → Process) where
  settles_told : (items : List Item) (least : ℕ) (after : World) (t : Told) → Sound codes after → Reads O s w e shape read after t
      → ((n : ℕ) → least ≤ n → answer s n w e ≡ record { told = t; items = items; after = after }) → Settles codes {O = O} s w shape (λ m go. asks e (read go))
  settles_told items least after (tells a) kept reads is = inl (record {
    items = items;
    least = least;
    out = reads.0;
    after = after;
    shaped = reads.1;
    is = λ n m le ge go.
        ap (replied (λ b t. run (answer s n) (read go b) t)) (is n le) ∙ ap (λ p. behind items (run (answer s n) p after)) (reads.2 go);
  })
  settles_told items least after (fails kinds) kept reads is = inr (record {
    items = items;
    least = least;
    kinds = kinds;
    after = after;
    kept = kept;
    is = λ n m le ge go. ap (replied (λ b t. run (answer s n) (read go b) t)) (is n le);
  })
  settles_told items least after _ kept reads is = absurd reads

  -- and of the run within that it enters
  module _ (x : Within) (planned : plan s.around w e ≡ enters x) where
    abbrev after_it : World → World
    after_it v = after_by x.purpose (caller_of w) v

    replied_so : (n : ℕ) (r : Run World) → Finds (runners s n x.key) x.begins r → answer s n w e ≡ came w x r
    replied_so n r found = ap (settled (runners s n) w) planned ∙ found_run w x (runners s n x.key) r found

    pub settles_entered : (keeps : World → Type 0) → ((v : World) → keeps v → Sound codes v) → KeyComes codes s x.key x.begins keeps
        → ((v : World) → keeps v → Reads O s w e shape read (after_it v) (turned (after_it v) x.behind (tells (given x.purpose (caller_of w) v))))
        → Settles codes {O = O} s w shape (λ m go. asks e (read go))
    settles_entered keeps so (inl nothing) reads =
        settles_told [] 0 (as_set w x) (fails (InvalidOperation ∷ [])) (record { macros = sound.macros; frames = sound.frames; closed = sound.closed }) tt
        (λ n le. ap (settled (runners s n) w) planned ∙ ap (came_from w x) (nothing n))
    settles_entered keeps so (inr (inl k)) reads =
        settles_told (map (wrapped_by x.wraps) (k.items ++ [])) k.least (after_it k.after) (turned (after_it k.after) x.behind (tells (given x.purpose (caller_of w) k.after)))
        (sound_after codes x.purpose (caller_of w) k.after (so k.after k.kept)) (reads k.after k.kept) (λ n le. replied_so n (behind k.items (ended (ends k.operands) k.after)) (k.is n le))
    settles_entered keeps so (inr (inr k)) reads =
        settles_told (map (wrapped_by x.wraps) (k.items ++ [])) k.least (after_it k.after) (fails (x.wraps ++ k.kinds)) (sound_after codes x.purpose (caller_of w) k.after k.kept) tt
        (λ n le. replied_so n (behind k.items (ended (faults k.kinds) k.after)) (k.is n le)
        ∙ ap (λ (t : Told). record { told = t; items = map (wrapped_by x.wraps) (k.items ++ []); after = after_it k.after }) (turned_fails (after_it k.after) x.behind (x.wraps ++ k.kinds)))

-- what comes behind items that stand first
pub settles_before : {O : Type 0} (codes : Codes) (s : Programs) (w z : World) (shape : O → World → Type 0) (items : List Item) (least : ℕ) (P Q : Walk O)
    → ((n m : ℕ) → least ≤ n → least ≤ m → (go : O → Process) → run (answer s n) (P m go) w ≡ behind items (run (answer s n) (Q m go) z))
    → Settles codes {O = O} s z shape Q → Settles codes {O = O} s w shape P
settles_before codes s w z shape items least P Q leads (inl q) = inl (record {
  items = items ++ q.items;
  least = least + q.least;
  out = q.out;
  after = q.after;
  shaped = q.shaped;
  is = λ n m le ge go. leads n m (omega arith) (omega arith) go ∙ ap (behind items) (q.is n m (omega arith) (omega arith) go) ∙ behind-behind items q.items (run (answer s n) (go q.out) q.after);
})
settles_before codes s w z shape items least P Q leads (inr q) = inr (record {
  items = items ++ q.items;
  least = least + q.least;
  kinds = q.kinds;
  after = q.after;
  kept = q.kept;
  is = λ n m le ge go. leads n m (omega arith) (omega arith) go ∙ ap (behind items) (q.is n m (omega arith) (omega arith) go) ∙ behind-behind items q.items (ended (faults q.kinds) q.after);
})

-- an event that is done leads to what follows, in another world
pub settles_to : {O : Type 0} (codes : Codes) (s : Programs) (w z : World) (shape : O → World → Type 0) (e : Ask) (Q : Walk O)
    → ((n : ℕ) → answer s n w e ≡ changed z done) → Settles codes {O = O} s z shape Q → Settles codes {O = O} s w shape (λ m go. asks e (on_done (Q m go)))
settles_to codes s w z shape e Q is q =
    settles_before codes s w z shape [] 0 (λ m go. asks e (on_done (Q m go))) Q (λ n m le ge go. ap (replied (λ a t. run (answer s n) (on_done (Q m go) a) t)) (is n)) q
