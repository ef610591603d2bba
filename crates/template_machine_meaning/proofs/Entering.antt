-- An event that enters a run within settles where that run comes to its end or to a fault.
use Rattle.std.proofs.Common.{◌≡◌, ℕ, ◌+◌, ◌<◌, ◌≤◌, ◌⊎◌, inl, inr, List, [], ◌∷◌, ◌++◌, drop, map, Option, None, Some, refl, ap, ◌∙◌}
use Rattle.template_values_errors.specs.declared.ErrorKind.{ErrorKind}
use Rattle.template_values_errors.specs.declared.ErrorKind.TheVariants.{InvalidOperation}
use Rattle.template_values_model.specs.Val.{Val}
use Rattle.template_compiler_process.specs.Process.{Ask, Answer, Told, tells, fails, Process, asks}
use Rattle.template_compiler_process.specs.Drive.{ends, faults}
use Rattle.template_compiler_process.specs.Trace.{Item, Run, run, behind, ended, replied}
use Rattle.template_machine_meaning.specs.World.{Loop, World, loop_frame}
use Rattle.template_machine_meaning.specs.Keys.{Part, whole, body_of, rounds_of, Key}
use Rattle.template_machine_meaning.specs.Laws.{MayGoRound}
use Rattle.template_machine_meaning.specs.Turnings.{Turning, turned}
use Rattle.template_machine_meaning.specs.Plans.{Within, enters, caller_of, after_by, given, wrapped_by, came, as_set, came_from, settled}
use Rattle.template_machine_meaning.specs.Surroundings.{plan, Programs, runners, answer}
use Rattle.template_machine_meaning.proofs.Settling.{Settles}
use Rattle.template_machine_meaning.proofs.Keeping.{Keeps, IsFramed, Ran}

-- there is a run, and from the world on it is this one
abbrev pub Finds : Option (World → Run World) → World → Run World → Type 0
Finds None w r = ⊥
Finds (Some runs) w r = runs w ≡ r

-- how a key's runs from a world on end, under every bound that is great enough
pub record KeyEnds (s : Programs) (key : Key) (w : World) (keeps : World → Type 0) : Type 0 where
  pub items : List Item
  pub least : ℕ
  pub operands : List Val
  pub after : World
  pub kept : keeps after
  pub is : (n : ℕ) → least ≤ n → Finds (runners s n key) w (behind items (ended (ends operands) after))

pub record KeyFaults (s : Programs) (key : Key) (w : World) : Type 0 where
  pub items : List Item
  pub least : ℕ
  pub kinds : List ErrorKind
  pub after : World
  pub is : (n : ℕ) → least ≤ n → Finds (runners s n key) w (behind items (ended (faults kinds) after))

-- a key that finds nothing, or whose runs end, by themselves or with a fault
abbrev pub KeyComes : Programs → Key → World → (World → Type 0) → Type 0
KeyComes s key w keeps = ((n : ℕ) → runners s n key ≡ None) ⊎ KeyEnds s key w keeps ⊎ KeyFaults s key w

-- less is said of the world that is left
pub comes_so : (s : Programs) (key : Key) (w : World) (keeps holds : World → Type 0) → ((v : World) → keeps v → holds v) → KeyComes s key w keeps → KeyComes s key w holds
comes_so s key w keeps holds less (inl nothing) = inl nothing
comes_so s key w keeps holds less (inr (inl k)) =
    inr (inl (record { items = k.items; least = k.least; operands = k.operands; after = k.after; kept = less k.after k.kept; is = k.is }))
comes_so s key w keeps holds less (inr (inr k)) = inr (inr k)

-- where a part of a stream begins
abbrev pub Starts : Part → World → Type 0
Starts (rounds_of number) w = MayGoRound w
Starts _ w = IsFramed w × (w.parent ≡ None)

-- rounds keep what the loop's frame stands over, with another loop in it
abbrev pub Rounded : List (List ℕ) → World → World → Type 0
Rounded names w v = (l : Loop) × Keeps names (record w { frames = loop_frame l ∷ drop 1 w.frames }) v

-- what a part keeps
abbrev pub Leaves : List (List ℕ) → Part → World → World → Type 0
Leaves names whole w = Ran names w
Leaves names (body_of number vs) w = Keeps names w
Leaves names (rounds_of number) w = Rounded names w

-- all keys do, and keep the world, where they begin so much deeper
abbrev pub AllCome : List (List ℕ) → Programs → ℕ → Type 0
AllCome names s depth = (key : Key) (w : World) → Starts key.part w → depth < w.floor + w.outer → depth < s.around.limit
    → KeyComes s key w (Leaves names key.part w)

pub found_run : (w : World) (x : Within) (o : Option (World → Run World)) (r : Run World) → Finds o x.begins r → came_from w x o ≡ came w x r
found_run w x None r found = absurd found
found_run w x (Some runs) r found = ap (came w x) found

-- a fault stays one, whatever is made of values
turned_fails : (w : World) (ts : List Turning) (kinds : List ErrorKind) → turned w ts (fails kinds) ≡ fails kinds
turned_fails w [] kinds = refl
turned_fails w (t ∷ ts) kinds = turned_fails w ts kinds

-- What an event reads of what it is told, and what that comes to.
module _ (O : Type 0) (s : Programs) (w : World) (e : Ask) (shape : O → World → Type 0) (read : (O → Process) → Answer → Process) where
  abbrev pub Reads : World → Told → Type 0
  Reads after (tells a) = (o : O) × shape o after × ((go : O → Process) → read go a ≡ go o)
  Reads after (fails kinds) = Unit {0}
  Reads after _ = ⊥

  settles_told : (items : List Item) (least : ℕ) (after : World) (t : Told) → Reads after t
      → ((n : ℕ) → least ≤ n → answer s n w e ≡ record { told = t; items = items; after = after }) → Settles {O = O} s w shape (λ m go. asks e (read go))
  settles_told items least after (tells a) reads is = inl (record {
    items = items;
    least = least;
    out = reads.0;
    after = after;
    shaped = reads.1;
    is = λ n m le ge go.
        ap (replied (λ b t. run (answer s n) (read go b) t)) (is n le) ∙ ap (λ p. behind items (run (answer s n) p after)) (reads.2 go);
  })
  settles_told items least after (fails kinds) reads is = inr (record {
    items = items;
    least = least;
    kinds = kinds;
    after = after;
    is = λ n m le ge go. ap (replied (λ b t. run (answer s n) (read go b) t)) (is n le);
  })
  settles_told items least after _ reads is = absurd reads

  -- and of the run within that it enters
  module _ (x : Within) (planned : plan s.around w e ≡ enters x) where
    abbrev after_it : World → World
    after_it v = after_by x.purpose (caller_of w) v

    replied_so : (n : ℕ) (r : Run World) → Finds (runners s n x.key) x.begins r → answer s n w e ≡ came w x r
    replied_so n r found = ap (settled (runners s n) w) planned ∙ found_run w x (runners s n x.key) r found

    pub settles_entered : (keeps : World → Type 0) → KeyComes s x.key x.begins keeps
        → ((v : World) → keeps v → Reads (after_it v) (turned (after_it v) x.behind (tells (given x.purpose (caller_of w) v))))
        → Settles {O = O} s w shape (λ m go. asks e (read go))
    settles_entered keeps (inl nothing) reads =
        settles_told [] 0 (as_set w x) (fails (InvalidOperation ∷ [])) tt
        (λ n le. ap (settled (runners s n) w) planned ∙ ap (came_from w x) (nothing n))
    settles_entered keeps (inr (inl k)) reads =
        settles_told (map (wrapped_by x.wraps) (k.items ++ [])) k.least (after_it k.after) (turned (after_it k.after) x.behind (tells (given x.purpose (caller_of w) k.after)))
        (reads k.after k.kept) (λ n le. replied_so n (behind k.items (ended (ends k.operands) k.after)) (k.is n le))
    settles_entered keeps (inr (inr k)) reads =
        settles_told (map (wrapped_by x.wraps) (k.items ++ [])) k.least (after_it k.after) (fails (x.wraps ++ k.kinds)) tt
        (λ n le. replied_so n (behind k.items (ended (faults k.kinds) k.after)) (k.is n le)
        ∙ ap (λ (t : Told). record { told = t; items = map (wrapped_by x.wraps) (k.items ++ []); after = after_it k.after }) (turned_fails (after_it k.after) x.behind (x.wraps ++ k.kinds)))
