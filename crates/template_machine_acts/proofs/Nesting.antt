-- Runs within a run.
use Rattle.std.proofs.Common.{◌≡◌, ℕ, ◌+◌, ◌≤◌, List, [], ◌∷◌, ◌++◌, map, refl, sym, ap, subst, ◌∙◌, append_assoc, arith}
use Rattle.std.proofs.lemmas.List.{map-append}
use Rattle.std.specs.Io.KnownBytes.{Appends}
use Rattle.template_values_errors.specs.declared.ErrorKind.{ErrorKind}
use Rattle.template_values_errors.specs.declared.ErrorKind.TheVariants.{OutOfFuel}
use Rattle.template_compiler_process.specs.Process.{Counts, Ask, Answer, fails, breaks_off, Process}
use Rattle.template_compiler_process.specs.Drive.{End, ends, faults, breaks, waits, mistaken, cuts, sticks}
use Rattle.template_compiler_process.specs.Trace.{Item, paid, written, Run, run, replied, go_on, behind, ended, text_of, price_of}
use Rattle.template_compiler_code.specs.Code.{Code}
use Rattle.template_machine_surroundings.specs.Writes.{AppendsBeginning}
use Rattle.template_machine_meaning.specs.World.{World}
use Rattle.template_machine_meaning.specs.Turnings.{Turning, turned}
use Rattle.template_machine_meaning.specs.Plans.{Within, caller_of, after_by, given, wrapped_by, told_by, came_from, settled}
use Rattle.template_machine_meaning.specs.Surroundings.{Programs, runners, answer}
use Rattle.template_machine_going.specs.Spots.{Spot}
use Rattle.template_machine_going.specs.Paying.{Paid}
use Rattle.template_machine_going.specs.Acts.{Next, deed_at}
use Rattle.template_machine_going.proofs.Paths.{behind-behind}
use Rattle.template_machine_going.specs.Strays.{IsLost}
use Rattle.template_machine_acts.specs.Nested.{Enters, begun, NestedActs, NestedTurns, NestedFaults, NestedRunsOut, NestedWants, NestedStrays}

pub price-wrapped : (wraps : List ErrorKind) (items : List Item) → price_of (map (wrapped_by wraps) items) ≡ price_of items
price-wrapped wraps [] = refl
price-wrapped wraps (paid kinds ∷ items) = ap (λ n. 1 + n) (price-wrapped wraps items)
price-wrapped wraps (written bytes ∷ items) = price-wrapped wraps items

pub text-wrapped : (wraps : List ErrorKind) (items : List Item) → text_of (map (wrapped_by wraps) items) ≡ text_of items
text-wrapped wraps [] = refl
text-wrapped wraps (paid kinds ∷ items) = text-wrapped wraps items
text-wrapped wraps (written bytes ∷ items) = ap (λ t. bytes ++ t) (text-wrapped wraps items)

module _ (s : Programs) (before : Counts) (c : Code) (x : Spot World) (e : Ask) (follow : Next → Answer → Process) (y : Within) (runs : ℕ → World → Run World) (least : ℕ)
    (within : Enters s before c x e follow y runs least) (next : Next) where
  -- how the run goes on behind the event, from what the run within left
  abbrev later : ℕ → Run World → Run World
  later n r =
      go_on (λ a t. run (answer s n) (follow next a) t) (after_by y.purpose (caller_of x.world) r.after)
      (turned (after_by y.purpose (caller_of x.world) r.after) y.behind (told_by y.wraps (given y.purpose (caller_of x.world) r.after) r.end))

  abbrev whole : ℕ → Run World → Run World
  whole n r = behind (map (wrapped_by y.wraps) r.items) (later n r)

  pub comes : (n : ℕ) → least ≤ n → deed_at (answer s) before c next n x ≡ whole n (begun y runs n)
  comes n le =
      ap (λ p. run (answer s n) p x.world) (within.asks next)
      ∙ ap (λ p. replied (λ a t. run (answer s n) (follow next a) t) (settled (runners s n) x.world p)) within.planned
      ∙ ap (λ o. replied (λ a t. run (answer s n) (follow next a) t) (came_from x.world y o)) (within.found n le)

  -- where the run within leaves items and then another run
  pub comes_behind : (n : ℕ) → least ≤ n → (items : List Item) (r : Run World) → begun y runs n ≡ behind items r
      → deed_at (answer s) before c next n x ≡ behind (map (wrapped_by y.wraps) items) (whole n r)
  comes_behind n le items r is =
      comes n le ∙ ap (whole n) is ∙ ap (λ (all : List Item). behind all (later n r)) (map-append (wrapped_by y.wraps) items r.items)
      ∙ sym (behind-behind (map (wrapped_by y.wraps) items) (map (wrapped_by y.wraps) r.items) (later n r))

pub nested_acts : NestedActs
nested_acts s before c x z e follow y runs least items operands after a within is told leads world pays text = record {
  items = map (wrapped_by y.wraps) items;
  least = least;
  is = λ next n le.
      comes_behind s before c x e follow y runs least within next n le items (ended (ends operands) after) (is n le)
      ∙ ap (λ t. behind (map (wrapped_by y.wraps) items) (go_on (λ b u. run (answer s n) (follow next b) u) (after_by y.purpose (caller_of x.world) after) t)) told
      ∙ ap (λ p. behind (map (wrapped_by y.wraps) items) (run (answer s n) p (after_by y.purpose (caller_of x.world) after))) (leads next)
      ∙ ap (λ w. behind (map (wrapped_by y.wraps) items) (run (answer s n) (next z.place z.operands) w)) (sym world);
  pays = subst (λ p. Paid p x.left z.left) (sym (price-wrapped y.wraps items)) pays;
  text = subst (Appends x.taken z.taken) (sym (text-wrapped y.wraps items)) text;
}

pub nested_turns : NestedTurns
nested_turns s before c x e follow y runs least items operands ended_in kinds later after within is told pays text next = record {
  items = map (wrapped_by y.wraps) items;
  least = least;
  is = λ n le.
      comes_behind s before c x e follow y runs least within next n le items (ended (ends operands) ended_in) (is n le)
      ∙ ap (λ t. behind (map (wrapped_by y.wraps) items) (go_on (λ b u. run (answer s n) (follow next b) u) (after_by y.purpose (caller_of x.world) ended_in) t)) told;
  pays = subst (λ p. Paid p x.left later) (sym (price-wrapped y.wraps items)) pays;
  text = subst (Appends x.taken after) (sym (text-wrapped y.wraps items)) text;
}

-- nothing is made of a fault, nor of what broke off
turned_fails : (w : World) (ts : List Turning) (kinds : List ErrorKind) → turned w ts (fails kinds) ≡ fails kinds
turned_fails w [] kinds = refl
turned_fails w (t ∷ ts) kinds = turned_fails w ts kinds

turned_breaks : (w : World) (ts : List Turning) → turned w ts breaks_off ≡ breaks_off
turned_breaks w [] = refl
turned_breaks w (t ∷ ts) = turned_breaks w ts

pub nested_faults : NestedFaults
nested_faults s before c x e follow y runs least kinds ended_in later after within stops next = record {
  items = map (wrapped_by y.wraps) stops.items;
  least = least + stops.least;
  is = λ n le.
      comes_behind s before c x e follow y runs least within next n (omega arith) stops.items (ended (faults kinds) ended_in) (stops.is n (omega arith))
      ∙ ap (λ t. behind (map (wrapped_by y.wraps) stops.items) (go_on (λ a w. run (answer s n) (follow next a) w) (after_by y.purpose (caller_of x.world) ended_in) t))
      (turned_fails (after_by y.purpose (caller_of x.world) ended_in) y.behind (y.wraps ++ kinds));
  pays = subst (λ p. Paid p x.left later) (sym (price-wrapped y.wraps stops.items)) stops.pays;
  text = subst (Appends x.taken after) (sym (text-wrapped y.wraps stops.items)) stops.text;
}

pub nested_runs_out : NestedRunsOut
nested_runs_out s before c x e follow y runs least kinds later after within stops next = record {
  items = map (wrapped_by y.wraps) stops.items;
  least = least + stops.least;
  wraps = y.wraps ++ stops.wraps;
  rest = λ n. whole s before c x e follow y runs least within next n (stops.rest n);
  remained = stops.remained;
  is = λ n le. comes_behind s before c x e follow y runs least within next n (omega arith) stops.items (behind (paid stops.wraps ∷ []) (stops.rest n)) (stops.is n (omega arith));
  kinds_are = ap (λ ks. y.wraps ++ ks) stops.kinds_are ∙ sym (append_assoc y.wraps stops.wraps (OutOfFuel ∷ []));
  pays = subst (λ p. Paid p x.left stops.remained) (sym (price-wrapped y.wraps stops.items)) stops.pays;
  spent = stops.spent;
  nothing = stops.nothing;
  text = subst (Appends x.taken after) (sym (text-wrapped y.wraps stops.items)) stops.text;
}

pub nested_wants : NestedWants
nested_wants s before c x e follow y runs least later after within stops next = record {
  items = map (wrapped_by y.wraps) stops.items;
  least = least + stops.least;
  rest = λ n. whole s before c x e follow y runs least within next n (stops.rest n);
  remained = stops.remained;
  is = λ n le. comes_behind s before c x e follow y runs least within next n (omega arith) stops.items (stops.rest n) (stops.is n (omega arith));
  pays = subst (λ p. Paid p x.left stops.remained) (sym (price-wrapped y.wraps stops.items)) stops.pays;
  stays = stops.stays;
  text = subst (AppendsBeginning x.taken after) (sym (text-wrapped y.wraps stops.items)) stops.text;
}

told_lost : (wraps : List ErrorKind) (a : Answer) (end : End) → IsLost end → told_by wraps a end ≡ breaks_off
told_lost wraps a (ends operands) lost = absurd lost
told_lost wraps a (faults kinds) lost = absurd lost
told_lost wraps a breaks lost = refl
told_lost wraps a waits lost = absurd lost
told_lost wraps a mistaken lost = refl
told_lost wraps a cuts lost = absurd lost
told_lost wraps a sticks lost = refl

pub nested_strays : NestedStrays
nested_strays s before c x e follow y runs least within stops next = record {
  items = map (wrapped_by y.wraps) stops.items;
  least = least + stops.least;
  end = breaks;
  world = after_by y.purpose (caller_of x.world) stops.world;
  is = λ n le.
      comes_behind s before c x e follow y runs least within next n (omega arith) stops.items (ended stops.end stops.world) (stops.is n (omega arith))
      ∙ ap (λ t. behind (map (wrapped_by y.wraps) stops.items) (go_on (λ a w. run (answer s n) (follow next a) w) (after_by y.purpose (caller_of x.world) stops.world) t))
      (ap (turned (after_by y.purpose (caller_of x.world) stops.world) y.behind)
      (told_lost y.wraps (given y.purpose (caller_of x.world) stops.world) stops.end stops.lost)
      ∙ turned_breaks (after_by y.purpose (caller_of x.world) stops.world) y.behind);
  lost = tt;
}
