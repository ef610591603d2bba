-- Streams, one in the place of another.
use Rattle.std.proofs.Common.{◌≡◌, ℕ, suc, ◌+◌, ◌-◌, ◌≤◌, List, [], ◌∷◌, ◌++◌, Option, None, Some, inl, refl, sym, ap, subst, ◌∙◌, append_assoc, append-nil, arith}
use Rattle.std.specs.Io.KnownBytes.{Appends}
use Rattle.std.proofs.KnownBytes.{Appends-nil}
use Rattle.template_values_errors.specs.declared.ErrorKind.{ErrorKind}
use Rattle.template_values_errors.specs.declared.ErrorKind.TheVariants.{TemplateNotFound}
use Rattle.template_values_errors.specs.Memory.{NoMemory}
use Rattle.template_values_model.specs.Val.{Val}
use Rattle.template_compiler_process.specs.Drive.{End, ends, faults, breaks, waits, mistaken, cuts, sticks}
use Rattle.template_compiler_process.specs.Trace.{Item, paid, Run, behind, ended, price_of, text_of}
use Rattle.template_compiler_process.proofs.Cuts.{text-append}
use Rattle.template_compiler_code.specs.Code.{Code}
use Rattle.template_machine_surroundings.specs.Writes.{AppendsBeginning}
use Rattle.template_machine_surroundings.proofs.Beginnings.{beginning_after, beginning_whole}
use Rattle.template_machine_meaning.specs.World.{World}
use Rattle.template_machine_meaning.specs.Keys.{own, standing, Key, whole_of}
use Rattle.template_machine_meaning.specs.Plans.{ran, restarted, beneath, with_beneath, parent_run, went_on}
use Rattle.template_machine_meaning.specs.Surroundings.{Programs, runners, answer}
use Rattle.template_machine_going.specs.Paying.{Paid}
use Rattle.template_machine_going.specs.Spots.{run_at}
use Rattle.template_machine_going.specs.Stops.{Wants}
use Rattle.template_machine_going.specs.Strays.{IsLost, Strays}
use Rattle.template_machine_going.specs.declared.stop.Stop.{Stop}
use Rattle.template_machine_going.specs.declared.stop.Stop.TheVariants.{Fault, Want}
use Rattle.template_machine_going.proofs.Going.{paid_behind, text_behind}
use Rattle.template_machine_going.proofs.Paths.{paid_nothing, behind-behind}
use Rattle.template_machine_steps.specs.Performs.{spot}
use Rattle.template_machine_loop.specs.Runs.{EndsSo, Breaks, faulting, running_out, straying}
use Rattle.template_machine_loop.proofs.Streams.{RunsCode, begins_on, behind_first, first_left, stream_goes_on}
use Rattle.template_machine_loop.proofs.Wrapping.{either_on}

-- no operands beneath
beneath_none : (e : End) → beneath [] e ≡ e
beneath_none (ends more) = ap ends (append-nil more)
beneath_none (faults kinds) = refl
beneath_none breaks = refl
beneath_none waits = refl
beneath_none mistaken = refl
beneath_none cuts = refl
beneath_none sticks = refl

beneath_twice : (low high : List Val) (e : End) → beneath low (beneath high e) ≡ beneath (high ++ low) e
beneath_twice low high (ends more) = ap ends (append_assoc more high low)
beneath_twice low high (faults kinds) = refl
beneath_twice low high breaks = refl
beneath_twice low high waits = refl
beneath_twice low high mistaken = refl
beneath_twice low high cuts = refl
beneath_twice low high sticks = refl

beneath_lost : (low : List Val) (e : End) → IsLost e → beneath low e ≡ e
beneath_lost low (ends more) lost = absurd lost
beneath_lost low (faults kinds) lost = refl
beneath_lost low breaks lost = refl
beneath_lost low waits lost = refl
beneath_lost low mistaken lost = refl
beneath_lost low cuts lost = refl
beneath_lost low sticks lost = refl

-- behind these items, and over these operands, the run of a key goes on with that of another
pub record Reaches (s : Programs) (key : Key) (w : World) (left : Option ℕ) (taken : Option (List ℕ)) (later : Key) (v : World) (rest : Option ℕ)
    (written : Option (List ℕ)) : Type 0 where
  pub items : List Item
  pub least : ℕ
  pub more : ℕ
  pub operands : List Val
  pub is : (n : ℕ) → least ≤ n → ran (runners s (more + n) key) w ≡ behind items (with_beneath operands (ran (runners s n later) v))
  pub pays : Paid (price_of items) left rest
  pub text : Appends taken written (text_of items)

pub reaches_itself : (s : Programs) (key : Key) (w : World) (left : Option ℕ) (taken : Option (List ℕ)) → Reaches s key w left taken key w left taken
reaches_itself s key w left taken = record {
  items = [];
  least = 0;
  more = 0;
  operands = [];
  is = λ n le.
      let same : 0 + n ≡ n = omega arith in
      ap (λ k. ran (runners s k key) w) same
      ∙ ap (λ (e : End). record { items = (ran (runners s n key) w).items; end = e; after = (ran (runners s n key) w).after }) (sym (beneath_none (ran (runners s n key) w).end));
  pays = paid_nothing left;
  text = Appends-nil taken;
}

module _ (s : Programs) (key : Key) (w : World) (left : Option ℕ) (taken : Option (List ℕ)) (later : Key) (v : World) (mid : Option ℕ) (reached : Option (List ℕ))
    (h : Reaches s key w left taken later v mid reached) where
  -- under a bound that is large enough
  reached_run : (least : ℕ) (r : ℕ → Run World) → ((m : ℕ) → least ≤ m → ran (runners s m later) v ≡ r m) → (n : ℕ) → h.more + (h.least + least) ≤ n
      → ran (runners s n key) w ≡ behind h.items (with_beneath h.operands (r (n - h.more)))
  reached_run least r is n le =
      let m : ℕ = n - h.more in
      let same : n ≡ h.more + m = omega (arith, le) in
      ap (λ k. ran (runners s k key) w) same ∙ h.is m (omega (arith, le)) ∙ ap (λ (q : Run World). behind h.items (with_beneath h.operands q)) (is m (omega (arith, le)))

  -- that one comes to its end, or stops
  pub ends_there : (after : World) (rest : Option ℕ) (written : Option (List ℕ)) → EndsSo (λ n. ran (runners s n later) v) after mid rest reached written
      → EndsSo (λ n. ran (runners s n key) w) after left rest taken written
  ends_there after rest written k = record {
    items = h.items ++ k.items;
    least = h.more + (h.least + k.least);
    operands = k.operands ++ h.operands;
    is = λ n le.
        reached_run k.least (λ m. behind k.items (ended (ends k.operands) after)) k.is n le
        ∙ behind-behind h.items k.items (ended (ends (k.operands ++ h.operands)) after);
    pays = paid_behind h.items k.items left mid rest h.pays k.pays;
    text = text_behind h.items k.items taken reached written h.text k.text;
  }

  wants_there : (rest : Option ℕ) (written : Option (List ℕ)) → Wants (λ n. ran (runners s n later) v) mid rest reached written
      → Wants (λ n. ran (runners s n key) w) left rest taken written
  wants_there rest written k = record {
    items = h.items ++ k.items;
    least = h.more + (h.least + k.least);
    rest = λ n. with_beneath h.operands (k.rest (n - h.more));
    remained = k.remained;
    is = λ n le.
        reached_run k.least (λ m. behind k.items (k.rest m)) k.is n le
        ∙ behind-behind h.items k.items (with_beneath h.operands (k.rest (n - h.more)));
    pays = paid_behind h.items k.items left mid k.remained h.pays k.pays;
    stays = k.stays;
    text = subst (AppendsBeginning taken written) (sym (text-append h.items k.items)) (beginning_after taken reached written (text_of h.items) (text_of k.items) h.text k.text);
  }

  strays_there : Strays (λ n. ran (runners s n later) v) → Strays (λ n. ran (runners s n key) w)
  strays_there k = record {
    items = h.items ++ k.items;
    least = h.more + (h.least + k.least);
    end = k.end;
    world = k.world;
    is = λ n le.
        reached_run k.least (λ m. behind k.items (ended k.end k.world)) k.is n le
        ∙ ap (λ (e : End). behind h.items (behind k.items (ended e k.world))) (beneath_lost h.operands k.end k.lost)
        ∙ behind-behind h.items k.items (ended k.end k.world);
    lost = k.lost;
  }

  pub breaks_there : (stop : Stop) (after : World) (rest : Option ℕ) (written : Option (List ℕ)) → Breaks (λ n. ran (runners s n later) v) stop after mid rest reached written
      → Breaks (λ n. ran (runners s n key) w) stop after left rest taken written
  breaks_there (Fault kinds) after rest written (faulting k) = faulting (record {
    items = h.items ++ k.items;
    least = h.more + (h.least + k.least);
    is = λ n le.
        reached_run k.least (λ m. behind k.items (ended (faults kinds) after)) k.is n le
        ∙ behind-behind h.items k.items (ended (faults kinds) after);
    pays = paid_behind h.items k.items left mid rest h.pays k.pays;
    text = text_behind h.items k.items taken reached written h.text k.text;
  })
  breaks_there (Fault kinds) after rest written (running_out k) = running_out (record {
    items = h.items ++ k.items;
    least = h.more + (h.least + k.least);
    wraps = k.wraps;
    rest = λ n. with_beneath h.operands (k.rest (n - h.more));
    remained = k.remained;
    is = λ n le.
        reached_run k.least (λ m. behind k.items (behind (paid k.wraps ∷ []) (k.rest m))) k.is n le
        ∙ behind-behind h.items k.items (behind (paid k.wraps ∷ []) (with_beneath h.operands (k.rest (n - h.more))));
    kinds_are = k.kinds_are;
    pays = paid_behind h.items k.items left mid k.remained h.pays k.pays;
    spent = k.spent;
    nothing = k.nothing;
    text = text_behind h.items k.items taken reached written h.text k.text;
  })
  breaks_there (Fault kinds) after rest written (straying why k) = straying why (strays_there k)
  breaks_there (Want kinds) after rest written k = (k.0, either_on (wants_there rest written) strays_there k.1)

  -- its stream came to its end
  module _ (code : List Code) (runs : RunsCode s later code) (operands : List Val) (after : World) (rest : Option ℕ) (written : Option (List ℕ))
      (items : List Item) (least bound : ℕ)
      (is : (n : ℕ) → least ≤ n → run_at (answer s) code n bound (spot 0 [] v mid reached) ≡ behind items (ended (ends operands) after))
      (pays : Paid (price_of items) mid rest) (text : Appends reached written (text_of items)) where
    goes_on_so : (parent : Option (List ℕ)) → after.parent ≡ parent → (n : ℕ) → suc (least + bound) ≤ n
        → (m : ℕ) × (n ≡ suc m) × (ran (runners s (suc m) later) v ≡ went_on (runners s m) operands (behind items (ended (ends operands) after)) parent)
    goes_on_so parent e n le =
        let there = stream_goes_on s later code runs v mid mid reached reached operands after items least bound is n le in
        (there.0, there.1, there.2 ∙ ap (went_on (runners s there.0) operands (behind items (ended (ends operands) after))) e)

    -- and extends no template
    pub over_there : after.parent ≡ None → EndsSo (λ n. ran (runners s n key) w) after left rest taken written
    over_there e =
        ends_there after rest written (record {
          items = items;
          least = suc (least + bound);
          operands = operands;
          is = λ n le.
              let there = goes_on_so None e n le in
              ap (λ k. ran (runners s k later) v) there.1 ∙ there.2;
          pays = pays;
          text = text;
        })

    -- no memory is left behind it
    pub lacks_behind : (kinds : List ErrorKind) → NoMemory kinds → Breaks (λ n. ran (runners s n key) w) (Want kinds) after left rest taken written
    lacks_behind kinds why =
        breaks_there (Want kinds) after rest written (
          inl why,
          inl (record {
            items = items;
            least = suc (least + bound);
            rest = λ n. behind_first items (ran (runners s n later) v);
            remained = rest;
            is = λ n le.
                let there = goes_on_so after.parent refl n le in
                let begun = begins_on (runners s there.0) operands items (ended (ends operands) after) after.parent in
                first_left items (ran (runners s n later) v) begun.0 (ap (λ k. ran (runners s k later) v) there.1 ∙ there.2 ∙ begun.1);
            pays = pays;
            stays = inl refl;
            text = beginning_whole reached written (text_of items) text;
          }),
        )

    -- one that doesn't stand
    pub lost_there : (name : List ℕ) → after.parent ≡ Some name → ((n : ℕ) → runners s n (whole_of (own (standing name))) ≡ None)
        → Breaks (λ n. ran (runners s n key) w) (Fault (TemplateNotFound ∷ [])) (restarted name after) left rest taken written
    lost_there name e missing =
        breaks_there (Fault (TemplateNotFound ∷ [])) (restarted name after) rest written
        (faulting (record {
          items = items;
          least = suc (least + bound);
          is = λ n le.
              let there = goes_on_so (Some name) e n le in
              ap (λ k. ran (runners s k later) v) there.1 ∙ there.2
              ∙ ap (λ o. behind (items ++ []) (with_beneath operands (parent_run o (restarted name after)))) (missing there.0)
              ∙ ap (λ all. behind all (ended (faults (TemplateNotFound ∷ [])) (restarted name after))) (append-nil items);
          pays = pays;
          text = text;
        }))

    -- one that does
    pub restarts_there : (name : List ℕ) → after.parent ≡ Some name → ((n : ℕ) → (f : World → Run World) × (runners s n (whole_of (own (standing name))) ≡ Some f))
        → Reaches s key w left taken (whole_of (own (standing name))) (restarted name after) rest written
    restarts_there name e found = record {
      items = h.items ++ items;
      least = h.least + suc (least + bound);
      more = suc h.more;
      operands = operands ++ h.operands;
      is = λ n le.
          let next : Key = whole_of (own (standing name)) in
          let begun : World = restarted name after in
          let there = goes_on_so (Some name) e (suc n) (omega (arith, le)) in
          let same : n ≡ there.0 = omega (arith, there.1) in
          let r : Run World = ran (runners s n next) begun in
          let one : ran (runners s (suc n) later) v ≡ went_on (runners s n) operands (behind items (ended (ends operands) after)) (Some name) =
          subst (λ k. ran (runners s (suc k) later) v ≡ went_on (runners s k) operands (behind items (ended (ends operands) after)) (Some name)) (sym same) there.2 in
          let two : parent_run (runners s n next) begun ≡ r = ap (λ o. parent_run o begun) (found n).1 ∙ sym (ap (λ o. ran o begun) (found n).1) in
          let under : ran (runners s (suc n) later) v ≡ behind items (with_beneath operands r) =
          one ∙ ap (λ (q : Run World). behind (items ++ []) (with_beneath operands q)) two ∙ ap (λ all. behind all (with_beneath operands r)) (append-nil items) in
          let bound_is : suc h.more + n ≡ h.more + suc n = omega arith in
          ap (λ k. ran (runners s k key) w) bound_is ∙ h.is (suc n) (omega (arith, le)) ∙ ap (λ (q : Run World). behind h.items (with_beneath h.operands q)) under
          ∙ ap (λ (end : End). behind h.items (behind items (record { items = r.items; end = end; after = r.after }))) (beneath_twice h.operands operands r.end)
          ∙ behind-behind h.items items (with_beneath (operands ++ h.operands) r);
      pays = paid_behind h.items items left mid rest h.pays pays;
      text = text_behind h.items items taken reached written h.text text;
    }
