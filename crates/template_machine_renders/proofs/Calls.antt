-- From the run of what a call comes to by code to what the call means.
use Rattle.std.proofs.Common.{◌≡◌, ℕ, ◌+◌, inl, List, [], ◌∷◌, Option, Result, Ok, Err, refl, sym, ap, subst, ◌∙◌, arith}
use Rattle.std.proofs.KnownBytes.{Appends-nil}
use Rattle.template_values_model.specs.Val.{Val}
use Rattle.template_compiler_process.specs.Approximants.{IsFinished}
use Rattle.template_compiler_process.specs.Fuel.{under}
use Rattle.template_compiler_process.specs.Process.{fails, tells, value}
use Rattle.template_compiler_process.specs.Trace.{Reply}
use Rattle.template_machine_going.proofs.Paths.{paid_nothing}
use Rattle.template_machine_going.specs.Told.{FaultsSo}
use Rattle.template_machine_going.specs.declared.stop.Stop.{Stop}
use Rattle.template_machine_going.specs.declared.stop.Stop.TheVariants.{Fault, Want}
use Rattle.template_machine_meaning.specs.Meaning.{Standing, Setting, walks_of, named_so}
use Rattle.template_machine_meaning.specs.Plans.{Plan, replies, Runners, settled, with_turning}
use Rattle.template_machine_meaning.specs.Replies.{changed, told}
use Rattle.template_machine_meaning.specs.Surroundings.{Programs, runners}
use Rattle.template_machine_meaning.specs.Turnings.{Turning, turned_by}
use Rattle.template_machine_meaning.specs.World.{World}
use Rattle.template_machine_calls.specs.Left.{Planned, KeptUnlessValue, entry_plan, reached_by, turnings_in, value_left, with_turnings}
use Rattle.template_machine_calls.specs.declared.reached.Reached.{Reached}
use Rattle.template_machine_calls.specs.declared.reached.Reached.TheVariants as reached
use Rattle.template_machine_codes.specs.Codes.{codes_of}
use Rattle.template_machine_loop.specs.Plans.{DoesPlan, Tells, replies_of, run_of}
use Rattle.template_machine_loop.specs.Runs.{Breaks, faulting}
use Rattle.template_machine_loop.proofs.Turned.{does_from}
use Rattle.template_machine_renders.specs.Renders.{IsDone, LeavesFuel, LeavesWorld, Renders}
use Rattle.template_machine_renders.proofs.Blocks.{named_follow, plan_alike, replies_alike, tells_ends}
use Rattle.template_machine_renders.proofs.Coming.{breaks_meant, ends_meant, stops_so}

-- a reply is the same whatever is made of it, wherever it is given
turned_again : (ts : List Turning) (r : Reply World) → (q : Reply World) × (with_turnings ts (replies r) ≡ replies q)
turned_again [] r = (r, refl)
turned_again (t ∷ ts) r =
    let before = turned_again ts r in
    (record before.0 { told = turned_by before.0.after t before.0.told }, ap (with_turning t) before.1)

replied_anywhere : (f : Runners) (w v : World) (ts : List Turning) (r : Reply World) → settled f v (with_turnings ts (replies r)) ≡ settled f w (with_turnings ts (replies r))
replied_anywhere f w v ts r = let q = turned_again ts r in ap (settled f v) q.1 ∙ sym (ap (settled f w) q.1)

-- what a call failed with is done, or no memory is left
pub failed_does : (s : Programs) (p : Plan) (w after : World) (left : Option ℕ) (taken : Option (List ℕ)) (stop : Stop)
    → FaultsSo (λ kinds. p ≡ replies (told after (fails kinds))) stop → Breaks (λ n. run_of (replies_of s p w n)) stop after left left taken taken
failed_does s p w after left taken (Fault kinds) fault =
    faulting (record {
      items = [];
      least = 0;
      is = λ n le. ap (λ (q : Plan). run_of (settled (runners s n) w q)) fault;
      pays = paid_nothing left;
      text = Appends-nil taken;
    })
failed_does s p w after left taken (Want kinds) why = (
  inl why,
  inl (record {
    items = [];
    least = 0;
    rest = λ n. run_of (replies_of s p w n);
    remained = left;
    is = λ n le. refl;
    pays = paid_nothing left;
    stays = inl refl;
    text = (0, Appends-nil taken);
  }),
)

-- and so is a plan that comes to a value
pub planned_does : (s : Programs) (p : Plan) (w after : World) (left : Option ℕ) (taken : Option (List ℕ)) (result : Result Val Stop)
    → Planned value_left p result after → DoesPlan value s p w left taken result after left taken
planned_does s p w after left taken (Ok v) planned = record {
  items = [];
  least = 0;
  is = λ n le. ap (settled (runners s n) w) planned;
  pays = paid_nothing left;
  text = Appends-nil taken;
}
planned_does s p w after left taken (Err stop) planned = failed_does s p w after left taken stop planned

-- what is done of what a call came to, is done from where the call began
value_anywhere : (s : Programs) (w v : World) (ts : List Turning) (r : Reply World) (left rest : Option ℕ) (taken written : Option (List ℕ))
    (result : Result Val Stop) (after : World) → DoesPlan value s (with_turnings ts (replies r)) v left taken result after rest written
    → DoesPlan value s (with_turnings ts (replies r)) w left taken result after rest written
value_anywhere s w v ts r left rest taken written (Ok u) after does =
    subst (λ (f : ℕ → Reply World). Tells f (value u) after left rest taken written) (λ i n. replied_anywhere (runners s n) w v ts r i) does
value_anywhere s w v ts r left rest taken written (Err stop) after does =
    subst (λ (f : ℕ → Reply World). Breaks (λ n. run_of (f n)) stop after left rest taken written) (λ i n. replied_anywhere (runners s n) w v ts r i) does

pub reached_does : (s : Programs) (came : Reached) (w v : World) (left rest : Option ℕ) (taken written : Option (List ℕ))
    (result : Result Val Stop) (after : World) → KeptUnlessValue (Ok came) w v
    → DoesPlan value s (reached_by s.around came v) v left taken result after rest written
    → DoesPlan value s (reached_by s.around came v) w left taken result after rest written
reached_does s (reached.Value u turnings) w v left rest taken written result after kept does =
    value_anywhere s w v (turnings_in turnings.items) (changed v (value u)) left rest taken written result after does
reached_does s (reached.Enters entry) w v left rest taken written result after kept does =
    does_from value s (entry_plan s.around entry v) w v left rest taken written result after kept does

-- the call tells what its meaning tells, and leaves its world, or it answers as it ends
abbrev pub TellsTo : Option ℕ → Reply World → Result Val Stop → World → Option ℕ → Option (List ℕ) → Option (List ℕ) → Type 0
TellsTo fuel r (Ok v) after left before taken = (r.told ≡ tells (value v)) × (r.after ≡ after) × IsDone fuel (run_of r) after left before taken
TellsTo fuel r (Err stop) after left before taken =
    Renders {X = Val} (Err stop) before taken (under fuel (run_of r)) × LeavesFuel {X = Val} fuel (run_of r) (Err stop) left
    × LeavesWorld fuel (run_of r) stop after

module _ (setting : Setting) (root : Option Standing) (name : List ℕ) (p : Plan) (w : World) (n : ℕ) where
  abbrev walks : Programs
  walks = named_so name (walks_of setting root)

  abbrev codes : Programs
  codes = named_so name (codes_of setting root)

  pub calls_tell : (after : World) (fuel left : Option ℕ) (before taken : Option (List ℕ)) (result : Result Val Stop)
      → DoesPlan value codes p w fuel before result after left taken → IsFinished (run_of (replies_of walks p w n)).end
      → TellsTo fuel (replies_of walks p w n) result after left before taken
  calls_tell after fuel left before taken (Ok v) does finished =
      let same = replies_alike walks codes (named_follow setting root name) n w p finished in
      let m = same.0 + does.least in
      let means : replies_of walks p w n ≡ record { told = tells (value v); items = does.items; after = after } =
      sym (same.1 m (omega arith)) ∙ does.is m (omega arith) in (
        ap (λ (r : Reply World). r.told) means,
        ap (λ (r : Reply World). r.after) means,
        ends_meant (λ m. run_of (replies_of codes p w m)) (run_of (replies_of walks p w n)) after fuel left before taken
            (plan_alike walks codes (named_follow setting root name) n w p finished)
            (tells_ends (replies_of codes p w) (value v) after fuel left before taken does),
      )
  calls_tell after fuel left before taken (Err stop) does finished =
      stops_so Val (run_of (replies_of walks p w n)) after fuel left before taken stop finished
      (breaks_meant (λ m. run_of (replies_of codes p w m)) (run_of (replies_of walks p w n)) stop after fuel left before taken
      (plan_alike walks codes (named_follow setting root name) n w p finished) does)
