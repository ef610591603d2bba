-- A run of an expression's code whose filters and tests have their numbers is one of the code without them.
use Rattle.std.proofs.Common.{◌≡◌, ◌≤◌, ℕ, List, Option, Result, Ok, Err, inl, inr, subst}
use Rattle.template_values_model.specs.Val.{Val}
use Rattle.template_compiler_process.specs.Drive.{ends}
use Rattle.template_compiler_process.specs.Trace.{Run, behind, ended, run}
use Rattle.template_compiler_code.specs.Code.{Operand, Code}
use Rattle.template_compiler_code.specs.Steps.{values_in}
use Rattle.template_compiler_generator.specs.Numbers.{numbered_in}
use Rattle.template_compiler_generator.proofs.Alike.{numbers_run_alike}
use Rattle.template_machine_meaning.specs.Surroundings.{Programs, answer}
use Rattle.template_machine_meaning.specs.World.{World}
use Rattle.template_machine_going.specs.Outcomes.{Stops, faults, runs_out, strays}
use Rattle.template_machine_going.specs.Spots.{Answering, Spot, run_at}
use Rattle.template_machine_going.specs.Stops.{Faults, RunsOut, Wants}
use Rattle.template_machine_going.specs.Strays.{Strays}
use Rattle.template_machine_going.specs.declared.stop.Stop.{Stop}
use Rattle.template_machine_going.specs.declared.stop.Stop.TheVariants.{Fault, Want}
use Rattle.template_machine_renders.specs.Runs.{EndsOver, Evaluates}

module _ {S : Type 0} (answers : Answering S) (code : List Code) where
  -- the runs from a spot on, under each bound on the runs within
  runs_alike : (bound : ℕ) (x : Spot S)
      → ◌≡◌ {A = ℕ → Run S} (λ n. run_at answers (numbered_in code) n bound x) (λ n. run_at answers code n bound x)
  runs_alike bound x = λ i n. run (answers n) (numbers_run_alike code bound x.place x.operands i) x.world

  ends_over_alike : (x : Spot S) (operands : List Operand) (after : S) (left : Option ℕ) (taken : Option (List ℕ))
      → EndsOver answers (numbered_in code) x operands after left taken → EndsOver answers code x operands after left taken
  ends_over_alike x operands after left taken h = record {
    items = h.items;
    least = h.least;
    bound = h.bound;
    is = subst (λ (runs : ℕ → Run S). (n : ℕ) → h.least ≤ n → runs n ≡ behind h.items (ended (ends (values_in operands)) after)) (runs_alike h.bound x) h.is;
    pays = h.pays;
    text = h.text;
  }

  stops_alike : (x y : Spot S) (stop : Stop) → Stops answers (numbered_in code) x y stop → Stops answers code x y stop
  stops_alike x y (Fault kinds) (faults (bound, is)) =
      faults (bound, subst (λ (runs : ℕ → Run S). Faults runs kinds y.world x.left y.left x.taken y.taken) (runs_alike bound x) is)
  stops_alike x y (Fault kinds) (runs_out (bound, is)) =
      runs_out (bound, subst (λ (runs : ℕ → Run S). RunsOut runs kinds x.left y.left x.taken y.taken) (runs_alike bound x) is)
  stops_alike x y (Fault kinds) (strays why (bound, is)) = strays why (bound, subst Strays (runs_alike bound x) is)
  stops_alike x y (Want kinds) (why, inl (bound, is)) =
      (why, inl (bound, subst (λ (runs : ℕ → Run S). Wants runs x.left y.left x.taken y.taken) (runs_alike bound x) is))
  stops_alike x y (Want kinds) (why, inr (bound, is)) = (why, inr (bound, subst Strays (runs_alike bound x) is))

-- and so with what a call tells of an expression's value
pub evaluates_alike : (s : Programs) (code : List Code) (w : World) (left : Option ℕ) (taken : Option (List ℕ)) (result : Result Val Stop)
    (after : World) (rest : Option ℕ) (written : Option (List ℕ)) → Evaluates s (numbered_in code) w left taken result after rest written
    → Evaluates s code w left taken result after rest written
evaluates_alike s code w left taken (Ok v) after rest written (below, over) =
    (below, ends_over_alike (answer s) code _ _ after rest written over)
evaluates_alike s code w left taken (Err stop) after rest written (inl stopped) = inl (stops_alike (answer s) code _ _ stop stopped)
evaluates_alike s code w left taken (Err stop) after rest written (inr (stray, over)) =
    inr (stray, ends_over_alike (answer s) code _ _ after rest written over)
