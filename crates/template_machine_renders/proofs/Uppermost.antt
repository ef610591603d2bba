-- The value that is left at the end of a run.
use Rattle.std.proofs.Common.{◌≡◌, ℕ, inl, inr, List, [], ◌∷◌, map, Option, Result, Ok, Err, IsErrAnd, refl, sym, ap, subst, ◌∙◌}
use Rattle.template_values_errors.specs.declared.ErrorKind.{ErrorKind}
use Rattle.template_values_errors.specs.declared.ErrorKind.TheVariants.{BadStream}
use Rattle.template_values_model.specs.Val.{Val}
use Rattle.template_compiler_process.specs.Drive.{ends}
use Rattle.template_compiler_process.specs.Trace.{behind, ended}
use Rattle.template_compiler_code.specs.Code.{Operand, single, Code}
use Rattle.template_compiler_code.specs.Steps.{values_in}
use Rattle.template_machine_meaning.specs.World.{World}
use Rattle.template_machine_meaning.specs.Surroundings.{Programs, answer}
use Rattle.template_machine_going.specs.Outcomes.{Stops}
use Rattle.template_machine_going.specs.Spots.{Answering, Spot}
use Rattle.template_machine_going.specs.Told.{stop_of}
use Rattle.template_machine_going.specs.declared.stop.Stop.{Stop}
use Rattle.template_machine_loop.specs.Runs.{EndsOver, Evaluates}
use Rattle.template_machine_renders.specs.Renders.{at_start}

-- an end tells values alone
over_values : (answers : Answering World) (code : List Code) (x : Spot World) (operands others : List Operand) (after : World)
    (left : Option ℕ) (taken : Option (List ℕ)) → values_in operands ≡ values_in others → EndsOver answers code x operands after left taken
    → EndsOver answers code x others after left taken
over_values answers code x operands others after left taken same h = record {
  items = h.items;
  least = h.least;
  bound = h.bound;
  is = λ n le. h.is n le ∙ ap (λ vs. behind h.items (ended (ends vs) after)) same;
  pays = h.pays;
  text = h.text;
}

values_alone : (vs : List Val) → values_in (map single vs) ≡ vs
values_alone [] = refl
values_alone (v ∷ vs) = ap (λ us. v ∷ us) (values_alone vs)

module _ (s : Programs) (code : List Code) (w : World) (left : Option ℕ) (taken : Option (List ℕ)) (after : World) (rest : Option ℕ) (written : Option (List ℕ)) where
  -- the uppermost one is given,
  pub evaluates_uppermost : (operands : List Operand) (further : List Val) (v : Val) → EndsOver (answer s) code (at_start w left taken) operands after rest written
      → values_in operands ≡ v ∷ further → Evaluates s code w left taken (Ok v) after rest written
  evaluates_uppermost operands further v h given = (
    map single further,
    over_values (answer s) code (at_start w left taken) operands (single v ∷ map single further) after rest written
        (given ∙ ap (λ vs. v ∷ vs) (sym (values_alone further))) h,
  )

  -- or none is there,
  pub evaluates_none : (operands : List Operand) (kinds : List ErrorKind) (result : Result Val Stop) → EndsOver (answer s) code (at_start w left taken) operands after rest written
      → values_in operands ≡ [] → kinds ≡ BadStream ∷ [] → IsErrAnd result (λ stop. stop ≡ stop_of kinds) → Evaluates s code w left taken result after rest written
  evaluates_none operands kinds (Ok v) h none why is = absurd is
  evaluates_none operands kinds (Err stop) h none why is =
      inr (is ∙ ap stop_of why, over_values (answer s) code (at_start w left taken) operands [] after rest written none h)

  -- or the run stopped before its end
  pub evaluates_stopped : (stop : Stop) (result : Result Val Stop) → Stops (answer s) code (at_start w left taken) (at_start after rest written) stop
      → IsErrAnd result (λ told. told ≡ stop) → Evaluates s code w left taken result after rest written
  evaluates_stopped stop (Ok v) h is = absurd is
  evaluates_stopped stop (Err told) h is = inl (subst (Stops (answer s) code (at_start w left taken) (at_start after rest written)) (sym is) h)
