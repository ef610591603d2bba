-- From the run of an expression's code to its value, and to what is handed out.
use Rattle.std.proofs.Common.{◌≡◌, ◌∙◌, ℕ, List, [], ◌∷◌, Option, None, Result, Ok, Err, inl, inr, refl, sym, ap, subst, arith}
use Rattle.template_values_errors.specs.declared.ErrorKind.{ErrorKind}
use Rattle.template_values_model.specs.Fault.{Fault}
use Rattle.template_values_model.specs.Gives as values
use Rattle.template_values_model.specs.Val.{Val}
use Rattle.template_values_forms.specs.Frozen.{frozen}
use Rattle.template_compiler_process.specs.Drive.{ends, faults}
use Rattle.template_compiler_process.specs.Fuel.{under}
use Rattle.template_compiler_process.specs.Trace.{Run}
use Rattle.template_compiler_code.specs.Code.{Code}
use Rattle.template_compiler_codegen.specs.Statements.{standalone_code}
use Rattle.template_machine_going.specs.Told.{CountsFailures, kinds_in}
use Rattle.template_machine_going.specs.declared.stop.Stop.{Stop}
use Rattle.template_machine_going.specs.declared.stop.Stop.TheVariants as stop
use Rattle.template_machine_meaning.specs.Records.{known_of}
use Rattle.template_machine_meaning.specs.Replies.{kinded}
use Rattle.template_machine_meaning.specs.Surroundings.{Programs}
use Rattle.template_machine_meaning.specs.World.{World, first_world}
use Rattle.template_machine_meaning.specs.Meaning.{alone, evaluated, evaluation, handed, handed_out, no_head}
use Rattle.template_machine_meaning.proofs.Handed.{under_handed}
use Rattle.template_machine_codes.specs.Codes.{codes_of}
use Rattle.template_machine_renders.specs.Renders.{GivesValue}
use Rattle.template_machine_renders.specs.Runs.{Evaluates}
use Rattle.template_machine_renders.proofs.Coming.{expressions_evaluate}
use Rattle.template_compiled.proofs.Alone.{expression_in_runs}
use Rattle.template_compiled.specs.Expressions.{IsFaithfulExpression, code_alone, expression_in}
use Rattle.template_machine_environment.specs.Evaluations.{Gives}
use Rattle.template_machine_environment.specs.Extras.{Brought}
use Rattle.template_machine_environment.specs.Standing.{setting_of}
use Rattle.template_machine_environment.specs.declared.registry.Registry.{Registry}
use Rattle.template_machine_environment.proofs.Numbered.{evaluates_alike}

fault_alone : {X : Type 0} {kind : ErrorKind} {kinds : List ErrorKind} → ◌≡◌ {A = Result X (List ErrorKind)} (Err (kind ∷ [])) (Err kinds) → kind ∷ [] ≡ kinds
fault_alone same = cc

given_fault : {v : Val} {kinds : List ErrorKind} → ◌≡◌ {A = Result Val (List ErrorKind)} (Ok v) (Err kinds) → ⊥
given_fault same = cc

-- what a call answers that freezes a value, as the end of the run that hands it out
answer_gives : {S : Type 0} (answer : Result Val Fault) (result : Result Val (List ErrorKind)) (r : Run S) → values.Gives result answer
    → r.end ≡ alone (kinded answer) → Gives result r
answer_gives answer (Ok u) r is end = end ∙ ap (λ (a : Result Val Fault). alone (kinded a)) is
answer_gives answer (Err kinds) r (inl want) end = inr want
answer_gives (Ok u) (Err kinds) r (inr told) end = absurd (given_fault told)
answer_gives (Err fault) (Err kinds) r (inr told) end = inl (end ∙ ap (λ (ks : List ErrorKind). faults ks) (fault_alone told))

-- what a machine runs: the programs, the code of the expression, and the world at its start, in the state of a number
pub record IsRunOfExpression (k : Brought) (e : Registry) (id : ℕ) (source : List ℕ) (context : Val) (s : Programs) (code : List Code) (w : World) : Type 0 where
  pub faithful : IsFaithfulExpression source
  pub programs : s ≡ codes_of (setting_of k e) None
  pub is_code : code ≡ code_alone source
  pub start : w ≡ first_world id e.globals no_head context

-- its evaluation, before its value is handed out
abbrev evaluation_in : Brought → Registry → ℕ → List ℕ → Val → Run World
evaluation_in k e id source context = evaluation (setting_of k e) (expression_in source) (first_world id e.globals no_head context)

comes : (k : Brought) (e : Registry) (id : ℕ) (source : List ℕ) (context : Val) (s : Programs) (code : List Code) (w after : World) (left : Option ℕ)
    (before taken : Option (List ℕ)) (result : Result Val Stop) → IsRunOfExpression k e id source context s code w
    → Evaluates s code w e.fuel before result after left taken → GivesValue result after (under e.fuel (evaluation_in k e id source context))
comes k e id source context s code w after left before taken result of runs =
    expressions_evaluate (setting_of k e) (expression_in source) (expression_in_runs source) (first_world id e.globals no_head context) after
    (record { blocks = refl; macros = refl; loops = λ number. refl }) e.fuel left before taken result
    (evaluates_alike (codes_of (setting_of k e) None) (standalone_code (expression_in source)) _ e.fuel before result after left taken
    (subst (λ (x : World). Evaluates (codes_of (setting_of k e) None) (code_alone source) x e.fuel before result after left taken) of.start
    (subst (λ (cs : List Code). Evaluates (codes_of (setting_of k e) None) cs w e.fuel before result after left taken) of.is_code
    (subst (λ (p : Programs). Evaluates p code w e.fuel before result after left taken) of.programs runs))))

-- a fault is handed out as it is, and a sink that cannot fail is no cause
stops : (told : Stop) (after : World) (r : Run World) (failures : ℕ) → CountsFailures {X = Val} (Err told) failures failures
    → GivesValue (Err told) after r → Gives (Err (kinds_in told)) (handed_out r)
stops (stop.Fault kinds) after r failures counts fault = inl (ap (handed r.after) fault)
stops (stop.Want kinds) after r failures counts (inl want) = inr want
stops (stop.Want kinds) after r failures (inl failed) (inr failure) = absurd (omega (arith, failed.1))
stops (stop.Want kinds) after r failures (inr quiet) (inr failure) = absurd (quiet.0 failure)

-- a value is handed out as the call answers that freezes it, by what is known where the run ends
gives : (v : Val) (after : World) (r : Run World) (result : Result Val (List ErrorKind)) → GivesValue (Ok v) after r
    → values.Gives result (frozen (known_of after) v) → Gives result (handed_out r)
gives v after r result came is =
    answer_gives (frozen (known_of after) v) result (handed_out r) is
    (ap (handed r.after) came.0 ∙ ap (λ (w : World). handed w (ends (v ∷ []))) came.1)

pub evaluation_stops : (k : Brought) (e : Registry) (id : ℕ) (source : List ℕ) (context : Val) (s : Programs) (code : List Code) (w after : World) (left : Option ℕ)
    (before taken : Option (List ℕ)) (failures : ℕ) (told : Stop) (kinds : List ErrorKind) → kinds ≡ kinds_in told → IsRunOfExpression k e id source context s code w
    → CountsFailures {X = Val} (Err told) failures failures → Evaluates s code w e.fuel before (Err told) after left taken
    → Gives (Err kinds) (under e.fuel (evaluated (setting_of k e) id (expression_in source) context))
evaluation_stops k e id source context s code w after left before taken failures told kinds is of counts runs =
    subst (λ (ks : List ErrorKind). Gives (Err ks) (under e.fuel (evaluated (setting_of k e) id (expression_in source) context))) (sym is)
    (subst (Gives (Err (kinds_in told))) (sym (under_handed e.fuel (evaluation_in k e id source context)))
    (stops told after (under e.fuel (evaluation_in k e id source context)) failures counts
    (comes k e id source context s code w after left before taken (Err told) of runs)))

pub evaluation_gives : (k : Brought) (e : Registry) (id : ℕ) (source : List ℕ) (context : Val) (s : Programs) (code : List Code) (w after : World) (left : Option ℕ)
    (before taken : Option (List ℕ)) (v : Val) (result : Result Val (List ErrorKind)) → IsRunOfExpression k e id source context s code w
    → Evaluates s code w e.fuel before (Ok v) after left taken → values.Gives result (frozen (known_of after) v)
    → Gives result (under e.fuel (evaluated (setting_of k e) id (expression_in source) context))
evaluation_gives k e id source context s code w after left before taken v result of runs is =
    subst (Gives result) (sym (under_handed e.fuel (evaluation_in k e id source context)))
    (gives v after (under e.fuel (evaluation_in k e id source context)) result
    (comes k e id source context s code w after left before taken (Ok v) of runs) is)
