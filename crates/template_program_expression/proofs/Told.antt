-- What is told of a run.
use Rattle.std.proofs.Common.{◌≡◌, ◌∙◌, ap, sym, subst, refl, ℕ, ◌+◌, ◌⊎◌, inl, inr, Bool, List, [], ◌∷◌, Option, Result, Ok, Err, String, string_bytes, if◌then◌else◌}
use Rattle.std.proofs.lemmas.Bool.Decides.{eqb_tells}
use Rattle.std.specs.Io.KnownBytes.{Appends}
use Rattle.std.specs.declared.alloc.Global.{Global}
use Rattle.template_values_errors.specs.declared.ErrorKind.{ErrorKind}
use Rattle.template_values_errors.specs.declared.ErrorKind.TheVariants.{InvalidOperation}
use Rattle.template_values_errors.specs.declared.modes.UndefinedBehavior.{UndefinedBehavior}
use Rattle.template_values_errors.specs.Memory.{NoMemory}
use Rattle.template_values_model.specs.Val.{Val}
use Rattle.template_machine_surroundings.specs.Writes.{AppendsBeginning}
use Rattle.template_compiler_process.specs.Drive.{ends}
use Rattle.template_compiler_process.specs.Fuel.{under}
use Rattle.template_compiler_process.specs.Trace.{Run}
use Rattle.template_machine_meaning.specs.Laws.{GivesOne}
use Rattle.template_machine_meaning.specs.World.{World}
use Rattle.template_machine_environment.specs.Evaluations.{Gives, environment_under, text_of}
use Rattle.template_machine_environment.specs.Extras.{Brought, UserAnswers}
use Rattle.template_machine_environment.specs.Outcomes.{IsWant, TellsFailures}
use Rattle.template_machine_environment.specs.Reading.{brought_of, registry_of}
use Rattle.template_machine_environment.specs.Renderings.{last_id}
use Rattle.template_machine_environment.specs.Standing.{settings_of}
use Rattle.template_machine_environment.specs.declared.environment.Environment.{Environment}
use Rattle.template_machine_environment.specs.declared.expression.Expression.{Expression}
use Rattle.template_machine_environment.specs.declared.registry.Registry.{Registry}
use Rattle.template_program_parts.specs.declared.outcome.Outcome.TheVariants.{Done, Render}
use Rattle.template_program_expression.specs.Evaluations.{IsEvaluated, MakesTold, behind_one, meaning_of}
use Rattle.template_program_expression.specs.Told.{Makes, value_line}

-- a run that gives no value
pub fault_told : (as_json : Bool) (mode : UndefinedBehavior) (r : Run World) (kinds : List ErrorKind)
    → Gives (Err kinds) r → MakesTold as_json mode r (Err kinds)
fault_told as_json mode r kinds given = elim given [ inl fault ↦ inl (inl fault) | inr memory ↦ inr memory ]

line_told : (as_json : Bool) (mode : UndefinedBehavior) (r : Run World) (v : Val) (line : Result (List ℕ) ErrorKind)
    (result : Result (String Global) (List ErrorKind))
    → r.end ≡ ends (v ∷ []) → value_line as_json mode v ≡ line → Makes line result → MakesTold as_json mode r result
line_told as_json mode r v (Ok line) (Ok text) given is whole = (v, given, is ∙ ap Ok (sym whole))
line_told as_json mode r v (Ok line) (Err kinds) given is memory = inr memory
line_told as_json mode r v (Err kind) (Ok text) given is never = absurd never
line_told as_json mode r v (Err kind) (Err kinds) given is why = elim why [
  | inl alone ↦ inl (inr (v, given, (kind, is, alone)))
  | inr memory ↦ inr memory
]

-- a run that gives a value
pub value_told : (as_json : Bool) (mode : UndefinedBehavior) (r : Run World) (v : Val) (result : Result (String Global) (List ErrorKind))
    → Gives (Ok v) r → Makes (value_line as_json mode v) result → MakesTold as_json mode r result
value_told as_json mode r v result given makes = line_told as_json mode r v (value_line as_json mode v) result given refl makes

-- one id is taken, where one is left
pub counts : {A : Type 0} (id next : ℕ) → (¬ (id ≡ last_id) → next ≡ id + 1) → (id ≡ last_id → A × (next ≡ id)) → next ≡ behind_one id
counts id next counted exhausted = elim (eqb_tells id last_id) [
  | inl same ↦ (exhausted same.1).1 ∙ sym (ap (λ b. if b then id else id + 1) same.0)
  | inr other ↦ counted other.1 ∙ sym (ap (λ b. if b then id else id + 1) other.0)
]

-- what is told of an expression that stands: the line of its value, if there is one
abbrev pub IsTold : Brought → Registry → Bool → UndefinedBehavior → List ℕ → Val → ℕ → Result (String Global) (List ErrorKind) → Type 0
IsTold brought e as_json mode text context id result =
    GivesOne (meaning_of brought e text id context).end
    × (¬ (id ≡ last_id) → MakesTold as_json mode (under e.fuel (meaning_of brought e text id context)) result)
    × (id ≡ last_id → result ≡ Err (InvalidOperation ∷ []))

kinds_are : {X : Type 0} {kinds others : List ErrorKind} → ◌≡◌ {A = Result X (List ErrorKind)} (Err kinds) (Err others) → kinds ≡ others
kinds_are same = cc

never : {X E : Type 0} (x : X) (kinds : E) → ◌≡◌ {A = Result X E} (Ok x) (Err kinds) → ⊥
never x kinds same = cc

-- so it is told of an expression that was read of the text in the environment
pub told_of : {E C M F J R : Type 0} (says : UserAnswers C M F J) (expression : Expression E C M F J R) (environment : Environment E C M F J R)
    (as_json : Bool) (mode : UndefinedBehavior) (text : List ℕ) (context : Val) (id : ℕ) (result : Result (String Global) (List ErrorKind))
    → environment_under expression ≡ environment → text_of expression ≡ text → mode ≡ (settings_of (registry_of environment)).undefined
    → IsTold (brought_of says (environment_under expression)) (registry_of (environment_under expression)) as_json mode (text_of expression) context id result
    → IsTold (brought_of says environment) (registry_of environment) as_json (settings_of (registry_of environment)).undefined text context id result
told_of says expression environment as_json mode text context id result here source set told =
    let by_environment = subst (λ e. IsTold (brought_of says e) (registry_of e) as_json mode (text_of expression) context id result) here told in
    let by_text = subst (λ (s : List ℕ). IsTold (brought_of says environment) (registry_of environment) as_json mode s context id result) source by_environment in
    subst (λ (m : UndefinedBehavior). IsTold (brought_of says environment) (registry_of environment) as_json m text context id result) set by_text

-- there is no line, and nothing is written
pub nothing_written : (brought : Brought) (e : Registry) (as_json : Bool) (text : List ℕ) (context : Val) (id : ℕ) (kinds : List ErrorKind)
    (before : Option (List ℕ)) (failed : ℕ)
    → IsTold brought e as_json (settings_of e).undefined text context id (Err kinds)
    → IsEvaluated brought e as_json text context id (Render kinds) before before failed failed
nothing_written brought e as_json text context id kinds before failed told = record {
  finished = told.0;
  told = λ more. inl (told.1 more, (refl, refl));
  exhausted = λ last. (ap Render (kinds_are (told.2 last)), (refl, refl));
}

-- the line is written
pub line_written : (brought : Brought) (e : Registry) (as_json : Bool) (text : List ℕ) (context : Val) (id : ℕ) (made : String Global)
    (line : List ℕ) (before after : Option (List ℕ)) (failed fails : ℕ)
    → IsTold brought e as_json (settings_of e).undefined text context id (Ok made) → line ≡ string_bytes made
    → Appends before after line → fails ≡ failed
    → IsEvaluated brought e as_json text context id Done before after failed fails
line_written brought e as_json text context id made line before after failed fails told is wrote quiet = record {
  finished = told.0;
  told = λ more. (string_bytes made, told.1 more, subst (Appends before after) is wrote, quiet);
  exhausted = λ last. absurd (never made _ (told.2 last));
}

-- a beginning of the line is written
pub beginning_written : (brought : Brought) (e : Registry) (as_json : Bool) (text : List ℕ) (context : Val) (id : ℕ) (made : String Global)
    (line : List ℕ) (kinds : List ErrorKind) (before after : Option (List ℕ)) (failed fails : ℕ)
    → IsTold brought e as_json (settings_of e).undefined text context id (Ok made) → line ≡ string_bytes made
    → IsWant kinds × AppendsBeginning before after line → TellsFailures {X = Unit {0}} (Err kinds) failed fails
    → IsEvaluated brought e as_json text context id (Render kinds) before after failed fails
beginning_written brought e as_json text context id made line kinds before after failed fails told is wrote failures = record {
  finished = told.0;
  told = λ more. inr (
    string_bytes made,
    told.1 more,
    record { want = wrote.0; beginning = subst (AppendsBeginning before after) is wrote.1; failures = (Err kinds, refl, failures) },
  );
  exhausted = λ last. absurd (never made _ (told.2 last));
}
