-- How the text of an expression is answered in an environment, over a context.
use Rattle.std.specs.Prelude.{◌≡◌, ℕ, ◌+◌, ◌==◌, ◌⊎◌, Bool, List, [], ◌∷◌, Option, Result, Ok, Err, String, string_bytes, if◌then◌else◌}
use Rattle.std.specs.Io.KnownBytes.{Appends}
use Rattle.std.specs.declared.alloc.Global.{Global}
use Rattle.template_values_errors.specs.declared.ErrorKind.{ErrorKind}
use Rattle.template_values_errors.specs.declared.ErrorKind.TheVariants.{InvalidOperation}
use Rattle.template_values_errors.specs.declared.modes.UndefinedBehavior.{UndefinedBehavior}
use Rattle.template_values_errors.specs.Memory.{NoMemory}
use Rattle.template_values_model.specs.Val.{Val}
use Rattle.template_machine_surroundings.specs.Writes.{AppendsBeginning}
use Rattle.template_compiler_process.specs.Drive.{ends}
use Rattle.template_compiler_process.specs.Fuel.{under}
use Rattle.template_compiler_process.specs.Trace.{Run}
use Rattle.template_machine_meaning.specs.Laws.{GivesOne}
use Rattle.template_machine_meaning.specs.Meaning.{evaluated}
use Rattle.template_machine_meaning.specs.World.{World}
use Rattle.template_compiled.specs.Expressions.{IsAcceptedExpression, IsExpressionRefusedWith, expression_in}
use Rattle.template_machine_environment.specs.Extras.{Brought}
use Rattle.template_machine_environment.specs.Outcomes.{IsWant, TellsFailures}
use Rattle.template_machine_environment.specs.Renderings.{last_id}
use Rattle.template_machine_environment.specs.Renders.{FaultsAs}
use Rattle.template_machine_environment.specs.Standing.{setting_of, settings_of}
use Rattle.template_machine_environment.specs.declared.registry.Registry.{Registry}
use Rattle.template_program_parts.specs.declared.outcome.Outcome.{Outcome}
use Rattle.template_program_parts.specs.declared.outcome.Outcome.TheVariants.{Done, Render, Context, Template}
use Rattle.template_program_expression.specs.Told.{value_line}

-- nothing was written
abbrev pub IsUntouched : Option (List ℕ) → Option (List ℕ) → ℕ → ℕ → Type 0
IsUntouched before after failed fails = (after ≡ before) × (fails ≡ failed)

-- what the expression of a text means over a context, in the state of a number
abbrev pub meaning_of : Brought → Registry → List ℕ → ℕ → Val → Run World
meaning_of brought e text id context = evaluated (setting_of brought e) id (expression_in text) context

-- The line is that of the one value that the run leaves. Where the run ends with a fault, or its value has no line, there is none.
abbrev pub Tells : Bool → UndefinedBehavior → Run World → Result (List ℕ) (List ErrorKind) → Type 0
Tells as_json mode r (Ok line) = (v : Val) × (r.end ≡ ends (v ∷ [])) × (value_line as_json mode v ≡ Ok line)
Tells as_json mode r (Err kinds) = FaultsAs r kinds
    ⊎ ((v : Val) × (r.end ≡ ends (v ∷ [])) × ((kind : ErrorKind) × (value_line as_json mode v ≡ Err kind) × (kinds ≡ kind ∷ [])))

-- the line is made, or there is none; or a growth was refused
abbrev pub MakesTold : Bool → UndefinedBehavior → Run World → Result (String Global) (List ErrorKind) → Type 0
MakesTold as_json mode r (Ok made) = Tells as_json mode r (Ok (string_bytes made))
MakesTold as_json mode r (Err kinds) = Tells as_json mode r (Err kinds) ⊎ NoMemory kinds

-- a beginning of the line is written, for want of memory or of a sink that works
pub record BreaksOff (line : List ℕ) (kinds : List ErrorKind) (before after : Option (List ℕ)) (failed fails : ℕ) : Type 0 where
  pub want : IsWant kinds
  pub beginning : AppendsBeginning before after line
  pub failures : (result : Result (Unit {0}) (List ErrorKind)) × (result ≡ Err kinds) × TellsFailures result failed fails

-- The line of the run is written, or a beginning of it. Where there is none, or no memory for it, nothing is.
abbrev pub WritesTold : Bool → UndefinedBehavior → Run World → Outcome → Option (List ℕ) → Option (List ℕ) → ℕ → ℕ → Type 0
WritesTold as_json mode r Done before after failed fails =
    (line : List ℕ) × Tells as_json mode r (Ok line) × Appends before after line × (fails ≡ failed)
WritesTold as_json mode r (Render kinds) before after failed fails =
    ((Tells as_json mode r (Err kinds) ⊎ NoMemory kinds) × IsUntouched before after failed fails)
    ⊎ ((line : List ℕ) × Tells as_json mode r (Ok line) × BreaksOff line kinds before after failed fails)
WritesTold as_json mode r _ before after failed fails = ⊥

-- The expression of the text is evaluated in the state of an id: its meaning leaves one value, or ends with a fault, and under the
-- fuel of the environment that is told. With no state id left it is refused.
pub record IsEvaluated (brought : Brought) (e : Registry) (as_json : Bool) (text : List ℕ) (context : Val) (id : ℕ) (outcome : Outcome)
    (before after : Option (List ℕ)) (failed fails : ℕ) : Type 0 where
  pub finished : GivesOne (meaning_of brought e text id context).end
  pub told : ¬ (id ≡ last_id)
      → WritesTold as_json (settings_of e).undefined (under e.fuel (meaning_of brought e text id context)) outcome before after failed fails
  pub exhausted : id ≡ last_id → (outcome ≡ Render (InvalidOperation ∷ [])) × IsUntouched before after failed fails

-- The text is refused, and nothing is written; or it is an expression, which is evaluated.
abbrev pub Evaluates : Brought → Registry → Bool → List ℕ → Val → ℕ → Outcome → Option (List ℕ) → Option (List ℕ) → ℕ → ℕ → Type 0
Evaluates brought e as_json text context id outcome before after failed fails =
    ((kinds : List ErrorKind) × (outcome ≡ Template kinds) × IsExpressionRefusedWith text kinds × IsUntouched before after failed fails)
    ⊎ (IsAcceptedExpression text × IsEvaluated brought e as_json text context id outcome before after failed fails)

-- the id that is next once one is taken, if there is one
abbrev pub behind_one : ℕ → ℕ
behind_one id = if id == last_id then id else id + 1

-- the id that is next after an evaluation that ends so: a text that is refused takes none
abbrev pub behind_evaluation : Outcome → ℕ → ℕ
behind_evaluation (Template kinds) id = id
behind_evaluation outcome id = behind_one id
