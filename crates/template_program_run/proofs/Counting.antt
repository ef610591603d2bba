-- The state ids that a request has taken.
use Rattle.std.proofs.Common.{◌≡◌, ◌∙◌, ap, sym, refl, ℕ, ◌+◌, ◌⊎◌, inl, inr, Bool, List, [], ◌∷◌, Option, Result, Err, if◌then◌else◌}
use Rattle.std.proofs.lemmas.Bool.Decides.{eqb_tells}
use Rattle.template_values_errors.specs.declared.ErrorKind.{ErrorKind}
use Rattle.template_values_errors.specs.declared.ErrorKind.TheVariants.{InvalidOperation}
use Rattle.template_values_errors.specs.Memory.{NoMemory}
use Rattle.template_values_model.specs.Val.{Val}
use Rattle.template_machine_environment_settings.specs.Extras.{Brought}
use Rattle.template_machine_environment_settings.specs.Meaning.{Standing}
use Rattle.template_machine_environment_settings.specs.Registry.{Registry}
use Rattle.template_program_expression.specs.Evaluations.{Evaluates, behind_evaluation}
use Rattle.template_program_run.specs.Additions.{IsRefusedEnvironment}
use Rattle.template_program_run.specs.Answers.{Rendered, TellsNames}
use Rattle.template_program_run.specs.Ids.{IsLastId, behind_one, behind_request, last_id}
use Rattle.template_program_parts.specs.declared.outcome.Outcome.{Outcome}
use Rattle.template_program_parts.specs.declared.outcome.Outcome.TheVariants.{Done, Render, Context, Template}
use Rattle.template_program_parts.specs.declared.command.Command.{Command}
use Rattle.template_program_parts.specs.declared.command.Command.TheVariants as asked

last_or_not : (next : ℕ) → IsLastId next ⊎ (¬ IsLastId next)
last_or_not next = elim (eqb_tells next last_id) [ inl same ↦ inl same.1 | inr other ↦ inr other.1 ]

pub one_more : (next : ℕ) → ¬ IsLastId next → behind_one next ≡ next + 1
one_more next more = elim (eqb_tells next last_id) [
  | inl same ↦ absurd (more same.1)
  | inr other ↦ ap (λ b. if b then next else next + 1) other.0
]

kinds_are : {X : Type 0} {kinds others : List ErrorKind} → ◌≡◌ {A = Result X (List ErrorKind)} (Err kinds) (Err others) → kinds ≡ others
kinds_are same = cc

-- an environment is refused where no id is left, or for want of memory
pub environment_refused : {X : Type 0} (next end : ℕ) (kinds : List ErrorKind) → (¬ IsLastId next → NoMemory kinds)
    → (IsLastId next → (◌≡◌ {A = Result X (List ErrorKind)} (Err kinds) (Err (InvalidOperation ∷ []))) × (end ≡ next)) → IsRefusedEnvironment next kinds
environment_refused next end kinds want exhausted = elim (last_or_not next) [
  | inl last ↦ inl (last, kinds_are (exhausted last).0)
  | inr more ↦ inr (more, want more)
]

-- and takes one id, where one is left
pub environment_counts : {A : Type 0} (next end : ℕ) → (¬ IsLastId next → end ≡ next + 1) → (IsLastId next → A × (end ≡ next)) → end ≡ behind_one next
environment_counts next end counted exhausted = elim (eqb_tells next last_id) [
  | inl same ↦ (exhausted same.1).1 ∙ sym (ap (λ b. if b then next else next + 1) same.0)
  | inr other ↦ counted other.1 ∙ sym (ap (λ b. if b then next else next + 1) other.0)
]

-- a render ends done or with an error of the render
takes_two : (k : Brought) (e : Registry) (t : Standing) (context : Val) (id : ℕ) (outcome : Outcome) (before after : Option (List ℕ)) (failed fails : ℕ)
    → Rendered k e t context id outcome before after failed fails
    → (next : ℕ) → behind_request asked.Render outcome next ≡ behind_one (behind_one next)
takes_two k e t context id Done before after failed fails rendered next = refl
takes_two k e t context id (Render kinds) before after failed fails rendered next = refl
takes_two k e t context id (Context kinds) before after failed fails rendered next = elim (last_or_not id) [
  | inl last ↦ let is = (rendered.0 last).0 in cc
  | inr more ↦ absurd (rendered.1 more).1
]
takes_two k e t context id (Template kinds) before after failed fails rendered next = elim (last_or_not id) [
  | inl last ↦ let is = (rendered.0 last).0 in cc
  | inr more ↦ absurd (rendered.1 more).1
]

-- and so does a telling of names
takes_one : (k : Brought) (as_json : Bool) (e : Registry) (t : Standing) (outcome : Outcome) (before after : Option (List ℕ)) (failed fails : ℕ)
    → TellsNames k as_json e t outcome before after failed fails
    → (next : ℕ) → behind_request asked.Names outcome next ≡ behind_one next
takes_one k as_json e t Done before after failed fails told next = refl
takes_one k as_json e t (Render kinds) before after failed fails told next = refl
takes_one k as_json e t (Context kinds) before after failed fails told next = absurd told
takes_one k as_json e t (Template kinds) before after failed fails told next = refl

pub rendered_counts : (k : Brought) (e : Registry) (t : Standing) (context : Val) (id : ℕ) (outcome : Outcome) (before after : Option (List ℕ)) (failed fails : ℕ)
    → Rendered k e t context id outcome before after failed fails
    → (command : Command) → command ≡ asked.Render → (next end : ℕ) → id ≡ behind_one next → end ≡ behind_one id
    → end ≡ behind_request command outcome next
rendered_counts k e t context id outcome before after failed fails rendered command is next end first second =
    second ∙ ap behind_one first ∙ sym (takes_two k e t context id outcome before after failed fails rendered next)
    ∙ ap (λ (c : Command). behind_request c outcome next) (sym is)

pub told_counts : (k : Brought) (as_json : Bool) (e : Registry) (t : Standing) (outcome : Outcome) (before after : Option (List ℕ)) (failed fails : ℕ)
    → TellsNames k as_json e t outcome before after failed fails
    → (command : Command) → command ≡ asked.Names → (next end : ℕ) → end ≡ behind_one next
    → end ≡ behind_request command outcome next
told_counts k as_json e t outcome before after failed fails told command is next end first =
    first ∙ sym (takes_one k as_json e t outcome before after failed fails told next)
    ∙ ap (λ (c : Command). behind_request c outcome next) (sym is)

-- nor does an evaluation end otherwise
no_context : (k : Brought) (e : Registry) (as_json : Bool) (text : List ℕ) (context : Val) (id : ℕ) (kinds : List ErrorKind)
    (before after : Option (List ℕ)) (failed fails : ℕ) → Evaluates k e as_json text context id (Context kinds) before after failed fails → ⊥
no_context k e as_json text context id kinds before after failed fails (inl refused) = let is = refused.1 in cc
no_context k e as_json text context id kinds before after failed fails (inr evaluated) = elim (last_or_not id) [
  | inl last ↦ let is = (evaluated.1.exhausted last).0 in cc
  | inr more ↦ evaluated.1.told more
]

pub evaluation_counts : (k : Brought) (e : Registry) (as_json : Bool) (text : List ℕ) (context : Val) (id : ℕ) (outcome : Outcome)
    (before after : Option (List ℕ)) (failed fails : ℕ) → Evaluates k e as_json text context id outcome before after failed fails
    → (next end : ℕ) → id ≡ behind_one next → end ≡ behind_evaluation outcome id → end ≡ behind_request asked.Render outcome next
evaluation_counts k e as_json text context id Done before after failed fails evaluates next end first second = second ∙ ap behind_one first
evaluation_counts k e as_json text context id (Render kinds) before after failed fails evaluates next end first second = second ∙ ap behind_one first
evaluation_counts k e as_json text context id (Template kinds) before after failed fails evaluates next end first second = second ∙ first
evaluation_counts k e as_json text context id (Context kinds) before after failed fails evaluates next end first second =
    absurd (no_context k e as_json text context id kinds before after failed fails evaluates)
