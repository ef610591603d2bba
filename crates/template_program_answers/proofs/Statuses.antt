-- A render's outcome has status 6 only where a growth was refused.
use Rattle.std.proofs.Common.{◌≡◌, ◌∙◌, ℕ, suc, ◌+◌, List, [], ◌∷◌, ◌++◌, Option, Some, Result, Ok, Err, inl, inr, refl, sym, ap, subst, arith}
use Rattle.std.proofs.lemmas.Bool.Decides.{eqb_tells}
use Rattle.template_values_errors.specs.declared.ErrorKind.{ErrorKind}
use Rattle.template_values_errors.specs.declared.ErrorKind.TheVariants.{OutOfMemory}
use Rattle.template_values_errors.specs.Memory.{NoMemory}
use Rattle.template_values_model.specs.Val.{Val}
use Rattle.template_compiler_process.specs.Drive.{End}
use Rattle.template_compiler_process.specs.Fuel.{under}
use Rattle.template_compiler_process.specs.Trace.{Run}
use Rattle.template_machine_meaning.specs.Keeps.{IsMeant, AreMeant, IsFault, IsMeantEnd}
use Rattle.template_machine_meaning.specs.Meaning.{Standing, head_of, rendered, top, walks_of}
use Rattle.template_machine_meaning.specs.World.{first_world}
use Rattle.template_machine_meaning.proofs.RunsKept.{key_faults_are_meant, nothing_brought_meant}
use Rattle.template_machine_environment_settings.specs.Extras.{nothing_brought}
use Rattle.template_machine_environment_settings.specs.Outcomes.{IsWant}
use Rattle.template_machine_environment_settings.specs.Registry.{Registry}
use Rattle.template_machine_environment_settings.specs.Renderings.{Renders, whole, broken}
use Rattle.template_machine_environment_settings.specs.Standing.{setting_of}
use Rattle.template_program_run.specs.Answers.{AnswersWith, IsOutcomeOf, Performed, Rendered}
use Rattle.template_program_run.specs.Ids.{last_id}
use Rattle.template_program_run.specs.Given.{Given}
use Rattle.template_program_run.specs.Served.{plainly_served}
use Rattle.template_program_parts.specs.Status.{IsUnlessMemory}
use Rattle.template_program_parts.specs.declared.outcome.Outcome.{Outcome}
use Rattle.template_program_parts.specs.declared.outcome.Outcome.TheVariants.{Render, Context, Template}
use Rattle.template_program_parts.specs.declared.command.Command.{Command}
use Rattle.template_program_parts.specs.declared.command.Command.TheVariants as asked
use Rattle.template_program_run.specs.declared.request.Request.{Request}
use Rattle.template_program_answers.specs.Law.{SixIsWant}

-- no memory is wanted, in whatever kind of the chain
abbrev NotMemory : ErrorKind → Type 0
NotMemory OutOfMemory = ⊥
NotMemory _ = Unit {0}

abbrev NoneIsMemory : List ErrorKind → Type 0
NoneIsMemory [] = Unit {0}
NoneIsMemory (kind ∷ kinds) = NotMemory kind × NoneIsMemory kinds

meant_kind : (kind : ErrorKind) → IsMeant kind → NotMemory kind
meant_kind OutOfMemory meant = meant
meant_kind _ meant = tt

meant_kinds : (kinds : List ErrorKind) → AreMeant kinds → NoneIsMemory kinds
meant_kinds [] are = tt
meant_kinds (kind ∷ kinds) are = (meant_kind kind are.0, meant_kinds kinds are.1)

fault_kinds : (kinds : List ErrorKind) → IsFault kinds → NoneIsMemory kinds
fault_kinds [] fault = absurd fault
fault_kinds (kind ∷ kinds) fault = meant_kinds (kind ∷ kinds) fault

not_last : (outer : List ErrorKind) → NoneIsMemory (outer ++ OutOfMemory ∷ []) → ⊥
not_last [] none = none.0
not_last (kind ∷ outer) none = not_last outer none.1

not_six : (kinds : List ErrorKind) → NoneIsMemory kinds → IsUnlessMemory kinds 1 6 → ⊥
not_six kinds none status = elim status.2 [
  | inl memory ↦
      not_last status.1.0 (subst NoneIsMemory (status.1.1 ∙ ap (λ (kind : ErrorKind). status.1.0 ++ kind ∷ []) memory.0) none)
  | inr other ↦ omega (arith, other.1)
]

wanted : (kinds : List ErrorKind) → IsWant kinds → IsUnlessMemory kinds 1 6 → NoMemory kinds
wanted kinds (inl memory) status = memory
wanted kinds (inr failed) status = absurd (not_six kinds (subst NoneIsMemory (sym failed) (tt, tt)) status)

render_wants : {S : Type 0} (kinds : List ErrorKind) (result : Result (Unit {0}) (List ErrorKind)) (before after : Option (List ℕ)) (failed fails : ℕ) (r : Run S)
    → IsMeantEnd r.end → IsOutcomeOf (Render kinds) result → Renders result before after failed fails r → IsUnlessMemory kinds 1 6 → NoMemory kinds
render_wants kinds (Ok _) before after failed fails r meant is renders status = absurd is
render_wants kinds (Err others) before after failed fails r meant is (whole faulted text quiet) status =
    absurd (not_six kinds (subst NoneIsMemory (sym is) (fault_kinds others (subst (λ (e : End). IsMeantEnd e) faulted meant))) status)
render_wants kinds (Err others) before after failed fails r meant is (broken (inl memory) text) status = is ∙ memory.0
render_wants kinds (Err others) before after failed fails r meant is (broken (inr failure) text) status = wanted kinds (inr (is ∙ failure.0)) status

-- where nothing is brought, a render ends with no fault but those that a template means
rendered_meant : (e : Registry) (t : Standing) (context : Val) (id n : ℕ) (fuel : Option ℕ)
    → IsMeantEnd (under fuel (rendered (setting_of nothing_brought e) id n t context)).end
rendered_meant e t context id n fuel =
    key_faults_are_meant (walks_of (setting_of nothing_brought e) (Some t))
    (nothing_brought_meant (walks_of (setting_of nothing_brought e) (Some t)).around refl refl) (suc n) top
    (first_world id (setting_of nothing_brought e).globals (head_of t) context) fuel

kinds_are : {kinds others : List ErrorKind} → Render kinds ≡ Render others → kinds ≡ others
kinds_are same = cc

no_context : {kinds others : List ErrorKind} → Render kinds ≡ Context others → ⊥
no_context same = cc

no_template : {kinds others : List ErrorKind} → Render kinds ≡ Template others → ⊥
no_template same = cc

rendered_wants : (e : Registry) (t : Standing) (context : Val) (next : ℕ) (kinds : List ErrorKind) (before after : Option (List ℕ)) (failed fails : ℕ)
    → Rendered nothing_brought e t context next (Render kinds) before after failed fails → IsUnlessMemory kinds 1 6 → NoMemory kinds
rendered_wants e t context next kinds before after failed fails rendered status = elim (eqb_tells next last_id) [
  | inl last ↦ absurd (not_six kinds (subst NoneIsMemory (sym (kinds_are (rendered.0 last.1).0)) (tt, tt)) status)
  | inr live ↦
      let came = rendered.1 live.1 in
      render_wants kinds came.0 before after failed fails _ (rendered_meant e t context next came.2.finished.0 e.fuel) came.1
      (came.2.renders came.2.finished.0 came.2.finished.1) status
]

performed_wants : (command : Command) (request : Request) (additions : List (List ℕ × List ℕ)) (given : Given) (next : ℕ)
    (kinds : List ErrorKind) (before after : Option (List ℕ)) (failed fails : ℕ)
    → Performed plainly_served command request additions given next (Render kinds) before after failed fails → IsUnlessMemory kinds 1 6 → NoMemory kinds
performed_wants asked.Render request additions given next kinds before after failed fails p status =
    let does = p.2.2.2 in
    rendered_wants p.0 p.2.2.0 does.0 (next + 1) kinds before after failed fails does.2 status
performed_wants asked.Names request additions given next kinds before after failed fails p status =
    let told = p.2.2.2 in
    wanted kinds told.2 status

answer_wants : (request : Request) (additions : List (List ℕ × List ℕ)) (given : Given) (next : ℕ) (kinds : List ErrorKind)
    (before after : Option (List ℕ)) (failed fails : ℕ) → AnswersWith plainly_served request additions given next (Render kinds) before after failed fails
    → IsUnlessMemory kinds 1 6 → NoMemory kinds
answer_wants request additions given next kinds before after failed fails (inl refused) status = absurd (no_context refused.1)
answer_wants request additions given next kinds before after failed fails (inr (had, inl refused)) status = absurd (no_template refused.1)
answer_wants request additions given next kinds before after failed fails (inr (had, inr answered)) status = elim answered.2 [
  | inl missing ↦ absurd (no_template missing.0)
  | inr performed ↦ performed_wants request.command request additions given next kinds before after failed fails performed status
]

pub six_is_want : SixIsWant
six_is_want request additions json a kinds (given, alone, answers) is status =
    answer_wants request additions given a.next kinds a.before a.after a.failed a.fails
    (subst (λ (o : Outcome). AnswersWith plainly_served request additions given a.next o a.before a.after a.failed a.fails) is answers) status
