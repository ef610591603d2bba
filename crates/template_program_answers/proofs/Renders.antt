-- Two renders of one run.
use Rattle.std.proofs.Common.{◌≡◌, ◌∙◌, ◌⊎◌, ℕ, List, Option, Result, Ok, Err, inl, inr, refl, sym, ap, subst}
use Rattle.std.specs.Io.KnownBytes.{Appends}
use Rattle.template_values_errors.specs.declared.ErrorKind.{ErrorKind}
use Rattle.template_compiler_process.specs.Drive.{faults}
use Rattle.template_compiler_process.specs.Fuel.{IsSameRun}
use Rattle.template_compiler_process.specs.Trace.{Run, text_of}
use Rattle.template_machine_environment_settings.specs.Outcomes.{IsWant}
use Rattle.template_machine_environment_settings.specs.Renderings.{IsCut, Renders, whole, broken}
use Rattle.template_machine_environment_settings.specs.Renders.{IsOver}
use Rattle.template_program_run.specs.Answers.{IsOutcomeOf}
use Rattle.template_program_parts.specs.declared.outcome.Outcome.{Outcome}
use Rattle.template_program_parts.specs.declared.outcome.Outcome.TheVariants.{Done, Render, Context, Template}
use Rattle.template_program_answers.specs.Law.{TellsWant}

abbrev Came : Type 0
Came = Result (Unit {0}) (List ErrorKind)

-- what a render that wanted nothing comes to: the end, and the text
pub record IsWhole {S : Type 0} (outcome : Outcome) (before after : Option (List ℕ)) (r : Run S) : Type 0 where
  pub end : ((outcome ≡ Done) × IsOver r.end) ⊎ ((kinds : List ErrorKind) × (outcome ≡ Render kinds) × (r.end ≡ faults kinds))
  pub text : Appends before after (text_of r.items)

-- a render that was cut short wants something
wanted : (kinds others : List ErrorKind) (failed fails : ℕ) → kinds ≡ others → IsCut {X = Unit {0}} (Err others) failed fails → IsWant kinds
wanted kinds others failed fails is (inl memory) = inl (is ∙ memory.0)
wanted kinds others failed fails is (inr failure) = inr (is ∙ failure.0)

pub whole_render : {S : Type 0} (outcome : Outcome) (result : Came) (before after : Option (List ℕ)) (failed fails : ℕ) (r : Run S) → IsOutcomeOf outcome result
    → ¬ TellsWant outcome → Renders result before after failed fails r → IsWhole outcome before after r
whole_render Done (Ok _) before after failed fails r is room (whole over text quiet) = record { end = inl (refl, over); text = text }
whole_render Done (Ok _) before after failed fails r is room (broken cut text) = absurd cut
whole_render Done (Err others) before after failed fails r is room renders = absurd is
whole_render (Render kinds) (Ok _) before after failed fails r is room renders = absurd is
whole_render (Render kinds) (Err others) before after failed fails r is room (whole faulted text quiet) =
    record { end = inr (kinds, refl, faulted ∙ ap (λ (ks : List ErrorKind). faults ks) (sym is)); text = text }
whole_render (Render kinds) (Err others) before after failed fails r is room (broken cut text) = absurd (room (wanted kinds others failed fails is cut))
whole_render (Context kinds) (Ok _) before after failed fails r is room renders = absurd is
whole_render (Context kinds) (Err others) before after failed fails r is room renders = absurd is
whole_render (Template kinds) (Ok _) before after failed fails r is room renders = absurd is
whole_render (Template kinds) (Err others) before after failed fails r is room renders = absurd is

-- it counts no failure
pub quiet_render : {S : Type 0} (outcome : Outcome) (result : Came) (before after : Option (List ℕ)) (failed fails : ℕ) (r : Run S) → IsOutcomeOf outcome result
    → ¬ TellsWant outcome → Renders result before after failed fails r → fails ≡ failed
quiet_render Done (Ok _) before after failed fails r is room (whole over text quiet) = quiet
quiet_render Done (Ok _) before after failed fails r is room (broken cut text) = absurd cut
quiet_render Done (Err others) before after failed fails r is room renders = absurd is
quiet_render (Render kinds) (Ok _) before after failed fails r is room renders = absurd is
quiet_render (Render kinds) (Err others) before after failed fails r is room (whole faulted text quiet) = quiet
quiet_render (Render kinds) (Err others) before after failed fails r is room (broken cut text) = absurd (room (wanted kinds others failed fails is cut))
quiet_render (Context kinds) (Ok _) before after failed fails r is room renders = absurd is
quiet_render (Context kinds) (Err others) before after failed fails r is room renders = absurd is
quiet_render (Template kinds) (Ok _) before after failed fails r is room renders = absurd is
quiet_render (Template kinds) (Err others) before after failed fails r is room renders = absurd is

faults_are : {kinds others : List ErrorKind} → faults kinds ≡ faults others → kinds ≡ others
faults_are same = cc

-- one run comes to one end
pub one_end : {S T : Type 0} (a b : Outcome) (before after first last : Option (List ℕ)) (r : Run S) (q : Run T) → IsSameRun r q
    → IsWhole a before after r → IsWhole b first last q → a ≡ b
one_end a b before after first last r q same one other = elim one.end [
  | inl over ↦ elim other.end [
    | inl over_too ↦ over.0 ∙ sym over_too.0
    | inr faulted ↦ absurd (subst IsOver (same.1 ∙ faulted.2) over.1)
  ]
  | inr faulted ↦ elim other.end [
    | inl over ↦ absurd (subst IsOver (sym same.1 ∙ faulted.2) over.1)
    | inr faulted_too ↦
        faulted.1 ∙ ap (λ (ks : List ErrorKind). Render ks) (faults_are (sym faulted.2 ∙ same.1 ∙ faulted_too.2)) ∙ sym faulted_too.1
  ]
]
