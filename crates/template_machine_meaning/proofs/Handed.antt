-- Values that are handed out: each is one value or a fault that a template means, and a fuel cuts a run alike before and behind.
use Rattle.std.proofs.Common.{◌≡◌, ℕ, ◌-◌, true, false, nat_le, [], ◌∷◌, ◌++◌, Option, None, Some, Result, Ok, Err, refl, sym, subst}
use Rattle.std.specs.Prelude.{if◌then◌else◌}
use Rattle.template_values_errors.specs.declared.ErrorKind.{ErrorKind}
use Rattle.template_values_errors.specs.declared.ErrorKind.TheVariants.{OutOfFuel}
use Rattle.template_values_model.specs.Fault.{Fault, invalid_operation, bad_serialization, missing_argument}
use Rattle.template_values_model.specs.Val.{Val}
use Rattle.template_values_forms.specs.Frozen.{frozen}
use Rattle.template_compiler_process.specs.Drive.{End, ends, faults}
use Rattle.template_compiler_process.specs.Trace.{Run, price_of}
use Rattle.template_compiler_process.specs.Fuel.{items_before, wraps_at, under}
use Rattle.template_compiler_walk.specs.Statements.{standalone_walk}
use Rattle.template_machine_meaning.specs.World.{World, first_world}
use Rattle.template_machine_meaning.specs.Records.{known_of}
use Rattle.template_machine_meaning.specs.Replies.{kinded}
use Rattle.template_machine_meaning.specs.Meaning.{no_head, walks_of, evaluation, alone, handed, handed_out}
use Rattle.template_machine_meaning.specs.Laws.{GivesOne, EveryExpressionGives}
use Rattle.template_machine_meaning.specs.Keeps.{IsMeantEnd, ExpressionFaultsAreMeant}
use Rattle.template_machine_meaning.proofs.Evaluating.{every_evaluation_gives}
use Rattle.template_machine_meaning.proofs.RunsKept.{faults_are_meant}

one_alone : (r : Result Val ErrorKind) → GivesOne (alone r)
one_alone (Ok v) = tt
one_alone (Err kind) = tt

one_handed : (w : World) (e : End) → GivesOne e → GivesOne (handed w e)
one_handed w (ends (v ∷ [])) gives = one_alone (kinded (frozen (known_of w) v))
one_handed w (faults kinds) gives = tt
one_handed w _ gives = absurd gives

pub every_expression_gives : EveryExpressionGives
every_expression_gives setting id e runs context =
    let w = first_world id setting.globals no_head context in
    let r = evaluation setting e w in one_handed r.after r.end (every_evaluation_gives setting e runs w (record { blocks = refl; macros = refl; loops = λ number. refl }))

-- what is handed out of a run under a fuel is what comes of the whole run under it
pub under_handed : (fuel : Option ℕ) (r : Run World) → under fuel (handed_out r) ≡ handed_out (under fuel r)
under_handed None r = refl
under_handed (Some n) r =
    let cut_off : Run World → Run World = λ q. record q { items = items_before (n - 1) q.items; end = faults (wraps_at (n - 1) q.items ++ OutOfFuel ∷ []) } in
    elim (nat_le (price_of r.items) (n - 1)) as (λ within. (if within then handed_out r else cut_off (handed_out r)) ≡ handed_out (if within then r else cut_off r)) [
      | true ↦ refl
      | false ↦ refl
    ]

meant_alone : (r : Result Val Fault) → IsMeantEnd (alone (kinded r))
meant_alone (Ok v) = tt
meant_alone (Err invalid_operation) = (tt, tt)
meant_alone (Err bad_serialization) = (tt, tt)
meant_alone (Err missing_argument) = (tt, tt)

meant_handed : (w : World) (e : End) → IsMeantEnd e → IsMeantEnd (handed w e)
meant_handed w (ends (v ∷ [])) meant = meant_alone (frozen (known_of w) v)
meant_handed w (faults kinds) meant = meant
meant_handed w _ meant = tt

pub expression_faults_are_meant : ExpressionFaultsAreMeant
expression_faults_are_meant setting all id e context fuel =
    let w = first_world id setting.globals no_head context in
    let r = evaluation setting e w in
    let q = under fuel r in
    subst (λ (x : Run World). IsMeantEnd x.end) (sym (under_handed fuel r))
    (meant_handed q.after q.end (faults_are_meant (walks_of setting None) all 0 (standalone_walk e) w fuel))
