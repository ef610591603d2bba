-- What a user's own answers is what is said.
use Rattle.std.proofs.Common.{◌≡◌, ◌⊎◌, inl, inr, ℕ, List, [], ◌∷◌, Option, None, Some, Result, refl, sym, ap, subst}
use Rattle.std.specs.Prelude.{String}
use Rattle.std.specs.Global.{Global, Vec}
use Rattle.template_values_errors.specs.declared.ErrorKind.{ErrorKind}
use Rattle.template_values_errors.specs.declared.ErrorKind.TheVariants.{OutOfMemory}
use Rattle.template_values_errors.specs.Memory.{NoMemory}
use Rattle.template_values_model.specs.Val.{Val}
use Rattle.template_callables.specs.Answers.{Answers, temps_in, asked_by}
use Rattle.template_callables.specs.Callables.{View, Stated, Says}
use Rattle.template_callables.specs.Callbacks.{AnswersUnder}
use Rattle.template_callables.specs.declared.answer.Answer.{Answer}
use Rattle.template_callables.specs.declared.answer.Answer.TheVariants.{Done, Fault, More}
use Rattle.template_callables.specs.declared.answer.Further.{Further}
use Rattle.template_compiler_process.specs.Process.{fails, value}
use Rattle.template_machine_meaning.specs.Calls.{with_temps, stated_plan}
use Rattle.template_machine_meaning.specs.Keys.{Around}
use Rattle.template_machine_meaning.specs.Plans.{replies}
use Rattle.template_machine_meaning.specs.Replies.{told, changed}
use Rattle.template_machine_meaning.specs.World.{World}
use Rattle.template_machine_going.specs.Told.{FaultsSo, stop_of}
use Rattle.template_machine_going.specs.declared.stop.Stop.{Stop}
use Rattle.template_machine_going.proofs.Telling.{told_so}
use Rattle.template_machine_calls.specs.Left.{Going, said_plan, left_by, Planned}
use Rattle.template_machine_calls.specs.declared.outcome.Outcome.{Outcome}

module _ (a : Around) (pending : ℕ) (go : Going) (w : World) where
  -- a value
  pub stated_done : (stated : Stated) (temps : Option (Vec (String Global × Val))) (v : Val) → Answers stated (Done temps v)
      → stated_plan go w stated ≡ replies (changed (with_temps (temps_in temps) w) (value v))
  stated_done stated temps v (inl is) = ap (stated_plan go w) (sym is)
  stated_done stated temps v (inr is) = cc

  -- what is asked further
  pub stated_more : (stated : Stated) (temps : Option (Vec (String Global × Val))) (further : Further) → Answers stated (More temps further)
      → stated_plan go w stated ≡ go (with_temps (temps_in temps) w) (asked_by further)
  stated_more stated temps further (inl is) = ap (stated_plan go w) (sym is)
  stated_more stated temps further (inr is) = cc

  -- a fault, or no memory is left
  failed_so : (stated : Stated) (kinds : List ErrorKind) → Answers stated (Fault kinds) → NoMemory kinds ⊎ (stated_plan go w stated ≡ replies (told w (fails kinds)))
  failed_so stated kinds (inl is) = inr (ap (stated_plan go w) (sym is))
  failed_so stated kinds (inr is) = let why : kinds ≡ OutOfMemory ∷ [] = cc in inl why

  pub stated_failed : (stated : Stated) (kinds : List ErrorKind) (stop : Stop) → Answers stated (Fault kinds) → stop ≡ stop_of kinds
      → FaultsSo (λ ks. stated_plan go w stated ≡ replies (told w (fails ks))) stop
  stated_failed stated kinds stop answers is =
      subst (FaultsSo (λ ks. stated_plan go w stated ≡ replies (told w (fails ks)))) (sym is)
      (told_so (λ ks. stated_plan go w stated ≡ replies (told w (fails ks))) kinds (failed_so stated kinds answers))

  module _ (kind : ErrorKind) (view : View) (args : List Val) where
    -- nothing answers
    pub said_none : (says : Option Says) → AnswersUnder says view args None → said_plan go w kind view args says ≡ replies (told w (fails (kind ∷ [])))
    said_none None none = refl
    said_none (Some says) none = absurd none

    -- what answers is what says so
    pub said_some : (says : Option Says) (answer : Answer) (result : Result Outcome Stop) (after : World)
        → AnswersUnder says view args (Some answer) → ((stated : Stated) → Answers stated answer → Planned (left_by a pending go) (stated_plan go w stated) result after)
        → Planned (left_by a pending go) (said_plan go w kind view args says) result after
    said_some None answer result after none comes = absurd (cc)
    said_some (Some says) answer result after answers comes = comes (says view args) answers
