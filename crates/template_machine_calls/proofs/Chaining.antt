-- What is asked further, one after another, and what is made of values.
use Rattle.std.proofs.Common.{◌≡◌, ◌⊎◌, ℕ, zero, suc, List, [], ◌∷◌, ◌++◌, Option, None, Some, Result, Ok, Err, IsErrAnd, refl, sym, ap, ◌∙◌, subst}
use Rattle.template_values_errors.specs.declared.ErrorKind.{ErrorKind}
use Rattle.template_values_errors.specs.declared.ErrorKind.TheVariants.{InvalidOperation}
use Rattle.template_values_errors.specs.Memory.{NoMemory}
use Rattle.template_values_model.specs.Val.{Val}
use Rattle.template_callables.specs.Callables.{Asked, call, filter, test, lookup, call_macro, block, Says}
use Rattle.template_compiler_process.specs.Process.{fails}
use Rattle.template_compiler_process.specs.Trace.{Reply}
use Rattle.template_machine_meaning.specs.Turnings.{Turning, to_truth}
use Rattle.template_machine_meaning.specs.Plans.{Plan, replies, with_turning}
use Rattle.template_machine_meaning.specs.Calls.{view_of, said, unknown, tested, answered_by, further_plan, beyond}
use Rattle.template_machine_meaning.specs.Functions.{Invoked, filter_named, test_named, function_numbered, method_of}
use Rattle.template_machine_meaning.specs.Keys.{Around}
use Rattle.template_machine_meaning.specs.Replies.{told, refused}
use Rattle.template_machine_meaning.specs.World.{World}
use Rattle.template_machine_going.specs.Told.{FaultsSo, no_memory, stop_of}
use Rattle.template_machine_going.specs.declared.stop.Stop.{Stop}
use Rattle.template_machine_going.specs.declared.stop.Stop.TheVariants.{Fault, Want}
use Rattle.template_machine_going.proofs.Telling.{told_so}
use Rattle.template_machine_state.specs.Changes.{OnlyTemps}
use Rattle.template_machine_calls.specs.Left.{Going, said_plan, asked_plan, turnings_for, turnings_in, with_turnings, Planned, Replied, IsOpenAlike, KeepsWorld, KeptUnlessValue}
use Rattle.template_machine_calls.specs.declared.outcome.Outcome.{Outcome}
use Rattle.template_machine_calls.specs.declared.outcome.Outcome.TheVariants as outcome
use Rattle.template_machine_calls.specs.declared.reached.Turning as called
use Rattle.template_machine_calls.specs.declared.reached.Turning.TheVariants as turning
use Rattle.template_machine_calls.specs.declared.reached.Reached.{Reached}
use Rattle.template_machine_calls.specs.declared.reached.Reached.TheVariants as reached

-- values are turned in several ways, and then in others
pub turned_on : (ts us : List Turning) (p : Plan) → with_turnings ts (with_turnings us p) ≡ with_turnings (ts ++ us) p
turned_on [] us p = refl
turned_on (t ∷ ts) us p = ap (with_turning t) (turned_on ts us p)

-- a fault is none the less
pub turned_fails : (ts : List Turning) (w : World) (kinds : List ErrorKind) → with_turnings ts (replies (told w (fails kinds))) ≡ replies (told w (fails kinds))
turned_fails [] w kinds = refl
turned_fails (t ∷ ts) w kinds = ap (with_turning t) (turned_fails ts w kinds)

-- what a user's own says, and a test's value is taken for true or false
refused_tested : (w : World) (what : Invoked) → replies (refused w (unknown what)) ≡ tested what (replies (refused w (unknown what)))
refused_tested w (filter_named name) = refl
refused_tested w (test_named name) = refl
refused_tested w (function_numbered number) = refl
refused_tested w (method_of v name) = refl

pub answered_raw : (a : Around) (go : Going) (w : World) (what : Invoked) (vs : List Val) (says : Option Says)
    → answered_by a go w what vs says ≡ tested what (said_plan go w (unknown what) (view_of a w) vs says)
answered_raw a go w what vs None = refused_tested w what
answered_raw a go w what vs (Some says) = refl

further_raw : (a : Around) (pending : ℕ) (go : Going) (w : World) (asked : Asked)
    → further_plan a pending go w asked ≡ with_turnings (turnings_for asked) (asked_plan a pending go w asked)
further_raw a pending go w (call v vs) = refl
further_raw a pending go w (filter name vs) = answered_raw a go w (filter_named name) vs (said a.callables (filter_named name))
further_raw a pending go w (test name vs) = answered_raw a go w (test_named name) vs (said a.callables (test_named name))
further_raw a pending go w (lookup name) = refl
further_raw a pending go w (call_macro name vs) = refl
further_raw a pending go w (block name) = refl

beyond_more : (a : Around) (pending onward left later : ℕ) (w : World) (asked : Asked) → left ≡ suc later → onward ≡ suc pending
    → beyond a pending left w asked ≡ with_turnings (turnings_for asked) (asked_plan a onward (beyond a onward later) w asked)
beyond_more a pending onward left later w asked is on =
    ap (λ n. beyond a pending n w asked) is ∙ further_raw a (suc pending) (beyond a (suc pending) later) w asked
    ∙ ap (λ n. with_turnings (turnings_for asked) (asked_plan a n (beyond a n later) w asked)) (sym on)

-- no level is left
pub beyond_none : (a : Around) (pending left : ℕ) (w : World) (asked : Asked) → left ≡ zero → beyond a pending left w asked ≡ replies (told w (fails (InvalidOperation ∷ [])))
beyond_none a pending left w asked is = ap (λ n. beyond a pending n w asked) is

-- one further: the plan is what is left of it
pub one_further : (a : Around) (plan next : Plan) (ts more : List Turning) (pending onward left later : ℕ) (w : World) (asked : Asked)
    → plan ≡ with_turnings ts (beyond a pending left w asked) → left ≡ suc later → onward ≡ suc pending → more ≡ ts ++ turnings_for asked
    → asked_plan a onward (beyond a onward later) w asked ≡ next → plan ≡ with_turnings more next
one_further a plan next ts more pending onward left later w asked before one on is_asked comes =
    before ∙ ap (with_turnings ts) (beyond_more a pending onward left later w asked one on ∙ ap (with_turnings (turnings_for asked)) comes)
    ∙ turned_on ts (turnings_for asked) next ∙ ap (λ us. with_turnings us next) (sym is_asked)

-- the same where it failed
pub further_failed : (a : Around) (plan : Plan) (ts more : List Turning) (pending onward left later : ℕ) (w after : World) (asked : Asked) (stop : Stop)
    → plan ≡ with_turnings ts (beyond a pending left w asked) → left ≡ suc later → onward ≡ suc pending → more ≡ ts ++ turnings_for asked
    → FaultsSo (λ kinds. asked_plan a onward (beyond a onward later) w asked ≡ replies (told after (fails kinds))) stop
    → FaultsSo (λ kinds. plan ≡ replies (told after (fails kinds))) stop
further_failed a plan ts more pending onward left later w after asked (Fault kinds) before one on is_asked fault =
    one_further a plan (replies (told after (fails kinds))) ts more pending onward left later w asked before one on is_asked fault ∙ turned_fails more after kinds
further_failed a plan ts more pending onward left later w after asked (Want kinds) before one on is_asked why = why

-- the same of what is asked at first
pub turned_failed : (plan first : Plan) (t : Turning) (after : World) (stop : Stop) → plan ≡ with_turning t first
    → FaultsSo (λ kinds. first ≡ replies (told after (fails kinds))) stop → FaultsSo (λ kinds. plan ≡ replies (told after (fails kinds))) stop
turned_failed plan first t after (Fault kinds) is fault = is ∙ ap (with_turning t) fault
turned_failed plan first t after (Want kinds) is why = why

-- a value that nothing is made of, or that is taken for true or false
pub turned_none : (ts : List called.Turning) (p : Plan) → ts ≡ [] → p ≡ with_turnings (turnings_in ts) p
turned_none ts p none = ap (λ (us : List called.Turning). with_turnings (turnings_in us) p) (sym none)

pub turned_true : (ts us : List called.Turning) (p : Plan) → us ≡ [] → ts ≡ us ++ turning.Truth ∷ [] → with_turning to_truth p ≡ with_turnings (turnings_in ts) p
turned_true ts us p none one =
    ap (λ (xs : List called.Turning). with_turnings (turnings_in xs) p) (sym (one ∙ ap (λ (xs : List called.Turning). xs ++ turning.Truth ∷ []) none))

-- nothing further is done
pub none_further : (a : Around) (plan : Plan) (ts : List Turning) (pending left : ℕ) (w : World) (asked : Asked)
    → plan ≡ with_turnings ts (beyond a pending left w asked) → left ≡ zero → plan ≡ replies (told w (fails (InvalidOperation ∷ [])))
none_further a plan ts pending left w asked before none =
    before ∙ ap (with_turnings ts) (beyond_none a pending left w asked none) ∙ turned_fails ts w (InvalidOperation ∷ [])

-- nothing but temps is other, and then again
pub only_temps_on : (u v w : World) → OnlyTemps u v → OnlyTemps v w → OnlyTemps u w
only_temps_on u v w first second = second ∙ ap (λ (x : World). record x { temps = w.temps; held = w.held }) first

-- what is open is as it was then
pub temps_open : (w after : World) → OnlyTemps w after → IsOpenAlike w after
temps_open w after only =
    only ∙ ap (λ (x : World). record w { namespaces = x.namespaces; given = x.given; temps = x.temps; held = x.held }) (sym only)

pub open_behind : (u v w : World) → OnlyTemps u v → IsOpenAlike v w → IsOpenAlike u w
open_behind u v w first second =
    second ∙ ap (λ (x : World). record x { namespaces = w.namespaces; given = w.given; temps = w.temps; held = w.held }) first

-- a plan by another name
pub planned_as : {X : Type 0} (on : X → World → Plan) (plan same : Plan) (result : Result X Stop) (after : World)
    → plan ≡ same → Planned on same result after → Planned on plan result after
planned_as on plan same result after is planned = subst (λ p. Planned on p result after) (sym is) planned

-- why a call stopped, which is handed on
pub stop_planned : {X : Type 0} (on : X → World → Plan) (plan : Plan) (result : Result X Stop) (stop : Stop) (after : World)
    → FaultsSo (λ kinds. plan ≡ replies (told after (fails kinds))) stop → IsErrAnd result (λ other. other ≡ stop) → Planned on plan result after
stop_planned on plan (Ok x) stop after why is = absurd is
stop_planned on plan (Err other) stop after why is = subst (FaultsSo (λ kinds. plan ≡ replies (told after (fails kinds)))) (sym is) why

pub stop_replied : {X : Type 0} (on : X → World → Reply World) (reply : Reply World) (result : Result X Stop) (stop : Stop) (after : World)
    → FaultsSo (λ kinds. reply ≡ told after (fails kinds)) stop → IsErrAnd result (λ other. other ≡ stop) → Replied on reply result after
stop_replied on reply (Ok x) stop after why is = absurd is
stop_replied on reply (Err other) stop after why is = subst (FaultsSo (λ kinds. reply ≡ told after (fails kinds))) (sym is) why

-- the error of a call that hears nobody
pub err_planned : {X : Type 0} (on : X → World → Plan) (plan : Plan) (result : Result X Stop) (kinds : List ErrorKind) (after : World)
    → NoMemory kinds ⊎ (plan ≡ replies (told after (fails kinds))) → IsErrAnd result (λ stop. stop ≡ stop_of kinds) → Planned on plan result after
err_planned on plan result kinds after why is =
    stop_planned on plan result (stop_of kinds) after (told_so (λ ks. plan ≡ replies (told after (fails ks))) kinds why) is

-- no memory is left
pub want_planned : {X : Type 0} (on : X → World → Plan) (plan : Plan) (result : Result X Stop) (after : World)
    → IsErrAnd result (λ stop. stop ≡ no_memory) → Planned on plan result after
want_planned on plan result after is = stop_planned on plan result no_memory after refl is

pub err_keeps : (result : Result Outcome Stop) (stop : Stop) (w after : World) → OnlyTemps w after
    → IsErrAnd result (λ other. other ≡ stop) → KeepsWorld result w after
err_keeps (Ok x) stop w after only is = absurd is
err_keeps (Err other) stop w after only is = only

pub keeps_any : (result : Result Outcome Stop) (w after : World) → OnlyTemps w after → KeepsWorld result w after
keeps_any (Ok (outcome.Value v)) w after only = temps_open w after only
keeps_any (Ok (outcome.Further further)) w after only = only
keeps_any (Ok (outcome.Enters e)) w after only = only
keeps_any (Err stop) w after only = only

pub err_kept : (result : Result Reached Stop) (stop : Stop) (w after : World) → OnlyTemps w after
    → IsErrAnd result (λ other. other ≡ stop) → KeptUnlessValue result w after
err_kept (Ok x) stop w after kept is = absurd is
err_kept (Err other) stop w after kept is = kept

-- a call behind another
pub kept_behind : (result : Result Reached Stop) (u v w : World) → OnlyTemps u v → KeptUnlessValue result v w → KeptUnlessValue result u w
kept_behind (Ok (reached.Value x turnings)) u v w first second = open_behind u v w first second
kept_behind (Ok (reached.Enters e)) u v w first second = only_temps_on u v w first second
kept_behind (Err stop) u v w first second = only_temps_on u v w first second
