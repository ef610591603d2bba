-- From the run of a template's code to the calls that keep what it leaves.
use Rattle.std.proofs.Common.{◌≡◌, ◌∙◌, ℕ, List, [], ◌++◌, Option, Some, Result, Ok, Err, IsErrAnd, inl, inr, refl, sym, ap, subst, arith}
use Rattle.template_values_errors.specs.declared.ErrorKind.{ErrorKind}
use Rattle.template_values_model.specs.Val.{Val}
use Rattle.template_compiler_process.specs.Approximants.{IsFinished}
use Rattle.template_compiler_process.specs.Drive.{faults}
use Rattle.template_compiler_process.specs.Fuel.{under}
use Rattle.template_compiler_process.specs.Trace.{Run, text_of}
use Rattle.template_machine_meaning.specs.World.{World}
use Rattle.template_machine_going.specs.Told.{CountsFailures, kinds_in}
use Rattle.template_machine_going.specs.declared.stop.Stop.{Stop}
use Rattle.template_machine_going.specs.declared.stop.Stop.TheVariants.{Fault, Want}
use Rattle.template_machine_renders.specs.Renders as renders
use Rattle.template_compiled.specs.Compiled.{Compiled}
use Rattle.template_machine_environment.specs.Extras.{Brought}
use Rattle.template_machine_environment.specs.Renderings.{AnswersFailure, GivesText, Renders, whole, broken, rendering}
use Rattle.template_machine_environment.specs.declared.registry.Registry.{Registry}

-- another value in the place of the one that a call gives
done_so : {X Y S : Type 0} (v : X) (y : Y) (before after : Option (List ℕ)) (failed fails : ℕ) (r : Run S) → Renders (Ok v) before after failed fails r
    → Renders (Ok y) before after failed fails r
done_so v y before after failed fails r (whole over text quiet) = whole over text quiet
done_so v y before after failed fails r (broken cut text) = absurd cut

stopped_so : (X Y : Type 0) {S : Type 0} (kinds : List ErrorKind) (before after : Option (List ℕ)) (failed fails : ℕ) (r : Run S)
    → Renders {X = X} (Err kinds) before after failed fails r → Renders {X = Y} (Err kinds) before after failed fails r
stopped_so X Y kinds before after failed fails r (whole faulted text quiet) = whole faulted text quiet
stopped_so X Y kinds before after failed fails r (broken cut text) = broken cut text

-- a sink that is a text holds what was written,
pub text_done : {X Y S : Type 0} (v : X) (y : Y) (text : Y → List ℕ) (begun : List ℕ) (failed fails : ℕ) (r : Run S) → begun ≡ []
    → Renders (Ok v) (Some begun) (Some (text y)) failed fails r → GivesText text (Ok y) r
text_done v y text begun failed fails r none (whole over appends quiet) = (over, subst (λ (b : List ℕ). text y ≡ b ++ text_of r.items) none appends)
text_done v y text begun failed fails r none (broken cut begins) = absurd cut

-- and cannot fail
pub text_stopped : (X : Type 0) {Y S : Type 0} (kinds : List ErrorKind) (text : Y → List ℕ) (before after : Option (List ℕ)) (failures : ℕ) (r : Run S)
    → Renders {X = X} (Err kinds) before after failures failures r → GivesText text (Err kinds) r
text_stopped X kinds text before after failures r (whole faulted written quiet) = inl faulted
text_stopped X kinds text before after failures r (broken (inl want) begins) = inr want.0
text_stopped X kinds text before after failures r (broken (inr failure) begins) = absurd (omega (arith, failure.1))

-- a run that stopped, as a call tells it by its kinds
pub run_stopped : (X Y : Type 0) {S : Type 0} (stop : Stop) (kinds : List ErrorKind) (before after : Option (List ℕ)) (failed fails : ℕ) (r : Run S) → kinds ≡ kinds_in stop
    → CountsFailures {X = X} (Err stop) failed fails → renders.Renders {X = X} (Err stop) before after r → Renders {X = Y} (Err kinds) before after failed fails r
run_stopped X Y (Fault ks) kinds before after failed fails r is counts stopped = whole (stopped.0 ∙ ap (λ (qs : List ErrorKind). faults qs) (sym is)) stopped.1 counts
run_stopped X Y (Want ks) kinds before after failed fails r is (inl failure) (why, text) = broken (inr (is ∙ failure.0, failure.1)) text
run_stopped X Y (Want ks) kinds before after failed fails r is (inr quiet) (inl want, text) = broken (inl (is ∙ want, quiet.1)) text
run_stopped X Y (Want ks) kinds before after failed fails r is (inr quiet) (inr failed_so, text) = absurd (quiet.0 failed_so)

-- where the sink failed, it answers so
pub stop_answers : (X Y : Type 0) (stop : Stop) (kinds : List ErrorKind) (failed fails : ℕ) → kinds ≡ kinds_in stop → CountsFailures {X = X} (Err stop) failed fails
    → AnswersFailure {X = Y} (Err kinds) failed fails
stop_answers X Y (Fault ks) kinds failed fails is counts = inl counts
stop_answers X Y (Want ks) kinds failed fails is (inl failure) = inr (is ∙ failure.0, failure.1)
stop_answers X Y (Want ks) kinds failed fails is (inr quiet) = inl quiet.1

pub none_failed : {X : Type 0} (result : Result X (List ErrorKind)) (failures : ℕ) → AnswersFailure result failures failures
none_failed (Ok x) failures = refl
none_failed (Err kinds) failures = inl refl

pub answered_on : (X : Type 0) {Y : Type 0} (result : Result Y (List ErrorKind)) (kinds : List ErrorKind) (failed fails : ℕ) → IsErrAnd result (λ ks. ks ≡ kinds)
    → AnswersFailure {X = X} (Err kinds) failed fails → AnswersFailure result failed fails
answered_on X (Ok y) kinds failed fails is answers = absurd is
answered_on X (Err ks) kinds failed fails is (inl quiet) = inl quiet
answered_on X (Err ks) kinds failed fails is (inr failure) = inr (is ∙ failure.0, failure.1)

-- what is told of a render, under each bound where it is finished
abbrev pub IsTold : (Run World → Type 0) → Brought → Registry → ℕ → Compiled → Val → Type 0
IsTold Tells k e id c context = (n : ℕ) → IsFinished (rendering k e id c n context).end → Tells (rendering k e id c n context)

-- the run was in the state of the number that was taken, and of the template's own code
pub called : (Tells : Run World → Type 0) (k : Brought) (e : Registry) (id taken : ℕ) (c own : Compiled) (context : Val) → id ≡ taken → c ≡ own
    → IsTold Tells k e id c context → IsTold Tells k e taken own context
called Tells k e id taken c own context number code told =
    subst (λ (i : ℕ). IsTold Tells k e i own context) number (subst (λ (x : Compiled). IsTold Tells k e id x context) code told)

pub call_renders : {X Y : Type 0} (v : X) (y : Y) (k : Brought) (e : Registry) (id taken : ℕ) (c own : Compiled) (context : Val) (before after : Option (List ℕ))
    (failed fails : ℕ) → id ≡ taken → c ≡ own → IsTold (λ r. Renders (Ok v) before after failed fails (under e.fuel r)) k e id c context
    → IsTold (λ r. Renders (Ok y) before after failed fails (under e.fuel r)) k e taken own context
call_renders v y k e id taken c own context before after failed fails number code told = λ n finished.
    done_so v y before after failed fails (under e.fuel (rendering k e taken own n context))
    (called (λ r. Renders (Ok v) before after failed fails (under e.fuel r)) k e id taken c own context number code told n finished)

pub call_stops : (X Y : Type 0) (kinds : List ErrorKind) (k : Brought) (e : Registry) (id taken : ℕ) (c own : Compiled) (context : Val) (before after : Option (List ℕ))
    (failed fails : ℕ) → id ≡ taken → c ≡ own → IsTold (λ r. Renders {X = X} (Err kinds) before after failed fails (under e.fuel r)) k e id c context
    → IsTold (λ r. Renders {X = Y} (Err kinds) before after failed fails (under e.fuel r)) k e taken own context
call_stops X Y kinds k e id taken c own context before after failed fails number code told = λ n finished.
    stopped_so X Y kinds before after failed fails (under e.fuel (rendering k e taken own n context))
    (called (λ r. Renders {X = X} (Err kinds) before after failed fails (under e.fuel r)) k e id taken c own context number code told n finished)

pub call_gives : {X Y : Type 0} (v : X) (y : Y) (text : Y → List ℕ) (k : Brought) (e : Registry) (id taken : ℕ) (c own : Compiled) (context : Val) (begun : List ℕ)
    (failed fails : ℕ) → id ≡ taken → c ≡ own → begun ≡ [] → IsTold (λ r. Renders (Ok v) (Some begun) (Some (text y)) failed fails (under e.fuel r)) k e id c context
    → IsTold (λ r. GivesText text (Ok y) (under e.fuel r)) k e taken own context
call_gives v y text k e id taken c own context begun failed fails number code none told = λ n finished.
    text_done v y text begun failed fails (under e.fuel (rendering k e taken own n context)) none
    (called (λ r. Renders (Ok v) (Some begun) (Some (text y)) failed fails (under e.fuel r)) k e id taken c own context number code told n finished)

pub call_faults : (X : Type 0) {Y : Type 0} (kinds : List ErrorKind) (text : Y → List ℕ) (k : Brought) (e : Registry) (id taken : ℕ) (c own : Compiled) (context : Val)
    (before after : Option (List ℕ)) (failures : ℕ) → id ≡ taken → c ≡ own
    → IsTold (λ r. Renders {X = X} (Err kinds) before after failures failures (under e.fuel r)) k e id c context
    → IsTold (λ r. GivesText text (Err kinds) (under e.fuel r)) k e taken own context
call_faults X kinds text k e id taken c own context before after failures number code told = λ n finished.
    text_stopped X kinds text before after failures (under e.fuel (rendering k e taken own n context))
    (called (λ r. Renders {X = X} (Err kinds) before after failures failures (under e.fuel r)) k e id taken c own context number code told n finished)
