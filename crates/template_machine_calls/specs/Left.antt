-- What is left of a call, and what it comes to.
use Rattle.std.specs.Prelude.{◌≡◌, ℕ, List, [], ◌∷◌, map, Option, None, Some, Result, Ok, Err, string_bytes}
use Rattle.template_values_errors.specs.declared.ErrorKind.{ErrorKind}
use Rattle.template_values_model.specs.Val.{Val}
use Rattle.template_callables.specs.Answers.{asked_by}
use Rattle.template_callables.specs.Callables.{View, Asked, call, filter, test, lookup, call_macro, block, Says}
use Rattle.template_compiler_process.specs.Process.{tells, fails, value}
use Rattle.template_compiler_process.specs.Trace.{Reply}
use Rattle.template_machine_meaning.specs.Turnings as meanings
use Rattle.template_machine_meaning.specs.Turnings.{to_truth, to_text}
use Rattle.template_machine_meaning.specs.Plans.{Plan, replies, with_turning}
use Rattle.template_machine_meaning.specs.Blocks.{text_plan}
use Rattle.template_machine_meaning.specs.Macros.{macro_plan}
use Rattle.template_machine_meaning.specs.Rounds.{again_plan}
use Rattle.template_machine_meaning.specs.Calls.{view_of, said, unknown, stated_plan, called_plan}
use Rattle.template_machine_meaning.specs.Functions.{Invoked, filter_named, test_named, value_called, found_called}
use Rattle.template_machine_meaning.specs.Keys.{Around}
use Rattle.template_machine_meaning.specs.Records.{macro_of, loop_of}
use Rattle.template_machine_meaning.specs.Replies.{told, changed, refused}
use Rattle.template_machine_meaning.specs.World.{World, looked_up, value_named}
use Rattle.template_machine_state.specs.Changes.{OnlyTemps}
use Rattle.template_machine_going.specs.Told.{FaultsSo}
use Rattle.template_machine_going.specs.declared.stop.Stop.{Stop}
use Rattle.template_machine_calls.specs.declared.outcome.Outcome.{Outcome}
use Rattle.template_machine_calls.specs.declared.outcome.Outcome.TheVariants as outcome
use Rattle.template_machine_calls.specs.declared.reached.Turning.{Turning}
use Rattle.template_machine_calls.specs.declared.reached.Turning.TheVariants as turning
use Rattle.template_machine_calls.specs.declared.reached.Entering.{Entering}
use Rattle.template_machine_calls.specs.declared.reached.Entering.TheVariants as entering
use Rattle.template_machine_calls.specs.declared.reached.Entry.{Entry}
use Rattle.template_machine_calls.specs.declared.reached.Reached.{Reached}
use Rattle.template_machine_calls.specs.declared.reached.Reached.TheVariants as reached

-- what is asked further comes to this
abbrev pub Going : Type 0
Going = World → Asked → Plan

-- what a user's own says comes to; a test's value as it is said
abbrev pub said_plan : Going → World → ErrorKind → View → List Val → Option Says → Plan
said_plan go w kind view vs None = replies (refused w kind)
said_plan go w kind view vs (Some says) = stated_plan go w (says view vs)

abbrev pub raw_plan : Around → Going → World → Invoked → List Val → Plan
raw_plan a go w what vs = said_plan go w (unknown what) (view_of a w) vs (said a.callables what)

-- so does what is asked further, where so many are pending; its value as it is
abbrev pub asked_plan : Around → ℕ → Going → World → Asked → Plan
asked_plan a pending go w (call v vs) = called_plan a pending go w (value_called w.globals v vs)
asked_plan a pending go w (filter name vs) = raw_plan a go w (filter_named name) vs
asked_plan a pending go w (test name vs) = raw_plan a go w (test_named name) vs
asked_plan a pending go w (lookup name) = replies (told w (tells (value (value_named name w))))
asked_plan a pending go w (call_macro name vs) = called_plan a pending go w (found_called w.globals (looked_up name w) vs)
asked_plan a pending go w (block name) = text_plan a pending w name

-- what is made of the value of what is asked further
abbrev pub turning_in : Turning → meanings.Turning
turning_in turning.Truth = to_truth
turning_in turning.Text = to_text

abbrev pub turnings_for : Asked → List meanings.Turning
turnings_for (test name vs) = to_truth ∷ []
turnings_for (call_macro name vs) = to_text ∷ []
turnings_for _ = []

-- values are turned in several ways, the last one first
abbrev pub with_turnings : List meanings.Turning → Plan → Plan
with_turnings [] p = p
with_turnings (t ∷ ts) p = with_turning t (with_turnings ts p)

abbrev pub turnings_in : List Turning → List meanings.Turning
turnings_in ts = map turning_in ts

-- what is entered, where so many further calls are pending
abbrev pub entering_plan : Around → ℕ → World → Entering → Plan
entering_plan a pending w (entering.Macro id number args) = macro_plan a.limit pending w args.items (macro_of w id number)
entering_plan a pending w (entering.Rounds id number args) = again_plan a w args.items (loop_of w id number)
entering_plan a pending w (entering.Block name) = text_plan a pending w (string_bytes name)

-- what is planned where a call came to this: a value, something that is asked further, or what is entered
abbrev pub left_by : Around → ℕ → Going → Outcome → World → Plan
left_by a pending go (outcome.Value v) after = replies (changed after (value v))
left_by a pending go (outcome.Further further) after = go after (asked_by further)
left_by a pending go (outcome.Enters e) after = entering_plan a pending after e

-- a value
abbrev pub value_left : Val → World → Plan
value_left v after = replies (changed after (value v))

-- in the end it is a value, or what is entered, and what is made of the value
abbrev pub entry_plan : Around → Entry → World → Plan
entry_plan a e after = with_turnings (turnings_in e.turnings.items) (entering_plan a e.pending after e.entering)

abbrev pub reached_by : Around → Reached → World → Plan
reached_by a (reached.Value v turnings) after = with_turnings (turnings_in turnings.items) (value_left v after)
reached_by a (reached.Enters e) after = entry_plan a e after

-- what a call came to is planned, or its fault is; or no memory is left
abbrev pub Planned : {X : Type 0} → (X → World → Plan) → Plan → Result X Stop → World → Type 0
Planned on plan (Ok x) after = plan ≡ on x after
Planned on plan (Err stop) after = FaultsSo (λ kinds. plan ≡ replies (told after (fails kinds))) stop

-- a reply is given, or its fault is; or no memory is left
abbrev pub Replied : {X : Type 0} → (X → World → Reply World) → Reply World → Result X Stop → World → Type 0
Replied on reply (Ok x) after = reply ≡ on x after
Replied on reply (Err stop) after = FaultsSo (λ kinds. reply ≡ told after (fails kinds)) stop

-- what is open is as it was: nothing is other but what namespaces hold, what `changed` was called with, and what callables have set
abbrev pub IsOpenAlike : World → World → Type 0
IsOpenAlike w after = after ≡ record w { namespaces = after.namespaces; given = after.given; temps = after.temps; held = after.held }

-- Where a call came to no value yet, or failed, nothing but what callables have set is other; where it came to one, what is open
-- is as it was.
abbrev pub KeepsWorld : Result Outcome Stop → World → World → Type 0
KeepsWorld (Ok (outcome.Value v)) w after = IsOpenAlike w after
KeepsWorld (Ok (outcome.Further further)) w after = OnlyTemps w after
KeepsWorld (Ok (outcome.Enters e)) w after = OnlyTemps w after
KeepsWorld (Err stop) w after = OnlyTemps w after

abbrev pub KeptUnlessValue : Result Reached Stop → World → World → Type 0
KeptUnlessValue (Ok (reached.Value v turnings)) w after = IsOpenAlike w after
KeptUnlessValue (Ok (reached.Enters e)) w after = OnlyTemps w after
KeptUnlessValue (Err stop) w after = OnlyTemps w after
