-- What calls come to: by themselves, by what a user's own answers, by what that asks further, and by the run of a macro.
use Rattle.std.specs.Prelude.{ℕ, zero, suc, ◌-◌, Bool, true, false, ◌||◌, List, [], ◌∷◌, length, Option, None, Some, option_map, if◌then◌else◌}
use Rattle.std.specs.Ordering.{eq_by_cmp}
use Rattle.template_values_errors.specs.declared.ErrorKind.{ErrorKind}
use Rattle.template_values_errors.specs.declared.ErrorKind.TheVariants.{InvalidOperation, UnknownFilter, UnknownTest, UnknownMethod}
use Rattle.template_values_model.specs.Val as values
use Rattle.template_values_model.specs.Val.{Val, vals_of}
use Rattle.template_values_core.specs.Order.{val_cmp}
use Rattle.template_values_named.specs.Named.{with_all_named}
use Rattle.template_callables.specs.Callables.{View, Asked, call, filter, test, lookup, call_macro, block, Stated, finishes, refuses, goes_on, Says, Callables}
use Rattle.template_compiler_process.specs.Process.{tells, fails, value}
use Rattle.template_machine_meaning.specs.World.{World, looked_up, value_named, given_at, put_given, depth_of}
use Rattle.template_machine_meaning.specs.Records.{macro_of, loop_of}
use Rattle.template_machine_meaning.specs.Replies.{told, changed, refused, replied_with}
use Rattle.template_machine_meaning.specs.Keys.{Around}
use Rattle.template_machine_meaning.specs.Names.{name_of}
use Rattle.template_machine_meaning.specs.Namespaces.{may_hold_loop, made_namespace}
use Rattle.template_machine_meaning.specs.Plans.{Plan, replies, with_turning}
use Rattle.template_machine_meaning.specs.Turnings.{to_truth, to_text}
use Rattle.template_machine_meaning.specs.Blocks.{text_plan}
use Rattle.template_machine_meaning.specs.Macros.{macro_plan}
use Rattle.template_machine_meaning.specs.Rounds.{again_plan}
use Rattle.template_machine_meaning.specs.Functions.{Invoked, filter_named, test_named, function_numbered, method_of, Called, gives, makes, compares, invokes, calls, runs_again, value_called, found_called}

-- whether arguments are those of the call before
abbrev pub are_as_before : List Val → Option (List Val) → Bool
are_as_before vs None = false
are_as_before vs (Some ws) = eq_by_cmp val_cmp (values.list (vals_of vs)) (values.list (vals_of ws))

-- what a user's own sees of a run
abbrev pub view_of : Around → World → View
view_of a w = record { name = name_of a w.here; escape = w.escape; undefined = a.undefined; block = w.block; temps = w.temps }

-- what is set under names, in turn; a loop whose value is among it stays known
abbrev pub may_hold_any : List (List ℕ × Val) → Bool
may_hold_any [] = false
may_hold_any (t ∷ temps) = may_hold_loop t.1 || may_hold_any temps

abbrev pub with_temps : List (List ℕ × Val) → World → World
with_temps temps w = record w {
  temps = with_all_named temps w.temps;
  held = if may_hold_any temps then w.opened else w.held;
}

-- what answers for a call of a user's own, if anything does; and how the call is refused where nothing does
abbrev pub said : Callables → Invoked → Option Says
said c (filter_named name) = c.filters name
said c (test_named name) = c.tests name
said c (function_numbered number) = c.functions number
said c (method_of v name) = option_map (λ (answer : Val → List ℕ → Says). answer v name) c.methods

abbrev pub unknown : Invoked → ErrorKind
unknown (filter_named name) = UnknownFilter
unknown (test_named name) = UnknownTest
unknown (function_numbered number) = InvalidOperation
unknown (method_of v name) = UnknownMethod

-- what an answer comes to, where what it asks further comes to what `go` gives
abbrev pub stated_plan : (World → Asked → Plan) → World → Stated → Plan
stated_plan go w (finishes temps v) = replies (changed (with_temps temps w) (value v))
stated_plan go w (refuses kinds) = replies (told w (fails kinds))
stated_plan go w (goes_on temps asked) = go (with_temps temps w) asked

-- the value of a test is taken for true or false, by what is known of records
abbrev pub tested : Invoked → Plan → Plan
tested (test_named name) p = with_turning to_truth p
tested _ p = p

abbrev pub answered_by : Around → (World → Asked → Plan) → World → Invoked → List Val → Option Says → Plan
answered_by a go w what vs None = replies (refused w (unknown what))
answered_by a go w what vs (Some says) = tested what (stated_plan go w (says (view_of a w) vs))

abbrev pub invoked_plan : Around → (World → Asked → Plan) → World → Invoked → List Val → Plan
invoked_plan a go w what vs = answered_by a go w what vs (said a.callables what)

-- what a call comes to, where so many calls are pending, and what a user's own asks further comes to what `go` gives
abbrev pub called_plan : Around → ℕ → (World → Asked → Plan) → World → Called → Plan
called_plan a pending go w (gives r) = replies (replied_with w value r)
called_plan a pending go w (makes entries) =
    replies (changed (made_namespace w entries) (value (values.namespace w.id (length w.namespaces))))
called_plan a pending go w (compares number vs) =
    replies (if are_as_before vs (given_at number w.given) then told w (tells (value (values.truth false)))
    else changed (record w { given = put_given number vs w.given }) (value (values.truth true)))
called_plan a pending go w (invokes what vs) = invoked_plan a go w what vs
called_plan a pending go w (calls id number vs) = macro_plan a.limit pending w vs (macro_of w id number)
called_plan a pending go w (runs_again id number vs) = again_plan a w vs (loop_of w id number)

-- what is asked further; a macro that is called by its name gives a text
abbrev pub further_plan : Around → ℕ → (World → Asked → Plan) → World → Asked → Plan
further_plan a pending go w (call v vs) = called_plan a pending go w (value_called w.globals v vs)
further_plan a pending go w (filter name vs) = invoked_plan a go w (filter_named name) vs
further_plan a pending go w (test name vs) = invoked_plan a go w (test_named name) vs
further_plan a pending go w (lookup name) = replies (told w (tells (value (value_named name w))))
further_plan a pending go w (call_macro name vs) =
    with_turning to_text (called_plan a pending go w (found_called w.globals (looked_up name w) vs))
further_plan a pending go w (block name) = text_plan a pending w name

-- where so many are pending, so many more may be at once
abbrev pub beyond : Around → ℕ → ℕ → World → Asked → Plan
beyond a pending zero w asked = replies (refused w InvalidOperation)
beyond a pending (suc left) w asked = further_plan a (suc pending) (beyond a (suc pending) left) w asked

-- as many as there are levels left
abbrev pub call_plan : Around → World → Called → Plan
call_plan a w c = called_plan a 0 (beyond a 0 (a.limit - depth_of w)) w c
