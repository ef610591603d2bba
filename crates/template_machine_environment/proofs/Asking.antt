-- What can be brought where nothing of a user's own can be asks for no names.
use Rattle.std.proofs.Common.{ℕ, List, Option, None, Some}
use Rattle.std.specs.Option.{option_map}
use Rattle.template_values_model.specs.Val.{Val}
use Rattle.template_callables.specs.Callables.{View, Says}
use Rattle.template_machine_meaning.specs.World.{own_functions}
use Rattle.template_machine_meaning.specs.Functions.{Invoked, filter_named, test_named, function_numbered, method_of}
use Rattle.template_machine_meaning.specs.Isolation.{AskNoNames, SaysNoName}
use Rattle.template_machine_environment.specs.Extras.{Extras, numbered_from, callables_by, no_answers, no_callable_says, no_method_says}

callable_asks_none : {C : Type 0} (o : Option C) → SaysNoName (option_map no_callable_says o)
callable_asks_none None = tt
callable_asks_none (Some c) = λ view vs. tt

method_asks_none : {M : Type 0} (o : Option M) (v : Val) (name : List ℕ)
    → SaysNoName (option_map (λ (answer : Val → List ℕ → Says). answer v name) (option_map (λ (m : M) (v : Val) (name : List ℕ) (view : View) (vs : List Val). no_method_says m view v name vs) o))
method_asks_none None v name = tt
method_asks_none (Some m) v name = λ view vs. tt

pub none_ask : {C M F J R : Type 0} (x : Extras C M F J R) → AskNoNames (callables_by no_answers x)
none_ask x (filter_named name) = callable_asks_none (x.filters name)
none_ask x (test_named name) = callable_asks_none (x.tests name)
none_ask x (function_numbered number) = callable_asks_none (numbered_from own_functions x.functions number)
none_ask x (method_of v name) = method_asks_none x.method v name
