-- What the answers of callables state.
use Rattle.std.specs.Prelude.{◌≡◌, ℕ, ◌⊎◌, List, [], ◌∷◌, Option, None, Some, Result, Ok, Err, String, string_bytes}
use Rattle.std.specs.Global.{Global, Vec}
use Rattle.template_values_errors.specs.declared.ErrorKind.{ErrorKind}
use Rattle.template_values_errors.specs.declared.ErrorKind.TheVariants.{OutOfMemory}
use Rattle.template_values_model.specs.Val.{Val}
use Rattle.template_values_named.specs.Named.{pairs_named}
use Rattle.template_callables.specs.Callables.{Asked, call, filter, test, lookup, call_macro, block, Stated, finishes, refuses, goes_on}
use Rattle.template_callables.specs.declared.answer.Answer.{Answer}
use Rattle.template_callables.specs.declared.answer.Answer.TheVariants.{Done, Fault, More}
use Rattle.template_callables.specs.declared.answer.Further.{Further}
use Rattle.template_callables.specs.declared.answer.Further.TheVariants.{Call, Filter, Test, Lookup, Macro, Block}

-- names with their values
abbrev pub temps_in : Option (Vec (String Global × Val)) → List (List ℕ × Val)
temps_in None = []
temps_in (Some temps) = pairs_named temps.items

abbrev pub asked_by : Further → Asked
asked_by (Call v args) = call v args.items
asked_by (Filter name args) = filter (string_bytes name) args.items
asked_by (Test name args) = test (string_bytes name) args.items
asked_by (Lookup name) = lookup (string_bytes name)
asked_by (Macro name args) = call_macro (string_bytes name) args.items
asked_by (Block name) = block (string_bytes name)

abbrev pub stated_by : Answer → Stated
stated_by (Done temps v) = finishes (temps_in temps) v
stated_by (Fault kinds) = refuses kinds
stated_by (More temps further) = goes_on (temps_in temps) (asked_by further)

-- the answer is what is stated, or want of memory
abbrev pub Answers : Stated → Answer → Type 0
Answers stated answer = (stated_by answer ≡ stated) ⊎ (stated_by answer ≡ refuses (OutOfMemory ∷ []))

-- the answer that a value or a fault is
abbrev pub answer_of : Result Val (List ErrorKind) → Answer
answer_of (Ok v) = Done None v
answer_of (Err kinds) = Fault kinds
