-- What a user of the engine brings: what a callable sees of the run that calls it, what it answers, and what an environment knows
-- of them.
use Rattle.std.specs.Prelude.{ℕ, List, Option, None}
use Rattle.template_values_errors.specs.declared.ErrorKind.{ErrorKind}
use Rattle.template_values_errors.specs.declared.modes.AutoEscape.{AutoEscape}
use Rattle.template_values_errors.specs.declared.modes.UndefinedBehavior.{UndefinedBehavior}
use Rattle.template_values_model.specs.Val.{Val}

-- the name of the template that runs; the escape in force; what may be done with undefined values; the name of the block that
-- runs, if one does; and what callables have set under names, in the order of the names
pub record View : Type 0 where
  pub name : List ℕ
  pub escape : AutoEscape
  pub undefined : UndefinedBehavior
  pub block : Option (List ℕ)
  pub temps : List (List ℕ × Val)

-- what the machine is asked to do in the place of an answer: what it comes to is the answer
pub data Asked : Type 0 where
  call : Val → List Val → Asked
  filter : List ℕ → List Val → Asked
  test : List ℕ → List Val → Asked
  lookup : List ℕ → Asked
  call_macro : List ℕ → List Val → Asked
  block : List ℕ → Asked

-- an answer: a value, a fault by its kinds, or something to be asked of the machine; temps are set first, in turn
pub data Stated : Type 0 where
  finishes : List (List ℕ × Val) → Val → Stated
  refuses : List ErrorKind → Stated
  goes_on : List (List ℕ × Val) → Asked → Stated

-- what a callable answers for each view and arguments
abbrev pub Says : Type 0
Says = View → List Val → Stated

-- what is printed in a value's place: a text as it stands, a value under the escape in force, or nothing, by the kinds of a fault
pub data Formatted : Type 0 where
  writes : List ℕ → Formatted
  escapes : Val → Formatted
  forbids : List ErrorKind → Formatted

-- what an environment is given: filters and tests by their names, functions by their numbers, what answers for a method that a
-- value does not have, and what says how values are printed
pub record Callables : Type 0 where
  pub filters : List ℕ → Option Says
  pub tests : List ℕ → Option Says
  pub functions : ℕ → Option Says
  pub methods : Option (Val → List ℕ → Says)
  pub formats : Option (View → Val → Formatted)

abbrev pub no_callables : Callables
no_callables = record { filters = λ name. None; tests = λ name. None; functions = λ number. None; methods = None; formats = None }
