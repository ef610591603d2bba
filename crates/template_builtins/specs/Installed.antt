-- The builtins in an environment.
use Rattle.std.specs.Prelude.{◌≡◌, ℕ, List, Option, None, Some, option_map, IsSomeAnd}
use Rattle.template_machine_environment.specs.Extras.{Extras}
use Rattle.template_builtins_callables.specs.Builtins.{filter_named, test_named}
use Rattle.template_builtins_callables.specs.Names.{named}
use Rattle.template_builtins_callables.specs.declared.builtin.Builtin.{Builtin}
use Rattle.template_builtins_callables.specs.declared.builtin.Kind.{Kind}
use Rattle.template_builtins_callables.specs.declared.builtin.Kind.TheVariants as kinds
use Rattle.template_builtins_callables.specs.declared.filter.Filter.{Filter}
use Rattle.template_builtins_callables.specs.declared.test.Test.{Test}
use Rattle.template_builtins_methods.specs.declared.method.PythonMethods.{PythonMethods}

-- a callable that is made of the builtin of a kind
abbrev pub MadeOf : {C : Type 0} → (Builtin → C → Type 0) → Kind → C → Type 0
MadeOf gives kind made = (b : Builtin) × (b.kind ≡ kind) × gives b made

-- under the name of a builtin stands a callable that is made of it; under another what stood there
abbrev pub Stands : {C : Type 0} → (Builtin → C → Type 0) → Option Kind → Option C → Option C → Type 0
Stands gives None before after = after ≡ before
Stands gives (Some kind) before after = IsSomeAnd after (MadeOf gives kind)

-- so it is under each name
abbrev pub Adds : {C : Type 0} → (Builtin → C → Type 0) → (List ℕ → Option Kind) → (List ℕ → Option C) → (List ℕ → Option C) → Type 0
Adds gives given old new = (name : List ℕ) → Stands gives (given name) (old name) (new name)

-- a name of no builtin has what it had
abbrev pub KeepsOthers : {C : Type 0} → (List ℕ → Option Kind) → (List ℕ → Option C) → (List ℕ → Option C) → Type 0
KeepsOthers given old new = (name : List ℕ) → given name ≡ None → new name ≡ old name

-- the kinds under the names of a table
abbrev pub filters_in : List (List ℕ × Filter) → List ℕ → Option Kind
filters_in table name = option_map kinds.Filter (named table name)

abbrev pub tests_in : List (List ℕ × Test) → List ℕ → Option Kind
tests_in table name = option_map kinds.Test (named table name)

-- the kind of the builtin filter, and of the builtin test, of a name
abbrev pub filter_kind : List ℕ → Option Kind
filter_kind name = option_map kinds.Filter (filter_named name)

abbrev pub test_kind : List ℕ → Option Kind
test_kind name = option_map kinds.Test (test_named name)

-- what answers for unknown methods is made of Python's
abbrev pub IsMade : {M : Type 0} → (PythonMethods → M → Type 0) → M → Type 0
IsMade makes method = (methods : PythonMethods) × makes methods method

-- the builtin filters and tests stand under their names, Python's methods answer, and all else stands as before
pub record Installs {C M F J R : Type 0} (gives : Builtin → C → Type 0) (makes : PythonMethods → M → Type 0)
    (old new : Extras C M F J R) : Type 0 where
  pub filters : Adds gives filter_kind old.filters new.filters
  pub tests : Adds gives test_kind old.tests new.tests
  pub methods : IsSomeAnd new.method (IsMade makes)
  pub others : new ≡ record old { filters = new.filters; tests = new.tests; method = new.method }

-- some of the builtins stand under their names, and all else stands as before
pub record InstallsSome {C M F J R : Type 0} (old new : Extras C M F J R) : Type 0 where
  pub filters : KeepsOthers filter_kind old.filters new.filters
  pub tests : KeepsOthers test_kind old.tests new.tests
  pub others : new ≡ record old { filters = new.filters; tests = new.tests }
