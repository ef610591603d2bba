-- What a user brought to an environment, and how it changes.
use Rattle.std.specs.Prelude.{◌≡◌, ℕ, suc, ◌+◌, ◌==◌, List, [], ◌∷◌, length, Option, None, Some, bytes_eq, if◌then◌else◌}
use Rattle.std.specs.Option.{option_map}
use Rattle.template_values_errors.specs.declared.ErrorKind.TheVariants.{InvalidOperation, UnknownMethod}
use Rattle.template_values_model.specs.Val.{Val}
use Rattle.template_callables.specs.Callables.{View, Stated, refuses, Says, Formatted, escapes, Callables, no_callables}
use Rattle.template_callables.specs.Joins.{Joins, keeps_name}
use Rattle.template_machine_meaning.specs.World.{own_functions}

-- filters and tests by their names; functions in the order of their numbers; what answers for methods that values do not have; what
-- says how values are printed, and which templates are meant by names; and the rule of escapes
pub record Extras (C M F J R : Type 0) : Type 0 where
  pub filters : List ℕ → Option C
  pub tests : List ℕ → Option C
  pub functions : List C
  pub method : Option M
  pub formatter : Option F
  pub join : Option J
  pub rule : Option R

abbrev pub no_extras : {C M F J R : Type 0} → Extras C M F J R
no_extras = record {
  filters = λ name. None;
  tests = λ name. None;
  functions = [];
  method = None;
  formatter = None;
  join = None;
  rule = None;
}

-- the function of a number, where the first one has this
abbrev pub numbered_from : {C : Type 0} → ℕ → List C → ℕ → Option C
numbered_from first [] number = None
numbered_from first (function ∷ functions) number =
    if first == number then Some function else numbered_from (suc first) functions number

-- their numbers come behind those of the functions that an environment has by itself: this one is next
abbrev pub next_number : {C M F J R : Type 0} → Extras C M F J R → ℕ
next_number x = own_functions + length x.functions

-- a name has this from now on, or nothing; each other one has what it had
abbrev pub Puts : {C : Type 0} → List ℕ → Option C → (List ℕ → Option C) → (List ℕ → Option C) → Type 0
Puts name given old new = (other : List ℕ) → new other ≡ (if bytes_eq name other then given else old other)

-- each name has what it had
abbrev pub Stays : {C : Type 0} → (List ℕ → Option C) → (List ℕ → Option C) → Type 0
Stays old new = (name : List ℕ) → new name ≡ old name

-- what is answered for methods that values do not have
abbrev pub MethodsSay : Type 0 → Type 0
MethodsSay M = M → View → Val → List ℕ → List Val → Stated

-- how a value is printed
abbrev pub FormatsSay : Type 0 → Type 0
FormatsSay F = F → View → Val → Formatted

-- what is answered by what users bring, by its types: by callables, for methods that values do not have, by what says how values
-- are printed, and by what says which templates are meant
pub record UserAnswers (C M F J : Type 0) : Type 0 where
  pub callables : C → Says
  pub methods : MethodsSay M
  pub formats : FormatsSay F
  pub joins : J → Joins

abbrev pub user_answers : {C M F J : Type 0} → (C → Says) → MethodsSay M → FormatsSay F → (J → Joins) → UserAnswers C M F J
user_answers callables methods formats joins = record { callables = callables; methods = methods; formats = formats; joins = joins }

-- what a machine is answered where it calls what a user brought
abbrev pub callables_by : {C M F J R : Type 0} → UserAnswers C M F J → Extras C M F J R → Callables
callables_by a x = record {
  filters = λ name. option_map a.callables (x.filters name);
  tests = λ name. option_map a.callables (x.tests name);
  functions = λ number. option_map a.callables (numbered_from own_functions x.functions number);
  methods = option_map (λ m v name view vs. a.methods m view v name vs) x.method;
  formats = option_map (λ f view v. a.formats f view v) x.formatter;
}

-- which template is meant by a name; it is meant itself where nothing else is said
abbrev pub joins_by : {J : Type 0} → (J → Joins) → Option J → Joins
joins_by says None = keeps_name
joins_by says (Some join) = says join

-- what a machine is answered where it asks what a user brought
pub record Brought : Type 0 where
  pub callables : Callables
  pub joins : Joins

abbrev pub brought_by : {C M F J R : Type 0} → UserAnswers C M F J → Extras C M F J R → Brought
brought_by a x = record { callables = callables_by a x; joins = joins_by a.joins x.join }

-- where nothing is brought
abbrev pub nothing_brought : Brought
nothing_brought = record { callables = no_callables; joins = keeps_name }

-- what is answered where nothing of a user's own can be brought: each call is refused, each value is printed as it is, and each
-- name means itself
abbrev pub no_callable_says : {C : Type 0} → C → Says
no_callable_says callable view vs = refuses (InvalidOperation ∷ [])

abbrev pub no_method_says : {M : Type 0} → MethodsSay M
no_method_says callable view v name vs = refuses (UnknownMethod ∷ [])

abbrev pub no_answers : {C M F J : Type 0} → UserAnswers C M F J
no_answers = record {
  callables = no_callable_says;
  methods = no_method_says;
  formats = λ formatter view v. escapes v;
  joins = λ join. keeps_name;
}
