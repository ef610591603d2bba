-- The names of filters, tests and functions in code, and who has them.
use Rattle.std.specs.Prelude.{ℕ, Bool, false, ◌||◌, List, [], ◌∷◌, Option, None, Some, is_some, bytes_eq, codes}
use Rattle.template_values_errors.specs.declared.ErrorKind.{ErrorKind}
use Rattle.template_values_errors.specs.declared.ErrorKind.TheVariants.{UnknownFilter, UnknownTest, UnknownFunction}
use Rattle.template_compiler_code.specs.Code.{Code, apply_filter, perform_test, call_function, store_local}
use Rattle.template_compiler_code.specs.Streams.{BlockStream}
use Rattle.template_compiled.specs.Compiled.{Compiled, code_for}
use Rattle.template_compiled.specs.Sources.{tree_in}
use Rattle.template_compiled.specs.Streams.{streams_of}
use Rattle.template_builtins_callables.specs.Builtins.{filter_named, test_named}
use Rattle.template_program_check.specs.declared.named.Named.{Named}
use Rattle.template_program_check.specs.declared.named.Named.TheVariants as kinds

-- what an instruction names
pub data Reference : Type 0 where
  filter : List ℕ → Reference
  test : List ℕ → Reference
  function : List ℕ → Reference

abbrev pub named_by : Code → Option Reference
named_by (apply_filter name count number) = Some (filter name)
named_by (perform_test name count number) = Some (test name)
named_by (call_function name count) = Some (function name)
named_by _ = None

abbrev pub named_in : Named → Reference
named_in (kinds.Filter name) = filter name.now
named_in (kinds.Test name) = test name.now
named_in (kinds.Function name) = function name.now

abbrev pub name_in : Reference → List ℕ
name_in (filter name) = name
name_in (test name) = name
name_in (function name) = name

-- the kind of the error where nothing has the name
abbrev pub kind_for : Reference → ErrorKind
kind_for (filter name) = UnknownFilter
kind_for (test name) = UnknownTest
kind_for (function name) = UnknownFunction

-- the functions of an environment's own, and what loops, macros and blocks store
abbrev pub is_own : List ℕ → Bool
is_own name = bytes_eq name (codes "range") || bytes_eq name (codes "dict") || bytes_eq name (codes "namespace")
    || bytes_eq name (codes "loop") || bytes_eq name (codes "caller") || bytes_eq name (codes "super")

-- A builtin filter or test has the name; or it is that of a function of an environment's own, or is stored.
abbrev pub is_had : (List ℕ → Bool) → Reference → Bool
is_had stored (filter name) = is_some (filter_named name)
is_had stored (test name) = is_some (test_named name)
is_had stored (function name) = is_own name || stored name

-- the name that an instruction stores
abbrev pub is_stored_at : Option Code → List ℕ → Bool
is_stored_at (Some (store_local stored)) name = bytes_eq stored name
is_stored_at _ name = false

abbrev pub is_stored_in_one : List Code → List ℕ → Bool
is_stored_in_one [] name = false
is_stored_in_one (c ∷ code) name = is_stored_at (Some c) name || is_stored_in_one code name

abbrev pub is_stored_in_blocks : List BlockStream → List ℕ → Bool
is_stored_in_blocks [] name = false
is_stored_in_blocks (block ∷ blocks) name = is_stored_in_one block.code name || is_stored_in_blocks blocks name

-- those that a template stores, in its blocks too
abbrev pub is_stored_by : Compiled → List ℕ → Bool
is_stored_by c name = is_stored_in_one (code_for c) name || is_stored_in_blocks (streams_of (tree_in c.source)) name

abbrev pub is_stored_in : List Compiled → List ℕ → Bool
is_stored_in [] name = false
is_stored_in (c ∷ templates) name = is_stored_by c name || is_stored_in templates name
