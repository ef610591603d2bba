-- A call whose last keyword argument is put apart: what stands before the value of that one, and what stands behind it.
use Rattle.std.specs.Prelude.{◌≡◌, ℕ, ◌+◌, suc, List, if◌then◌else◌, Option, None, Some}
use Rattle.template_values_model.specs.Val.{text}
use Rattle.template_compiler_tree.specs.Tree.{Expression, Arguments, variable, attribute}
use Rattle.template_compiler_walk.specs.Expressions.{Passing, has_spread}
use Rattle.template_compiler_code.specs.Code.{Code, load_const, call_function, call_method, call_object}
use Rattle.template_compiler_codegen.specs.Core.{Core}
use Rattle.template_compiler_codegen.specs.Expressions.{Coded, one, nothing, then_code, expression_code, list_count, rest_count, merged_count, positional_cores, keyword_cores}
use Rattle.template_compiler_expression_codegen.specs.Passing.{mapped_code, merged_code, run_code, stretches_code, named_code}
use Rattle.template_compiler_expression_codegen.specs.declared.calls.BegunCall.{BegunCall}
use Rattle.template_compiler_expression_codegen.specs.declared.stretches.Stretches.{Stretches}

-- before the arguments of a method stands its object, and before those of what is no name that itself
abbrev pub front_code : Expression → Coded
front_code (variable name) = nothing
front_code (attribute e name) = expression_code e
front_code e = expression_code e

abbrev pub front_count : Expression → ℕ
front_count (variable name) = 0
front_count e = 1

abbrev pub called_with : Expression → Option ℕ → Code
called_with (variable name) count = call_function name count
called_with (attribute e name) count = call_method name count
called_with e count = call_object count

-- up to the name of the last keyword argument
abbrev pub arguments_begun : ℕ → Arguments → List ℕ → Coded
arguments_begun front args last =
    then_code (stretches_code front (positional_cores args)) (then_code (named_code 0 (keyword_cores args)) (one (load_const (text last))))

abbrev pub begun_code : Expression → Arguments → List ℕ → Coded
begun_code callee args last = then_code (front_code callee) (arguments_begun (front_count callee) args last)

-- the keyword maps, with that of the last stretch
abbrev pub begun_maps : Arguments → ℕ
begun_maps args = list_count 0 (keyword_cores args) + 1

abbrev pub begun_values : ℕ → Arguments → ℕ
begun_values front args = rest_count front (positional_cores args) + merged_count (has_spread (keyword_cores args)) (begun_maps args)

-- behind its value, up to the call
abbrev pub ended_with : (Option ℕ → Code) → ℕ → Arguments → Coded
ended_with calls front args =
    let spread = has_spread (positional_cores args) in
    let values = begun_values front args in
    then_code (mapped_code (suc (rest_count 0 (keyword_cores args)))) (then_code (merged_code (has_spread (keyword_cores args)) (begun_maps args))
    (then_code (run_code spread (list_count front (positional_cores args)) values) (one (calls (if spread then None else Some values)))))

abbrev pub ended_code : Expression → Arguments → Coded
ended_code callee args = ended_with (called_with callee) (front_count callee) args

-- what is put of arguments, behind so many values or entries
pub record AreCounted (X : Type 0) (front : ℕ) (args : List (Passing X Core)) (now : Stretches) : Type 0 where
  pub lists : now.lists ≡ list_count front args
  pub last : now.last ≡ rest_count front args
  pub spread : now.spread ≡ has_spread args

pub record ArgumentsBegin (front : ℕ) (args : Arguments) (begun : BegunCall) : Type 0 where
  pub passed : AreCounted Core front (positional_cores args) begun.passed
  pub named : AreCounted (List ℕ × Core) 0 (keyword_cores args) begun.named

abbrev pub IsBegun : Expression → Arguments → BegunCall → Type 0
IsBegun callee args begun = ArgumentsBegin (front_count callee) args begun
