-- What a node of an expression adds to its left part: its constant, and its own code.
use Rattle.std.specs.Prelude.{ℕ, List, Option, None, Some, option_and_then}
use Rattle.template_values_model.specs.Val.{Val, none}
use Rattle.template_compiler_tree.specs.declared.operators.BinOpKind.{BinOpKind}
use Rattle.template_compiler_tree.specs.Tree.{Expression, Arguments, unary, binary, chain, attribute, item, call, filtered, tested, list_literal, tuple_literal, map_literal}
use Rattle.template_compiler_tree.specs.Tree as tree
use Rattle.template_compiler_walk.specs.Constants.{constant_of, chain_constant}
use Rattle.template_compiler_walk.specs.Expressions.{Callee, by_name, by_method, by_block, by_value, callee_of}
use Rattle.template_compiler_walk.specs.Statements.{number_of}
use Rattle.template_compiler_code.specs.Code.{get_attr, get_item, slice, build_map, build_list, build_tuple, operate, call_function, call_method, call_object, perform_test}
use Rattle.template_compiler_folding.specs.Folding.{binary_folded}
use Rattle.template_compiler_codegen.specs.Core.{no_ways, flat}
use Rattle.template_compiler_codegen.specs.Expressions.{Coded, one, then_code, skipped, unary_code, block_core, expression_code, optional_code, expressions_code, entries_code, codes_of, entry_count, chain_code, no_number, filter_code, passed_code, argument_count}
use Rattle.template_compiler_emission.specs.Puts.{behind}
use Rattle.template_compiler_emission.specs.Leaps.{leap_code, leap_of}
use Rattle.template_compiler_emission.specs.declared.leaps.Leap.{Leap}

-- the value of a constant tree, of which the left part has the value or none
abbrev pub own_constant : Option Val → Expression → Option Val
own_constant left (binary op l right) = binary_folded op left (constant_of right)
own_constant left (chain first links) = option_and_then (λ v. chain_constant v links) left
own_constant left (attribute e name) = None
own_constant left (item e key) = None
own_constant left (tree.slice e start stop by) = None
own_constant left e = constant_of e

-- an operator behind its left side
abbrev pub operator_with : Option Leap → BinOpKind → Coded → Coded
operator_with (Some leap) op right = skipped (leap_code leap) right
operator_with None op right = then_code right (one (operate op))

abbrev pub operator_code : BinOpKind → Coded → Coded
operator_code op right = operator_with (leap_of op) op right

-- a block's text
abbrev pub block_code : List ℕ → Coded
block_code name = flat no_ways (block_core name)

-- a call: the left part is the object of a method, or what is called where it is no name and no block
abbrev pub called_behind : Callee → Option Val → Arguments → Coded
called_behind (by_name name) left args = then_code (passed_code 0 args) (one (call_function name (argument_count 0 args)))
called_behind (by_method name) left args =
    behind left (then_code (passed_code 1 args) (one (call_method name (argument_count 1 args))))
called_behind (by_block name) left args = block_code name
called_behind by_value left args = behind left (then_code (passed_code 1 args) (one (call_object (argument_count 1 args))))

abbrev pub call_code : Option Val → Expression → Arguments → Coded
call_code left callee args = called_behind (callee_of callee args) left args

-- a test, over the value on top
abbrev pub test_code : List ℕ → Arguments → Coded
test_code name args = then_code (passed_code 1 args) (one (perform_test name (argument_count 1 args) no_number))

-- the code of a tree behind that of its left part; of one without a left part, its code where it is no constant
abbrev pub own_code : Option Val → Expression → Coded
own_code left (unary op e) = then_code (expression_code e) (one (unary_code op))
own_code left (binary op l right) = behind left (operator_code op (expression_code right))
own_code left (chain first links) = behind left (chain_code links)
own_code left (attribute e name) = behind left (one (get_attr name))
own_code left (item e key) = behind left (then_code (expression_code key) (one get_item))
own_code left (tree.slice e start stop by) =
    behind left (then_code (optional_code none start) (then_code (optional_code none stop) (then_code (optional_code none by) (one slice))))
own_code left (call callee args) = call_code left callee args
own_code left (filtered name value args) = behind left (filter_code name args)
own_code left (tested name e args) = behind left (test_code name args)
own_code left (list_literal es) = then_code (expressions_code es) (one (build_list (Some (number_of es))))
own_code left (tuple_literal es) = then_code (expressions_code es) (one (build_tuple (Some (number_of es))))
own_code left (map_literal ks vs) = then_code (entries_code ks (codes_of vs)) (one (build_map (entry_count ks (codes_of vs))))
own_code left e = expression_code e
