-- What kind of expression or call stands at a node.
use Rattle.std.specs.Prelude.{ℕ, Bool, true, false, ◌&&◌, List, Option, None, Some, codes, bytes_eq, if◌then◌else◌}
use Rattle.template_compiler_tree.specs.Tree.{Expression, variable, constant, slice, unary, binary, chain, conditional, filtered, tested, attribute, item, call, list_literal, tuple_literal, map_literal, Arguments, no_arguments, arguments_more}

-- the words for an expression of this kind
abbrev pub description_of : Expression → List ℕ
description_of (variable name) = codes "variable"
description_of (constant value) = codes "constant"
description_of (slice object start stop step) = codes "slice"
description_of (unary op operand) = codes "unary operator"
description_of (binary op left right) = codes "binary operator"
description_of (chain first links) = codes "comparison"
description_of (conditional test first other) = codes "if expression"
description_of (filtered name value args) = codes "filter expression"
description_of (tested name value args) = codes "test expression"
description_of (attribute object name) = codes "attribute lookup"
description_of (item object key) = codes "item lookup"
description_of (call callee args) = codes "call"
description_of (list_literal items) = codes "list literal"
description_of (tuple_literal items) = codes "tuple literal"
description_of (map_literal keys values) = codes "map literal"

-- a call's callee and its arguments, where the expression is a call
abbrev pub call_parts : Expression → Option (Expression × Arguments)
call_parts (call callee args) = Some (callee, args)
call_parts _ = None

-- what a call calls
pub data Called : Type 0 where
  calls_function : List ℕ → Called  -- what the name stands for
  calls_method : Expression → List ℕ → Called  -- a method of the object
  calls_block : List ℕ → Called  -- a block of the template
  calls_value : Expression → Called

abbrev pub is_self_name : Expression → Bool
is_self_name (variable name) = bytes_eq name (codes "self")
is_self_name _ = false

abbrev pub is_empty : Arguments → Bool
is_empty no_arguments = true
is_empty (arguments_more arg rest) = false

-- an attribute of `self` that is called without arguments is a block
abbrev pub called_attribute : Expression → List ℕ → Arguments → Called
called_attribute callee name args =
    if is_self_name callee && is_empty args then calls_block name else calls_method callee name

abbrev pub called_by : Expression → Arguments → Called
called_by (variable name) args = calls_function name
called_by (attribute callee name) args = called_attribute callee name args
called_by callee args = calls_value callee
