-- The left part of an expression.
use Rattle.std.specs.Prelude.{Option, None, Some}
use Rattle.template_compiler_tree.specs.Tree.{Expression, slice, binary, chain, filtered, tested, attribute, item, call, Optional, absent, given}

abbrev pub optional : Optional → Option Expression
optional absent = None
optional (given e) = Some e

-- the part that begins where the expression begins, and takes no level of nesting
abbrev pub left_of : Expression → Option Expression
left_of (slice e start stop step) = Some e
left_of (binary op left right) = Some left
left_of (chain e links) = Some e
left_of (filtered name value args) = optional value
left_of (tested name e args) = Some e
left_of (attribute e name) = Some e
left_of (item e key) = Some e
left_of (call e args) = Some e
left_of _ = None
