-- The trees that productions put together.
use Rattle.std.specs.Prelude.{ℕ, ◌+◌, Bool, if◌then◌else◌, List, ◌++◌, codes}
use Rattle.template_compiler_tree.specs.Tree.{Expression, unary, binary, chain, tested, Expressions, no_expressions, expressions_more, Links, no_links, links_more, Arguments, no_arguments, arguments_more, Argument, positional, keyword, positional_spread, keyword_spread}
use Rattle.template_compiler_tree.specs.declared.operators.UnaryOpKind.TheVariants as unaries
use Rattle.template_compiler_tree.specs.declared.operators.BinOpKind.TheVariants as operators
use Rattle.template_compiler_tree.specs.declared.operators.CompareOpKind.{CompareOpKind}
use Rattle.template_compiler_tree.specs.declared.operators.CompareOpKind.TheVariants as comparisons

-- a name, and the name that a dot and an identifier make of it
abbrev pub dotted : List ℕ → List ℕ → List ℕ
dotted name part = name ++ codes "." ++ part

-- lists with one more at the end
abbrev pub and_expression : Expressions → Expression → Expressions
and_expression no_expressions e = expressions_more e no_expressions
and_expression (expressions_more a rest) e = expressions_more a (and_expression rest e)

abbrev pub and_link : Links → CompareOpKind → Expression → Links
and_link no_links op e = links_more op e no_links
and_link (links_more o a ls) op e = links_more o a (and_link ls op e)

abbrev pub and_argument : Arguments → Argument → Arguments
and_argument no_arguments a = arguments_more a no_arguments
and_argument (arguments_more b rest) a = arguments_more b (and_argument rest a)

-- one comparison is an operator, `not in` the negation of `in`
abbrev pub compared_once : Expression → CompareOpKind → Expression → Expression
compared_once a comparisons.Eq b = binary operators.Eq a b
compared_once a comparisons.Ne b = binary operators.Ne a b
compared_once a comparisons.Lt b = binary operators.Lt a b
compared_once a comparisons.Lte b = binary operators.Lte a b
compared_once a comparisons.Gt b = binary operators.Gt a b
compared_once a comparisons.Gte b = binary operators.Gte a b
compared_once a comparisons.In b = binary operators.In a b
compared_once a comparisons.NotIn b = unary unaries.Not (binary operators.In a b)

-- a value and the comparisons behind it: none is the value, two or more are one chain
abbrev pub compared : Expression → Links → Expression
compared a no_links = a
compared a (links_more op b no_links) = compared_once a op b
compared a (links_more op b (links_more op' c ls)) = chain a (links_more op b (links_more op' c ls))

-- a test, or its negation
abbrev pub tested_as : Bool → List ℕ → Expression → Arguments → Expression
tested_as negated n a args = if negated then unary unaries.Not (tested n a args) else tested n a args

-- a map's keys and its values, as far as they are read
abbrev pub Paired : Type 0
Paired = Expressions × Expressions

abbrev pub nothing_paired : Paired
nothing_paired = (no_expressions, no_expressions)

abbrev pub and_pair : Paired → Expression → Expression → Paired
and_pair p k v = (and_expression p.0 k, and_expression p.1 v)

-- arguments as far as they are read: those by place, and those by keyword
abbrev pub Written : Type 0
Written = Arguments × Arguments

abbrev pub nothing_written : Written
nothing_written = (no_arguments, no_arguments)

abbrev pub and_written : Written → Argument → Written
and_written w (positional e) = (and_argument w.0 (positional e), w.1)
and_written w (positional_spread e) = (and_argument w.0 (positional_spread e), w.1)
and_written w (keyword name e) = (w.0, and_argument w.1 (keyword name e))
and_written w (keyword_spread e) = (w.0, and_argument w.1 (keyword_spread e))

abbrev pub followed_by : Arguments → Arguments → Arguments
followed_by no_arguments bs = bs
followed_by (arguments_more a rest) bs = arguments_more a (followed_by rest bs)

-- the arguments by place come first, whatever order they are written in
abbrev pub in_order : Written → Arguments
in_order w = followed_by w.0 w.1

abbrev pub argument_count : Arguments → ℕ
argument_count no_arguments = 0
argument_count (arguments_more a rest) = argument_count rest + 1
