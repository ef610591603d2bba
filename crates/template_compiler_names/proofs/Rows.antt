-- Worked rows, computed: which of the names each template uses.
use Rattle.std.proofs.Common.{◌≡◌, ℕ, Bool, true, false, List, [], ◌∷◌, map, codes, refl}
use Rattle.template_values_model.specs.Val.{none}
use Rattle.template_compiler_tree.specs.Tree.{Expression, Expressions, Statement, Statements, variable, constant, attribute, list_literal, absent, given, no_expressions, expressions_more, item, call, no_arguments, print, for_loop, if_condition, with_block, set, auto_escape, block, macro, no_statements, statements_more, no_assignments, assignments_more}
use Rattle.template_compiler_names.specs.Names.{along, is_used, joined, uses_place}

abbrev name : List ℕ → Expression
name id = variable id

abbrev statements : List Statement → Statements
statements [] = no_statements
statements (s ∷ ss) = statements_more s (statements ss)

abbrev expressions : List Expression → Expressions
expressions [] = no_expressions
expressions (e ∷ es) = expressions_more e (expressions es)

abbrev uses : List (List ℕ) → List Statement → List Bool
uses names tree = map (λ id. is_used id (statements tree)) names

-- `{% set x = foo %}{{ x }}{{ bar.baz }}`
set_row : uses (codes "foo" ∷ codes "bar" ∷ codes "x" ∷ codes "baz" ∷ []) (set (name (codes "x")) (name (codes "foo")) ∷ print (name (codes "x")) ∷ print (attribute (name (codes "bar")) (codes "baz")) ∷ [])
    ≡ true ∷ true ∷ false ∷ false ∷ []
set_row = refl

-- `{% set x = x %}`
value_row : uses (codes "x" ∷ []) (set (name (codes "x")) (name (codes "x")) ∷ []) ≡ true ∷ []
value_row = refl

-- `{% if a %}{% set x = b %}{{ x }}{% endif %}{{ x }}`: the branch is over
branch_row : uses (codes "a" ∷ codes "b" ∷ codes "x" ∷ []) (if_condition (name (codes "a")) (statements (set (name (codes "x")) (name (codes "b")) ∷ print (name (codes "x")) ∷ [])) no_statements ∷ print (name (codes "x")) ∷ [])
    ≡ true ∷ true ∷ true ∷ []
branch_row = refl

-- `{% if a %}{% set x = b %}{{ x }}{% endif %}`
inner_row : uses (codes "x" ∷ []) (if_condition (name (codes "a")) (statements (set (name (codes "x")) (name (codes "b")) ∷ print (name (codes "x")) ∷ [])) no_statements ∷ []) ≡ false ∷ []
inner_row = refl

-- `{% for x in xs %}{{ x }}{{ loop }}{% else %}{{ y }}{% endfor %}`
loop_row : uses (codes "xs" ∷ codes "x" ∷ codes "loop" ∷ codes "y" ∷ []) (for_loop (name (codes "x")) (name (codes "xs")) absent false (statements (print (name (codes "x")) ∷ print (name (codes "loop")) ∷ [])) (statements (print (name (codes "y")) ∷ [])) ∷ [])
    ≡ true ∷ false ∷ false ∷ true ∷ []
loop_row = refl

-- `{% for x in xs if loop %}{% else %}{{ x }}{% endfor %}`: the filter knows the item, and no `loop`; the else part knows no item
filter_row : uses (codes "x" ∷ codes "loop" ∷ []) (for_loop (name (codes "x")) (name (codes "xs")) (given (name (codes "loop"))) false no_statements (statements (print (name (codes "x")) ∷ [])) ∷ [])
    ≡ true ∷ true ∷ []
filter_row = refl

-- `{% with a = b, c = a %}{{ c }}{% endwith %}{{ a }}`
with_row : uses (codes "a" ∷ codes "b" ∷ codes "c" ∷ []) (with_block (assignments_more (name (codes "a")) (name (codes "b")) (assignments_more (name (codes "c")) (name (codes "a")) no_assignments)) (statements (print (name (codes "c")) ∷ [])) ∷ print (name (codes "a")) ∷ [])
    ≡ true ∷ true ∷ false ∷ []
with_row = refl

-- `{% autoescape a %}{% set x = none %}{% endautoescape %}{{ x }}`
escape_row : uses (codes "a" ∷ codes "x" ∷ []) (auto_escape (name (codes "a")) (statements (set (name (codes "x")) (constant none) ∷ [])) ∷ print (name (codes "x")) ∷ []) ≡ true ∷ true ∷ []
escape_row = refl

-- `{% macro m(a, b=a, c=b) %}{{ m }}{{ caller }}{{ a }}{% endmacro %}{{ m }}`: arguments are stored from the last on
macro_row : uses (codes "a" ∷ codes "b" ∷ codes "c" ∷ codes "m" ∷ codes "caller" ∷ [])
    (macro (codes "m") (expressions (name (codes "a") ∷ name (codes "b") ∷ name (codes "c") ∷ [])) (expressions (name (codes "a") ∷ name (codes "b") ∷ [])) (statements (print (name (codes "m")) ∷ print (name (codes "caller")) ∷ print (name (codes "a")) ∷ [])) ∷ print (name (codes "m")) ∷ [])
    ≡ true ∷ true ∷ false ∷ true ∷ false ∷ []
macro_row = refl

-- `{% macro m(a, b=caller, c=caller.x) %}{% endmacro %}`: in a macro `caller` is stored from its beginning on
caller_row : uses (codes "caller" ∷ []) (macro (codes "m") (expressions (name (codes "a") ∷ name (codes "b") ∷ name (codes "c") ∷ [])) (expressions (name (codes "caller") ∷ attribute (name (codes "caller")) (codes "x") ∷ [])) no_statements ∷ []) ≡ false ∷ []
caller_row = refl

-- `{% macro m() %}{% endmacro %}{{ caller }}`: behind it, it is not
caller_behind_row : uses (codes "caller" ∷ []) (macro (codes "m") no_expressions no_expressions no_statements ∷ print (name (codes "caller")) ∷ []) ≡ true ∷ []
caller_behind_row = refl

-- `{% macro m(a=b) %}{% macro n(c=caller) %}{{ a }}{% endmacro %}{% endmacro %}`
inner_macro_row : uses (codes "a" ∷ codes "b" ∷ codes "caller" ∷ []) (macro (codes "m") (expressions (name (codes "a") ∷ [])) (expressions (name (codes "b") ∷ [])) (statements (macro (codes "n") (expressions (name (codes "c") ∷ [])) (expressions (name (codes "caller") ∷ [])) (statements (print (name (codes "a")) ∷ [])) ∷ [])) ∷ [])
    ≡ false ∷ true ∷ false ∷ []
inner_macro_row = refl

-- `{% macro m(a, b=a) %}{% endmacro %}`
default_row : uses (codes "a" ∷ codes "b" ∷ codes "m" ∷ []) (macro (codes "m") (expressions (name (codes "a") ∷ name (codes "b") ∷ [])) (expressions (name (codes "a") ∷ [])) no_statements ∷ []) ≡ true ∷ false ∷ false ∷ []
default_row = refl

-- `{% for x in [] %}{% block b %}{{ x }}{% endblock %}{% endfor %}`: the block is gone through where it stands
block_row : uses (codes "x" ∷ []) (for_loop (name (codes "x")) (list_literal no_expressions) absent false (statements (block (codes "b") false (statements (print (name (codes "x")) ∷ [])) ∷ [])) no_statements ∷ []) ≡ false ∷ []
block_row = refl

-- `{% set n.a = b %}{{ a }}`
dotted_row : uses (codes "n" ∷ codes "a" ∷ codes "b" ∷ []) (set (attribute (name (codes "n")) (codes "a")) (name (codes "b")) ∷ print (name (codes "a")) ∷ []) ≡ true ∷ true ∷ true ∷ []
dotted_row = refl

-- `{% set (x, y) = z %}{{ x }}{{ y }}`
unpacked_row : uses (codes "x" ∷ codes "y" ∷ codes "z" ∷ []) (set (list_literal (expressions (name (codes "x") ∷ name (codes "y") ∷ []))) (name (codes "z")) ∷ print (name (codes "x")) ∷ print (name (codes "y")) ∷ []) ≡ false ∷ false ∷ true ∷ []
unpacked_row = refl

-- `{{ self }}{{ super }}`
everywhere_row : uses (codes "self" ∷ codes "super" ∷ []) (print (name (codes "self")) ∷ print (name (codes "super")) ∷ []) ≡ false ∷ false ∷ []
everywhere_row = refl

-- with the dotted names behind them
abbrev tells : List (List ℕ × List (List ℕ)) → List Statement → List Bool
tells places tree = map (λ p. uses_place (along p.0 p.1) (statements tree)) places

-- `{% set x = foo %}{{ x }}{{ bar.baz }}`: `foo` and `bar.baz`, and no `bar` alone
nested_row : tells ((codes "foo", []) ∷ (codes "bar", codes "baz" ∷ []) ∷ (codes "bar", []) ∷ (codes "x", []) ∷ []) (set (name (codes "x")) (name (codes "foo")) ∷ print (name (codes "x")) ∷ print (attribute (name (codes "bar")) (codes "baz")) ∷ [])
    ≡ true ∷ true ∷ false ∷ false ∷ []
nested_row = refl

joined_row : joined (codes "bar") (codes "baz" ∷ codes "q" ∷ []) ≡ codes "bar.baz.q"
joined_row = refl

-- `{{ a.b[c.d].e }}`: an item ends what is joined
item_row : tells ((codes "a", codes "b" ∷ []) ∷ (codes "c", codes "d" ∷ []) ∷ (codes "a", codes "b" ∷ codes "e" ∷ []) ∷ []) (print (attribute (item (attribute (name (codes "a")) (codes "b")) (attribute (name (codes "c")) (codes "d"))) (codes "e")) ∷ [])
    ≡ true ∷ true ∷ false ∷ []
item_row = refl

-- `{{ bar.baz() }}`: a method's name is joined
method_row : tells ((codes "bar", codes "baz" ∷ []) ∷ (codes "bar", []) ∷ []) (print (call (attribute (name (codes "bar")) (codes "baz")) no_arguments) ∷ []) ≡ true ∷ false ∷ []
method_row = refl

-- `{% set n.a.b = c %}`: so are the names of a dotted target
target_row : tells ((codes "n", codes "a" ∷ codes "b" ∷ []) ∷ (codes "n", codes "a" ∷ []) ∷ []) (set (attribute (attribute (name (codes "n")) (codes "a")) (codes "b")) (name (codes "c")) ∷ []) ≡ true ∷ false ∷ []
target_row = refl
