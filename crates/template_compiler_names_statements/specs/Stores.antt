-- What is stored by the parts of statements.
use Rattle.std.specs.Prelude.{ℕ, Bool, false, ◌||◌, List}
use Rattle.template_compiler_tree.specs.Tree.{Expression, Optional, absent, given, Expressions, no_expressions, expressions_more, Assignments, no_assignments, assignments_more, Statements, no_statements, statements_more}
use Rattle.template_compiler_tree.specs.View.{expressions_in}
use Rattle.template_compiler_tree.specs.declared.expressions.Expr.{Expr}
use Rattle.template_compiler_names.specs.Names.{Places, is_stored_by, is_stored_in, reversed, place_in}

abbrev pub is_assigned : List ℕ → Assignments → Bool
is_assigned name no_assignments = false
is_assigned name (assignments_more target e more) = is_stored_in name target || is_assigned name more

-- an imported name, or the other name that is given for it
abbrev pub is_bound : List ℕ → Expression → Optional → Bool
is_bound name e absent = is_stored_in name e
is_bound name e (given target) = is_stored_in name target

-- the statements of a region store the name
abbrev pub is_stored_among : List ℕ → Statements → Bool
is_stored_among name no_statements = false
is_stored_among name (statements_more s ss) = is_stored_by name s || is_stored_among name ss

-- the last one first
abbrev pub backwards : List Expr → Expressions
backwards es = reversed (expressions_in es) no_expressions

abbrev pub place_in_first : Places → Expressions → Bool
place_in_first places no_expressions = false
place_in_first places (expressions_more e es) = place_in places e
