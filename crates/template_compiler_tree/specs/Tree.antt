-- The trees of templates: what the grammar reads, and what walks, prices, names and code are defined on.
-- They know no places in the source. Names and texts are lists of bytes.
use Rattle.std.specs.Prelude.{ℕ, Bool, List}
use Rattle.template_values_core.specs.Val.{Val}
use Rattle.template_compiler_tree.specs.declared.operators.UnaryOpKind.{UnaryOpKind}
use Rattle.template_compiler_tree.specs.declared.operators.BinOpKind.{BinOpKind}
use Rattle.template_compiler_tree.specs.declared.operators.CompareOpKind.{CompareOpKind}

mutual
  pub data Expression : Type 0 where
    variable : List ℕ → Expression
    constant : Val → Expression
    slice : Expression → Optional → Optional → Optional → Expression  -- the object; start, stop, step
    unary : UnaryOpKind → Expression → Expression
    binary : BinOpKind → Expression → Expression → Expression
    chain : Expression → Links → Expression  -- two comparisons or more, one behind the other
    conditional : Expression → Expression → Optional → Expression  -- the test, the branch where it holds, the other one
    filtered : List ℕ → Optional → Arguments → Expression  -- the filter, its value (none in filter blocks), arguments
    tested : List ℕ → Expression → Arguments → Expression  -- the test, its value, arguments
    attribute : Expression → List ℕ → Expression
    item : Expression → Expression → Expression
    call : Expression → Arguments → Expression
    list_literal : Expressions → Expression
    tuple_literal : Expressions → Expression
    map_literal : Expressions → Expressions → Expression  -- keys, values

  -- an expression that may be left out
  pub data Optional : Type 0 where
    absent : Optional
    given : Expression → Optional

  pub data Expressions : Type 0 where
    no_expressions : Expressions
    expressions_more : Expression → Expressions → Expressions

  -- the comparisons of a chain, each with its right side
  pub data Links : Type 0 where
    no_links : Links
    links_more : CompareOpKind → Expression → Links → Links

  pub data Arguments : Type 0 where
    no_arguments : Arguments
    arguments_more : Argument → Arguments → Arguments

  pub data Argument : Type 0 where
    positional : Expression → Argument
    keyword : List ℕ → Expression → Argument
    positional_spread : Expression → Argument
    keyword_spread : Expression → Argument

mutual
  pub data Statement : Type 0 where
    template : Statements → Statement  -- a whole template; it stands in no other
    raw : List ℕ → Statement  -- a text written as it stands
    print : Expression → Statement
    -- target, iterable, filter, recursive, body, else part
    for_loop : Expression → Expression → Optional → Bool → Statements → Statements → Statement
    if_condition : Expression → Statements → Statements → Statement  -- an `elif` is the one statement of the second part
    with_block : Assignments → Statements → Statement
    set : Expression → Expression → Statement  -- target, value
    set_block : Expression → Optional → Statements → Statement  -- target, filters, body
    auto_escape : Expression → Statements → Statement
    filter_block : Expression → Statements → Statement
    block : List ℕ → Bool → Statements → Statement  -- name, required, body
    import : Expression → Expression → Statement  -- the template, the target
    from_import : Expression → Imports → Statement
    extends : Expression → Statement
    include : Expression → Bool → Statement  -- the template, whether a missing one is ignored
    macro : List ℕ → Expressions → Expressions → Statements → Statement  -- name, arguments, defaults of the last ones, body
    -- callee, its arguments; the body's arguments, defaults, body
    call_block : Expression → Arguments → Expressions → Expressions → Statements → Statement
    continue_loop : Statement
    break_loop : Statement
    do_call : Expression → Arguments → Statement  -- callee, arguments

  pub data Statements : Type 0 where
    no_statements : Statements
    statements_more : Statement → Statements → Statements

  -- targets with their values
  pub data Assignments : Type 0 where
    no_assignments : Assignments
    assignments_more : Expression → Expression → Assignments → Assignments

  -- names that are looked up, each with the target where it is stored if that has another name
  pub data Imports : Type 0 where
    no_imports : Imports
    imports_more : Expression → Optional → Imports → Imports
