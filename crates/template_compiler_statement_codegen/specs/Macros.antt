-- Macros and call blocks: their trees, from the parts that nodes hold, and their code, as it is put.
use Rattle.std.specs.Prelude.{ℕ, List}
use Rattle.template_values_model.specs.Val.{Val, list, vals_of}
use Rattle.template_compiler_tree.specs.Tree.{Expression, Expressions, Optional, absent, given, Statement, macro, call_block, no_expressions}
use Rattle.template_compiler_tree.specs.View.{expression_of, expressions_in, arguments_in}
use Rattle.template_compiler_tree.specs.declared.calls.Call.{Call}
use Rattle.template_compiler_tree.specs.declared.expressions.Expr.{Expr}
use Rattle.template_compiler_tree_statements.specs.declared.statements.Macro.{Macro}
use Rattle.template_compiler_tree_parts.specs.Listed.{statements_in}
use Rattle.template_compiler_names.specs.Names.{reversed}
use Rattle.template_compiler_names.specs.Enclosed.{enclosed_names, uses_caller}
use Rattle.template_compiler_walk.specs.Statements.{name_texts, caller_name}
use Rattle.template_compiler_code.specs.Code.{dup_top, is_undefined, discard_top, jump_if_false, build_macro}
use Rattle.template_compiler_codegen.specs.Core.{no_ways, flat}
use Rattle.template_compiler_codegen.specs.Expressions.{Coded, one, nothing, then_code, skipped, expression_code}
use Rattle.template_compiler_codegen.specs.Statements.{parameters_core, enclosed_core, macro_flags, made_of_core, declared_core, calling_core, statements_core}

-- the last one first
abbrev pub backwards : List Expr → Expressions
backwards es = reversed (expressions_in es) no_expressions

abbrev pub macro_of : Macro → Statement
macro_of m = macro m.name.now (expressions_in m.args.items) (expressions_in m.defaults.items) (statements_in m.body.items)

abbrev pub call_block_of : Call → Macro → Statement
call_block_of c m =
    call_block (expression_of c.expr) (arguments_in c.args.items) (expressions_in m.args.items) (expressions_in m.defaults.items)
    (statements_in m.body.items)

-- parameters are stored, from the first of these to the last
abbrev pub parameters_code : Expressions → Expressions → Coded
parameters_code targets defaults = flat no_ways (parameters_core targets defaults)

-- a default, where nothing was passed
abbrev pub default_code : Expression → Coded
default_code e =
    then_code (one dup_top) (then_code (one is_undefined) (skipped jump_if_false (then_code (one discard_top) (expression_code e))))

abbrev pub default_if_given : Optional → Coded
default_if_given absent = nothing
default_if_given (given e) = default_code e

abbrev pub enclosed_code : List (List ℕ) → Coded
enclosed_code names = flat no_ways (enclosed_core names)

-- the names of parameters, as a macro is told them
abbrev pub names_of : Expressions → Val
names_of arguments = list (vals_of (name_texts arguments))

-- what makes a macro whose body begins at a place
abbrev pub made_code : List ℕ → ℕ → Macro → Coded
made_code name begins m =
    let arguments = expressions_in m.args.items in
    let defaults = expressions_in m.defaults.items in
    let body = statements_in m.body.items in
    then_code (flat no_ways (made_of_core arguments (enclosed_names arguments defaults body)))
    (one (build_macro name begins (macro_flags (uses_caller arguments defaults body))))

-- a macro, with its body, which is leapt over
abbrev pub declared_code : List ℕ → Macro → Coded
declared_code name m =
    let body = statements_in m.body.items in
    flat no_ways (declared_core name (expressions_in m.args.items) (expressions_in m.defaults.items) body (statements_core body))

-- the call of a call block
abbrev pub calling_code : Call → Macro → Coded
calling_code c m =
    let body = statements_in m.body.items in
    flat no_ways (calling_core (expression_of c.expr) (arguments_in c.args.items)
    (declared_core caller_name (expressions_in m.args.items) (expressions_in m.defaults.items) body (statements_core body)))
