-- The trees that have a walk: all that are read. What stands where none may stand is refused where it is added.
use Rattle.std.specs.Prelude.{Bool, true, false, IsTrue}
use Rattle.template_compiler_tree.specs.Tree.{Expression, Optional, Expressions, Links, Arguments, Argument, variable, constant, slice, unary, binary, chain, conditional, attribute, item, call, filtered, tested, list_literal, tuple_literal, map_literal, absent, given, no_expressions, expressions_more, no_links, links_more, no_arguments, arguments_more, positional, keyword, positional_spread, keyword_spread, Statement, Statements, Assignments, Imports, raw, print, for_loop, if_condition, with_block, set, set_block, auto_escape, filter_block, block, import, from_import, extends, include, macro, call_block, continue_loop, break_loop, do_call, no_statements, statements_more, no_assignments, assignments_more, no_imports, imports_more}
use Rattle.template_compiler_walk.specs.Statements.{stored_as}

abbrev mutual
  -- names, constants, operators, items, slices, containers, calls, filters and tests
  pub IsRunnable : Expression → Type 0
  IsRunnable (variable name) = Unit {0}
  IsRunnable (constant v) = Unit {0}
  IsRunnable (slice e start stop by) = IsRunnable e × IsRunnableIfGiven start × IsRunnableIfGiven stop × IsRunnableIfGiven by
  IsRunnable (unary op e) = IsRunnable e
  IsRunnable (binary op left right) = IsRunnable left × IsRunnable right
  IsRunnable (chain first links) = IsRunnable first × IsRunnableChain links
  IsRunnable (conditional test branch otherwise) = IsRunnable test × IsRunnable branch × IsRunnableIfGiven otherwise
  IsRunnable (attribute e name) = IsRunnable e
  IsRunnable (item e key) = IsRunnable e × IsRunnable key
  IsRunnable (call callee args) = IsRunnable callee × AreRunnableArguments args
  IsRunnable (filtered name (given e) args) = IsRunnable e × AreRunnableArguments args
  IsRunnable (tested name e args) = IsRunnable e × AreRunnableArguments args
  IsRunnable (list_literal es) = AreRunnable es
  IsRunnable (tuple_literal es) = AreRunnable es
  IsRunnable (map_literal ks vs) = AreRunnable ks × AreRunnable vs
  IsRunnable _ = ⊥

  pub IsRunnableIfGiven : Optional → Type 0
  IsRunnableIfGiven absent = Unit {0}
  IsRunnableIfGiven (given e) = IsRunnable e

  -- positional and keyword ones, and spreads
  pub AreRunnableArguments : Arguments → Type 0
  AreRunnableArguments no_arguments = Unit {0}
  AreRunnableArguments (arguments_more (positional e) args) = IsRunnable e × AreRunnableArguments args
  AreRunnableArguments (arguments_more (keyword name e) args) = IsRunnable e × AreRunnableArguments args
  AreRunnableArguments (arguments_more (positional_spread e) args) = IsRunnable e × AreRunnableArguments args
  AreRunnableArguments (arguments_more (keyword_spread e) args) = IsRunnable e × AreRunnableArguments args

  pub AreRunnable : Expressions → Type 0
  AreRunnable no_expressions = Unit {0}
  AreRunnable (expressions_more e es) = IsRunnable e × AreRunnable es

  -- one comparison at least
  pub IsRunnableChain : Links → Type 0
  IsRunnableChain no_links = ⊥
  IsRunnableChain (links_more op e links) = IsRunnable e × AreRunnableLinks links

  pub AreRunnableLinks : Links → Type 0
  AreRunnableLinks no_links = Unit {0}
  AreRunnableLinks (links_more op e links) = IsRunnable e × AreRunnableLinks links

-- the filters of a block: one, or one over what others give
abbrev pub AreFilters : Expression → Type 0
AreFilters (filtered name absent args) = AreRunnableArguments args
AreFilters (filtered name (given e) args) = AreFilters e × AreRunnableArguments args
AreFilters _ = ⊥

abbrev mutual
  -- a name, an attribute, or targets that a value is unpacked into
  pub IsTarget : Expression → Type 0
  IsTarget (variable name) = Unit {0}
  IsTarget (attribute e name) = IsRunnable e
  IsTarget (list_literal targets) = AreTargets targets
  IsTarget _ = ⊥

  pub AreTargets : Expressions → Type 0
  AreTargets no_expressions = Unit {0}
  AreTargets (expressions_more target targets) = IsTarget target × AreTargets targets

abbrev pub AreAssignments : Assignments → Type 0
AreAssignments no_assignments = Unit {0}
AreAssignments (assignments_more target e more) = IsTarget target × IsRunnable e × AreAssignments more

-- each name is looked up, and is stored under itself or under its alias
abbrev pub AreImports : Imports → Type 0
AreImports no_imports = Unit {0}
AreImports (imports_more e alias more) = IsRunnable e × IsTarget (stored_as e alias) × AreImports more

abbrev mutual
  -- `break` and `continue` stand in loops alone, as the first argument says; none leads out of a block or of a macro
  pub IsRunnableStatement : Bool → Statement → Type 0
  IsRunnableStatement looping (raw text) = Unit {0}
  IsRunnableStatement looping (print e) = IsRunnable e
  IsRunnableStatement looping (for_loop target e condition recursive body otherwise) =
      IsTarget target × IsRunnable e × IsRunnableIfGiven condition × AreRunnableStatements true body × AreRunnableStatements looping otherwise
  IsRunnableStatement looping (if_condition e body otherwise) =
      IsRunnable e × AreRunnableStatements looping body × AreRunnableStatements looping otherwise
  IsRunnableStatement looping (with_block assignments body) = AreAssignments assignments × AreRunnableStatements looping body
  IsRunnableStatement looping (set target e) = IsTarget target × IsRunnable e
  IsRunnableStatement looping (set_block target absent body) = IsTarget target × AreRunnableStatements looping body
  IsRunnableStatement looping (set_block target (given filters) body) =
      AreFilters filters × IsTarget target × AreRunnableStatements looping body
  IsRunnableStatement looping (auto_escape e body) = IsRunnable e × AreRunnableStatements looping body
  IsRunnableStatement looping (filter_block filters body) = AreFilters filters × AreRunnableStatements looping body
  IsRunnableStatement looping (block name required body) = AreRunnableStatements false body
  IsRunnableStatement looping (import e target) = IsRunnable e × IsTarget target
  IsRunnableStatement looping (from_import e names) = IsRunnable e × AreImports names
  IsRunnableStatement looping (extends e) = IsRunnable e
  IsRunnableStatement looping (include e ignore_missing) = IsRunnable e
  IsRunnableStatement looping (macro name arguments defaults body) =
      AreTargets arguments × AreRunnable defaults × AreRunnableStatements false body
  IsRunnableStatement looping (call_block callee passed arguments defaults body) =
      IsRunnable (call callee passed) × AreTargets arguments × AreRunnable defaults × AreRunnableStatements false body
  IsRunnableStatement looping (do_call callee args) = IsRunnable (call callee args)
  IsRunnableStatement looping continue_loop = IsTrue looping
  IsRunnableStatement looping break_loop = IsTrue looping
  IsRunnableStatement looping _ = ⊥

  pub AreRunnableStatements : Bool → Statements → Type 0
  AreRunnableStatements looping no_statements = Unit {0}
  AreRunnableStatements looping (statements_more s ss) = IsRunnableStatement looping s × AreRunnableStatements looping ss

abbrev pub IsRunnableTemplate : Statements → Type 0
IsRunnableTemplate tree = AreRunnableStatements false tree
