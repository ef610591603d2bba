-- The size of a tree that stands in at most so many macros: its code has at most so many instructions, with one for each name in
-- each macro that encloses it. Lists with one more at the end, and what productions put together of them, are as large as their
-- parts.
use Rattle.std.proofs.Common.{◌≡◌, ◌≤◌, ℕ, ◌+◌, suc, Bool, true, false, List, arith}
use Rattle.template_compiler_tree.specs.declared.operators.CompareOpKind.{CompareOpKind}
use Rattle.template_compiler_tree.specs.declared.operators.CompareOpKind.TheVariants as comparisons
use Rattle.template_compiler_tree.specs.Tree.{Expression, variable, unary, binary, chain, conditional, attribute, item, slice, call, filtered, tested, list_literal, tuple_literal, map_literal, Optional, absent, given, Expressions, no_expressions, expressions_more, Links, no_links, links_more, Arguments, no_arguments, arguments_more, Argument, positional, keyword, positional_spread, keyword_spread, Statement, template, print, for_loop, if_condition, with_block, set, set_block, auto_escape, filter_block, block, import, from_import, extends, include, macro, call_block, continue_loop, break_loop, do_call, Statements, no_statements, statements_more, Assignments, no_assignments, assignments_more, Imports, no_imports, imports_more}
use Rattle.template_compiler_walk.specs.Statements.{imported_names, stored_as}
use Rattle.template_compiler_grammar.specs.Trees.{and_expression, and_link, and_argument, Written, and_written, followed_by, compared_once, compared, tested_as}
use Rattle.template_compiler_grammar.specs.TemplateTrees.{and_statement, and_assignment, and_import, unpacked, together, Branches, no_branches, branches_more, and_branch, branched}

abbrev mutual
  pub expression_size : ℕ → Expression → ℕ
  expression_size k (variable name) = suc k
  expression_size k (unary op e) = suc (expression_size k e)
  expression_size k (binary op left right) = suc (expression_size k left + expression_size k right)
  expression_size k (chain first links) = expression_size k first + chain_size k links
  expression_size k (conditional test branch otherwise) = 2 + (expression_size k test + expression_size k branch + optional_size k otherwise)
  expression_size k (attribute e name) = suc (expression_size k e)
  expression_size k (item e key) = suc (expression_size k e + expression_size k key)
  expression_size k (slice e start stop by) = suc (expression_size k e + optional_size k start + optional_size k stop + optional_size k by)
  expression_size k (call callee args) = 5 + (expression_size k callee + arguments_size k args)
  expression_size k (filtered name value args) = 5 + (optional_size k value + arguments_size k args)
  expression_size k (tested name e args) = 5 + (expression_size k e + arguments_size k args)
  expression_size k (list_literal es) = suc (expressions_size k es)
  expression_size k (tuple_literal es) = suc (expressions_size k es)
  expression_size k (map_literal ks vs) = suc (expressions_size k ks + expressions_size k vs)
  expression_size k _ = 1

  pub optional_size : ℕ → Optional → ℕ
  optional_size k absent = 1
  optional_size k (given e) = expression_size k e

  pub expressions_size : ℕ → Expressions → ℕ
  expressions_size k no_expressions = 0
  expressions_size k (expressions_more e es) = expression_size k e + expressions_size k es

  -- a name has one instruction, and so have the values or names before a spread
  pub argument_size : ℕ → Argument → ℕ
  argument_size k (positional e) = expression_size k e
  argument_size k (keyword name e) = suc (expression_size k e)
  argument_size k (positional_spread e) = suc (expression_size k e)
  argument_size k (keyword_spread e) = suc (expression_size k e)

  pub arguments_size : ℕ → Arguments → ℕ
  arguments_size k no_arguments = 0
  arguments_size k (arguments_more a args) = argument_size k a + arguments_size k args

  pub chain_size : ℕ → Links → ℕ
  chain_size k no_links = 1
  chain_size k (links_more op e links) = 3 + (expression_size k e + links_size k links)

  pub links_size : ℕ → Links → ℕ
  links_size k no_links = 0
  links_size k (links_more op e links) = 3 + (expression_size k e + links_size k links)

-- arguments as far as they are read
abbrev pub written_size : ℕ → Written → ℕ
written_size k w = arguments_size k w.0 + arguments_size k w.1

abbrev mutual
  pub target_size : ℕ → Expression → ℕ
  target_size k (attribute e name) = suc (expression_size k e)
  target_size k (list_literal targets) = suc (targets_size k targets)
  target_size k _ = 1

  pub targets_size : ℕ → Expressions → ℕ
  targets_size k no_expressions = 0
  targets_size k (expressions_more target targets) = target_size k target + targets_size k targets

abbrev pub assignments_size : ℕ → Assignments → ℕ
assignments_size k no_assignments = 0
assignments_size k (assignments_more target e more) = expression_size k e + target_size k target + assignments_size k more

-- names that are imported: each is looked up, and is stored
abbrev pub stored_size : ℕ → Imports → ℕ
stored_size k no_imports = 0
stored_size k (imports_more e alias more) = target_size k (stored_as e alias) + stored_size k more

abbrev pub imports_size : ℕ → Imports → ℕ
imports_size k names = expressions_size k (imported_names names) + stored_size k names

-- what a loop goes over; with a condition, the rounds that find it
abbrev pub iterable_size : ℕ → Expression → Expression → Optional → ℕ
iterable_size k target e absent = expression_size k e
iterable_size k target e (given condition) = 13 + (expression_size k e + target_size k target + expression_size k condition)

-- the defaults of a macro's parameters: each is tested for
abbrev pub defaults_size : ℕ → Expressions → ℕ
defaults_size k no_expressions = 0
defaults_size k (expressions_more e es) = 4 + expression_size k e + defaults_size k es

abbrev mutual
  -- where `break` and `continue` close so many things on their way; a block's body is counted where the block stands
  pub statement_size : ℕ → ℕ → Statement → ℕ
  statement_size k n (template body) = suc (statements_size k n body)
  statement_size k n (print e) = suc (expression_size k e)
  statement_size k n (for_loop target e filter recursive body otherwise) =
      6 + (iterable_size k target e filter + target_size k target + statements_size k 0 body + statements_size k n otherwise)
  statement_size k n (if_condition e body otherwise) = 2 + (expression_size k e + statements_size k n body + statements_size k n otherwise)
  statement_size k n (with_block assignments body) = 2 + (assignments_size k assignments + statements_size k (suc n) body)
  statement_size k n (set target e) = expression_size k e + target_size k target
  statement_size k n (set_block target filters body) = 2 + (optional_size k filters + target_size k target + statements_size k (suc (suc n)) body)
  statement_size k n (auto_escape e body) = 2 + (expression_size k e + statements_size k (suc n) body)
  statement_size k n (filter_block filters body) = 3 + (expression_size k filters + statements_size k (suc (suc n)) body)
  statement_size k n (block name required body) = suc (statements_size k 0 body)
  statement_size k n (import e target) = 6 + (expression_size k e + target_size k target)
  statement_size k n (from_import e names) = 6 + (expression_size k e + imports_size k names)
  statement_size k n (extends e) = suc (expression_size k e)
  statement_size k n (include e ignore_missing) = suc (expression_size k e)
  statement_size k n (macro name arguments defaults body) =
      7 + (targets_size k arguments + defaults_size k defaults + statements_size k 0 body)
  statement_size k n (call_block callee passed arguments defaults body) =
      14 + (expression_size k callee + arguments_size k passed + (targets_size k arguments + defaults_size k defaults + statements_size k 0 body))
  statement_size k n (do_call callee args) = suc (expression_size k (call callee args))
  statement_size k n continue_loop = suc n
  statement_size k n break_loop = suc n
  statement_size k n _ = 1

  pub statements_size : ℕ → ℕ → Statements → ℕ
  statements_size k n no_statements = 0
  statements_size k n (statements_more s ss) = statement_size k n s + statements_size k n ss

abbrev pub branches_size : ℕ → ℕ → Branches → ℕ
branches_size k n no_branches = 0
branches_size k n (branches_more c body rest) = 2 + (expression_size k c + statements_size k n body + branches_size k n rest)

-- lists with one more at the end
pub and_expression_size : (k : ℕ) (es : Expressions) (e : Expression) → expressions_size k (and_expression es e) ≡ expressions_size k es + expression_size k e
and_expression_size k no_expressions e = omega arith
and_expression_size k (expressions_more a rest) e = omega (arith, and_expression_size k rest e)

pub and_link_size : (k : ℕ) (ls : Links) (op : CompareOpKind) (e : Expression) → links_size k (and_link ls op e) ≡ links_size k ls + (3 + expression_size k e)
and_link_size k no_links op e = omega arith
and_link_size k (links_more o a ls) op e = omega (arith, and_link_size k ls op e)

and_argument_size : (k : ℕ) (args : Arguments) (a : Argument) → arguments_size k (and_argument args a) ≡ arguments_size k args + argument_size k a
and_argument_size k no_arguments a = omega arith
and_argument_size k (arguments_more b rest) a = omega (arith, and_argument_size k rest a)

pub and_written_size : (k : ℕ) (w : Written) (a : Argument) → written_size k (and_written w a) ≡ written_size k w + argument_size k a
and_written_size k w (positional e) = omega (arith, and_argument_size k w.0 (positional e))
and_written_size k w (positional_spread e) = omega (arith, and_argument_size k w.0 (positional_spread e))
and_written_size k w (keyword name e) = omega (arith, and_argument_size k w.1 (keyword name e))
and_written_size k w (keyword_spread e) = omega (arith, and_argument_size k w.1 (keyword_spread e))

pub followed_size : (k : ℕ) (args more : Arguments) → arguments_size k (followed_by args more) ≡ arguments_size k args + arguments_size k more
followed_size k no_arguments more = omega arith
followed_size k (arguments_more a rest) more = omega (arith, followed_size k rest more)

pub and_target_size : (k : ℕ) (es : Expressions) (e : Expression) → targets_size k (and_expression es e) ≡ targets_size k es + target_size k e
and_target_size k no_expressions e = omega arith
and_target_size k (expressions_more a rest) e = omega (arith, and_target_size k rest e)

pub and_default_size : (k : ℕ) (es : Expressions) (e : Expression) → defaults_size k (and_expression es e) ≡ defaults_size k es + (4 + expression_size k e)
and_default_size k no_expressions e = omega arith
and_default_size k (expressions_more a rest) e = omega (arith, and_default_size k rest e)

pub and_assignment_size : (k : ℕ) (gs : Assignments) (t e : Expression) →
    assignments_size k (and_assignment gs t e) ≡ assignments_size k gs + (expression_size k e + target_size k t)
and_assignment_size k no_assignments t e = omega arith
and_assignment_size k (assignments_more u f rest) t e = omega (arith, and_assignment_size k rest t e)

pub and_import_size : (k : ℕ) (is : Imports) (n : Expression) (a : Optional) →
    imports_size k (and_import is n a) ≡ imports_size k is + (expression_size k n + target_size k (stored_as n a))
and_import_size k no_imports n a = omega arith
and_import_size k (imports_more m b rest) n a = omega (arith, and_import_size k rest n a)

pub and_statement_size : (k : ℕ) (n : ℕ) (ss : Statements) (s : Statement) → statements_size k n (and_statement ss s) ≡ statements_size k n ss + statement_size k n s
and_statement_size k n no_statements s = omega arith
and_statement_size k n (statements_more t rest) s = omega (arith, and_statement_size k n rest s)

pub and_branch_size : (k : ℕ) (n : ℕ) (bs : Branches) (c : Expression) (body : Statements) →
    branches_size k n (and_branch bs c body) ≡ branches_size k n bs + (2 + (expression_size k c + statements_size k n body))
and_branch_size k n no_branches c body = omega arith
and_branch_size k n (branches_more b other rest) c body = omega (arith, and_branch_size k n rest c body)

-- what productions put together
once_size : (k : ℕ) (a : Expression) (op : CompareOpKind) (b : Expression) →
    expression_size k (compared_once a op b) ≤ expression_size k a + (3 + expression_size k b)
once_size k a comparisons.Eq b = omega arith
once_size k a comparisons.Ne b = omega arith
once_size k a comparisons.Lt b = omega arith
once_size k a comparisons.Lte b = omega arith
once_size k a comparisons.Gt b = omega arith
once_size k a comparisons.Gte b = omega arith
once_size k a comparisons.In b = omega arith
once_size k a comparisons.NotIn b = omega arith

pub compared_size : (k : ℕ) (a : Expression) (ls : Links) → expression_size k (compared a ls) ≤ expression_size k a + links_size k ls
compared_size k a no_links = omega arith
compared_size k a (links_more op b no_links) = omega (arith, once_size k a op b)
compared_size k a (links_more op b (links_more op' c ls)) = omega arith

pub tested_size : (k : ℕ) (negated : Bool) (n : List ℕ) (a : Expression) (args : Arguments) →
    expression_size k (tested_as negated n a args) ≤ 6 + (expression_size k a + arguments_size k args)
tested_size k true n a args = omega arith
tested_size k false n a args = omega arith

pub unpacked_size : (k : ℕ) (es : Expressions) → target_size k (unpacked es) ≤ suc (targets_size k es)
unpacked_size k no_expressions = omega arith
unpacked_size k (expressions_more e no_expressions) = omega arith
unpacked_size k (expressions_more e (expressions_more f es)) = omega arith

pub together_size : (k : ℕ) (es : Expressions) → expression_size k (together es) ≤ suc (expressions_size k es)
together_size k no_expressions = omega arith
together_size k (expressions_more e no_expressions) = omega arith
together_size k (expressions_more e (expressions_more f es)) = omega arith

pub branched_size : (k : ℕ) (n : ℕ) (bs : Branches) (last : Statements) → statements_size k n (branched bs last) ≡ branches_size k n bs + statements_size k n last
branched_size k n no_branches last = omega arith
branched_size k n (branches_more c body rest) last = omega (arith, branched_size k n rest last)
