-- What productions put together runs where its parts do.
use Rattle.std.proofs.Common.{Bool, true, false, List}
use Rattle.template_compiler_tree.specs.declared.operators.CompareOpKind.{CompareOpKind}
use Rattle.template_compiler_tree.specs.declared.operators.CompareOpKind.TheVariants as comparisons
use Rattle.template_compiler_tree.specs.Tree.{Expression, Optional, Expressions, Links, Arguments, Argument, no_expressions, expressions_more, no_links, links_more, no_arguments, arguments_more, positional, keyword, positional_spread, keyword_spread, Statement, Statements, no_statements, statements_more, Assignments, no_assignments, assignments_more, Imports, no_imports, imports_more}
use Rattle.template_compiler_walk.specs.Statements.{stored_as}
use Rattle.template_compiler_walk.specs.Runnable.{IsRunnable, AreRunnable, AreRunnableLinks, AreRunnableArguments, IsTarget, AreTargets, AreAssignments, AreImports, IsRunnableStatement, AreRunnableStatements}
use Rattle.template_compiler_grammar.specs.Trees.{and_expression, and_link, and_argument, compared_once, compared, tested_as, Written, and_written, followed_by}
use Rattle.template_compiler_grammar.specs.TemplateTrees.{and_statement, and_assignment, and_import, unpacked, together, Branches, no_branches, branches_more, and_branch, branched}

pub and_runs : (es : Expressions) (e : Expression) → AreRunnable es → IsRunnable e → AreRunnable (and_expression es e)
and_runs no_expressions e all one = (one, tt)
and_runs (expressions_more x es) e all one = (all.0, and_runs es e all.1 one)

pub and_link_runs : (ls : Links) (op : CompareOpKind) (e : Expression) → AreRunnableLinks ls → IsRunnable e → AreRunnableLinks (and_link ls op e)
and_link_runs no_links op e all one = (one, tt)
and_link_runs (links_more o x ls) op e all one = (all.0, and_link_runs ls op e all.1 one)

once_runs : (a : Expression) (op : CompareOpKind) (b : Expression) → IsRunnable a → IsRunnable b → IsRunnable (compared_once a op b)
once_runs a comparisons.Eq b left right = (left, right)
once_runs a comparisons.Ne b left right = (left, right)
once_runs a comparisons.Lt b left right = (left, right)
once_runs a comparisons.Lte b left right = (left, right)
once_runs a comparisons.Gt b left right = (left, right)
once_runs a comparisons.Gte b left right = (left, right)
once_runs a comparisons.In b left right = (left, right)
once_runs a comparisons.NotIn b left right = (left, right)

pub compared_runs : (a : Expression) (ls : Links) → IsRunnable a → AreRunnableLinks ls → IsRunnable (compared a ls)
compared_runs a no_links one all = one
compared_runs a (links_more op b no_links) one all = once_runs a op b one all.0
compared_runs a (links_more op b (links_more o c ls)) one all = (one, all)

pub tested_runs : (negated : Bool) (n : List _) (a : Expression) (args : Arguments) → IsRunnable a → AreRunnableArguments args → IsRunnable (tested_as negated n a args)
tested_runs true n a args one all = (one, all)
tested_runs false n a args one all = (one, all)

-- arguments
abbrev pub ArgumentRuns : Argument → Type 0
ArgumentRuns (positional e) = IsRunnable e
ArgumentRuns (keyword n e) = IsRunnable e
ArgumentRuns (positional_spread e) = IsRunnable e
ArgumentRuns (keyword_spread e) = IsRunnable e

more_runs : (a : Argument) (args : Arguments) → ArgumentRuns a → AreRunnableArguments args → AreRunnableArguments (arguments_more a args)
more_runs (positional e) args one all = (one, all)
more_runs (keyword n e) args one all = (one, all)
more_runs (positional_spread e) args one all = (one, all)
more_runs (keyword_spread e) args one all = (one, all)

first_runs : (a : Argument) (args : Arguments) → AreRunnableArguments (arguments_more a args) → ArgumentRuns a × AreRunnableArguments args
first_runs (positional e) args all = (all.0, all.1)
first_runs (keyword n e) args all = (all.0, all.1)
first_runs (positional_spread e) args all = (all.0, all.1)
first_runs (keyword_spread e) args all = (all.0, all.1)

and_argument_runs : (args : Arguments) (a : Argument) → AreRunnableArguments args → ArgumentRuns a → AreRunnableArguments (and_argument args a)
and_argument_runs no_arguments a all one = more_runs a no_arguments one tt
and_argument_runs (arguments_more x args) a all one =
    let parts = first_runs x args all in more_runs x (and_argument args a) parts.0 (and_argument_runs args a parts.1 one)

abbrev pub WrittenRuns : Written → Type 0
WrittenRuns w = AreRunnableArguments w.0 × AreRunnableArguments w.1

pub and_written_runs : (w : Written) (a : Argument) → WrittenRuns w → ArgumentRuns a → WrittenRuns (and_written w a)
and_written_runs w (positional e) all one = (and_argument_runs w.0 (positional e) all.0 one, all.1)
and_written_runs w (positional_spread e) all one = (and_argument_runs w.0 (positional_spread e) all.0 one, all.1)
and_written_runs w (keyword n e) all one = (all.0, and_argument_runs w.1 (keyword n e) all.1 one)
and_written_runs w (keyword_spread e) all one = (all.0, and_argument_runs w.1 (keyword_spread e) all.1 one)

pub followed_runs : (args more : Arguments) → AreRunnableArguments args → AreRunnableArguments more → AreRunnableArguments (followed_by args more)
followed_runs no_arguments more all others = others
followed_runs (arguments_more a args) more all others =
    let parts = first_runs a args all in more_runs a (followed_by args more) parts.0 (followed_runs args more parts.1 others)

-- targets and values
pub and_target : (es : Expressions) (e : Expression) → AreTargets es → IsTarget e → AreTargets (and_expression es e)
and_target no_expressions e all one = (one, tt)
and_target (expressions_more x es) e all one = (all.0, and_target es e all.1 one)

pub unpacked_target : (es : Expressions) → AreTargets es → IsTarget (unpacked es)
unpacked_target no_expressions all = tt
unpacked_target (expressions_more e no_expressions) all = all.0
unpacked_target (expressions_more e (expressions_more f es)) all = all

pub together_runs : (es : Expressions) → AreRunnable es → IsRunnable (together es)
together_runs no_expressions all = tt
together_runs (expressions_more e no_expressions) all = all.0
together_runs (expressions_more e (expressions_more f es)) all = all

pub and_assignment_runs : (gs : Assignments) (t e : Expression) → AreAssignments gs → IsTarget t → IsRunnable e → AreAssignments (and_assignment gs t e)
and_assignment_runs no_assignments t e all target one = (target, one, tt)
and_assignment_runs (assignments_more u f gs) t e all target one = (all.0, all.1, and_assignment_runs gs t e all.2 target one)

pub and_import_runs : (is : Imports) (n : Expression) (a : Optional) → AreImports is → IsRunnable n → IsTarget (stored_as n a) → AreImports (and_import is n a)
and_import_runs no_imports n a all one target = (one, target, tt)
and_import_runs (imports_more m b is) n a all one target = (all.0, all.1, and_import_runs is n a all.2 one target)

-- statements
pub and_statement_runs : (looping : Bool) (ss : Statements) (s : Statement) → AreRunnableStatements looping ss → IsRunnableStatement looping s
    → AreRunnableStatements looping (and_statement ss s)
and_statement_runs looping no_statements s all one = (one, tt)
and_statement_runs looping (statements_more t ss) s all one = (all.0, and_statement_runs looping ss s all.1 one)

abbrev pub BranchesRun : Bool → Branches → Type 0
BranchesRun looping no_branches = Unit {0}
BranchesRun looping (branches_more c body bs) = IsRunnable c × AreRunnableStatements looping body × BranchesRun looping bs

pub and_branch_runs : (looping : Bool) (bs : Branches) (c : Expression) (body : Statements) → BranchesRun looping bs → IsRunnable c
    → AreRunnableStatements looping body → BranchesRun looping (and_branch bs c body)
and_branch_runs looping no_branches c body all one run = (one, run, tt)
and_branch_runs looping (branches_more b other bs) c body all one run = (all.0, all.1, and_branch_runs looping bs c body all.2 one run)

pub branched_runs : (looping : Bool) (bs : Branches) (last : Statements) → BranchesRun looping bs → AreRunnableStatements looping last
    → AreRunnableStatements looping (branched bs last)
branched_runs looping no_branches last all run = run
branched_runs looping (branches_more c body bs) last all run = ((all.0, all.1, branched_runs looping bs last all.2 run), tt)
