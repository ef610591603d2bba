-- Statements.
use Rattle.std.proofs.Common.{ℕ, Bool, List, sym, subst}
use Rattle.template_compiler_tree.specs.Tree.{Expression, Optional, absent, given, Expressions, Statement, Statements, set_block, Assignments, Imports}
use Rattle.template_compiler_walk.specs.Runnable.{IsRunnable, IsRunnableIfGiven, AreRunnable, IsTarget, AreTargets, AreAssignments, AreImports, IsRunnableStatement, AreRunnableStatements, IsRunnableTemplate}
use Rattle.template_compiler_tokens.specs.Token.{Token}
use Rattle.template_compiler_grammar.specs.TemplateGrammar as grammar
use Rattle.template_compiler_grammar.specs.TemplateGrammar.{Around, IsStored, stored, IsPath, path_end, path_more, IsMore, more_end, more_next, name_target, path_target, paren_target, IsTargets, targets, IsMoreTargets, targets_end, targets_next, IsValue, value, IsValues, values, IsAssignment, assignment, IsAssignments, none_assigned, some_assigned, IsLoopFilter, no_loop_filter, a_loop_filter, IsImport, same_name, other_name, IsParameter, plain_parameter, default_parameter, IsParameters, none_declared, some_declared, IsOptionalParameters, not_declared, declared, IsStatements, statements_end, statements_next, IsStatement, text_statement, print_statement, for_statement, if_statement, with_statement, set_statement, set_block_statement, autoescape_statement, filter_statement, block_statement, import_statement, from_statement, extends_statement, include_statement, macro_statement, call_statement, do_statement, break_statement, continue_statement, IsBranches, branches_end, branches_next, IsElse, no_else, an_else, IsTemplate, whole_template}
use Rattle.template_compiler_grammar.specs.TemplateTrees.{Branches, Parameters}
use Rattle.template_compiler_laws.proofs.Trees.{and_runs, and_target, unpacked_target, together_runs, and_assignment_runs, and_import_runs, and_statement_runs, BranchesRun, and_branch_runs, branched_runs}
use Rattle.template_compiler_laws.proofs.RunnableExpressions.{expression_runs, binary_runs, FiltersRun, first_filter, filter_chain_runs}

-- a target that is looked up too
abbrev Both : Expression → Type 0
Both e = IsTarget e × IsRunnable e

stored_both : {ts us : List Token} {e : Expression} → IsStored ts e us → Both e
stored_both (stored free) = (tt, tt)

path_both : {ts us : List Token} {e f : Expression} → Both e → IsPath e ts f us → Both f
path_both h path_end = h
path_both h (path_more p) = path_both (h.1, h.1) p

-- what holds of the first holds of all
all_more : {A : Type 0} {item : A → List Token → A → List Token → Type 0} {a b : A} {ts us : List Token} (P : A → Type 0)
    → ((x y : A) (from to : List Token) → P x → item x from y to → P y) → P a → IsMore item a ts b us → P b
all_more P one h more_end = h
all_more P one h (more_next {a = a} {b = b} {ts = ts} {us = us} x more) = all_more P one (one a b ts us h x) more

mutual
  target_is : {dots : Bool} {d : ℕ} {ts us : List Token} {e : Expression} → grammar.IsTarget dots d ts e us → IsTarget e
  target_is (name_target none s) = (stored_both s).0
  target_is (path_target some s p) = (path_both (stored_both s) p).0
  target_is (paren_target t) = targets_are t

  targets_are : {dots : Bool} {d : ℕ} {ts us : List Token} {e : Expression} → IsTargets dots d ts e us → IsTarget e
  targets_are (targets {es = es} t more is) = subst (λ x. IsTarget x) (sym is) (unpacked_target es (more_targets (target_is t, tt) more))

  more_targets : {dots : Bool} {d : ℕ} {ts us : List Token} {es fs : Expressions} → AreTargets es → IsMoreTargets dots d es ts fs us → AreTargets fs
  more_targets h targets_end = h
  more_targets h (targets_next {e = e} {es = es} t more) = more_targets (and_target es e h (target_is t)) more

value_runs : {d : ℕ} {ts us : List Token} {es fs : Expressions} → AreRunnable es → IsValue d es ts fs us → AreRunnable fs
value_runs h (value {e = e} {es = es} x is) = subst (λ l. AreRunnable l) (sym is) (and_runs es e h (expression_runs x))

values_run : {d : ℕ} {ts us : List Token} {e : Expression} → IsValues d ts e us → IsRunnable e
values_run (values {fs = fs} first more is) =
    subst (λ x. IsRunnable x) (sym is) (together_runs fs (all_more AreRunnable (λ a b ts us h x. value_runs h x) (value_runs tt first) more))

assignment_runs : {d : ℕ} {ts us : List Token} {gs hs : Assignments} → AreAssignments gs → IsAssignment d gs ts hs us → AreAssignments hs
assignment_runs h (assignment {t = t} {e = e} {gs = gs} target x is) =
    subst (λ l. AreAssignments l) (sym is) (and_assignment_runs gs t e h (target_is target) (expression_runs x))

assignments_run : {d : ℕ} {ts us : List Token} {gs : Assignments} → IsAssignments d ts gs us → AreAssignments gs
assignments_run none_assigned = tt
assignments_run (some_assigned first more) = all_more AreAssignments (λ a b ts us h x. assignment_runs h x) (assignment_runs tt first) more

loop_filter_runs : {d : ℕ} {ts us : List Token} {f : Optional} → IsLoopFilter d ts f us → IsRunnableIfGiven f
loop_filter_runs no_loop_filter = tt
loop_filter_runs (a_loop_filter e) = expression_runs e

import_runs : {ts us : List Token} {is js : Imports} → AreImports is → IsImport is ts js us → AreImports js
import_runs h (same_name {n = n} {is = is} s same) =
    let both = stored_both s in subst (λ l. AreImports l) (sym same) (and_import_runs is n absent h both.1 both.0)
import_runs h (other_name {n = n} {a = a} {is = is} s alias same) =
    subst (λ l. AreImports l) (sym same) (and_import_runs is n (given a) h (stored_both s).1 (stored_both alias).0)

abbrev ParametersRun : Parameters → Type 0
ParametersRun p = AreTargets p.0 × AreRunnable p.1

parameter_runs : {d : ℕ} {ts us : List Token} {p q : Parameters} → ParametersRun p → IsParameter d p ts q us → ParametersRun q
parameter_runs h (plain_parameter {a = a} {p = p} s none is) =
    subst (λ l. ParametersRun l) (sym is) (and_target p.0 a h.0 (stored_both s).0, h.1)
parameter_runs h (default_parameter {a = a} {e = e} {p = p} s x is) =
    subst (λ l. ParametersRun l) (sym is) (and_target p.0 a h.0 (stored_both s).0, and_runs p.1 e h.1 (expression_runs x))

parameters_run : {d : ℕ} {ts us : List Token} {p : Parameters} → IsParameters d ts p us → ParametersRun p
parameters_run (none_declared is) = subst (λ l. ParametersRun l) (sym is) (tt, tt)
parameters_run (some_declared first more) = all_more ParametersRun (λ a b ts us h x. parameter_runs h x) (parameter_runs (tt, tt) first) more

optional_parameters_run : {d : ℕ} {ts us : List Token} {p : Parameters} → IsOptionalParameters d ts p us → ParametersRun p
optional_parameters_run (not_declared none is) = subst (λ l. ParametersRun l) (sym is) (tt, tt)
optional_parameters_run (declared p) = parameters_run p

set_block_runs : (looping : Bool) (target : Expression) (f : Optional) (body : Statements) → FiltersRun f → IsTarget target
    → AreRunnableStatements looping body → IsRunnableStatement looping (set_block target f body)
set_block_runs looping target absent body filters is run = (is, run)
set_block_runs looping target (given f) body filters is run = (filters, is, run)

mutual
  statements_run : {d : ℕ} {p : Around} {ts us : List Token} {ss all : Statements} → AreRunnableStatements p.loop ss → IsStatements d p ss ts all us
      → AreRunnableStatements p.loop all
  statements_run h statements_end = h
  statements_run h (statements_next {p = p} {s = s} {ss = ss} x more) = statements_run (and_statement_runs p.loop ss s h (statement_runs x)) more

  statement_runs : {d : ℕ} {p : Around} {ts us : List Token} {s : Statement} → IsStatement d p ts s us → IsRunnableStatement p.loop s
  statement_runs text_statement = tt
  statement_runs (print_statement e) = expression_runs e
  statement_runs (for_statement t i f r body other) =
      (targets_are t, binary_runs i, loop_filter_runs f, statements_run tt body, else_runs other)
  statement_runs (if_statement {p = p} {bs = bs} {other = other} c body branches rest is) =
      subst (λ s. IsRunnableStatement p.loop s) (sym is)
      (expression_runs c, statements_run tt body, branched_runs p.loop bs other (branches_run tt branches) (else_runs rest))
  statement_runs (with_statement gs body) = (assignments_run gs, statements_run tt body)
  statement_runs (set_statement t e) = (targets_are t, values_run e)
  statement_runs (set_block_statement {p = p} {t = t} {f = f} {body = body} x filters inner) =
      set_block_runs p.loop t f body (filter_chain_runs tt filters) (target_is x) (statements_run tt inner)
  statement_runs (autoescape_statement e body) = (expression_runs e, statements_run tt body)
  statement_runs (filter_statement first more body) = (filter_chain_runs (first_filter first) more, statements_run tt body)
  statement_runs (block_statement none _ body fits end) = statements_run tt body
  statement_runs (import_statement e s _) = (expression_runs e, (stored_both s).0)
  statement_runs (from_statement e first more _) = (expression_runs e, all_more AreImports (λ a b ts us h x. import_runs h x) (import_runs tt first) more)
  statement_runs (extends_statement e) = expression_runs e
  statement_runs (include_statement e missing) = expression_runs e
  statement_runs (macro_statement {p = p} free parameters body is) =
      let all = parameters_run parameters in
      subst (λ s. IsRunnableStatement p.loop s) (sym is) (all.0, all.1, statements_run tt body)
  statement_runs (call_statement {p = p} parameters c body is) =
      let all = optional_parameters_run parameters in
      subst (λ s. IsRunnableStatement p.loop s) (sym is) (expression_runs c, all.0, all.1, statements_run tt body)
  statement_runs (do_statement e) = expression_runs e
  statement_runs (break_statement inside) = inside
  statement_runs (continue_statement inside) = inside

  branches_run : {d : ℕ} {p : Around} {ts us : List Token} {bs all : Branches} → BranchesRun p.loop bs → IsBranches d p bs ts all us → BranchesRun p.loop all
  branches_run h branches_end = h
  branches_run h (branches_next {p = p} {c = c} {body = body} {bs = bs} x inner more) =
      branches_run (and_branch_runs p.loop bs c body h (expression_runs x) (statements_run tt inner)) more

  else_runs : {d : ℕ} {p : Around} {end : List ℕ} {ts us : List Token} {ss : Statements} → IsElse d p end ts ss us → AreRunnableStatements p.loop ss
  else_runs no_else = tt
  else_runs (an_else body) = statements_run tt body

pub template_runs : {ts : List Token} {tree : Statements} → IsTemplate ts tree → IsRunnableTemplate tree
template_runs (whole_template ss once) = statements_run tt ss
