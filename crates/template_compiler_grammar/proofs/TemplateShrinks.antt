-- What is read takes tokens.
use Rattle.std.proofs.Common.{ℕ, ◌<◌, ◌≤◌, Bool, List, length, arith}
use Rattle.template_compiler_tree.specs.Tree.{Expression, Optional, Expressions, Statement, Statements, Assignments, Imports}
use Rattle.template_compiler_tokens.specs.Token.{Token}
use Rattle.template_compiler_grammar.specs.Grammar.{IsFilterChain, chain_end, chain_more}
use Rattle.template_compiler_grammar.proofs.Shrinks.{expression_shrinks, binary_shrinks, filter_shrinks}
use Rattle.template_compiler_grammar.specs.TemplateTrees.{Branches, Parameters}
use Rattle.template_compiler_grammar.specs.TemplateGrammar.{Around, IsStored, stored, IsPath, path_end, path_more, IsMore, more_end, more_next, IsTarget, name_target, path_target, paren_target, IsTargets, targets, IsMoreTargets, targets_end, targets_next, IsValue, value, IsValues, values, IsAssignment, assignment, IsAssignments, none_assigned, some_assigned, IsLoopFilter, no_loop_filter, a_loop_filter, IsWord, no_word, a_word, IsContext, no_context, with_context, IsMissing, not_ignored, ignored, IsImport, same_name, other_name, IsParameter, plain_parameter, default_parameter, IsParameters, none_declared, some_declared, IsOptionalParameters, not_declared, declared, IsBlockEnd, plain_end, named_end, IsStatements, statements_end, statements_next, IsStatement, text_statement, print_statement, for_statement, if_statement, with_statement, set_statement, set_block_statement, autoescape_statement, filter_statement, block_statement, import_statement, from_statement, extends_statement, include_statement, macro_statement, call_statement, do_statement, break_statement, continue_statement, IsBranches, branches_end, branches_next, IsElse, no_else, an_else}

pub stored_shrinks : {e : Expression} {ts us : List Token} → IsStored ts e us → length us < length ts
stored_shrinks (stored e) = omega arith

pub path_within : {e f : Expression} {ts us : List Token} → IsPath e ts f us → length us ≤ length ts
path_within path_end = omega arith
path_within (path_more p) = let l = path_within p in omega arith

mutual
  pub target_shrinks : {dots : Bool} {d : ℕ} {e : Expression} {ts us : List Token} → IsTarget dots d ts e us → length us < length ts
  target_shrinks (name_target e s) = stored_shrinks s
  target_shrinks (path_target e s p) = let k = stored_shrinks s in let l = path_within p in omega arith
  target_shrinks (paren_target t) = let l = targets_shrinks t in omega arith

  pub targets_shrinks : {dots : Bool} {d : ℕ} {e : Expression} {ts us : List Token} → IsTargets dots d ts e us → length us < length ts
  targets_shrinks (targets t m e) = let k = target_shrinks t in let l = more_targets_within m in omega arith

  pub more_targets_within : {dots : Bool} {d : ℕ} {es fs : Expressions} {ts us : List Token} → IsMoreTargets dots d es ts fs us → length us ≤ length ts
  more_targets_within targets_end = omega arith
  more_targets_within (targets_next t m) = let k = target_shrinks t in let l = more_targets_within m in omega arith

pub value_shrinks : {d : ℕ} {es fs : Expressions} {ts us : List Token} → IsValue d es ts fs us → length us < length ts
value_shrinks (value e f) = expression_shrinks e

pub assignment_shrinks : {d : ℕ} {gs hs : Assignments} {ts us : List Token} → IsAssignment d gs ts hs us → length us < length ts
assignment_shrinks (assignment t e f) = let k = target_shrinks t in let l = expression_shrinks e in omega arith

pub import_shrinks : {is js : Imports} {ts us : List Token} → IsImport is ts js us → length us < length ts
import_shrinks (same_name s e) = stored_shrinks s
import_shrinks (other_name s a e) = let k = stored_shrinks s in let l = stored_shrinks a in omega arith

pub parameter_shrinks : {d : ℕ} {p q : Parameters} {ts us : List Token} → IsParameter d p ts q us → length us < length ts
parameter_shrinks (plain_parameter s e f) = stored_shrinks s
parameter_shrinks (default_parameter s e f) = let k = stored_shrinks s in let l = expression_shrinks e in omega arith

more_within : {A : Type 0} {item : A → List Token → A → List Token → Type 0} {a b : A} {ts us : List Token} →
    ((x y : A) (vs ws : List Token) → item x vs y ws → length ws < length vs) → IsMore item a ts b us → length us ≤ length ts
more_within shrinks more_end = omega arith
more_within shrinks (more_next i m) = let k = shrinks _ _ _ _ i in let l = more_within shrinks m in omega arith

values_shrinks : {d : ℕ} {e : Expression} {ts us : List Token} → IsValues d ts e us → length us < length ts
values_shrinks (values v m e) = let k = value_shrinks v in let l = more_within (λ x y vs ws i. value_shrinks i) m in omega arith

assignments_within : {d : ℕ} {gs : Assignments} {ts us : List Token} → IsAssignments d ts gs us → length us ≤ length ts
assignments_within none_assigned = omega arith
assignments_within (some_assigned a m) = let k = assignment_shrinks a in let l = more_within (λ x y vs ws i. assignment_shrinks i) m in omega arith

loop_filter_within : {d : ℕ} {f : Optional} {ts us : List Token} → IsLoopFilter d ts f us → length us ≤ length ts
loop_filter_within no_loop_filter = omega arith
loop_filter_within (a_loop_filter e) = let l = expression_shrinks e in omega arith

word_within : {name : List ℕ} {b : Bool} {ts us : List Token} → IsWord name ts b us → length us ≤ length ts
word_within no_word = omega arith
word_within a_word = omega arith

context_within : {ts us : List Token} → IsContext ts us → length us ≤ length ts
context_within no_context = omega arith
context_within with_context = omega arith

missing_within : {b : Bool} {ts us : List Token} → IsMissing ts b us → length us ≤ length ts
missing_within (not_ignored c) = context_within c
missing_within (ignored c e) = let k = context_within c in let l = context_within e in omega arith

parameters_shrink : {d : ℕ} {p : Parameters} {ts us : List Token} → IsParameters d ts p us → length us < length ts
parameters_shrink (none_declared e) = omega arith
parameters_shrink (some_declared p m) = let k = parameter_shrinks p in let l = more_within (λ x y vs ws i. parameter_shrinks i) m in omega arith

optional_parameters_within : {d : ℕ} {p : Parameters} {ts us : List Token} → IsOptionalParameters d ts p us → length us ≤ length ts
optional_parameters_within (not_declared e f) = omega arith
optional_parameters_within (declared p) = let l = parameters_shrink p in omega arith

block_end_shrinks : {name : List ℕ} {ts us : List Token} → IsBlockEnd name ts us → length us < length ts
block_end_shrinks plain_end = omega arith
block_end_shrinks named_end = omega arith

chain_within : {d : ℕ} {v all : Optional} {ts us : List Token} → IsFilterChain d v ts all us → length us ≤ length ts
chain_within chain_end = omega arith
chain_within (chain_more f c) = let k = filter_shrinks f in let l = chain_within c in omega arith

mutual
  pub statements_within : {d : ℕ} {p : Around} {ss all : Statements} {ts us : List Token} → IsStatements d p ss ts all us → length us ≤ length ts
  statements_within statements_end = omega arith
  statements_within (statements_next s b) = let k = statement_shrinks s in let l = statements_within b in omega arith

  pub statement_shrinks : {d : ℕ} {p : Around} {s : Statement} {ts us : List Token} → IsStatement d p ts s us → length us < length ts
  statement_shrinks text_statement = omega arith
  statement_shrinks (print_statement e) = let l = expression_shrinks e in omega arith
  statement_shrinks (for_statement t i f w b e) =
      let j = targets_shrinks t in let k = binary_shrinks i in let l = loop_filter_within f in let m = word_within w in
      let n = statements_within b in let o = else_within e in omega arith
  statement_shrinks (if_statement e b bs o f) =
      let j = expression_shrinks e in let k = statements_within b in let l = branches_within bs in let m = else_within o in omega arith
  statement_shrinks (with_statement a b) = let k = assignments_within a in let l = statements_within b in omega arith
  statement_shrinks (set_statement t v) = let k = targets_shrinks t in let l = values_shrinks v in omega arith
  statement_shrinks (set_block_statement t f b) =
      let j = target_shrinks t in let k = chain_within f in let l = statements_within b in omega arith
  statement_shrinks (autoescape_statement e b) = let k = expression_shrinks e in let l = statements_within b in omega arith
  statement_shrinks (filter_statement f c b) =
      let j = filter_shrinks f in let k = chain_within c in let l = statements_within b in omega arith
  statement_shrinks (block_statement q w b f e) =
      let j = word_within w in let k = statements_within b in let l = block_end_shrinks e in omega arith
  statement_shrinks (import_statement e a c) =
      let j = expression_shrinks e in let k = stored_shrinks a in let l = context_within c in omega arith
  statement_shrinks (from_statement e i m c) =
      let j = expression_shrinks e in let k = import_shrinks i in let l = more_within (λ x y vs ws i. import_shrinks i) m in let n = context_within c in omega arith
  statement_shrinks (extends_statement e) = let l = expression_shrinks e in omega arith
  statement_shrinks (include_statement e m) = let k = expression_shrinks e in let l = missing_within m in omega arith
  statement_shrinks (macro_statement r q b e) = let k = parameters_shrink q in let l = statements_within b in omega arith
  statement_shrinks (call_statement q e b f) =
      let j = optional_parameters_within q in let k = expression_shrinks e in let l = statements_within b in omega arith
  statement_shrinks (do_statement e) = let l = expression_shrinks e in omega arith
  statement_shrinks (break_statement e) = omega arith
  statement_shrinks (continue_statement e) = omega arith

  pub branches_within : {d : ℕ} {p : Around} {bs all : Branches} {ts us : List Token} → IsBranches d p bs ts all us → length us ≤ length ts
  branches_within branches_end = omega arith
  branches_within (branches_next e b bs) =
      let j = expression_shrinks e in let k = statements_within b in let l = branches_within bs in omega arith

  pub else_within : {d : ℕ} {p : Around} {end : List ℕ} {body : Statements} {ts us : List Token} → IsElse d p end ts body us → length us ≤ length ts
  else_within no_else = omega arith
  else_within (an_else b) = let l = statements_within b in omega arith
