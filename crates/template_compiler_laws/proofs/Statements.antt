-- Statements that stand in at most 150 macros are no larger than 201 times what their tokens weigh: 300 things may be open where a loop is left, two for each
-- capture.
use Rattle.std.proofs.Common.{◌≡◌, ◌≤◌, ℕ, ◌+◌, ◌*◌, suc, Bool, List, refl, ap, arith}
use Rattle.std.specs.Prelude.{codes}
use Rattle.template_compiler_tree.specs.Tree.{Expression, Optional, absent, given, Expressions, Statement, Statements, Assignments, Imports}
use Rattle.template_compiler_tokens.specs.Token.{Token, identifier}
use Rattle.template_compiler_grammar.specs.TemplateTrees.{Branches, Parameters}
use Rattle.template_compiler_grammar.specs.Grammar.{IsFilterChain, chain_end, chain_more}
use Rattle.template_compiler_grammar.specs.TemplateGrammar.{Around, IsStored, stored, IsMore, more_end, more_next, IsTarget, name_target, path_target, paren_target, IsTargets, targets, IsMoreTargets, targets_end, targets_next, IsPath, path_end, path_more, IsValue, value, IsValues, values, IsAssignment, assignment, IsAssignments, none_assigned, some_assigned, IsLoopFilter, no_loop_filter, a_loop_filter, IsImport, same_name, other_name, IsParameter, plain_parameter, default_parameter, IsParameters, none_declared, some_declared, IsOptionalParameters, not_declared, declared, IsStatements, statements_end, statements_next, IsStatement, text_statement, print_statement, for_statement, if_statement, with_statement, set_statement, set_block_statement, autoescape_statement, filter_statement, block_statement, import_statement, from_statement, extends_statement, include_statement, macro_statement, call_statement, do_statement, break_statement, continue_statement, IsBranches, branches_end, branches_next, IsElse, no_else, an_else, IsTemplate, whole_template}
use Rattle.template_compiler_laws.proofs.Sizes.{expression_size, optional_size, expressions_size, target_size, targets_size, iterable_size, assignments_size, defaults_size, imports_size, statement_size, statements_size, branches_size, and_expression_size, and_target_size, and_default_size, and_assignment_size, and_import_size, and_statement_size, and_branch_size, unpacked_size, together_size, branched_size}
use Rattle.template_compiler_laws.proofs.Expressions.{expression_bound, binary_bound, filter_bound}
use Rattle.template_compiler_laws.proofs.Weights.{letters, weight, word_weighs, context_weighs, missing_weighs, block_end_weighs}

-- twice the code of a target, which a loop with a condition stores in two places
stored_bound : {e : Expression} {ts us : List Token} → IsStored ts e us → 2 * target_size 150 e + 201 * weight us ≤ 201 * weight ts
stored_bound (stored e) = omega arith

-- a name that is looked up and stored
stored_both : {e : Expression} {ts us : List Token} → IsStored ts e us → expression_size 150 e + target_size 150 e + 201 * weight us ≤ 201 * weight ts
stored_both (stored e) = omega arith

-- as an expression a name is larger, by the macros that it may stand in
stored_near : {e : Expression} {ts us : List Token} → IsStored ts e us → expression_size 150 e ≤ 150 + target_size 150 e
stored_near (stored e) = omega arith

path_bound : {e f : Expression} {ts us : List Token} → IsPath e ts f us → expression_size 150 e ≤ 150 + target_size 150 e →
    2 * target_size 150 f + 201 * weight us ≤ 2 * target_size 150 e + 201 * weight ts
path_bound path_end near = omega arith
path_bound (path_more p) near = let l = path_bound p (omega arith) in omega (arith, near)

mutual
  target_bound : {dots : Bool} {d : ℕ} {e : Expression} {ts us : List Token} → IsTarget dots d ts e us →
      2 * target_size 150 e + 201 * weight us ≤ 201 * weight ts
  target_bound (name_target e s) = stored_bound s
  target_bound (path_target e s p) = let k = stored_bound s in let l = path_bound p (stored_near s) in omega arith
  target_bound (paren_target t) = let l = targets_bound t in omega arith

  targets_bound : {dots : Bool} {d : ℕ} {e : Expression} {ts us : List Token} → IsTargets dots d ts e us →
      2 * target_size 150 e + 201 * weight us ≤ 2 + 201 * weight ts
  targets_bound (targets {es = es} t m e) =
      let k = target_bound t in let l = more_targets_bound m in omega (arith, unpacked_size 150 es, ap (target_size 150) e)

  more_targets_bound : {dots : Bool} {d : ℕ} {es fs : Expressions} {ts us : List Token} → IsMoreTargets dots d es ts fs us →
      2 * targets_size 150 fs + 201 * weight us ≤ 2 * targets_size 150 es + 201 * weight ts
  more_targets_bound targets_end = omega arith
  more_targets_bound (targets_next {e = e} {es = es} t m) =
      let k = target_bound t in let l = more_targets_bound m in omega (arith, and_target_size 150 es e)

more_bound : {A : Type 0} {item : A → List Token → A → List Token → Type 0} (size : A → ℕ) {a b : A} {ts us : List Token} →
    ((x y : A) (vs ws : List Token) → item x vs y ws → size y + 201 * weight ws ≤ size x + 201 * weight vs) →
    IsMore item a ts b us → size b + 201 * weight us ≤ size a + 201 * weight ts
more_bound size bound more_end = omega arith
more_bound size bound (more_next i m) = let k = bound _ _ _ _ i in let l = more_bound size bound m in omega arith

value_bound : {d : ℕ} {es fs : Expressions} {ts us : List Token} → IsValue d es ts fs us →
    expressions_size 150 fs + 201 * weight us ≤ expressions_size 150 es + 201 * weight ts
value_bound (value {e = e} {es = es} h f) = let k = expression_bound h in omega (arith, and_expression_size 150 es e, ap (expressions_size 150) f)

values_bound : {d : ℕ} {e : Expression} {ts us : List Token} → IsValues d ts e us →
    expression_size 150 e + 201 * weight us ≤ suc (201 * weight ts)
values_bound (values {fs = fs} v m e) =
    let k = value_bound v in let l = more_bound (expressions_size 150) (λ x y vs ws i. value_bound i) m in
    omega (arith, together_size 150 fs, ap (expression_size 150) e)

assignment_bound : {d : ℕ} {gs hs : Assignments} {ts us : List Token} → IsAssignment d gs ts hs us →
    assignments_size 150 hs + 201 * weight us ≤ assignments_size 150 gs + 201 * weight ts
assignment_bound (assignment {t = t} {e = e} {gs = gs} h i f) =
    let k = target_bound h in let l = expression_bound i in omega (arith, and_assignment_size 150 gs t e, ap (assignments_size 150) f)

assignments_bound : {d : ℕ} {gs : Assignments} {ts us : List Token} → IsAssignments d ts gs us →
    assignments_size 150 gs + 201 * weight us ≤ 201 * weight ts
assignments_bound none_assigned = omega arith
assignments_bound (some_assigned a m) =
    let k = assignment_bound a in let l = more_bound (assignments_size 150) (λ x y vs ws i. assignment_bound i) m in omega arith

import_bound : {is js : Imports} {ts us : List Token} → IsImport is ts js us →
    imports_size 150 js + 201 * weight us ≤ imports_size 150 is + 201 * weight ts
import_bound (same_name {n = n} {is = is} s e) =
    let k = stored_both s in omega (arith, and_import_size 150 is n absent, ap (imports_size 150) e)
import_bound (other_name {n = n} {a = a} {is = is} s t e) =
    let k = stored_both s in let l = stored_bound t in
    omega (arith, and_import_size 150 is n (given a), ap (imports_size 150) e)

-- what a loop goes over, behind the expression
iterable_bound : (target e : Expression) {d : ℕ} {f : Optional} {ts us : List Token} → IsLoopFilter d ts f us →
    iterable_size 150 target e f + 201 * weight us ≤ expression_size 150 e + target_size 150 target + 201 * weight ts
iterable_bound target e no_loop_filter = omega arith
iterable_bound target e (a_loop_filter c) = let l = expression_bound c in omega arith

-- the filters of a block
chain_bound : {d : ℕ} {v all : Optional} {ts us : List Token} → IsFilterChain d v ts all us →
    optional_size 150 all + 201 * weight us ≤ optional_size 150 v + 201 * weight ts
chain_bound chain_end = omega arith
chain_bound (chain_more f c) = let k = filter_bound f in let l = chain_bound c in omega arith

-- the parameters of a macro, with their defaults
abbrev both_size : Parameters → ℕ
both_size q = targets_size 150 q.0 + defaults_size 150 q.1

parameter_bound : {d : ℕ} {p q : Parameters} {ts us : List Token} → IsParameter d p ts q us → both_size q + 201 * weight us ≤ both_size p + 201 * weight ts
parameter_bound (plain_parameter {a = a} {p = p} s e f) =
    let k = stored_bound s in
    omega (arith, and_target_size 150 p.0 a, ap (λ (r : Parameters). targets_size 150 r.0) f, ap (λ (r : Parameters). defaults_size 150 r.1) f)
parameter_bound (default_parameter {a = a} {e = e} {p = p} s h f) =
    let k = stored_bound s in let l = expression_bound h in
    omega (arith, and_target_size 150 p.0 a, and_default_size 150 p.1 e, ap (λ (r : Parameters). targets_size 150 r.0) f, ap (λ (r : Parameters). defaults_size 150 r.1) f)

parameters_bound : {d : ℕ} {p : Parameters} {ts us : List Token} → IsParameters d ts p us → both_size p + 201 * weight us ≤ 201 * weight ts
parameters_bound (none_declared e) = omega (arith, ap both_size e)
parameters_bound (some_declared p m) =
    let k = parameter_bound p in let l = more_bound both_size (λ x y vs ws i. parameter_bound i) m in omega arith

optional_parameters_bound : {d : ℕ} {p : Parameters} {ts us : List Token} → IsOptionalParameters d ts p us → both_size p + 201 * weight us ≤ 201 * weight ts
optional_parameters_bound (not_declared e f) = omega (arith, ap both_size f)
optional_parameters_bound (declared p) = let l = parameters_bound p in omega arith

break_letters : letters (identifier (codes "break")) ≡ 4
break_letters = refl

continue_letters : letters (identifier (codes "continue")) ≡ 7
continue_letters = refl

mutual
  statements_bound : (n : ℕ) {d : ℕ} {p : Around} {ss all : Statements} {ts us : List Token} → IsStatements d p ss ts all us → n + 2 * d ≤ 300 →
      statements_size 150 n all + 201 * weight us ≤ statements_size 150 n ss + 201 * weight ts
  statements_bound n statements_end depth = omega arith
  statements_bound n (statements_next {s = s} {ss = ss} h b) depth =
      let k = statement_bound n h depth in let l = statements_bound n b depth in omega (arith, and_statement_size 150 n ss s)

  statement_bound : (n : ℕ) {d : ℕ} {p : Around} {s : Statement} {ts us : List Token} → IsStatement d p ts s us → n + 2 * d ≤ 300 →
      statement_size 150 n s + 201 * weight us ≤ 201 * weight ts
  statement_bound n text_statement depth = omega arith
  statement_bound n (print_statement e) depth = let l = expression_bound e in omega arith
  statement_bound n (for_statement {t = target} {i = items} t i f w b e) depth =
      let j = targets_bound t in let k = binary_bound i in let l = iterable_bound target items f in let m = word_weighs w in
      let o = statements_bound 0 b (omega arith) in let q = else_bound n e (omega arith) in omega arith
  statement_bound n (if_statement {bs = bs} {other = other} e b more o f) depth =
      let j = expression_bound e in let k = statements_bound n b (omega arith) in let l = branches_bound n more (omega arith) in
      let m = else_bound n o (omega arith) in omega (arith, branched_size 150 n bs other, ap (statement_size 150 n) f)
  statement_bound n (with_statement a b) depth =
      let k = assignments_bound a in let l = statements_bound (suc n) b (omega arith) in omega arith
  statement_bound n (set_statement t v) depth = let k = targets_bound t in let l = values_bound v in omega arith
  statement_bound n (set_block_statement t f b) depth =
      let j = target_bound t in let k = chain_bound f in let l = statements_bound (suc (suc n)) b (omega arith) in omega arith
  statement_bound n (autoescape_statement e b) depth =
      let k = expression_bound e in let l = statements_bound (suc n) b (omega arith) in omega arith
  statement_bound n (filter_statement f c b) depth =
      let j = filter_bound f in let k = chain_bound c in let l = statements_bound (suc (suc n)) b (omega arith) in omega arith
  statement_bound n (block_statement q w b f e) depth =
      let j = word_weighs w in let k = statements_bound 0 b (omega arith) in let l = block_end_weighs e in omega arith
  statement_bound n (import_statement e a c) depth =
      let j = expression_bound e in let k = stored_bound a in let l = context_weighs c in omega arith
  statement_bound n (from_statement e i m c) depth =
      let j = expression_bound e in let k = import_bound i in let l = more_bound (imports_size 150) (λ x y vs ws i. import_bound i) m in
      let o = context_weighs c in omega arith
  statement_bound n (extends_statement e) depth = let l = expression_bound e in omega arith
  statement_bound n (include_statement e m) depth = let k = expression_bound e in let l = missing_weighs m in omega arith
  statement_bound n (macro_statement r q b e) depth =
      let k = parameters_bound q in let l = statements_bound 0 b (omega arith) in omega (arith, ap (statement_size 150 n) e)
  statement_bound n (call_statement q e b f) depth =
      let j = optional_parameters_bound q in let k = expression_bound e in let l = statements_bound 0 b (omega arith) in
      omega (arith, ap (statement_size 150 n) f)
  statement_bound n (do_statement e) depth = let l = expression_bound e in omega arith
  statement_bound n (break_statement e) depth = omega (arith, break_letters)
  statement_bound n (continue_statement e) depth = omega (arith, continue_letters)

  branches_bound : (n : ℕ) {d : ℕ} {p : Around} {bs all : Branches} {ts us : List Token} → IsBranches d p bs ts all us → n + 2 * d ≤ 300 →
      branches_size 150 n all + 201 * weight us ≤ branches_size 150 n bs + 201 * weight ts
  branches_bound n branches_end depth = omega arith
  branches_bound n (branches_next {c = c} {body = body} {bs = bs} e b more) depth =
      let j = expression_bound e in let k = statements_bound n b depth in let l = branches_bound n more depth in
      omega (arith, and_branch_size 150 n bs c body)

  else_bound : (n : ℕ) {d : ℕ} {p : Around} {end : List ℕ} {body : Statements} {ts us : List Token} → IsElse d p end ts body us → n + 2 * d ≤ 300 →
      statements_size 150 n body + 201 * weight us ≤ 201 * weight ts
  else_bound n no_else depth = omega arith
  else_bound n (an_else b) depth = let l = statements_bound n b depth in omega arith

pub template_bound : {ts : List Token} {tree : Statements} → IsTemplate ts tree → statements_size 150 0 tree ≤ 201 * weight ts
template_bound (whole_template h distinct) = let l = statements_bound 0 h (omega arith) in omega arith
