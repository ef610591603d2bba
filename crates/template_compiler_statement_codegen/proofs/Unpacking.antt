-- The targets of a list, one behind the other.
use Rattle.std.proofs.Common.{◌≡◌, ℕ, ◌+◌, ◌<◌, ◌≤◌, zero, suc, List, [], ◌∷◌, ◌++◌, length, take, get_or, sym, ap, subst, ◌∙◌, append-nil, arith, Box, Global}
use Rattle.std.proofs.lemmas.List.{take_more, take_all}
use Rattle.template_compiler_tree.specs.declared.span.Spanned.{Spanned}
use Rattle.template_compiler_tree.specs.declared.expressions.Compare.{Compare, Compare' as compared}
use Rattle.template_compiler_tree.specs.View.{chain_of, expression_of, expressions_in}
use Rattle.template_compiler_tree.specs.declared.expressions.Expr.{Expr, Compare as CompareNode}
use Rattle.template_compiler_walk.specs.Runnable.{IsTarget, AreTargets}
use Rattle.template_compiler_code.specs.Code.{Code}
use Rattle.template_compiler_code.specs.Listing.{code_in}
use Rattle.template_compiler_code.specs.declared.listing.Instructions.{Instructions}
use Rattle.template_compiler_codegen.specs.Expressions.{Coded, then_code}
use Rattle.template_compiler_codegen.specs.Statements.{target_code, targets_code}
use Rattle.template_compiler_emission.specs.Puts.{Puts}
use Rattle.template_compiler_emission.proofs.Putting.{puts_then}
use Rattle.template_compiler_expression_codegen.proofs.Items.{then_assoc}

targets_push : (es : List Expr) (e : Expr) (p : ℕ)
    → targets_code (expressions_in (es ++ e ∷ [])) p ≡ then_code (targets_code (expressions_in es)) (target_code (expression_of e)) p
targets_push [] e p = append-nil (target_code (expression_of e) p) ∙ ap (λ (q : ℕ). target_code (expression_of e) q) (omega arith)
targets_push (x ∷ es) e p =
    let first = target_code (expression_of x) in
    ap (λ (l : List Code). first p ++ l) (targets_push es e (p + length (first p))) ∙
    then_assoc first (targets_code (expressions_in es)) (target_code (expression_of e)) p

-- one target more, behind what stands before them
pub puts_target : (f : Coded) (es : List Expr) (i : ℕ) (e : Expr) {a b c : Instructions} → i < length es → e ≡ get_or es i e
    → Puts (then_code f (targets_code (expressions_in (take i es)))) a b → Puts (target_code (expression_of e)) b c
    → Puts (then_code f (targets_code (expressions_in (take (i + 1) es)))) a c
puts_target f es i e {a} {b} {c} within read first second =
    let both = puts_then first second in
    let p = length (code_in a) in
    let q = p + length (f p) in
    let grown : targets_code (expressions_in (take (i + 1) es)) q ≡ then_code (targets_code (expressions_in (take i es))) (target_code (expression_of e)) q =
    ap (λ (l : List Expr). targets_code (expressions_in l) q) (take_more es i e within) ∙
    ap (λ (x : Expr). targets_code (expressions_in (take i es ++ x ∷ [])) q) (sym read) ∙ targets_push (take i es) e q in
    record {
      code = both.code ∙ ap (λ (l : List Code). code_in a ++ l)
          (sym (then_assoc f (targets_code (expressions_in (take i es))) (target_code (expression_of e)) p) ∙
          ap (λ (l : List Code). f p ++ l) (sym grown));
      same = both.same;
    }

pub puts_targets : (f : Coded) (es : List Expr) (i : ℕ) {a b : Instructions} → length es ≤ i
    → Puts (then_code f (targets_code (expressions_in (take i es)))) a b → Puts (then_code f (targets_code (expressions_in es))) a b
puts_targets f es i {a} {b} all puts = subst (λ (l : List Expr). Puts (then_code f (targets_code (expressions_in l))) a b) (take_all i es all) puts

pub target_at : (es : List Expr) (i : ℕ) (e : Expr) → AreTargets (expressions_in es) → i < length es → e ≡ get_or es i e → IsTarget (expression_of e)
target_at [] i e h within read = absurd (omega (arith, within))
target_at (x ∷ es) zero e h within read = subst (λ (y : Expr). IsTarget (expression_of y)) (sym read) h.0
target_at (x ∷ es) (suc i) e h within read = target_at es i e h.1 (omega (arith, within)) read

-- no comparison is a target
chain_by : (n : Box (Spanned Compare) Global) (v : Compare) → IsTarget (chain_of v) → ⊥
chain_by n (compared expr shape ops) h = h

pub chain_no_target : (n : Box (Spanned Compare) Global) → IsTarget (expression_of (CompareNode n)) → ⊥
chain_no_target n h = chain_by n n.value.node h
