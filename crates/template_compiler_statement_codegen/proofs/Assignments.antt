-- Assignments, one behind the other.
use Rattle.std.proofs.Common.{◌≡◌, ℕ, ◌+◌, ◌<◌, ◌≤◌, zero, suc, List, [], ◌∷◌, ◌++◌, length, take, get_or, sym, ap, subst, ◌∙◌, append-nil, arith}
use Rattle.std.proofs.lemmas.List.{take_more, take_all}
use Rattle.template_compiler_tree_statements.specs.View.{assignments_in}
use Rattle.template_compiler_tree.specs.View.{expression_of}
use Rattle.template_compiler_tree.specs.declared.expressions.Expr.{Expr}
use Rattle.template_compiler_walk.specs.Runnable.{IsRunnable, IsTarget, AreAssignments}
use Rattle.template_compiler_code.specs.Code.{Code}
use Rattle.template_compiler_code.specs.Listing.{code_in}
use Rattle.template_compiler_code.specs.declared.listing.Instructions.{Instructions}
use Rattle.template_compiler_codegen.specs.Expressions.{Coded, expression_code, then_code}
use Rattle.template_compiler_codegen.specs.Statements.{assignments_code, target_code}
use Rattle.template_compiler_emission.specs.Puts.{Puts}
use Rattle.template_compiler_emission.proofs.Putting.{puts_then}
use Rattle.template_compiler_expression_codegen.proofs.Items.{then_assoc}

-- a value, and then what stores it
abbrev pub stored : Expr × Expr → Coded
stored pair = then_code (expression_code (expression_of pair.1)) (target_code (expression_of pair.0))

assignments_push : (ps : List (Expr × Expr)) (p : Expr × Expr) (q : ℕ)
    → assignments_code (assignments_in (ps ++ p ∷ [])) q ≡ then_code (assignments_code (assignments_in ps)) (stored p) q
assignments_push [] p q =
    let value = expression_code (expression_of p.1) in
    let target = target_code (expression_of p.0) in
    let m = q + length (value q) in
    ap (λ (l : List Code). value q ++ l) (append-nil (target m)) ∙ ap (λ (k : ℕ). stored p k) (omega arith)
assignments_push (x ∷ ps) p q =
    let value = expression_code (expression_of x.1) in
    let target = target_code (expression_of x.0) in
    let rest = assignments_code (assignments_in ps) in
    let m = q + length (value q) in
    let n = m + length (target m) in
    ap (λ (l : List Code). value q ++ (target m ++ l)) (assignments_push ps p n) ∙
    ap (λ (l : List Code). value q ++ l) (then_assoc target rest (stored p) m) ∙
    then_assoc value (then_code target rest) (stored p) q

-- one assignment more
pub puts_assignment : (ps : List (Expr × Expr)) (i : ℕ) (p : Expr × Expr) {a b c d : Instructions} → i < length ps → p ≡ get_or ps i p
    → Puts (assignments_code (assignments_in (take i ps))) a b → Puts (expression_code (expression_of p.1)) b c
    → Puts (target_code (expression_of p.0)) c d → Puts (assignments_code (assignments_in (take (i + 1) ps))) a d
puts_assignment ps i p {a} {b} {c} {d} within read first value target =
    let all = puts_then first (puts_then value target) in
    let q = length (code_in a) in
    record {
      code = all.code ∙ ap (λ (l : List Code). code_in a ++ l)
          (sym (assignments_push (take i ps) p q) ∙
          ap (λ (x : Expr × Expr). assignments_code (assignments_in (take i ps ++ x ∷ [])) q) read ∙
          ap (λ (l : List (Expr × Expr)). assignments_code (assignments_in l) q) (sym (take_more ps i p within)));
      same = all.same;
    }

pub puts_assignments : (ps : List (Expr × Expr)) (i : ℕ) {a b : Instructions} → length ps ≤ i
    → Puts (assignments_code (assignments_in (take i ps))) a b → Puts (assignments_code (assignments_in ps)) a b
puts_assignments ps i {a} {b} all puts = subst (λ (l : List (Expr × Expr)). Puts (assignments_code (assignments_in l)) a b) (take_all i ps all) puts

pub assignment_at : (ps : List (Expr × Expr)) (i : ℕ) (p : Expr × Expr) → AreAssignments (assignments_in ps) → i < length ps → p ≡ get_or ps i p
    → IsTarget (expression_of p.0) × IsRunnable (expression_of p.1)
assignment_at [] i p h within read = absurd (omega (arith, within))
assignment_at (x ∷ ps) zero p h within read =
    subst (λ (y : Expr × Expr). IsTarget (expression_of y.0) × IsRunnable (expression_of y.1)) (sym read) (h.0, h.1)
assignment_at (x ∷ ps) (suc i) p h within read = assignment_at ps i p h.2 (omega (arith, within)) read
