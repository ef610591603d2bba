-- The items of a container, one behind the other.
use Rattle.std.proofs.Common.{◌≡◌, ℕ, ◌+◌, ◌<◌, ◌≤◌, zero, suc, List, [], ◌∷◌, ◌++◌, length, take, get_or, refl, sym, ap, subst, ◌∙◌, append-nil, append_assoc, length-append, arith}
use Rattle.std.proofs.lemmas.List.{take_more, take_all}
use Rattle.template_compiler_tree.specs.View.{expression_of, expressions_in}
use Rattle.template_compiler_tree.specs.declared.expressions.Expr.{Expr}
use Rattle.template_compiler_walk.specs.Runnable.{IsRunnable, AreRunnable}
use Rattle.template_compiler_walk.specs.Statements.{number_of}
use Rattle.template_compiler_code.specs.Code.{Code}
use Rattle.template_compiler_code.specs.Listing.{code_in}
use Rattle.template_compiler_code.specs.declared.listing.Instructions.{Instructions}
use Rattle.template_compiler_codegen.specs.Expressions.{Coded, then_code, expression_code, expressions_code}
use Rattle.template_compiler_emission.specs.Puts.{Puts}
use Rattle.template_compiler_emission.proofs.Putting.{puts_then}

pub then_assoc : (f g h : Coded) (p : ℕ) → then_code f (then_code g h) p ≡ then_code (then_code f g) h p
then_assoc f g h p =
    let xs = f p in
    let ys = g (p + length xs) in
    sym (append_assoc xs ys (h (p + length xs + length ys))) ∙
    ap (λ (q : ℕ). (xs ++ ys) ++ h q) (omega (arith, length-append xs ys))

items_push : (es : List Expr) (e : Expr) (p : ℕ)
    → expressions_code (expressions_in (es ++ e ∷ [])) p ≡ then_code (expressions_code (expressions_in es)) (expression_code (expression_of e)) p
items_push [] e p = append-nil (expression_code (expression_of e) p) ∙ ap (λ (q : ℕ). expression_code (expression_of e) q) (omega arith)
items_push (x ∷ es) e p =
    let first = expression_code (expression_of x) in
    ap (λ (l : List Code). first p ++ l) (items_push es e (p + length (first p))) ∙
    then_assoc first (expressions_code (expressions_in es)) (expression_code (expression_of e)) p

-- one item more
pub puts_item : (es : List Expr) (i : ℕ) (e : Expr) {a b c : Instructions} → i < length es → e ≡ get_or es i e
    → Puts (expressions_code (expressions_in (take i es))) a b → Puts (expression_code (expression_of e)) b c
    → Puts (expressions_code (expressions_in (take (i + 1) es))) a c
puts_item es i e {a} {b} {c} within read first second =
    let both = puts_then first second in
    record {
      code = both.code ∙ ap (λ (l : List Code). code_in a ++ l)
          (sym (items_push (take i es) e (length (code_in a))) ∙
          ap (λ (x : Expr). expressions_code (expressions_in (take i es ++ x ∷ [])) (length (code_in a))) read ∙
          ap (λ (l : List Expr). expressions_code (expressions_in l) (length (code_in a))) (sym (take_more es i e within)));
      same = both.same;
    }

-- all items
pub puts_items : (es : List Expr) (i : ℕ) {a b : Instructions} → length es ≤ i
    → Puts (expressions_code (expressions_in (take i es))) a b → Puts (expressions_code (expressions_in es)) a b
puts_items es i {a} {b} all puts =
    subst (λ (l : List Expr). Puts (expressions_code (expressions_in l)) a b) (take_all i es all) puts

pub number_is : (es : List Expr) → number_of (expressions_in es) ≡ length es
number_is [] = refl
number_is (e ∷ es) = ap suc (number_is es)

pub item_runnable : (es : List Expr) (i : ℕ) (e : Expr) → AreRunnable (expressions_in es) → i < length es → e ≡ get_or es i e
    → IsRunnable (expression_of e)
item_runnable [] i e h within read = absurd (omega (arith, within))
item_runnable (x ∷ es) zero e h within read = subst (λ (y : Expr). IsRunnable (expression_of y)) (sym read) h.0
item_runnable (x ∷ es) (suc i) e h within read = item_runnable es i e h.1 (omega (arith, within)) read
