-- Imported names, one behind the other: they are looked up from the first to the last, and stored from the last to the first.
use Rattle.std.proofs.Common.{◌≡◌, ℕ, ◌+◌, ◌<◌, ◌≤◌, zero, suc, Option, List, [], ◌∷◌, ◌++◌, length, take, drop, get_or, sym, ap, subst, ◌∙◌, append-nil, arith}
use Rattle.std.proofs.lemmas.List.{take_more, take_all, drop_more, drop_all}
use Rattle.template_compiler_tree_statements.specs.View.{imports_in}
use Rattle.template_compiler_tree.specs.View.{expression_of, optional_in}
use Rattle.template_compiler_tree.specs.Tree.{Imports, imports_more}
use Rattle.template_compiler_tree.specs.declared.expressions.Expr.{Expr}
use Rattle.template_compiler_walk.specs.Runnable.{IsRunnable, IsTarget, AreImports}
use Rattle.template_compiler_walk.specs.Statements.{imported_names, stored_as}
use Rattle.template_compiler_code.specs.Code.{Code}
use Rattle.template_compiler_code.specs.Listing.{code_in}
use Rattle.template_compiler_code.specs.declared.listing.Instructions.{Instructions}
use Rattle.template_compiler_codegen.specs.Expressions.{expression_code, expressions_code, then_code}
use Rattle.template_compiler_codegen.specs.Statements.{target_code}
use Rattle.template_compiler_emission.specs.Puts.{Puts}
use Rattle.template_compiler_emission.proofs.Putting.{puts_nothing, puts_then}
use Rattle.template_compiler_expression_codegen.proofs.Items.{then_assoc}
use Rattle.template_compiler_statement_codegen.specs.Imports.{stores_code}

-- a name, and its alias, if it has one
abbrev pub Named : Type 0
Named = Expr × Option Expr

abbrev pub named_code : List Named → ℕ → List Code
named_code ns = expressions_code (imported_names (imports_in ns))

named_push : (ns : List Named) (n : Named) (q : ℕ) → named_code (ns ++ n ∷ []) q ≡ then_code (named_code ns) (expression_code (expression_of n.0)) q
named_push [] n q =
    append-nil (expression_code (expression_of n.0) q) ∙ ap (λ (k : ℕ). expression_code (expression_of n.0) k) (omega arith)
named_push (x ∷ ns) n q =
    let first = expression_code (expression_of x.0) in
    ap (λ (l : List Code). first q ++ l) (named_push ns n (q + length (first q))) ∙
    then_assoc first (named_code ns) (expression_code (expression_of n.0)) q

-- one name more is looked up
pub puts_name : (ns : List Named) (i : ℕ) (n : Named) {a b c : Instructions} → i < length ns → n ≡ get_or ns i n
    → Puts (named_code (take i ns)) a b → Puts (expression_code (expression_of n.0)) b c → Puts (named_code (take (i + 1) ns)) a c
puts_name ns i n {a} {b} {c} within read first value =
    let both = puts_then first value in
    let q = length (code_in a) in
    record {
      code = both.code ∙ ap (λ (l : List Code). code_in a ++ l)
          (sym (named_push (take i ns) n q) ∙
          ap (λ (x : Named). named_code (take i ns ++ x ∷ []) q) read ∙
          ap (λ (l : List Named). named_code l q) (sym (take_more ns i n within)));
      same = both.same;
    }

pub puts_names : (ns : List Named) (i : ℕ) {a b : Instructions} → length ns ≤ i → Puts (named_code (take i ns)) a b → Puts (named_code ns) a b
puts_names ns i {a} {b} all puts = subst (λ (l : List Named). Puts (named_code l) a b) (take_all i ns all) puts

pub name_at : (ns : List Named) (i : ℕ) (n : Named) → AreImports (imports_in ns) → i < length ns → n ≡ get_or ns i n
    → IsRunnable (expression_of n.0) × IsTarget (stored_as (expression_of n.0) (optional_in n.1))
name_at [] i n h within read = absurd (omega (arith, within))
name_at (x ∷ ns) zero n h within read =
    subst (λ (y : Named). IsRunnable (expression_of y.0) × IsTarget (stored_as (expression_of y.0) (optional_in y.1))) (sym read) (h.0, h.1)
name_at (x ∷ ns) (suc i) n h within read = name_at ns i n h.2 (omega (arith, within)) read

-- those from a place on are stored
pub stores_none : (ns : List Named) (i : ℕ) (a : Instructions) → length ns ≤ i → Puts (stores_code (imports_in (drop i ns))) a a
stores_none ns i a all = subst (λ (l : List Named). Puts (stores_code (imports_in l)) a a) (sym (drop_all i ns all)) (puts_nothing a)

pub stores_one : (ns : List Named) (i : ℕ) (n : Named) (target : Expr) {a b c : Instructions} → i < length ns → n ≡ get_or ns i n
    → expression_of target ≡ stored_as (expression_of n.0) (optional_in n.1)
    → Puts (stores_code (imports_in (drop (i + 1) ns))) a b → Puts (target_code (expression_of target)) b c
    → Puts (stores_code (imports_in (drop i ns))) a c
stores_one ns i n target {a} {b} {c} within read is later put =
    let rest = imports_in (drop (i + 1) ns) in
    let here : imports_in (drop i ns) ≡ imports_more (expression_of n.0) (optional_in n.1) rest =
    ap (λ (l : List Named). imports_in l) (drop_more ns i n within) ∙
    ap (λ (x : Named). imports_more (expression_of x.0) (optional_in x.1) rest) (sym read) in
    let both : Puts (stores_code (imports_more (expression_of n.0) (optional_in n.1) rest)) a c =
    puts_then later (subst (λ e. Puts (target_code e) b c) is put) in
    subst (λ (names : Imports). Puts (stores_code names) a c) (sym here) both
