-- The entries of a map, one behind the other.
use Rattle.std.proofs.Common.{◌≡◌, ℕ, ◌+◌, ◌<◌, ◌≤◌, suc, List, [], ◌++◌, length, get_or, drop, refl, sym, ap, ◌∙◌, append-nil, arith}
use Rattle.std.proofs.lemmas.List.{drop_more, drop_all}
use Rattle.template_compiler_tree.specs.Tree.{Expressions, no_expressions, expressions_more}
use Rattle.template_compiler_tree.specs.View.{expression_of, expressions_in}
use Rattle.template_compiler_tree.specs.declared.expressions.Expr.{Expr}
use Rattle.template_compiler_code.specs.Code.{Code}
use Rattle.template_compiler_code.specs.Listing.{code_in}
use Rattle.template_compiler_code.specs.declared.listing.Instructions.{Instructions}
use Rattle.template_compiler_codegen.specs.Expressions.{Coded, then_code, expression_code, entries_code, codes_of, entry_count}
use Rattle.template_compiler_emission.specs.Puts.{Puts}
use Rattle.template_compiler_emission.proofs.Pieces.{two_pieces}
use Rattle.template_compiler_emission.proofs.Putting.{puts_then}
use Rattle.template_compiler_expression_codegen.proofs.Items.{then_assoc}

-- the code of the entries from a place on, and their number
abbrev pub entries_from : List Expr → List Expr → ℕ → Coded
entries_from ks vs i = entries_code (expressions_in (drop i ks)) (codes_of (expressions_in (drop i vs)))

abbrev pub count_from : List Expr → List Expr → ℕ → ℕ
count_from ks vs i = entry_count (expressions_in (drop i ks)) (codes_of (expressions_in (drop i vs)))

expressions_at : (es : List Expr) (i : ℕ) (e : Expr) → i < length es → e ≡ get_or es i e
    → expressions_in (drop i es) ≡ expressions_more (expression_of e) (expressions_in (drop (i + 1) es))
expressions_at es i e within read =
    ap (λ (l : List Expr). expressions_in l) (drop_more es i e within) ∙
    ap (λ (x : Expr). expressions_more (expression_of x) (expressions_in (drop (i + 1) es))) (sym read)

entries_split : (ks vs : List Expr) (i : ℕ) (k v : Expr) → i < length ks → i < length vs → k ≡ get_or ks i k → v ≡ get_or vs i v → (p : ℕ)
    → entries_from ks vs i p ≡ then_code (expression_code (expression_of k)) (then_code (expression_code (expression_of v)) (entries_from ks vs (i + 1))) p
entries_split ks vs i k v in_keys in_values key value p =
    ap (λ (es : Expressions). entries_code es (codes_of (expressions_in (drop i vs))) p) (expressions_at ks i k in_keys key) ∙
    ap (λ (es : Expressions). entries_code (expressions_more (expression_of k) (expressions_in (drop (i + 1) ks))) (codes_of es) p)
    (expressions_at vs i v in_values value)

-- one entry more
pub entry_more : (ks vs : List Expr) (i : ℕ) (k v : Expr) {a b c : Instructions} → i < length ks → i < length vs → k ≡ get_or ks i k → v ≡ get_or vs i v
    → Puts (expression_code (expression_of k)) a b → Puts (expression_code (expression_of v)) b c
    → code_in c ++ entries_from ks vs (i + 1) (length (code_in c)) ≡ code_in a ++ entries_from ks vs i (length (code_in a))
entry_more ks vs i k v {a} {b} {c} in_keys in_values key value first second =
    let first_code = expression_code (expression_of k) in
    let second_code = expression_code (expression_of v) in
    let rest = entries_from ks vs (i + 1) in
    let p = length (code_in a) in
    let both = puts_then first second in
    two_pieces (then_code first_code second_code) rest (code_in a) (code_in c) (code_in c ++ rest (length (code_in c))) both.code refl ∙
    ap (λ (l : List Code). code_in a ++ l)
    (sym (then_assoc first_code second_code rest p) ∙ sym (entries_split ks vs i k v in_keys in_values key value p))

pub count_more : (ks vs : List Expr) (i : ℕ) (k v : Expr) → i < length ks → i < length vs → k ≡ get_or ks i k → v ≡ get_or vs i v
    → i + 1 + count_from ks vs (i + 1) ≡ i + count_from ks vs i
count_more ks vs i k v in_keys in_values key value =
    let split : count_from ks vs i ≡ suc (count_from ks vs (i + 1)) =
    ap (λ (es : Expressions). entry_count es (codes_of (expressions_in (drop i vs)))) (expressions_at ks i k in_keys key) ∙
    ap (λ (es : Expressions). entry_count (expressions_more (expression_of k) (expressions_in (drop (i + 1) ks))) (codes_of es))
    (expressions_at vs i v in_values value) in
    omega (arith, split)

none_coded : (es : Expressions) (p : ℕ) → entries_code es [] p ≡ []
none_coded no_expressions p = refl
none_coded (expressions_more e es) p = refl

none_counted : (es : Expressions) → entry_count es [] ≡ 0
none_counted no_expressions = refl
none_counted (expressions_more e es) = refl

-- no key is left, or no value
pub no_key_left : (ks vs : List Expr) (i : ℕ) (xs : List Code) → length ks ≤ i → xs ++ entries_from ks vs i (length xs) ≡ xs
no_key_left ks vs i xs all =
    ap (λ (l : List Expr). xs ++ entries_code (expressions_in l) (codes_of (expressions_in (drop i vs))) (length xs)) (drop_all i ks all) ∙ append-nil xs

pub no_value_left : (ks vs : List Expr) (i : ℕ) (xs : List Code) → length vs ≤ i → xs ++ entries_from ks vs i (length xs) ≡ xs
no_value_left ks vs i xs all =
    ap (λ (l : List Expr). xs ++ entries_code (expressions_in (drop i ks)) (codes_of (expressions_in l)) (length xs)) (drop_all i vs all) ∙
    ap (λ (l : List Code). xs ++ l) (none_coded (expressions_in (drop i ks)) (length xs)) ∙ append-nil xs

pub no_key_counted : (ks vs : List Expr) (i : ℕ) → length ks ≤ i → count_from ks vs i ≡ 0
no_key_counted ks vs i all =
    ap (λ (l : List Expr). entry_count (expressions_in l) (codes_of (expressions_in (drop i vs)))) (drop_all i ks all)

pub no_value_counted : (ks vs : List Expr) (i : ℕ) → length vs ≤ i → count_from ks vs i ≡ 0
no_value_counted ks vs i all =
    ap (λ (l : List Expr). entry_count (expressions_in (drop i ks)) (codes_of (expressions_in l))) (drop_all i vs all) ∙
    none_counted (expressions_in (drop i ks))
