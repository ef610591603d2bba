-- The literals of a list that were read so far, and the rest of the list.
use Rattle.std.proofs.Common.{◌≡◌, ℕ, ◌+◌, ◌<◌, ◌≤◌, List, [], ◌∷◌, ◌++◌, length, get_or, drop, Option, None, Some, Box, Global, refl, sym, ap, ◌∙◌, append-nil, append_assoc}
use Rattle.std.proofs.lemmas.List.{drop_more, drop_all}
use Rattle.template_values_model.specs.Val.{Val}
use Rattle.template_compiler_tree.specs.View.{expression_of, expressions_in}
use Rattle.template_compiler_tree.specs.declared.span.Spanned.{Spanned}
use Rattle.template_compiler_tree.specs.declared.expressions.Const.{Const as Literal}
use Rattle.template_compiler_tree.specs.declared.expressions.Expr.{Expr, Const, Compare'}
use Rattle.template_compiler_tree.specs.declared.expressions.Compare.{Compare' as compared}
use Rattle.template_compiler_walk.specs.Constants.{both, literal_of, literals_of}

-- a node that is no constant is no literal
pub other_than_literal : (e : Expr) → ((x : Box (Spanned Literal) Global) → e ≡ Const x → ⊥) → None ≡ literal_of (expression_of e)
other_than_literal (Const n) h = absurd (h n refl)
other_than_literal (Compare' p (compared expr shape ops) span) h = refl
other_than_literal _ h = refl

-- values, and then those that are left, where there are such
abbrev pub joined : List Val → Option (List Val) → Option (List Val)
joined vs (Some ws) = Some (vs ++ ws)
joined vs None = None

joined_one : (vs : List Val) (v : Val) (rest : Option (List Val)) → joined vs (both (λ w ws. w ∷ ws) (Some v) rest) ≡ joined (vs ++ v ∷ []) rest
joined_one vs v None = refl
joined_one vs v (Some ws) = ap (λ (l : List Val). Some l) (sym (append_assoc vs (v ∷ []) ws))

-- one literal more
pub one_literal : (es : List Expr) (i : ℕ) (e : Expr) (vs : List Val) (v : Val) → i < length es → e ≡ get_or es i e
    → Some v ≡ literal_of (expression_of e)
    → joined vs (literals_of (expressions_in (drop i es))) ≡ joined (vs ++ v ∷ []) (literals_of (expressions_in (drop (i + 1) es)))
one_literal es i e vs v within read is =
    let rest = literals_of (expressions_in (drop (i + 1) es)) in
    ap (λ (l : List Expr). joined vs (literals_of (expressions_in l))) (drop_more es i e within) ∙
    ap (λ (x : Expr). joined vs (both (λ w ws. w ∷ ws) (literal_of (expression_of x)) rest)) (sym read) ∙
    ap (λ (o : Option Val). joined vs (both (λ w ws. w ∷ ws) o rest)) (sym is) ∙ joined_one vs v rest

-- where one is no literal, there are none
pub no_literal : (es : List Expr) (i : ℕ) (e : Expr) (vs : List Val) → i < length es → e ≡ get_or es i e
    → None ≡ literal_of (expression_of e) → joined vs (literals_of (expressions_in (drop i es))) ≡ None
no_literal es i e vs within read is =
    let rest = literals_of (expressions_in (drop (i + 1) es)) in
    ap (λ (l : List Expr). joined vs (literals_of (expressions_in l))) (drop_more es i e within) ∙
    ap (λ (x : Expr). joined vs (both (λ w ws. w ∷ ws) (literal_of (expression_of x)) rest)) (sym read) ∙
    ap (λ (o : Option Val). joined vs (both (λ w ws. w ∷ ws) o rest)) (sym is)

-- all were read
pub all_literals : (es : List Expr) (i : ℕ) (vs : List Val) → length es ≤ i → joined vs (literals_of (expressions_in (drop i es))) ≡ Some vs
all_literals es i vs all =
    ap (λ (l : List Expr). joined vs (literals_of (expressions_in l))) (drop_all i es all) ∙ ap (λ (l : List Val). Some l) (append-nil vs)
