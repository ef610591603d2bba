-- A name has one escape: one of the endings is taken away, and one dot is the last.
use Rattle.std.proofs.Common.{◌≡◌, ◌∙◌, ℕ, suc, List, [], ◌∷◌, ◌++◌, get_or, reverse, ap, sym, subst, refl, inl, inr, codes, arith}
use Rattle.std.proofs.lemmas.List.{append_cancel_right, reverse-append}
use Rattle.template_values_errors.specs.declared.modes.AutoEscape.{AutoEscape}
use Rattle.template_machine_surroundings.specs.declared.escape.EscapeRule.{EscapeRule}
use Rattle.template_machine_surroundings.specs.declared.escape.EscapeRule.TheVariants.{ByName, Never, Fixed}
use Rattle.template_machine_surroundings.specs.Rule.{IsEscapeOf, IsExtensionOf, IsRuleOf, IsStemOf, LacksDots, rule_of_extension}

-- the ends of a name, read backwards
backwards : (name s t a b : List ℕ) → name ≡ s ++ a → name ≡ t ++ b → reverse a ++ reverse s ≡ reverse b ++ reverse t
backwards name s t a b p q = sym (reverse-append s a) ∙ ap reverse (sym p ∙ q) ∙ reverse-append t b

-- no name has two of the endings
j2_or_jinja2 : (name s t : List ℕ) → name ≡ s ++ codes ".j2" → name ≡ t ++ codes ".jinja2" → ⊥
j2_or_jinja2 name s t p q = let apart : 106 ≡ 97 = ap (λ xs. get_or xs 1 0) (backwards name s t (codes ".j2") (codes ".jinja2") p q) in absurd (omega (arith, apart))

j2_or_jinja : (name s t : List ℕ) → name ≡ s ++ codes ".j2" → name ≡ t ++ codes ".jinja" → ⊥
j2_or_jinja name s t p q = let apart : 50 ≡ 97 = ap (λ xs. get_or xs 0 0) (backwards name s t (codes ".j2") (codes ".jinja") p q) in absurd (omega (arith, apart))

jinja2_or_jinja : (name s t : List ℕ) → name ≡ s ++ codes ".jinja2" → name ≡ t ++ codes ".jinja" → ⊥
jinja2_or_jinja name s t p q = let apart : 50 ≡ 97 = ap (λ xs. get_or xs 0 0) (backwards name s t (codes ".jinja2") (codes ".jinja") p q) in absurd (omega (arith, apart))

one_stem : (name s t : List ℕ) → IsStemOf name s → IsStemOf name t → s ≡ t
one_stem name s t (inl p) (inl q) = append_cancel_right s t (codes ".j2") (sym p ∙ q)
one_stem name s t (inl p) (inr (inl q)) = absurd (j2_or_jinja2 name s t p q)
one_stem name s t (inl p) (inr (inr (inl q))) = absurd (j2_or_jinja name s t p q)
one_stem name s t (inl p) (inr (inr (inr k))) = absurd (k.1 s p)
one_stem name s t (inr (inl p)) (inl q) = absurd (j2_or_jinja2 name t s q p)
one_stem name s t (inr (inl p)) (inr (inl q)) = append_cancel_right s t (codes ".jinja2") (sym p ∙ q)
one_stem name s t (inr (inl p)) (inr (inr (inl q))) = absurd (jinja2_or_jinja name s t p q)
one_stem name s t (inr (inl p)) (inr (inr (inr k))) = absurd (k.2 s p)
one_stem name s t (inr (inr (inl p))) (inl q) = absurd (j2_or_jinja name t s q p)
one_stem name s t (inr (inr (inl p))) (inr (inl q)) = absurd (jinja2_or_jinja name t s q p)
one_stem name s t (inr (inr (inl p))) (inr (inr (inl q))) = append_cancel_right s t (codes ".jinja") (sym p ∙ q)
one_stem name s t (inr (inr (inl p))) (inr (inr (inr k))) = absurd (k.3 s p)
one_stem name s t (inr (inr (inr h))) (inl q) = absurd (h.1 t q)
one_stem name s t (inr (inr (inr h))) (inr (inl q)) = absurd (h.2 t q)
one_stem name s t (inr (inr (inr h))) (inr (inr (inl q))) = absurd (h.3 t q)
one_stem name s t (inr (inr (inr h))) (inr (inr (inr k))) = h.0 ∙ sym k.0

-- a dot stands where it stands
has_dot : (b e : List ℕ) → LacksDots (b ++ 46 ∷ e) → ⊥
has_dot [] e lacks = lacks 0 (omega arith) refl
has_dot (c ∷ b) e lacks = has_dot b e (λ k lt. lacks (suc k) (omega (arith, lt)))

-- what follows the first of a list
rest_of : (c d : ℕ) (s t : List ℕ) → c ∷ s ≡ d ∷ t → s ≡ t
rest_of c d s t is = cc

-- what follows the last dot
behind_last : (b d e f : List ℕ) → b ++ 46 ∷ e ≡ d ++ 46 ∷ f → LacksDots e → LacksDots f → e ≡ f
behind_last [] [] e f is lacks other = rest_of 46 46 e f is
behind_last [] (c ∷ d) e f is lacks other = absurd (has_dot d f (subst LacksDots (rest_of 46 c e (d ++ 46 ∷ f) is) lacks))
behind_last (c ∷ b) [] e f is lacks other = absurd (has_dot b e (subst LacksDots (sym (rest_of c 46 (b ++ 46 ∷ e) f is)) other))
behind_last (c ∷ b) (x ∷ d) e f is lacks other = behind_last b d e f (rest_of c x (b ++ 46 ∷ e) (d ++ 46 ∷ f) is) lacks other

one_extension : (s e f : List ℕ) → IsExtensionOf s e → IsExtensionOf s f → e ≡ f
one_extension s e f (inl p) (inl q) = behind_last p.0 q.0 e f (sym p.1 ∙ q.1) p.2 q.2
one_extension s e f (inl p) (inr q) = absurd (has_dot p.0 e (subst LacksDots p.1 q.1))
one_extension s e f (inr p) (inl q) = absurd (has_dot q.0 f (subst LacksDots q.1 p.1))
one_extension s e f (inr p) (inr q) = p.0 ∙ sym q.0

pub one_rule : (name : List ℕ) (rule other : AutoEscape) → IsRuleOf name rule → IsRuleOf name other → rule ≡ other
one_rule name rule other h k =
    let stem : h.0 ≡ k.0 = one_stem name h.0 k.0 h.2 k.2 in
    let extension = one_extension k.0 h.1 k.1 (subst (λ s. IsExtensionOf s h.1) stem h.3) k.3 in
    h.4 ∙ ap rule_of_extension extension ∙ sym k.4

-- under each rule
pub one_escape : (rule : EscapeRule) (name : List ℕ) (escape other : AutoEscape) → IsEscapeOf rule name escape → IsEscapeOf rule name other → escape ≡ other
one_escape ByName name escape other h k = one_rule name escape other h k
one_escape Never name escape other h k = h ∙ sym k
one_escape (Fixed fixed) name escape other h k = h ∙ sym k
