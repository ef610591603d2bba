-- What follows from the laws on the reader.
use Rattle.std.proofs.Common.{◌≡◌, ℕ, ◌⊎◌, inl, inr, List, [], ◌∷◌, Ok, Err, refl, sym, ◌∙◌}
use Rattle.template_compiler_tree.specs.Tree.{Expression}
use Rattle.template_compiler_tokens.specs.Token.{Token}
use Rattle.template_compiler_grammar.specs.Ends.{Ends}
use Rattle.template_compiler_tokens.specs.Steps.{Read}
use Rattle.template_compiler_grammar.specs.TreeReader.{expression_at}
use Rattle.template_compiler_grammar.specs.Grammar.{IsExpression}
use Rattle.template_compiler_tokens.proofs.Readings.{ok_tree, ok_rest}
use Rattle.template_compiler_grammar.proofs.ReaderLaws.{tree_complete}
use Rattle.template_compiler_grammar.proofs.Sound.{expression_sound}

pub one_expression : (d : ℕ) (ts us vs : List Token) (e f : Expression) →
    IsExpression d ts e us → Ends us → IsExpression d ts f vs → Ends vs → (e ≡ f) × (us ≡ vs)
one_expression d ts us vs e f x h y g =
    let same = sym (tree_complete d ts us e x h) ∙ tree_complete d ts vs f y g in (ok_tree same, ok_rest same)

decided_by : (d : ℕ) (ts : List Token) (r : Read Expression) → expression_at d ts ≡ r →
    ((e : Expression) × IsExpression d ts e []) ⊎ ((e : Expression) → IsExpression d ts e [] → ⊥)
decided_by d ts (Err f) h = inr (λ e x. let read = tree_complete d ts [] e x tt in cc)
decided_by d ts (Ok (e, [])) h = inl (e, ((expression_sound d ts).tree e [] h).0)
decided_by d ts (Ok (e, t ∷ us)) h =
    inr (λ f x. let rest = ok_rest (sym h ∙ tree_complete d ts [] f x tt) in cc)

pub is_decided : (d : ℕ) (ts : List Token) →
    ((e : Expression) × IsExpression d ts e []) ⊎ ((e : Expression) → IsExpression d ts e [] → ⊥)
is_decided d ts = decided_by d ts (expression_at d ts) refl
