-- Where there is room, a source is refused with one kind, and none that is accepted is refused.
use Rattle.std.proofs.Common.{◌≡◌, ◌⊎◌, ℕ, List, [], ◌∷◌, inl, inr, sym, ap, ◌∙◌}
use Rattle.template_values_errors.specs.declared.ErrorKind.{ErrorKind}
use Rattle.template_compiler_tree.specs.Tree.{template}
use Rattle.template_compiler_tokens.specs.Left.{kind_of}
use Rattle.template_compiler_tokens.specs.Token.{TokenFault}
use Rattle.template_compiler_syntax.specs.Syntax.{IsUsable}
use Rattle.template_compiler_sources.specs.Source.{IsAlone, IsFaulty, IsFaultyExpression, Refuses}
use Rattle.template_compiler_sources.proofs.Faults as faults
use Rattle.template_compiler_emission.specs.Puts.{NoRoom}
use Rattle.template_compiled.specs.Sources.{HasNoRoom, IsAccepted, IsRefusedWith, Source}
use Rattle.template_compiled.specs.Expressions.{IsAcceptedExpression, IsExpressionRefusedWith}

-- a refusal that tells no want of room: a fault of the source
abbrev Told : (TokenFault → Type 0) → List ErrorKind → Type 0
Told faulty kinds = (fault : TokenFault) × IsAlone (kind_of fault) kinds × faulty fault

told : (text : List ℕ) (faulty : TokenFault → Type 0) (kinds : List ErrorKind) → Refuses text faulty kinds ⊎ HasNoRoom text kinds → ¬ NoRoom kinds → Told faulty kinds
told text faulty kinds (inl (inl want)) room = absurd (room (inr want))
told text faulty kinds (inl (inr (inl large))) room = absurd (room (inl large.0))
told text faulty kinds (inl (inr (inr fault))) room = fault
told text faulty kinds (inr (inl full)) room = absurd (room (inl full.0))
told text faulty kinds (inr (inr want)) room = absurd (room (inr want))

one_kind : (faulty : TokenFault → Type 0) → ((f g : TokenFault) → faulty f → faulty g → f ≡ g) → (kinds others : List ErrorKind)
    → Told faulty kinds → Told faulty others → kinds ≡ others
one_kind faulty same kinds others (f, alone, is) (g, lone, too) = alone ∙ ap (λ f. kind_of f ∷ []) (same f g is too) ∙ sym lone

-- templates
pub one_refusal : (source : Source) (kinds others : List ErrorKind) → IsUsable source.syntax → IsRefusedWith source kinds
    → IsRefusedWith source others → ¬ NoRoom kinds → ¬ NoRoom others → kinds ≡ others
one_refusal source kinds others usable refused other room more =
    one_kind (IsFaulty source.syntax source.text) (λ f g. faults.one_fault source.syntax source.text f g usable) kinds others
    (told source.text (IsFaulty source.syntax source.text) kinds refused room)
    (told source.text (IsFaulty source.syntax source.text) others other more)

treeless : (source : Source) (kinds : List ErrorKind) → IsAccepted source → Told (IsFaulty source.syntax source.text) kinds → ⊥
treeless source kinds accepted (f, alone, faulty) = faulty.treeless (template accepted.0) accepted.1

pub accepted_or_refused : (source : Source) (kinds : List ErrorKind) → IsUsable source.syntax → IsAccepted source → IsRefusedWith source kinds
    → ¬ NoRoom kinds → ⊥
accepted_or_refused source kinds usable accepted refused room =
    treeless source kinds accepted (told source.text (IsFaulty source.syntax source.text) kinds refused room)

-- expressions
pub one_standalone_refusal : (source : List ℕ) (kinds others : List ErrorKind) → IsExpressionRefusedWith source kinds
    → IsExpressionRefusedWith source others → ¬ NoRoom kinds → ¬ NoRoom others → kinds ≡ others
one_standalone_refusal source kinds others refused other room more =
    one_kind (IsFaultyExpression source) (λ f g. faults.one_expression_fault source f g) kinds others
    (told source (IsFaultyExpression source) kinds refused room) (told source (IsFaultyExpression source) others other more)

none_alone : (source : List ℕ) (kinds : List ErrorKind) → IsAcceptedExpression source → Told (IsFaultyExpression source) kinds → ⊥
none_alone source kinds accepted (f, alone, faulty) = faulty.treeless accepted.0 accepted.1

pub accepted_or_refused_alone : (source : List ℕ) (kinds : List ErrorKind) → IsAcceptedExpression source
    → IsExpressionRefusedWith source kinds → ¬ NoRoom kinds → ⊥
accepted_or_refused_alone source kinds accepted refused room =
    none_alone source kinds accepted (told source (IsFaultyExpression source) kinds refused room)
