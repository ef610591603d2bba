-- Comparisons behind a sum, by what stands next.
use Rattle.std.proofs.Common.{◌≡◌, codes, Bool, true, false, if◌then◌else◌, Result, Ok, Err, List, [], ◌∷◌, None, Some, refl, sym, ap, ◌∙◌}
use Rattle.template_compiler_tree.specs.declared.span.Span.{Span}
use Rattle.template_compiler_tree.specs.declared.operators.CompareOpKind.{CompareOpKind}
use Rattle.template_compiler_tree.specs.declared.operators.CompareOpKind.TheVariants as comparisons
use Rattle.template_compiler_tokens.specs.Token.{Token, TokenFault, bad, identifier}
use Rattle.template_compiler_grammar.specs.Words.{begins_word, is_word, comparison_operator}
use Rattle.template_compiler_grammar.specs.Nodes.{Node, PlacedLinks, and_placed_link}
use Rattle.template_compiler_tokens.specs.Steps.{Read, fault, Step, goes, stops, fails, under}
use Rattle.template_compiler_grammar.specs.Reader.{link_behind, link_step, not_in_link}
use Rattle.template_compiler_stream.specs.declared.refusal.Refusal.{Refusal}
use Rattle.template_compiler_stream.specs.declared.refusal.Refusal.TheVariants as refusals
use Rattle.template_compiler_stream.specs.Left.{passed}
use Rattle.template_compiler_stream.specs.Signs.{next_comparison}
use Rattle.template_compiler_expression_parts.specs.Parsed.{SteppedTo}

-- a round that never stops, whatever stands before it
moved : (s whole : Step PlacedLinks) (ls ms : PlacedLinks) (old mid new : List Token) (r : Result Bool Refusal) → whole ≡ s → (s ≡ stops → ⊥) →
    SteppedTo s ls mid ms new r → SteppedTo whole ls old ms new r
moved s whole ls ms old mid new (Ok true) same never h = same ∙ h
moved s whole ls ms old mid new (Ok false) same never h = absurd (never h.0)
moved s whole ls ms old mid new (Err (refusals.Token f)) same never h = same ∙ h
moved s whole ls ms old mid new (Err refusals.OutOfMemory) same never h = tt

under_never : {A B : Type 0} (m : Read A) (make : A → B) → under m (λ a us. goes (make a) us) ≡ stops → ⊥
unfolding under
under_never (Ok x) make e = cc
under_never (Err f) make e = cc

link_never : (spans : List Span) (op : CompareOpKind) (read : List Token → Read Node) (ls : PlacedLinks) (ts : List Token) → link_behind spans (Some op) false read ls ts ≡ stops → ⊥
unfolding link_behind
link_never spans op read ls ts e = under_never (read ts) (λ b. and_placed_link ls op b) e

not_in_by : (b : Bool) (f : TokenFault) (m : Read Node) (ls : PlacedLinks) →
    (if b then under m (λ e us. goes (and_placed_link ls comparisons.NotIn e) us) else fails f) ≡ stops → ⊥
not_in_by true f m ls e = under_never m (λ b. and_placed_link ls comparisons.NotIn b) e
not_in_by false f m ls e = cc

not_in_never : (spans : List Span) (read : List Token → Read Node) (ls : PlacedLinks) (ts : List Token) → not_in_link spans read ls ts ≡ stops → ⊥
unfolding not_in_link
not_in_never spans read ls [] e = cc
not_in_never spans read ls (t ∷ ts) e = not_in_by (is_word (codes "in") t) (fault (t ∷ ts)) (read ts) ls e

comparison_passed : (t : Token) (ts : List Token) (op : CompareOpKind) → comparison_operator t ≡ Some op → passed (t ∷ ts) ≡ ts
comparison_passed (bad f) ts op e = cc
comparison_passed _ ts op e = refl

link_at : (spans : List Span) (read : List Token → Read Node) (ls : PlacedLinks) (t : Token) (ts : List Token) (op : CompareOpKind) → comparison_operator t ≡ Some op →
    link_step spans read ls (t ∷ ts) ≡ link_behind spans (Some op) false read ls ts
unfolding link_step link_behind
link_at spans read ls t ts op e = ap (λ o. link_behind spans o (is_word (codes "not") t) read ls ts) e

pub link_found : (spans : List Span) (read : List Token → Read Node) (ls ms : PlacedLinks) (op : CompareOpKind) (old mid new : List Token) (r : Result Bool Refusal) →
    Some op ≡ next_comparison old → mid ≡ passed old → SteppedTo (link_behind spans (Some op) false read ls mid) ls mid ms new r →
    SteppedTo (link_step spans read ls old) ls old ms new r
link_found spans read ls ms op [] mid new r e f h = cc
link_found spans read ls ms op (t ∷ ts) mid new r e f h =
    let same = link_at spans read ls t ts op (sym e) ∙ ap (λ us. link_behind spans (Some op) false read ls us) (sym (f ∙ comparison_passed t ts op (sym e))) in
    moved (link_behind spans (Some op) false read ls mid) (link_step spans read ls (t ∷ ts)) ls ms (t ∷ ts) mid new r same (link_never spans op read ls mid) h

link_not_at : (spans : List Span) (read : List Token → Read Node) (ls : PlacedLinks) (ts : List Token) →
    link_step spans read ls (identifier (codes "not") ∷ ts) ≡ not_in_link spans read ls ts
unfolding link_step link_behind
link_not_at spans read ls ts = refl

pub link_not : (spans : List Span) (read : List Token → Read Node) (ls ms : PlacedLinks) (old mid new : List Token) (r : Result Bool Refusal) →
    old ≡ identifier (codes "not") ∷ mid → SteppedTo (not_in_link spans read ls mid) ls mid ms new r → SteppedTo (link_step spans read ls old) ls old ms new r
link_not spans read ls ms old mid new r e h =
    moved (not_in_link spans read ls mid) (link_step spans read ls old) ls ms old mid new r
    (ap (λ us. link_step spans read ls us) e ∙ link_not_at spans read ls mid) (not_in_never spans read ls mid) h

pub link_none : (spans : List Span) (read : List Token → Read Node) (ls : PlacedLinks) (ts : List Token) → None ≡ next_comparison ts → begins_word (codes "not") ts ≡ false →
    link_step spans read ls ts ≡ stops
unfolding link_step link_behind
link_none spans read ls [] e f = refl
link_none spans read ls (t ∷ ts) e f =
    ap (λ o. link_behind spans o (is_word (codes "not") t) read ls ts) (sym e) ∙ ap (λ b. link_behind spans None b read ls ts) f
