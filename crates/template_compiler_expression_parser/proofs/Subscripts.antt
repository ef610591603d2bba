-- An item, by what is read of it in turn.
use Rattle.std.proofs.Common.{◌≡◌, false, Result, Ok, List, sym, ap, subst, ◌∙◌}
use Rattle.template_compiler_tree.specs.Tree.{item}
use Rattle.template_compiler_tree.specs.View.{expression_of}
use Rattle.template_compiler_tree.specs.ExpressionPlaces.{places_of}
use Rattle.template_compiler_tree.specs.NodePlaces.{at, one, parts_more}
use Rattle.template_compiler_tree.specs.declared.expressions.Expr.{Expr}
use Rattle.template_compiler_tree.specs.declared.span.Span.{Span}
use Rattle.template_compiler_tokens.specs.Places.{next_span, until}
use Rattle.template_compiler_tokens.specs.Token.{Token, colon}
use Rattle.template_compiler_tokens.specs.Steps.{Read}
use Rattle.template_compiler_tokens.proofs.Loops.{then_goes}
use Rattle.template_compiler_grammar.specs.ReaderParts.{bracket_end}
use Rattle.template_compiler_grammar.specs.Nodes.{Node, given_node, node, placed}
use Rattle.template_compiler_grammar.specs.Reader.{bound_by, subscript_behind, subscript_by}
use Rattle.template_compiler_grammar.specs.Views.{node_of}
use Rattle.template_compiler_stream.specs.declared.refusal.Refusal.{Refusal}
use Rattle.template_compiler_stream.specs.Signs.{begins_symbol}
use Rattle.template_compiler_expression_parts.specs.Parsed.{Parsed}
use Rattle.template_compiler_expression_parts.proofs.Nothing.{a_key}

-- its key, no colon, the node, and what the closing bracket leaves
pub item_read : (spans now : List Span) (read : List Token → Read Node) (start whole : Span) (a key : Node) (e : Expr) (ts mid next new : List Token)
    (r : Result Expr Refusal) → bound_by spans read ts ≡ Ok (given_node key, mid) → next ≡ mid → begins_symbol colon mid ≡ false → now ≡ spans →
    whole ≡ until start (next_span now next) → expression_of e ≡ item a.tree key.tree →
    places_of e ≡ at whole (parts_more a.places (one key.places)) → Parsed (bracket_end (node_of e) next) new r →
    Parsed (subscript_by spans read start a ts) new r
unfolding subscript_by
item_read spans now read start whole a key e ts mid next new r found same bare table stands tree places ended =
    let place : whole ≡ until start (next_span spans mid) =
    stands ∙ ap (λ (spans : List Span). until start (next_span spans next)) table ∙ ap (λ (ts : List Token). until start (next_span spans ts)) same in
    let made : node_of e ≡ node (item a.tree key.tree) (until start (next_span spans mid)) (parts_more a.places (one key.places)) =
    ap (λ t. placed t (places_of e)) tree ∙ ap (λ p. placed (item a.tree key.tree) p) places ∙
    ap (λ s. node (item a.tree key.tree) s (parts_more a.places (one key.places))) place in
    let whole : subscript_by spans read start a ts ≡ bracket_end (node_of e) next =
    then_goes (subscript_behind spans read start a) found
    (a_key spans read start a key mid bare ∙ ap (λ n. bracket_end n mid) (sym made) ∙ ap (λ (ts : List Token). bracket_end (node_of e) ts) (sym same)) in
    subst (λ (m : Read Node). Parsed m new r) (sym whole) ended
