-- What follows from the laws on the reader with places.
use Rattle.std.proofs.Common.{◌≡◌, ℕ, List, [], Ok, sym, ◌∙◌, ap}
use Rattle.template_compiler_tree.specs.declared.span.Span.{Span}
use Rattle.template_compiler_tree.specs.Tree.{Expression}
use Rattle.template_compiler_tokens.specs.Token.{Token}
use Rattle.template_compiler_tokens.proofs.Readings.{ok_tree}
use Rattle.template_compiler_grammar.specs.Ends.{Ends}
use Rattle.template_compiler_grammar.specs.Grammar.{IsExpression}
use Rattle.template_compiler_grammar.specs.DerivedExpressions.{expression_places}
use Rattle.template_compiler_grammar.specs.Nodes.{Node}
use Rattle.template_compiler_grammar.specs.Reader.{expression_at}
use Rattle.template_compiler_grammar.specs.TreeReader as tree
use Rattle.template_compiler_grammar.proofs.Readings.{bare_reads, tree_of}
use Rattle.template_compiler_grammar.proofs.Complete.{expression_complete}
use Rattle.template_compiler_grammar.proofs.Sound.{expression_both, expression_erased}

pub expression_sound_placed : (spans : List Span) (d : ℕ) (ts us : List Token) (e : Node) →
    expression_at spans d ts ≡ Ok (e, us) → Ends us → (read : IsExpression d ts e.tree us) × (e.places ≡ expression_places spans read)
expression_sound_placed spans d ts us e read ends =
    let x = (tree_of (expression_both spans spans d ts) read).0 in
    (x, ap (λ e. e.places) (ok_tree (sym read ∙ expression_complete spans d ts us e.tree x ends)))

pub one_place : (spans : List Span) (d : ℕ) (ts us : List Token) (e : Expression) → (x y : IsExpression d ts e us) → Ends us →
    expression_places spans x ≡ expression_places spans y
one_place spans d ts us e x y ends =
    ap (λ e. e.places) (ok_tree (sym (expression_complete spans d ts us e x ends) ∙ expression_complete spans d ts us e y ends))

-- without the places
pub tree_complete : (d : ℕ) (ts us : List Token) (e : Expression) → IsExpression d ts e us → Ends us → tree.expression_at d ts ≡ Ok (e, us)
tree_complete d ts us e x ends = bare_reads (expression_erased [] d ts) (expression_complete [] d ts us e x ends)
