-- What follows from the laws on the reader with places.
use Rattle.std.proofs.Common.{◌≡◌, List, [], Result, Ok, Err, sym, ◌∙◌, ap}
use Rattle.template_compiler_tree.specs.declared.span.Span.{Span}
use Rattle.template_compiler_tree.specs.Tree.{Statements}
use Rattle.template_compiler_tree.specs.NodePlaces.{Places}
use Rattle.template_compiler_tokens.specs.Token.{Token, TokenFault}
use Rattle.template_compiler_grammar.specs.DerivedStatements.{template_places}
use Rattle.template_compiler_grammar.specs.TemplateGrammar.{IsTemplate}
use Rattle.template_compiler_grammar.specs.TemplateNodes.{PlacedTemplate, bare_template}
use Rattle.template_compiler_grammar.specs.TemplateReader.{template_of}
use Rattle.template_compiler_grammar.specs.TreeReader as tree
use Rattle.template_compiler_grammar.proofs.TemplatesComplete.{template_complete}
use Rattle.template_compiler_grammar.proofs.TemplatesSound.{template_erased, template_sound}

places_or : Places → Result PlacedTemplate TokenFault → Places
places_or p (Ok t) = t.places
places_or p (Err f) = p

same_places : {t u : PlacedTemplate} → ◌≡◌ {A = Result PlacedTemplate TokenFault} (Ok t) (Ok u) → t.places ≡ u.places
unfolding places_or
same_places {t = t} e = ap (places_or t.places) e

pub read_bare : (spans : List Span) (ts : List Token) (t : PlacedTemplate) → template_of spans ts ≡ Ok t → tree.template_of ts ≡ Ok t.tree
unfolding bare_template
read_bare spans ts t read = sym (template_erased spans ts) ∙ ap bare_template read

pub template_sound_placed : (spans : List Span) (ts : List Token) (t : PlacedTemplate) → template_of spans ts ≡ Ok t →
    (read : IsTemplate ts t.tree) × (t.places ≡ template_places spans read)
template_sound_placed spans ts t read =
    let x = template_sound ts t.tree (read_bare spans ts t read) in (x, same_places (sym read ∙ template_complete spans ts t.tree x))

pub one_place : (spans : List Span) (ts : List Token) (ss : Statements) → (x y : IsTemplate ts ss) →
    template_places spans x ≡ template_places spans y
one_place spans ts ss x y = same_places (sym (template_complete spans ts ss x) ∙ template_complete spans ts ss y)

-- without the places
pub tree_complete : (ts : List Token) (ss : Statements) → IsTemplate ts ss → tree.template_of ts ≡ Ok ss
tree_complete ts ss x = read_bare [] ts _ (template_complete [] ts ss x)
