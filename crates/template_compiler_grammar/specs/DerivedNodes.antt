-- The places of the nodes that productions put together.
use Rattle.std.specs.Prelude.{Bool, true, false, if◌then◌else◌, List}
use Rattle.template_compiler_tree.specs.declared.span.Span.{Span}
use Rattle.template_compiler_tree.specs.declared.operators.CompareOpKind.{CompareOpKind}
use Rattle.template_compiler_tree.specs.declared.operators.CompareOpKind.TheVariants.{NotIn}
use Rattle.template_compiler_tree.specs.Tree.{Links, no_links, links_more, Argument, positional, keyword, positional_spread, keyword_spread}
use Rattle.template_compiler_tokens.specs.Places.{next_span, until}
use Rattle.template_compiler_tokens.specs.Token.{Token}
use Rattle.template_compiler_tree.specs.NodePlaces.{Places, at, Parts, parts_more, one, and_parts}

-- from the next of the ones to the next of the others, as from bracket to bracket
abbrev pub enclosed : List Span → List Token → List Token → Span
enclosed spans opening closing = until (next_span spans opening) (next_span spans closing)

-- one more at the end
abbrev pub and_place : Parts → Places → Parts
and_place ps p = and_parts ps (one p)

-- a node, or its negation, which stands where it does
abbrev pub negated_at : Bool → Span → Parts → Places
negated_at negated span parts = if negated then at span (one (at span parts)) else at span parts

abbrev pub is_negated : CompareOpKind → Bool
is_negated NotIn = true
is_negated _ = false

-- a value and the comparisons behind it, with the places of their right sides
abbrev pub compared_at : Span → Places → Links → Parts → Places
compared_at span a no_links ps = a
compared_at span a (links_more op b no_links) ps = negated_at (is_negated op) span (parts_more a ps)
compared_at span a (links_more op b (links_more op' c ls)) ps = at span (parts_more a ps)

-- the arguments by place, and those by keyword
abbrev pub WrittenPlaces : Type 0
WrittenPlaces = Parts × Parts

abbrev pub and_written_place : WrittenPlaces → Argument → Places → WrittenPlaces
and_written_place w (positional e) p = (and_place w.0 p, w.1)
and_written_place w (positional_spread e) p = (and_place w.0 p, w.1)
and_written_place w (keyword name e) p = (w.0, and_place w.1 p)
and_written_place w (keyword_spread e) p = (w.0, and_place w.1 p)

-- a map's keys, and its values
abbrev pub PairedPlaces : Type 0
PairedPlaces = Parts × Parts

abbrev pub and_pair_place : PairedPlaces → Places → Places → PairedPlaces
and_pair_place p k v = (and_place p.0 k, and_place p.1 v)
