-- Where the nodes of a tree stand.
use Rattle.template_compiler_tree.specs.declared.span.Span.{Span}

mutual
  -- the span of a node, and the places of its parts that are nodes, in the order of the tree; what is left out has none
  pub data Places : Type 0 where
    at : Span → Parts → Places

  pub data Parts : Type 0 where
    no_parts : Parts
    parts_more : Places → Parts → Parts

abbrev pub one : Places → Parts
one p = parts_more p no_parts

abbrev pub and_parts : Parts → Parts → Parts
and_parts no_parts qs = qs
and_parts (parts_more p ps) qs = parts_more p (and_parts ps qs)

-- the span of the node itself
abbrev pub span_at : Places → Span
span_at (at span parts) = span
