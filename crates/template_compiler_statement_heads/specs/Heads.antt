-- The heads of loops and of conditions, of `with`, `autoescape` and filter blocks, up to the ends of their tags: what the reader
-- with places reads of them before the body.
use Rattle.std.specs.Prelude.{Bool, false, codes, List, Ok}
use Rattle.template_compiler_tree.specs.declared.span.Span.{Span}
use Rattle.template_compiler_tokens.specs.Token.{Token}
use Rattle.template_compiler_tokens.specs.Steps.{Read, and_then}
use Rattle.template_compiler_grammar.specs.TemplateGrammar.{Around, loop_around}
use Rattle.template_compiler_grammar.specs.TemplateReaderParts.{expect_word, tag_end, word_by}
use Rattle.template_compiler_grammar.specs.Nodes.{Node, OptionalNode, no_node, given_node}
use Rattle.template_compiler_grammar.specs.Reader.{up_to}
use Rattle.template_compiler_grammar.specs.TemplateNodes.{PlacedAssignments, PlacedStatement, for_node}
use Rattle.template_compiler_grammar.specs.TemplateReader.{Here, targets_by, loop_filter_by, assignments_by, else_by}

-- a loop: its target, what it goes over, the condition on its items, and whether it is recursive
abbrev pub in_head : List Span → Here → Node → List Token → Read (Node × Node × OptionalNode × Bool)
in_head spans r t ts =
    and_then (r.condition ts) (λ i us. and_then (loop_filter_by spans r.expression us) (λ f vs.
    and_then (word_by (codes "recursive") vs) (λ b ws. tag_end (t, i, f, b) ws)))

-- the rest of it, behind the condition on its items
abbrev pub in_end : Node → Node → OptionalNode → List Token → Read (Node × Node × OptionalNode × Bool)
in_end t i f ts = and_then (word_by (codes "recursive") ts) (λ b us. tag_end (t, i, f, b) us)

abbrev pub for_head : List Span → Here → List Token → Read (Node × Node × OptionalNode × Bool)
for_head spans r ts =
    and_then (targets_by spans false (r.inner false) ts) (λ t us. and_then (expect_word (codes "in") t us) (in_head spans r))

-- what is read behind the head of a loop
abbrev pub for_rest : List Span → Here → Around → Span → Node × Node × OptionalNode × Bool → List Token → Read PlacedStatement
for_rest spans r p start h ts =
    and_then (r.body (loop_around p) ts) (λ body us. and_then (else_by spans r p (codes "endfor") us) (λ other vs.
    Ok (for_node h.0 h.1 h.2 h.3 body other (up_to spans start vs), vs)))

-- an `autoescape` or a condition
abbrev pub expression_head : Here → List Token → Read Node
expression_head r ts = and_then (r.expression ts) tag_end

abbrev pub filter_head : Here → List Token → Read OptionalNode
filter_head r ts = and_then (r.filter no_node ts) (λ e us. and_then (r.filters (given_node e) us) tag_end)

-- the targets of a `with` and their values
abbrev pub with_head : List Span → Here → List Token → Read PlacedAssignments
with_head spans r ts = and_then (assignments_by spans r ts) tag_end
