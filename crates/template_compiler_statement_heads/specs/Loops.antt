-- The ends of loops.
use Rattle.std.specs.Prelude.{Bool, if◌then◌else◌, List, Ok, Err}
use Rattle.template_compiler_tree.specs.NodePlaces.{no_parts}
use Rattle.template_compiler_tree.specs.Tree.{Statement}
use Rattle.template_compiler_tree.specs.declared.span.Span.{Span}
use Rattle.template_compiler_tokens.specs.Steps.{Read, and_then}
use Rattle.template_compiler_tokens.specs.Token.{Token, bad_syntax}
use Rattle.template_compiler_grammar.specs.TemplateReaderParts.{tag_end}
use Rattle.template_compiler_grammar.specs.Reader.{up_to}
use Rattle.template_compiler_grammar.specs.TemplateNodes.{PlacedStatement, statement_node}

-- a statement that stands inside a loop alone, behind its word
abbrev pub loop_end_by : List Span → Bool → Statement → Span → List Token → Read PlacedStatement
loop_end_by spans inside s start ts =
    if inside then and_then (tag_end s ts) (λ s us. Ok (statement_node s (up_to spans start us) no_parts, us)) else Err bad_syntax
