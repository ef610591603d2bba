-- The trees that tokens are read as: what the reader answers, without its places. It is the same over any table of spans, as is
-- proved; here it is over none.
use Rattle.std.specs.Prelude.{ℕ, List, [], Result}
use Rattle.template_compiler_tree.specs.Tree.{Expression, Optional, Statements}
use Rattle.template_compiler_tree.specs.NodePlaces.{no_parts}
use Rattle.template_compiler_tokens.specs.Token.{Token, TokenFault}
use Rattle.template_compiler_tokens.specs.Steps.{Read}
use Rattle.template_compiler_grammar.specs.TemplateGrammar.{Around}
use Rattle.template_compiler_grammar.specs.Nodes.{placed, bare}
use Rattle.template_compiler_grammar.specs.Reader as expressions
use Rattle.template_compiler_grammar.specs.TemplateNodes.{bare_template}
use Rattle.template_compiler_grammar.specs.TemplateReader as templates

unfoldable pub expression_at : ℕ → List Token → Read Expression
expression_at d ts = bare (expressions.expression_at [] d ts)

-- what stands without an if-expression
unfoldable pub condition_at : ℕ → List Token → Read Expression
condition_at d ts = bare (expressions.condition_at [] d ts)

-- a filter, and filters behind one another, of a value or of none
unfoldable pub filter_at : ℕ → Optional → List Token → Read Expression
filter_at d value ts = bare (expressions.filter_at [] d (placed value no_parts) ts)

unfoldable pub filter_chain_at : ℕ → Optional → List Token → Read Optional
filter_chain_at d value ts = bare (expressions.filter_chain_at [] d (placed value no_parts) ts)

unfoldable pub statements_at : ℕ → Around → List Token → Read Statements
statements_at d p ts = bare (templates.statements_at [] d p ts)

-- a whole template
unfoldable pub template_of : List Token → Result Statements TokenFault
template_of ts = bare_template (templates.template_of [] ts)
