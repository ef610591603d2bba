-- What the reading of all tokens answers.
use Rattle.std.specs.Prelude.{◌≡◌, List, [], ◌∷◌, Result, Ok, Err}
use Rattle.std.specs.Global.{Vec}
use Rattle.template_compiler_tree.specs.Tree.{Expression, template}
use Rattle.template_compiler_tree.specs.View.{expression_of}
use Rattle.template_compiler_tree.specs.declared.expressions.Expr.{Expr}
use Rattle.template_compiler_tree.specs.NodePlaces.{at}
use Rattle.template_compiler_tree.specs.declared.span.Span.{Span}
use Rattle.template_compiler_tree.specs.declared.span.Spanned.{Spanned}
use Rattle.template_compiler_tree_statements.specs.declared.statements.Template.{Template as TemplateNode}
use Rattle.template_compiler_tree_statements.specs.declared.statements.Stmt.{Stmt, Template as Whole}
use Rattle.template_compiler_tokens.specs.Token.{Token, TokenFault}
use Rattle.template_compiler_tokens.specs.Steps.{Read, fault}
use Rattle.template_compiler_grammar.specs.TreeReader.{expression_at}
use Rattle.template_compiler_grammar.specs.Nodes.{placed}
use Rattle.template_compiler_grammar.specs.TemplateNodes.{PlacedTemplate}
use Rattle.template_compiler_grammar.specs.TreeStatements.{places_of_statements}
use Rattle.template_compiler_grammar.specs.Views.{statement_node_of}
use Rattle.template_compiler_stream.specs.Refusals.{fault_of}
use Rattle.template_compiler_stream.specs.declared.refusal.Refusal.{Refusal}
use Rattle.template_compiler_stream.specs.declared.refusal.Refusal.TheVariants as refusals
use Rattle.template_compiler_statement_makers.specs.Listed.{statements_in}

-- the reader's statements or its fault, where the whole has the span; or no memory
abbrev pub ParsedWhole : Result PlacedTemplate TokenFault → Span → Result (Vec Stmt) Refusal → Type 0
ParsedWhole r span (Ok body) = r ≡ Ok (placed (statements_in body.items) (at span (places_of_statements body.items)))
ParsedWhole r span (Err (refusals.Token f)) = r ≡ Err (fault_of f)
ParsedWhole r span (Err refusals.OutOfMemory) = Unit {0}

abbrev pub ParsedTemplate : Result PlacedTemplate TokenFault → Result (Spanned TemplateNode) Refusal → Type 0
ParsedTemplate r (Ok whole) =
    (body : PlacedTemplate) × (statement_node_of (Whole whole) ≡ placed (template body.tree) body.places) × (r ≡ Ok body)
ParsedTemplate r (Err (refusals.Token f)) = r ≡ Err (fault_of f)
ParsedTemplate r (Err refusals.OutOfMemory) = Unit {0}

-- an expression, and nothing behind it
abbrev pub nothing_behind : Read Expression → Result Expression TokenFault
nothing_behind (Ok (e, [])) = Ok e
nothing_behind (Ok (e, t ∷ ts)) = Err (fault (t ∷ ts))
nothing_behind (Err f) = Err f

abbrev pub expression_alone : List Token → Result Expression TokenFault
expression_alone ts = nothing_behind (expression_at 150 ts)

abbrev pub ParsedExpression : Result Expression TokenFault → Result Expr Refusal → Type 0
ParsedExpression r (Ok e) = r ≡ Ok (expression_of e)
ParsedExpression r (Err (refusals.Token f)) = r ≡ Err (fault_of f)
ParsedExpression r (Err refusals.OutOfMemory) = Unit {0}
