-- Bodies with one statement more.
use Rattle.std.proofs.Common.{◌≡◌, false, ◌&&◌, List, [], ◌∷◌, ◌++◌, refl, ap}
use Rattle.template_compiler_tree.specs.NodePlaces.{parts_more}
use Rattle.template_compiler_tree.specs.Tree.{Statement, raw, Statements, statements_more}
use Rattle.template_compiler_tree_statements.specs.View.{statement_of}
use Rattle.template_compiler_tree.specs.declared.span.Spanned.{Spanned}
use Rattle.template_compiler_tree_statements.specs.declared.statements.EmitRaw.{EmitRaw as Text}
use Rattle.template_compiler_tree_statements.specs.declared.statements.CallBlock.{CallBlock' as called}
use Rattle.template_compiler_tree_statements.specs.declared.statements.Stmt.{Stmt, EmitRaw, CallBlock'}
use Rattle.template_compiler_grammar.specs.TemplateTrees.{is_blank}
use Rattle.template_compiler_grammar.specs.Nodes.{placed}
use Rattle.template_compiler_grammar.specs.TemplateNodes.{and_placed_statement}
use Rattle.template_compiler_grammar.specs.TreeStatements.{statement_places}
use Rattle.template_compiler_grammar.specs.Views.{statement_node_of}
use Rattle.template_compiler_statement_makers.specs.Listed.{statement_nodes_in}
use Rattle.template_compiler_statement_makers.specs.Blank.{is_blank_statement}

pub statement_nodes_push : (xs : List Stmt) (s : Stmt) →
    statement_nodes_in (xs ++ s ∷ []) ≡ and_placed_statement (statement_nodes_in xs) (statement_node_of s)
statement_nodes_push [] s = refl
statement_nodes_push (x ∷ xs) s =
    ap (λ ss. placed (statements_more (statement_of x) ss.tree) (parts_more (statement_places x) ss.places)) (statement_nodes_push xs s)

-- blank bodies, statement by statement
pub blank_more : (s : Statement) (rest : Statements) → is_blank (statements_more s rest) ≡ (is_blank_statement s && is_blank rest)
blank_more (raw text) rest = refl
blank_more _ rest = refl

pub other_statement : (s : Stmt) → ((x : Spanned Text) → s ≡ EmitRaw x → ⊥) → false ≡ is_blank_statement (statement_of s)
other_statement (EmitRaw n) h = absurd (h n refl)
other_statement (CallBlock' p (called call q name args defaults shape body inner) span) h = refl
other_statement _ h = refl
