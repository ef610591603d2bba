-- Bodies and statements, as contracts see them.
use Rattle.std.specs.Prelude.{◌≡◌, codes, List, Result, Ok, Err}
use Rattle.std.specs.Global.{Vec}
use Rattle.template_compiler_tree_statements.specs.declared.statements.Stmt.{Stmt}
use Rattle.template_compiler_tokens.specs.Token.{Token}
use Rattle.template_compiler_tokens.specs.Steps.{Read, Step, goes, under, and_then, all}
use Rattle.template_compiler_tree.specs.declared.span.Span.{Span}
use Rattle.template_compiler_grammar.specs.TemplateGrammar.{Around}
use Rattle.template_compiler_grammar.specs.TemplateNodes.{PlacedBranch, PlacedStatement, PlacedStatements, and_placed_statement, if_node, no_placed_branches}
use Rattle.template_compiler_grammar.specs.Reader.{up_to}
use Rattle.template_compiler_grammar.specs.TemplateReader.{Here, branch_step, else_by}
use Rattle.template_compiler_grammar.specs.Views.{statement_node_of}
use Rattle.template_compiler_stream.specs.declared.refusal.Refusal.{Refusal}
use Rattle.template_compiler_statement_makers.specs.Listed.{statement_nodes_in}
use Rattle.template_compiler_statement_parts.specs.Parsed.{ParsedAs, RefusedStep}

abbrev pub ParsedStatement : Read PlacedStatement → List Token → Result Stmt Refusal → Type 0
ParsedStatement = ParsedAs statement_node_of

abbrev pub ParsedBody : Read PlacedStatements → List Token → Result (Vec Stmt) Refusal → Type 0
ParsedBody = ParsedAs (λ v. statement_nodes_in v.items)

-- a statement that is put behind others
abbrev pub put_behind : Read PlacedStatement → PlacedStatements → Step PlacedStatements
put_behind r ss = under r (λ s us. goes (and_placed_statement ss s) us)

abbrev pub PutBehind : {B : Type 0} → Read PlacedStatement → PlacedStatements → PlacedStatements → List Token → Result B Refusal → Type 0
PutBehind r ss all new (Ok b) = put_behind r ss ≡ goes all new
PutBehind r ss all new (Err e) = RefusedStep (put_behind r ss) e

-- a condition, behind its first branch
abbrev pub if_rest : List Span → Here → Around → Span → PlacedBranch → List Token → Read PlacedStatement
if_rest spans r p start b ts =
    and_then (all (branch_step spans r p) no_placed_branches ts) (λ bs us. and_then (else_by spans r p (codes "endif") us)
    (λ other vs. Ok (if_node b bs other (up_to spans start vs), vs)))
