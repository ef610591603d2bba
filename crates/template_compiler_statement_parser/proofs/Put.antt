-- What is put behind other statements.
use Rattle.std.proofs.Common.{◌≡◌, List, [], ◌∷◌, ◌++◌, Result, Ok, Err, OnOk, IfErr, sym, ap, subst, ◌∙◌}
use Rattle.template_compiler_tree_statements.specs.declared.statements.Stmt.{Stmt}
use Rattle.template_compiler_tokens.specs.Token.{Token}
use Rattle.template_compiler_tokens.specs.Steps.{Read, goes, under}
use Rattle.template_compiler_tokens.proofs.Loops.{under_goes}
use Rattle.template_compiler_stream.specs.declared.refusal.Refusal.{Refusal}
use Rattle.template_compiler_stream.specs.declared.refusal.Refusal.TheVariants as refusals
use Rattle.template_compiler_stream.specs.Refusals.{Refused}
use Rattle.template_compiler_grammar.specs.TemplateNodes.{PlacedStatement, PlacedStatements, and_placed_statement}
use Rattle.template_compiler_grammar.specs.Views.{statement_node_of}
use Rattle.template_compiler_statement_makers.specs.Listed.{statement_nodes_in}
use Rattle.template_compiler_statement_makers.proofs.Lists.{statement_nodes_push}
use Rattle.template_compiler_statement_parts.specs.Parsed.{RefusedStep}
use Rattle.template_compiler_statement_parser.specs.Bodies.{PutBehind, put_behind}

pub is_behind : (r : Read PlacedStatement) (ss all : PlacedStatements) (s : PlacedStatement) (us : List Token) → r ≡ Ok (s, us) →
    all ≡ and_placed_statement ss s → put_behind r ss ≡ goes all us
is_behind r ss all s us read put = under_goes _ read (ap (λ all. goes all us) (sym put))

pub put_made : (r : Read PlacedStatement) (ss all : List Stmt) (s : Stmt) (us : List Token) → r ≡ Ok (statement_node_of s, us) →
    all ≡ ss ++ s ∷ [] → put_behind r (statement_nodes_in ss) ≡ goes (statement_nodes_in all) us
put_made r ss all s us read put =
    is_behind r (statement_nodes_in ss) (statement_nodes_in all) (statement_node_of s) us read (ap statement_nodes_in put ∙ statement_nodes_push ss s)

pub put_fails : (r : Read PlacedStatement) (ss : PlacedStatements) (e : Refusal) → Refused r e → RefusedStep (put_behind r ss) e
unfolding under
put_fails r ss (refusals.Token f) h = ap (λ r. put_behind r ss) h
put_fails r ss refusals.OutOfMemory h = tt

-- what is answered where a statement was read, and put behind others
pub put_node : {B : Type 0} (r : Read PlacedStatement) (ss all : PlacedStatements) (s : PlacedStatement) (us : List Token) (result : Result B Refusal) →
    r ≡ Ok (s, us) → OnOk result (all ≡ and_placed_statement ss s) → IfErr result (λ e. e ≡ refusals.OutOfMemory) → PutBehind r ss all us result
put_node r ss all s us (Ok b) read put refused = is_behind r ss all s us read put
put_node r ss all s us (Err e) read put refused = subst (λ e. RefusedStep (put_behind r ss) e) (sym refused) tt

pub put_statement : {B : Type 0} (r : Read PlacedStatement) (ss all : List Stmt) (s : Stmt) (us : List Token) (result : Result B Refusal) →
    r ≡ Ok (statement_node_of s, us) → OnOk result (all ≡ ss ++ s ∷ []) → IfErr result (λ e. e ≡ refusals.OutOfMemory) →
    PutBehind r (statement_nodes_in ss) (statement_nodes_in all) us result
put_statement r ss all s us (Ok b) read put refused = put_made r ss all s us read put
put_statement r ss all s us (Err e) read put refused = subst (λ e. RefusedStep (put_behind r (statement_nodes_in ss)) e) (sym refused) tt
