use Rattle.std.proofs.Common.{subst}
use Rattle.std.proofs.lemmas.Result.{on_ok_weaker}
use Rattle.template_compiler_tree.specs.Tree.{Statements}
use Rattle.template_compiler_tree_statements.specs.View.{statement_of}
use Rattle.template_compiler_tree_parts.specs.Listed.{statements_in}
use Rattle.template_compiler_codegen.specs.Statements.{no_ways, statements_code}
use Rattle.template_compiler_emission.specs.Puts.{Puts}
use Rattle.template_compiler_statement_codegen.proofs.Wholes.{tree_runs}
use Rattle.template_compiler_statement_codegen.proofs.statements.compile_template.Goals as goal

pub compile_statements-requires : goal.compile_statements-requires
compile_statements-requires c = tree_runs (statement_of c.args.tree.now) (statements_in c.children.result.now) c.children.ensures c.requires

pub returns-clause-put : goal.returns-clause-put
returns-clause-put c = on_ok_weaker c.compile_statements.result (λ put.
    subst (λ (ss : Statements). Puts (statements_code no_ways ss) c.args.code.now c.compile_statements.new.code) c.children.ensures put)
    c.compile_statements.ensures.put
