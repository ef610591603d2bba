use Rattle.std.proofs.Common.{false, List, [], ◌++◌, length, sym, ap, subst, ◌∙◌}
use Rattle.template_compiler_code.specs.Code.{Code}
use Rattle.template_compiler_tree_parts.specs.Listed.{statements_in}
use Rattle.template_compiler_tree_statements.specs.declared.statements.Stmt.{Stmt}
use Rattle.template_compiler_walk.specs.Runnable.{AreRunnableStatements}
use Rattle.template_compiler_codegen.specs.Statements.{no_ways, statements_code}
use Rattle.template_compiler_generator.specs.Numbers.{numbered_in}
use Rattle.template_compiled.proofs.Bodies.{stream_with}
use Rattle.template_compiled.proofs.streams.compile_block.Goals as goal

pub put_body-requires : goal.put_body-requires
put_body-requires c = subst (λ (ss : List Stmt). AreRunnableStatements false (statements_in ss)) (sym c.deref.ensures.value) c.requires

pub returns-clause-stream : goal.returns-clause-stream
returns-clause-stream c =
    let code = λ (ss : List Stmt) (l : List Code). l ++ statements_code no_ways (statements_in ss) (length l) in
    ap (stream_with c.args.block.now.name.now c.args.block.now.required) (c.number_parts.ensures.code ∙ c.shrink_to_fit.ensures.code ∙ c.in_ok-number_names.ensures.numbered
    ∙ ap numbered_in (c.in_ok-put_body.ensures.put.code ∙ ap (code c.deref.result.now) c.new-instructions.ensures.empty ∙ ap (λ (ss : List Stmt). code ss []) c.deref.ensures.value))
