use Rattle.std.proofs.Common.{◌≡◌, false, List, ◌++◌, length, ap, sym, subst, ◌∙◌, rules}
use Rattle.template_compiler_tree.specs.Tree.{Statements}
use Rattle.template_compiler_tree_statements.specs.View.{statement_of}
use Rattle.template_compiler_walk.specs.Runnable.{AreRunnableStatements}
use Rattle.template_compiler_code.specs.Code.{Code}
use Rattle.template_compiler_codegen.specs.Statements.{no_ways, statements_code}
use Rattle.template_compiler_generator.specs.Numbers.{numbered_in}
use Rattle.template_compiler_statement_codegen.specs.Listed.{body_in}
use Rattle.template_compiler_sources.specs.Source.{IsSource}
use Rattle.template_compiler_syntax.specs.Syntax.{Syntax}
use Rattle.template_compiled.specs.Sources.{read_by}
use Rattle.template_compiler_code.specs.Streams.{streams_in}
use Rattle.template_compiled.specs.Streams.{streams_of}
use Rattle.template_compiled.proofs.Accepting.{kept}
use Rattle.template_compiled.proofs.Trees.{body_runs, source_runs}
use Rattle.template_compiled.proofs.Plain.{plain_room}
use Rattle.template_compiled.proofs.compiled.CompiledTemplate.new.Goals as goal

pub put_template-requires : goal.put_template-requires
put_template-requires c = source_runs (statement_of c.in_ok-tree.tree) c.in_ok-tree.ensures.found

pub children-requires : goal.children-requires
children-requires c = source_runs (statement_of c.in_ok-tree.tree) c.in_ok-tree.ensures.found

pub returns-in_err-tree-clause-plain : goal.returns-in_err-tree-clause-plain
returns-in_err-tree-clause-plain c = λ plain.
    let shared : c.in_ok-clone.field-0 ≡ c.args.config.now.syntax_config = search rules in
    let room = plain_room (read_by c.args.config.now c.args.source.now) c.in_ok-clone.field-0 shared c.usable.ensures plain c.in_err-tree.ensures.refused in
    search rules

pub invariant_of-result : goal.invariant_of-result
invariant_of-result c =
    let tree = statement_of c.in_ok-tree.tree in
    let shared : c.in_ok-clone.field-0 ≡ c.args.config.now.syntax_config = search rules in
    let copied : c.in_ok-clone-2.field-0 ≡ c.args.config.now = search rules in
    let put = c.in_ok-put_template.ensures.put in
    let shrunk = c.shrink_to_fit.ensures in
    let counted = c.number_parts.ensures in
    kept c.args.name.now _ c.args.source.now _ c.args.config.now _ _ _ (streams_in c.in_ok-blocks.blocks.items) tree (counted.same.name ∙ shrunk.same.name ∙ c.number_names.ensures.same.name ∙ put.same.name ∙ c.new-instructions.ensures.name)
    (counted.same.source ∙ shrunk.same.source ∙ c.number_names.ensures.same.source ∙ put.same.source ∙ c.new-instructions.ensures.source) copied c.usable.ensures c.in_ok-tree.ensures.too_large
    (subst (λ (x : Syntax). IsSource x c.args.source.now tree) shared c.in_ok-tree.ensures.found) c.escape.ensures
    (counted.code ∙ shrunk.code ∙ c.in_ok-number_names.ensures.numbered
    ∙ ap numbered_in (put.code ∙ ap (λ (l : List Code). l ++ statements_code no_ways (body_in tree) (length l)) c.new-instructions.ensures.empty))
    (c.in_ok-blocks.ensures.streams ∙ ap streams_of c.children.ensures)

pub returns-clause-faithful : goal.returns-clause-faithful
returns-clause-faithful c =
    let tree = statement_of c.in_ok-tree.tree in
    let shared : c.in_ok-clone.field-0 ≡ c.args.config.now.syntax_config = search rules in
    let copied : c.in_ok-clone-2.field-0 ≡ c.args.config.now = search rules in
    let put = c.in_ok-put_template.ensures.put in
    let shrunk = c.shrink_to_fit.ensures in
    let counted = c.number_parts.ensures in
    (kept c.args.name.now _ c.args.source.now _ c.args.config.now _ _ _ (streams_in c.in_ok-blocks.blocks.items) tree (counted.same.name ∙ shrunk.same.name ∙ c.number_names.ensures.same.name ∙ put.same.name ∙ c.new-instructions.ensures.name)
    (counted.same.source ∙ shrunk.same.source ∙ c.number_names.ensures.same.source ∙ put.same.source ∙ c.new-instructions.ensures.source) copied c.usable.ensures c.in_ok-tree.ensures.too_large
    (subst (λ (x : Syntax). IsSource x c.args.source.now tree) shared c.in_ok-tree.ensures.found) c.escape.ensures
    (counted.code ∙ shrunk.code ∙ c.in_ok-number_names.ensures.numbered
    ∙ ap numbered_in (put.code ∙ ap (λ (l : List Code). l ++ statements_code no_ways (body_in tree) (length l)) c.new-instructions.ensures.empty))
    (c.in_ok-blocks.ensures.streams ∙ ap streams_of c.children.ensures)).0

pub compile_blocks-requires : goal.compile_blocks-requires
compile_blocks-requires c =
    let tree = statement_of c.in_ok-tree.tree in
    subst (λ (ss : Statements). AreRunnableStatements false ss) (sym c.children.ensures)
    (body_runs tree (source_runs tree c.in_ok-tree.ensures.found))
