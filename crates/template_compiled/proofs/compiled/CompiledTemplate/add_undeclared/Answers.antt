use Rattle.std.proofs.Common.{Result, Ok, Err, OnErr, sym, ap, subst, ◌∙◌, ◌≡◌}
use Rattle.template_compiler_tree.specs.Tree.{Statements}
use Rattle.template_compiler_tree_parts.specs.Listed.{statements_in}
use Rattle.template_compiler_statement_codegen.specs.Listed.{IsRunnableTree, body_in}
use Rattle.template_compiler_names_statements.specs.Found.{Adds, AddsSome}
use Rattle.template_compiler_names_needed.specs.Needed.{needed_by}
use Rattle.template_compiled.specs.Names.{uses}
use Rattle.template_compiled.specs.Sources.{tree_in}
use Rattle.template_compiled.proofs.Trees.{tree_runs}
use Rattle.template_compiled.proofs.compiled.CompiledTemplate.add_undeclared.Goals as goal

on_err : {T E : Type 0} (P : Type 0) (r : Result T E) → P → OnErr r P
on_err P (Ok value) holds = tt
on_err P (Err error) holds = holds

pub children-requires : goal.children-requires
children-requires c = subst IsRunnableTree (sym c.in_ok-tree.ensures.tree) (tree_runs c.args.self.now.source)

pub returns-clause-added : goal.returns-clause-added
returns-clause-added c =
    let same : statements_in c.children.result.now ≡ tree_in c.args.self.now.source = c.children.ensures ∙ ap body_in c.in_ok-tree.ensures.tree in
    subst (λ (ss : Statements). Adds (needed_by ss) c.args.names.now c.add_needed.new.names) same c.in_ok-add_needed.ensures.added

pub returns-in_err-add_needed-clause-partial : goal.returns-in_err-add_needed-clause-partial
returns-in_err-add_needed-clause-partial c =
    let same : statements_in c.children.result.now ≡ tree_in c.args.self.now.source = c.children.ensures ∙ ap body_in c.in_ok-tree.ensures.tree in
    on_err (AddsSome (uses c.args.self.now) c.args.names.now c.add_needed.new.names) c.from_residual-in_err-add_needed.result
    (subst (λ (ss : Statements). AddsSome (needed_by ss) c.args.names.now c.add_needed.new.names) same c.in_err-add_needed.ensures.partial)
