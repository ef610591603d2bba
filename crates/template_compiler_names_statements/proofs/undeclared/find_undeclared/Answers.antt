use Rattle.template_compiler_tree_statements.specs.View.{statement_of}
use Rattle.template_compiler_names_statements.proofs.Whole.{in_set, whole_names}
use Rattle.template_compiler_names_statements.proofs.undeclared.find_undeclared.Goals as goal

pub returns : goal.returns
returns c =
    in_set (statement_of c.args.tree.now) c.args.track_nested c.use_statement.new.names c.into_found.result
    (whole_names (statement_of c.args.tree.now) c.args.track_nested c.new-names.result c.store.new.self c.store-2.new.self c.use_statement.new.names
    c.new-names.ensures.nested c.new-names.ensures.found c.new-names.ensures.known c.in_ok-store.ensures c.in_ok-store-2.ensures c.in_ok-use_statement.ensures)
    c.into_found.ensures
