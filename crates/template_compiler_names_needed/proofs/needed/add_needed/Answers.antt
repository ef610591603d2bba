use Rattle.template_compiler_tree_parts.specs.Listed.{statements_in}
use Rattle.template_compiler_names_needed.proofs.Telling.{added, none_added, partly_added}
use Rattle.template_compiler_names_needed.proofs.needed.add_needed.Goals as goal

pub returns-clause-added : goal.returns-clause-added
returns-clause-added c =
    added (statements_in c.args.body.now) c.in_ok-needed.needed c.args.names.now c.add_names.new.names c.add_names.result c.in_ok-needed.ensures c.add_names.ensures.added

pub returns-clause-partial : goal.returns-clause-partial
returns-clause-partial c =
    partly_added (statements_in c.args.body.now) c.in_ok-needed.needed c.args.names.now c.add_names.new.names c.add_names.result c.in_ok-needed.ensures
    c.add_names.ensures.partial

pub returns-in_err-needed-clause-partial : goal.returns-in_err-needed-clause-partial
returns-in_err-needed-clause-partial c = none_added (statements_in c.args.body.now) c.args.names.now c.from_residual.result
