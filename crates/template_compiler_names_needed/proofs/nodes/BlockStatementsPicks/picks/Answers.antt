use Rattle.std.proofs.Common.{sym}
use Rattle.template_compiler_tree_parts.proofs.Others.{no_block}
use Rattle.template_compiler_names_needed.proofs.nodes.BlockStatementsPicks.picks.Goals as goal

pub returns-in_default : goal.returns-in_default
returns-in_default c = sym (no_block c.args.statement.now c.in_default.not-Block)
