use Rattle.std.proofs.Common.{sym}
use Rattle.template_compiler_tree_statements.specs.View.{statement_of}
use Rattle.template_compiler_tree_parts.proofs.Others.{no_block, no_loop, no_template}
use Rattle.template_compiler_names_closures.proofs.Taking.{no_part}
use Rattle.template_compiler_names_closures.proofs.listing.UnitStatementsPicks.picks.Goals as goal

pub returns-in_default : goal.returns-in_default
returns-in_default c =
    let s = c.args.statement.now in
    sym (no_part (statement_of s) (no_template s c.in_default.not-Template) (no_block s c.in_default.not-Block) (no_loop s c.in_default.not-ForLoop))
