use Rattle.std.proofs.Common.{sym}
use Rattle.template_compiler_tree_parts.proofs.Others.{no_import}
use Rattle.template_compiler_names_needed.proofs.imported.ImportsPicks.picks.Goals as goal

pub returns-in_default : goal.returns-in_default
returns-in_default c = sym (no_import c.args.statement.now c.in_default.not-FromImport)
