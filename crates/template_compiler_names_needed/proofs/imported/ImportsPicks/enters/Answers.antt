use Rattle.std.proofs.Common.{not, sym, ap}
use Rattle.template_compiler_tree_parts.proofs.Others.{no_template}
use Rattle.template_compiler_names_needed.proofs.imported.ImportsPicks.enters.Goals as goal

pub returns-in_default : goal.returns-in_default
returns-in_default c = ap not (sym (no_template c.args.statement.now c.in_default.not-Template))
