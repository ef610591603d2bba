use Rattle.std.proofs.Common.{lit<}
use Rattle.template_builtins_fields.proofs.Cutting.{cut_is}
use Rattle.template_builtins_fields.proofs.fields.closing.Goals as goal

pub returns-clause-parts : goal.returns-clause-parts
returns-clause-parts c = cut_is 125 c.args.text.now c.split_once.result c.split_once.ensures.cases (lit< tt)
