use Rattle.std.proofs.Common.{lit<}
use Rattle.std.proofs.lemmas.Str.Pattern.{strip_prefix_char}
use Rattle.template_builtins_fields.proofs.Cutting.{second_is}
use Rattle.template_builtins_fields.proofs.formats.behind_second.Goals as goal

pub returns-clause-is : goal.returns-clause-is
returns-clause-is c =
    second_is c.args.behind.now c.strip_prefix.result
    (strip_prefix_char 123 c.args.behind.now c.strip_prefix.result c.strip_prefix.ensures.cases (lit< tt))
