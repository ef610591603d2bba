use Rattle.std.proofs.lemmas.Str.Pattern.{contains_text}
use Rattle.template_values_items.proofs.Parts.{has_part-is}
use Rattle.template_values_items.proofs.membership.has_part.Goals as goal

pub returns : goal.returns
returns c = has_part-is _ _ _ (contains_text c.contains.result c.args.part.now c.args.text.now c.contains.ensures.cases)
