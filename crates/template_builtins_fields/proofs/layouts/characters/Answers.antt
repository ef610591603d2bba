use Rattle.std.proofs.Common.{rules}
use Rattle.std.proofs.lemmas.Str.{chars_from_encodes}
use Rattle.template_builtins_fields.proofs.layouts.characters.Goals as goal

pub returns-clause-made : goal.returns-clause-made
returns-clause-made c = search (rules, chars_from_encodes)
