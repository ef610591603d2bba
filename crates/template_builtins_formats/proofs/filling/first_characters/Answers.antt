use Rattle.std.proofs.lemmas.Iterator.{YieldsList-from_chars, YieldsList-from_take, text_from_collect}
use Rattle.std.proofs.lemmas.Iterator.Consumers.{YieldsList-at}
use Rattle.template_builtins_formats.proofs.filling.first_characters.Goals as goal

pub returns : goal.returns
returns c =
    text_from_collect _ c.collect.ensures.ran
    (YieldsList-from_take c.args.count (YieldsList-at c.take.ensures.source (YieldsList-from_chars c.args.text.now c.utf8.text c.chars.ensures.rest)) c.take.ensures.count)
