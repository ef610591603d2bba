use Rattle.template_builtins_pieces.proofs.Entries.{entries_given}
use Rattle.template_builtins_pieces.proofs.reading.has_keywords.Goals as goal

pub returns-in-KeywordMap : goal.returns-in-KeywordMap
returns-in-KeywordMap c = rw (c.is_empty.ensures, c.in-Some.is, c.in-KeywordMap.ensures) (entries_given c.in-KeywordMap.entries.now)
