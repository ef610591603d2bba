use Rattle.template_compiler_placed_tokens.proofs.OneWord.{endraw_is_name}
use Rattle.template_compiler_placed_tokens.proofs.words.raw_end_at.Goals as goal

pub only_word-requires-clause-name : goal.only_word-requires-clause-name
only_word-requires-clause-name c = endraw_is_name
