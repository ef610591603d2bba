use Rattle.std.proofs.Common.{refl}
use Rattle.clap.specs.Words.{found_of, rows_of}
use Rattle.template_program_words.proofs.found.check_words.Goals as goal

pub returns-clause-reads : goal.returns-clause-reads
returns-clause-reads c = (
  rows_of (found_of c.args.matches.now),
  refl,
  record {
    builtins = c.is_flagged.ensures;
    syntax = c.syntax_words.ensures;
    templates = c.text.ensures;
    files = c.in_ok-values.ensures;
  },
)
