use Rattle.template_compiler_placed_tokens.proofs.OneWord.{goes_on}
use Rattle.template_compiler_placed_tokens.proofs.words.end_behind.Goals as goal

pub returns-in-Token-clause-found : goal.returns-in-Token-clause-found
returns-in-Token-clause-found c =
    let place = c.in-Token.ensures in goes_on c.args.syntax.now c.args.source.now c.args.from c.in-Token.field-0 place.2 place.3
