use Rattle.std.proofs.Common.{sym, ◌∙◌, length}
use Rattle.std.proofs.lemmas.Bool.{false≢true}
use Rattle.template_compiler_placed_tokens.proofs.OneWord.{ends_at_once, name_cut, no_name_here, word_here}
use Rattle.template_compiler_placed_tokens.proofs.words.only_word.Goals as goal

pub end_behind-requires : goal.end_behind-requires
end_behind-requires c =
    name_cut c.args.source.now c.split_at.result.1.now c.args.word.now c.in-Token.place c.utf8.source c.utf8.word c.split_at.ensures.back c.requires.name
    (c.begins_with_name.ensures.0 c.if-begins_with_name.true)

pub returns-in-End-clause-found : goal.returns-in-End-clause-found
returns-in-End-clause-found c =
    ends_at_once c.args.syntax.now c.args.source.now c.args.from c.in-End.field-2 c.in-End.field-1 c.args.word.now c.in-End.ensures.0

pub returns-then-begins_with_name-clause-found : goal.returns-then-begins_with_name-clause-found
returns-then-begins_with_name-clause-found c =
    let place = c.in-Token.ensures in
    word_here c.args.syntax.now c.args.source.now c.split_at.result.1.now c.args.from c.in-Token.place (length c.args.word.now) c.args.word.now
    c.end_behind.result c.split_at.ensures.back place.2 place.3 (c.begins_with_name.ensures.0 c.if-begins_with_name.true) c.end_behind.ensures.found

pub returns-else-begins_with_name-clause-found : goal.returns-else-begins_with_name-clause-found
returns-else-begins_with_name-clause-found c =
    let place = c.in-Token.ensures in
    no_name_here c.args.syntax.now c.args.source.now c.split_at.result.1.now c.args.from c.in-Token.place c.args.word.now c.split_at.ensures.back place.2
    place.3 c.requires.name (λ begins. false≢true (sym c.if-begins_with_name.false ∙ c.begins_with_name.ensures.1 begins))
