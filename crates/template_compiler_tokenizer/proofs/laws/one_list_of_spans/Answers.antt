use Rattle.template_compiler_tokenizer.proofs.AllTokens.{some_spans, one_spans, words_are}
use Rattle.template_compiler_tokenizer.proofs.laws.one_list_of_spans.Goals as goal

pub returns-clause-some : goal.returns-clause-some
returns-clause-some c = some_spans

pub returns-clause-one : goal.returns-clause-one
returns-clause-one c = one_spans

pub returns-clause-words : goal.returns-clause-words
returns-clause-words c = words_are
