use Rattle.template_compiler_grammar.proofs.Last.{passed_is_last, stands_alone}
use Rattle.template_compiler_grammar.proofs.derivations.stands_alone.Goals as goal

pub returns-clause-last : goal.returns-clause-last
returns-clause-last c = passed_is_last

pub returns-clause-alone : goal.returns-clause-alone
returns-clause-alone c = stands_alone
