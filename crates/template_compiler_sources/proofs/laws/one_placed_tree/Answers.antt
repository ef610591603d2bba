use Rattle.template_compiler_sources.proofs.Placed.{bare_source, one_source, some_source}
use Rattle.template_compiler_sources.proofs.laws.one_placed_tree.Goals as goal

pub returns-clause-one : goal.returns-clause-one
returns-clause-one c = one_source

pub returns-clause-bare : goal.returns-clause-bare
returns-clause-bare c = bare_source

pub returns-clause-some : goal.returns-clause-some
returns-clause-some c = some_source
