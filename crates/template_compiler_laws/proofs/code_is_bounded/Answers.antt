use Rattle.template_compiler_laws.proofs.Bounds.{templates_are_bounded, blocks_are_bounded, expressions_are_bounded, short_texts_fit}
use Rattle.template_compiler_laws.proofs.code_is_bounded.Goals as goal

pub returns-clause-templates : goal.returns-clause-templates
returns-clause-templates c = templates_are_bounded

pub returns-clause-blocks : goal.returns-clause-blocks
returns-clause-blocks c = blocks_are_bounded

pub returns-clause-expressions : goal.returns-clause-expressions
returns-clause-expressions c = expressions_are_bounded

pub returns-clause-short : goal.returns-clause-short
returns-clause-short c = short_texts_fit
