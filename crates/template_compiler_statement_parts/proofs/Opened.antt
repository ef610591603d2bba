-- What the proofs open of the reader, each for the part that it names.
use Rattle.template_compiler_tokens.specs.Steps.{and_then, under}
use Rattle.template_compiler_grammar.specs.TemplateReaderParts.{block_end_by, expect_tag, missing_behind, missing_by, more_step, word_by}
use Rattle.template_compiler_grammar.specs.TemplateReader.{alias_by, import_by, one_target_by, target_by}

unfoldable pub tag_read : Unit {0}
unfolding and_then expect_tag
tag_read = tt

unfoldable pub block_end_read : Unit {0}
unfolding and_then block_end_by
block_end_read = tt

unfoldable pub import_read : Unit {0}
unfolding and_then import_by alias_by
import_read = tt

unfoldable pub more_read : Unit {0}
unfolding under more_step
more_read = tt

unfoldable pub target_read : Unit {0}
unfolding and_then target_by
target_read = tt

unfoldable pub more_targets_read : Unit {0}
unfolding and_then under more_step one_target_by
more_targets_read = tt

unfoldable pub missing_read : Unit {0}
unfolding and_then missing_by missing_behind word_by
missing_read = tt
