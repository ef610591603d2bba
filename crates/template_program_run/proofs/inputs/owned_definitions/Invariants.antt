-- The texts so far are those of the definitions so far.
use Rattle.std.proofs.Common.{◌≡◌, map, take}
use Rattle.template_program_parts.specs.Context.{text_pairs}
use Rattle.template_program_words.specs.Reading.{parts_of}
use Rattle.template_program_run.proofs.inputs.owned_definitions.Given as goal

abbrev pub invariant-loop-definition : goal.invariant-loop-definition
invariant-loop-definition l = text_pairs l.texts.items ≡ map parts_of (take l.definition-index l.definitions)
