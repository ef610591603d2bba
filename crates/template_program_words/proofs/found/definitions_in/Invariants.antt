-- The words so far are definitions, in this order.
use Rattle.std.proofs.Common.{map, take}
use Rattle.template_program_words.specs.Reading.{Defines}
use Rattle.template_program_words.proofs.found.definitions_in.Given as goal

abbrev pub invariant-loop-text : goal.invariant-loop-text
invariant-loop-text l = Defines (map (λ text. text.now) (take l.text-index l.words)) l.definitions.items
