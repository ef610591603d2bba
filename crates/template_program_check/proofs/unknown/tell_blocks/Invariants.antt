-- What is left ends as all does.
use Rattle.std.proofs.Common.{ℕ, List, drop, string_bytes}
use Rattle.std.specs.BTreeSet.{contains_text}
use Rattle.template_compiler_code.specs.Streams.{streams_in}
use Rattle.template_program_check.specs.Unknown.{TellsBlocks}
use Rattle.template_program_check.proofs.unknown.tell_blocks.Given as goal

abbrev pub invariant-loop-block : goal.invariant-loop-block
invariant-loop-block l = (after : List ℕ)
    → TellsBlocks (contains_text l.stored) (streams_in (drop l.block-index l.blocks)) (string_bytes l.lines) after
    → TellsBlocks (contains_text l.stored) (streams_in l.blocks) (string_bytes l.initial.lines) after
