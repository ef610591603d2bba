-- With those that are left the names are all.
use Rattle.std.proofs.Common.{◌≡◌, ℕ, ◌||◌, List, drop}
use Rattle.std.specs.BTreeSet.{contains_text}
use Rattle.template_compiler_code.specs.Streams.{streams_in}
use Rattle.template_program_check.specs.Names.{is_stored_in_blocks}
use Rattle.template_program_check.proofs.stored.add_stored_in_blocks.Given as goal

abbrev pub invariant-loop-block : goal.invariant-loop-block
invariant-loop-block l =
    (name : List ℕ) → (contains_text l.names name || is_stored_in_blocks (streams_in (drop l.block-index l.blocks)) name)
    ≡ (contains_text l.initial.names name || is_stored_in_blocks (streams_in l.blocks) name)
