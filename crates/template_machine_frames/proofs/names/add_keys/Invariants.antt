use Rattle.std.proofs.Common.{◌≡◌, ℕ, List, take}
use Rattle.std.specs.Prelude.{◌||◌}
use Rattle.std.specs.BTreeSet.{contains_text}
use Rattle.template_machine_frames.proofs.Knowing.{is_key}
use Rattle.template_machine_frames.proofs.names.add_keys.Given as goal

-- the keys so far that are texts came to the names
abbrev pub invariant-loop-entry : goal.invariant-loop-entry
invariant-loop-entry l = (q : List ℕ) → contains_text l.names q ≡ (contains_text l.fn.names q || is_key q (take l.entry-index l.entries))
