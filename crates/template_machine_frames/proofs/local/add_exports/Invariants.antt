use Rattle.std.proofs.Common.{◌≡◌, ℕ, List, take}
use Rattle.std.specs.Prelude.{◌||◌}
use Rattle.std.specs.BTreeSet.{contains_text}
use Rattle.template_machine_frames.proofs.Knowing.{is_export}
use Rattle.template_machine_frames.proofs.local.add_exports.Given as goal

-- the locals so far that are not private came to the names
abbrev pub invariant-loop-local : goal.invariant-loop-local
invariant-loop-local l = (q : List ℕ) → contains_text l.names q ≡ (contains_text l.fn.names q || is_export q (take l.local-index l.locals))
