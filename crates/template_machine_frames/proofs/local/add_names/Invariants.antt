use Rattle.std.proofs.Common.{◌≡◌, ℕ, List, take}
use Rattle.std.specs.Prelude.{◌||◌}
use Rattle.std.specs.BTreeSet.{contains_text}
use Rattle.template_machine_frames.proofs.Knowing.{is_local}
use Rattle.template_machine_frames.proofs.local.add_names.Given as goal

-- the locals so far came to the names
abbrev pub invariant-loop-local : goal.invariant-loop-local
invariant-loop-local l = (q : List ℕ) → contains_text l.names q ≡ (contains_text l.fn.names q || is_local q (take l.local-index l.locals))
