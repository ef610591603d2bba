use Rattle.std.proofs.Common.{◌≡◌, ℕ, List, ◌||◌}
use Rattle.std.specs.BTreeSet.{contains_text}
use Rattle.std.specs.List.{list_any}
use Rattle.template_machine_environment_histories.proofs.naming.add_names_of_all.Given as goal

-- the names that were there, and those that are used by those so far
abbrev pub invariant-loop-name : goal.invariant-loop-name
invariant-loop-name g l = (q : List ℕ) → contains_text l.names q ≡ (contains_text l.fn.names q || list_any (λ e. g.T.UsesNames.uses e.1.now q) l.yielded)
