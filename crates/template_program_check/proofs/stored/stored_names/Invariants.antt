-- With those that are left the names are all.
use Rattle.std.proofs.Common.{◌≡◌, ℕ, ◌||◌, List, drop}
use Rattle.std.specs.BTreeSet.{contains_text}
use Rattle.template_program_check.specs.Names.{is_stored_in}
use Rattle.template_program_check.proofs.stored.stored_names.Given as goal

abbrev pub invariant-loop-template : goal.invariant-loop-template
invariant-loop-template l =
    (name : List ℕ) → (contains_text l.names name || is_stored_in (drop l.template-index l.templates) name) ≡ is_stored_in l.templates name
