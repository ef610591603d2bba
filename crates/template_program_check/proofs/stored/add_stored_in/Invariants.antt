-- With those that are left the names are all.
use Rattle.std.proofs.Common.{◌≡◌, ℕ, ◌||◌, List, drop}
use Rattle.std.specs.BTreeSet.{contains_text}
use Rattle.template_compiler_code.specs.Listing.{code_in}
use Rattle.template_program_check.specs.Names.{is_stored_in_one}
use Rattle.template_program_check.proofs.stored.add_stored_in.Given as goal

abbrev pub invariant-loop-index : goal.invariant-loop-index
invariant-loop-index l =
    (name : List ℕ) → (contains_text l.names name || is_stored_in_one (drop l.index (code_in l.code)) name)
    ≡ (contains_text l.initial.names name || is_stored_in_one (code_in l.code) name)
