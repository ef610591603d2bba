-- The names so far and those in the tokens that are left are all.
use Rattle.std.proofs.Common.{◌≡◌, ◌++◌, length}
use Rattle.template_program_reached.specs.Loaded.{elsewhere, names_from}
use Rattle.template_program_reached.specs.Views.{names_in, place_of}
use Rattle.template_program_reached.proofs.loaded.names_left.Given as goal

abbrev pub invariant-tokens : goal.invariant-tokens
invariant-tokens l = names_in l.names.items ++ names_from (place_of l.place) l.tokens.left ≡ names_from elsewhere l.fn.tokens.left

abbrev pub decreases-tokens : goal.decreases-tokens
decreases-tokens l = length l.tokens.left
