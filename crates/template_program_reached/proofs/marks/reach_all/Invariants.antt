-- The places of the names so far came behind those that were there.
use Rattle.std.proofs.Common.{◌≡◌, length, take}
use Rattle.template_program_reached.specs.Places.{IsMarked, Reaches}
use Rattle.template_program_reached.specs.Views.{names_in}
use Rattle.template_program_reached.proofs.marks.reach_all.Given as goal

abbrev pub invariant-loop-name : goal.invariant-loop-name
invariant-loop-name l =
    Reaches l.places (names_in (take l.name-index l.names)) l.fn.found.order.items l.found.order.items
    × IsMarked l.found.marks.items l.found.order.items
    × (length l.found.marks.items ≡ length l.fn.found.marks.items)
