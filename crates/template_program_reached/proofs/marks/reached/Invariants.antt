-- Each of the order is reached, and what the first of them load stands there too; at most all templates are.
use Rattle.std.proofs.Common.{◌≡◌, ◌-◌, length}
use Rattle.template_program_reached.specs.Places.{IsMarked}
use Rattle.template_program_reached.specs.Views.{texts_in}
use Rattle.template_program_reached.proofs.Searching.{IsSearch}
use Rattle.template_program_reached.proofs.marks.reached.Given as goal

abbrev pub invariant-loop-next : goal.invariant-loop-next
invariant-loop-next l =
    IsSearch l.syntax l.places (texts_in l.templates) l.main l.next l.found.order.items
    × IsMarked l.found.marks.items l.found.order.items
    × (length l.found.marks.items ≡ length l.templates)

abbrev pub decreases-loop-next : goal.decreases-loop-next
decreases-loop-next l = length l.templates - l.next
