-- The marks so far tell which templates are kept.
use Rattle.std.proofs.Common.{◌≡◌, ℕ, ◌+◌, ◌<◌, false, length, get_or, drop, Decides}
use Rattle.template_program_reached.specs.Places.{text_at}
use Rattle.template_program_reached.specs.Sifted.{IsKept}
use Rattle.template_program_reached.specs.Views.{texts_in}
use Rattle.template_program_reached.proofs.sift.kept_marks.Given as goal

abbrev pub invariant-loop-place : goal.invariant-loop-place
invariant-loop-place l =
    (length l.marks.items ≡ l.place) × ((i : ℕ) → i < l.place → Decides (get_or l.marks.items i false)
    (IsKept l.syntax (texts_in l.templates) l.main (drop (i + 1) (texts_in l.templates)) (text_at (texts_in l.templates) i)))
