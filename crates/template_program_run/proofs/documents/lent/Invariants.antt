-- The documents so far are those that are held so far.
use Rattle.std.proofs.Common.{◌≡◌, map, take}
use Rattle.template_program_run.specs.Held.{held_as}
use Rattle.template_program_run.specs.Origins.{shown_as}
use Rattle.template_program_run.proofs.documents.lent.Given as goal

abbrev pub invariant-loop-document : goal.invariant-loop-document
invariant-loop-document l = map shown_as l.documents.items ≡ map (held_as l.input) (take l.document-index l.held)
