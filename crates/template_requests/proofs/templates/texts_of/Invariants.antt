-- The templates so far are the texts of the members so far.
use Rattle.std.proofs.Common.{◌≡◌, take}
use Rattle.template_requests.specs.Templates.{named_texts}
use Rattle.template_requests.specs.Views.{texts_of}
use Rattle.template_requests.proofs.templates.texts_of.Given as goal

abbrev pub invariant-loop-member : goal.invariant-loop-member
invariant-loop-member l = named_texts l.templates.items ≡ texts_of (take l.member-index l.members)
