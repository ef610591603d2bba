use Rattle.std.proofs.Common.{◌≡◌, Ok, drop, string_bytes}
use Rattle.template_callables.specs.Views.{seen_in}
use Rattle.template_values_core.specs.Maps.{pairs_of}
use Rattle.template_values_core.specs.Shape.{pairs_in}
use Rattle.template_builtins_web.specs.Elements.{attributes}
use Rattle.template_builtins_web.specs.Pieces.{followed}
use Rattle.template_builtins_web.proofs.attributes.attributes.Given as goal

-- what is written so far stands before what is left
abbrev pub invariant-loop-entry : goal.invariant-loop-entry
invariant-loop-entry l =
    attributes (seen_in l.view) (pairs_of (pairs_in l.entries))
    ≡ followed (Ok (string_bytes l.text)) (attributes (seen_in l.view) (pairs_of (pairs_in (drop l.entry-index l.entries))))
