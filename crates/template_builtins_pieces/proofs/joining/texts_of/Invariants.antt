use Rattle.std.proofs.Common.{◌≡◌, drop}
use Rattle.template_builtins_pieces.specs.Joins.{texts_of}
use Rattle.template_builtins_pieces.specs.Reading.{all_shown}
use Rattle.template_builtins_pieces.proofs.Gathering.{behind}
use Rattle.template_builtins_pieces.proofs.joining.texts_of.Given as goal

-- the texts of the rest stand behind those that are there
abbrev pub invariant-loop-item : goal.invariant-loop-item
invariant-loop-item l = texts_of l.items ≡ behind (all_shown l.parts.items) (texts_of (drop l.item-index l.items))
