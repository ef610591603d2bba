use Rattle.std.proofs.Common.{◌≡◌, map}
use Rattle.template_values_operators.specs.Items.{character_value}
use Rattle.template_values_items.proofs.items.characters.Given as goal

abbrev pub invariant-loop-character : goal.invariant-loop-character
invariant-loop-character l = l.values.items ≡ map character_value l.yielded
