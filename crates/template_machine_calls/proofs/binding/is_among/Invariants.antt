use Rattle.std.proofs.Common.{◌≡◌, drop}
use Rattle.template_machine_meaning.specs.Macros.{is_one_of}
use Rattle.template_machine_calls.proofs.binding.is_among.Given as goal

-- none of the names so far is the text
abbrev pub invariant-loop-name : goal.invariant-loop-name
invariant-loop-name l = is_one_of l.text (drop l.name-index l.names) ≡ is_one_of l.text l.names
