use Rattle.std.proofs.Common.{◌≡◌, bytes_eq, drop}
use Rattle.std.specs.List.{list_any}
use Rattle.template_builtins_arguments.specs.Given.{names_of}
use Rattle.template_builtins_arguments.proofs.arguments.has_name.Given as goal

-- no name that was passed is the key
abbrev pub invariant-loop-name : goal.invariant-loop-name
invariant-loop-name l = list_any (λ name. bytes_eq l.key name) (names_of l.names) ≡ list_any (λ name. bytes_eq l.key name) (names_of (drop l.name-index l.names))
