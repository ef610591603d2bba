use Rattle.std.proofs.Common.{◌≡◌, length, drop}
use Rattle.template_builtins_paths.specs.Paths.{reached, parts_of}
use Rattle.template_builtins_paths.proofs.parts.reached.Given as goal

-- what is left of the path leads from here where the whole leads from the value
abbrev pub invariant-loop-part : goal.invariant-loop-part
invariant-loop-part l =
    reached l.value (parts_of l.path) ≡ reached l.found (drop (length l.yielded) (parts_of l.path))
