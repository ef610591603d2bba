use Rattle.std.proofs.Common.{◌≡◌, drop}
use Rattle.template_compiler_names.specs.Among.{is_among}
use Rattle.template_compiler_names.proofs.state.is_among.Given as goal

-- the names that are left decide
abbrev pub invariant-loop-other : goal.invariant-loop-other
invariant-loop-other l = is_among l.names l.name ≡ is_among (drop l.other-index l.names) l.name
