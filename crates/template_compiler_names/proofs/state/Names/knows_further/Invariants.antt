use Rattle.std.proofs.Common.{◌≡◌, ◌||◌, drop}
use Rattle.std.specs.List.{list_any}
use Rattle.template_compiler_names.specs.Goes.{has, knows_further}
use Rattle.template_compiler_names.proofs.state.Names.knows_further.Given as goal

-- the regions that are left decide
abbrev pub invariant-loop-region : goal.invariant-loop-region
invariant-loop-region l =
    knows_further l.self l.name ≡ (list_any (λ region. has region l.name) (drop l.region-index l.self.outer.items) || has l.self.here l.name)
