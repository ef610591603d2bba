-- What is left ends as all does.
use Rattle.std.proofs.Common.{drop}
use Rattle.template_compiler_names.specs.declared.state.Names.{Names}
use Rattle.template_compiler_names.specs.Among.{nothing}
use Rattle.template_compiler_names.specs.Goes.{Goes}
use Rattle.template_compiler_names_needed.specs.Needed.{place_in_blocks, place_in_loops}
use Rattle.template_compiler_names_needed.proofs.needed.find_used.Given as goal

abbrev pub invariant-loop-i : goal.invariant-loop-i
invariant-loop-i l = (c : Names) → Goes (λ places. place_in_blocks places (drop l.i l.nodes.items)) nothing l.names c →
    Goes (λ places. place_in_blocks places l.nodes.items) nothing l.initial.names c

abbrev pub invariant-loop-j : goal.invariant-loop-j
invariant-loop-j l = (c : Names) → Goes (λ places. place_in_loops places (drop l.j l.loops.items)) nothing l.names c →
    Goes (λ places. place_in_loops places l.loops.items) nothing l.initial.names c
