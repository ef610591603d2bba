use Rattle.std.proofs.Common.{refl, sym, ◌∙◌}
use Rattle.template_compiler_code.specs.Listing.{code_in}
use Rattle.template_machine_loops.specs.Rounds.{rounds_in}
use Rattle.template_machine_loop.specs.Programs.{roots_of}
use Rattle.template_machine_loop.proofs.Beginnings.{rounds_begin, rounds_codeless, rounds_placeless, rounds_roomless, ungone, IsRefusedEach}
use Rattle.template_machine_loop.proofs.Wrapping.{so_spares}
use Rattle.template_machine_loop.proofs.rounds.begin.Goals as goal

pub returns-in-Err-clause-refused : goal.returns-in-Err-clause-refused
returns-in-Err-clause-refused g c =
    ungone (g.T.Templates.standing c.args.program.templates.now) (g.T.Templates.joins c.args.program.templates.now) (g.T.Callbacks.callables c.args.program.templates.now) (roots_of c.args.program) c.args.program.rules c.args.state.now c.args.over (rounds_in c.args.again.rounds)
    c.in-Err.error c.from.result c.wrapped.result c.in-Err.ensures c.from.ensures c.wrapped.ensures

pub returns-in-Err-clause-spares : goal.returns-in-Err-clause-spares
returns-in-Err-clause-spares g c =
    so_spares (IsRefusedEach (g.T.Templates.standing c.args.program.templates.now) (g.T.Templates.joins c.args.program.templates.now) (g.T.Callbacks.callables c.args.program.templates.now) (roots_of c.args.program) c.args.program.rules c.args.state.now c.args.over (rounds_in c.args.again.rounds)) c.wrapped.result
    (ungone (g.T.Templates.standing c.args.program.templates.now) (g.T.Templates.joins c.args.program.templates.now) (g.T.Callbacks.callables c.args.program.templates.now) (roots_of c.args.program) c.args.program.rules c.args.state.now c.args.over (rounds_in c.args.again.rounds)
    c.in-Err.error c.from.result c.wrapped.result c.in-Err.ensures c.from.ensures c.wrapped.ensures)

pub returns-then-not-has_room-clause-refused : goal.returns-then-not-has_room-clause-refused
returns-then-not-has_room-clause-refused g c =
    rounds_roomless (g.T.Templates.standing c.args.program.templates.now) (g.T.Templates.joins c.args.program.templates.now) (g.T.Callbacks.callables c.args.program.templates.now) (roots_of c.args.program) c.args.program.rules c.args.state.now c.args.over (rounds_in c.args.again.rounds)
    c.in-Ok.items c.in-Ok.ensures (sym c.has_room.ensures ∙ c.if-not-has_room.true) c.new.result c.new.ensures

pub returns-in_default-clause-refused : goal.returns-in_default-clause-refused
returns-in_default-clause-refused g c =
    rounds_codeless (g.T.Templates.standing c.args.program.templates.now) (g.T.Templates.joins c.args.program.templates.now) (g.T.Callbacks.callables c.args.program.templates.now) (roots_of c.args.program) c.args.program.rules c.args.state.now c.args.over (rounds_in c.args.again.rounds)
    c.in-Ok.items c.in-Ok.ensures c.in_default.ensures c.new-in_default.result c.new-in_default.ensures

pub returns-in_default-rounds_at-clause-refused : goal.returns-in_default-rounds_at-clause-refused
returns-in_default-rounds_at-clause-refused g c =
    rounds_placeless (g.T.Templates.standing c.args.program.templates.now) (g.T.Templates.joins c.args.program.templates.now) (g.T.Callbacks.callables c.args.program.templates.now) (roots_of c.args.program) c.args.program.rules c.args.state.now c.args.over (rounds_in c.args.again.rounds)
    c.in-Ok.items c.in-Ok.ensures (code_in c.in-Some.code.now) c.in-Some.ensures c.in_default-rounds_at.ensures c.new-in_default-rounds_at.result
    c.new-in_default-rounds_at.ensures

pub returns-clause-begun : goal.returns-clause-begun
returns-clause-begun g c =
    rounds_begin (g.T.Templates.standing c.args.program.templates.now) (g.T.Templates.joins c.args.program.templates.now) (g.T.Callbacks.callables c.args.program.templates.now) (roots_of c.args.program) c.args.program.rules c.args.state.now c.args.over (rounds_in c.args.again.rounds)
    c.in-Ok.items c.in-Ok.ensures (code_in c.in-Some.code.now) c.in-Some.ensures _ (sym c.has_room.ensures ∙ c.if-not-has_room.false) refl
    c.in-Some-rounds_at.ensures refl
