use Rattle.std.proofs.Common.{sym}
use Rattle.template_compiler_code.specs.Streams.{stream_in}
use Rattle.template_machine_tables.specs.Streams.{home_of}
use Rattle.template_machine_loop.specs.Programs.{programs_in, roots_of}
use Rattle.template_machine_loop.proofs.Finding.{no_block_runs, nothing_behind, behind_absent, behind_found, block_stands}
use Rattle.template_machine_loop.proofs.found.body_behind.Goals as goal

pub returns-in_default-clause-none : goal.returns-in_default-clause-none
returns-in_default-clause-none g c =
    no_block_runs (programs_in g.T.Templates.standing g.T.Templates.joins g.T.Callbacks.callables c.args.program) c.args.state.now (sym c.in_default.ensures)

pub returns-in_default-home_behind-clause-none : goal.returns-in_default-home_behind-clause-none
returns-in_default-home_behind-clause-none g c =
    nothing_behind (programs_in g.T.Templates.standing g.T.Templates.joins g.T.Callbacks.callables c.args.program) c.args.state.now c.in-Some.name.now (sym c.in-Some.ensures) c.in_default-home_behind.ensures.missing

pub returns-in_default-block_at-clause-none : goal.returns-in_default-block_at-clause-none
returns-in_default-block_at-clause-none g c =
    let here = c.in-Some-home_behind.ensures.found in
    behind_absent (g.T.Templates.standing c.args.program.templates.now) (g.T.Templates.joins c.args.program.templates.now) (g.T.Callbacks.callables c.args.program.templates.now) (roots_of c.args.program) c.args.program.rules c.args.state.now c.in-Some.name.now here.bodies here.found (home_of c.in-Some-home_behind.behind.home) here.told.home (sym c.in-Some.ensures)
    (sym c.in_default-block_at.ensures)

pub returns-clause-found : goal.returns-clause-found
returns-clause-found g c =
    let here = c.in-Some-home_behind.ensures.found in
    record {
      planned =
          behind_found (g.T.Templates.standing c.args.program.templates.now) (g.T.Templates.joins c.args.program.templates.now) (g.T.Callbacks.callables c.args.program.templates.now) (roots_of c.args.program) c.args.program.rules c.args.state.now c.in-Some.name.now here.bodies here.found (home_of c.in-Some-home_behind.behind.home) here.told.home (sym c.in-Some.ensures)
          c.in-Some-home_behind.behind.place (stream_in c.in-Some-block_at.block.now) here.told.place (sym c.in-Some-block_at.ensures);
      stands =
          block_stands (g.T.Templates.standing c.args.program.templates.now) (g.T.Templates.joins c.args.program.templates.now) (g.T.Callbacks.callables c.args.program.templates.now) (roots_of c.args.program) c.args.program.rules (home_of c.in-Some-home_behind.behind.home) c.in-Some.name.now (stream_in c.in-Some-block_at.block.now) (sym c.in-Some-block_at.ensures);
      fits = c.in-Some-home_behind.ensures.within;
    }
