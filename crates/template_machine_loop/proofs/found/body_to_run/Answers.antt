use Rattle.std.proofs.Common.{[], ◌∷◌, sym, ◌∙◌}
use Rattle.template_values_errors.specs.declared.ErrorKind.TheVariants.{InvalidOperation, UnknownBlock}
use Rattle.template_compiler_code.specs.Streams.{stream_in}
use Rattle.template_machine_tables.specs.Streams.{home_of}
use Rattle.template_machine_loop.specs.Programs.{programs_in, roots_of}
use Rattle.template_machine_loop.proofs.Finding.{block_unknown, block_absent, block_required, block_found, block_stands, counted, refuses_body_as}
use Rattle.template_machine_loop.proofs.found.body_to_run.Goals as goal

pub returns-in_default-clause-refused : goal.returns-in_default-clause-refused
returns-in_default-clause-refused g c =
    let s = programs_in g.T.Templates.standing g.T.Templates.joins g.T.Callbacks.callables c.args.program in
    refuses_body_as s c.args.state.now c.args.name.now (UnknownBlock ∷ []) c.new.result c.new.ensures
    (block_unknown s c.args.state.now c.args.name.now c.in_default.ensures.missing)

pub returns-in_default-block_at-clause-refused : goal.returns-in_default-block_at-clause-refused
returns-in_default-block_at-clause-refused g c =
    let s = programs_in g.T.Templates.standing g.T.Templates.joins g.T.Callbacks.callables c.args.program in
    let here = c.in-Some.ensures.found in
    refuses_body_as s c.args.state.now c.args.name.now (InvalidOperation ∷ []) c.new-in_default-block_at.result c.new-in_default-block_at.ensures
    (block_absent (g.T.Templates.standing c.args.program.templates.now) (g.T.Templates.joins c.args.program.templates.now) (g.T.Callbacks.callables c.args.program.templates.now) (roots_of c.args.program) c.args.program.rules c.args.state.now c.args.name.now here.bodies here.found (home_of c.in-Some.body.home) here.told.home (sym c.in_default-block_at.ensures))

pub returns-then-lacks_body-clause-refused : goal.returns-then-lacks_body-clause-refused
returns-then-lacks_body-clause-refused g c =
    let s = programs_in g.T.Templates.standing g.T.Templates.joins g.T.Callbacks.callables c.args.program in
    let here = c.in-Some.ensures.found in
    refuses_body_as s c.args.state.now c.args.name.now (InvalidOperation ∷ []) c.new-then-lacks_body.result c.new-then-lacks_body.ensures
    (block_required (g.T.Templates.standing c.args.program.templates.now) (g.T.Templates.joins c.args.program.templates.now) (g.T.Callbacks.callables c.args.program.templates.now) (roots_of c.args.program) c.args.program.rules c.args.state.now c.args.name.now here.bodies here.found (home_of c.in-Some.body.home) here.told.home (stream_in c.in-Some-block_at.block.now)
    (sym c.in-Some-block_at.ensures) (counted here.bodies c.in-Some.body.count c.in-Some-block_at.block.now.required here.told.count ∙ sym c.lacks_body.ensures ∙ c.if-lacks_body.true))

pub returns-clause-found : goal.returns-clause-found
returns-clause-found g c =
    let here = c.in-Some.ensures.found in
    record {
      planned =
          block_found (g.T.Templates.standing c.args.program.templates.now) (g.T.Templates.joins c.args.program.templates.now) (g.T.Callbacks.callables c.args.program.templates.now) (roots_of c.args.program) c.args.program.rules c.args.state.now c.args.name.now here.bodies here.found (home_of c.in-Some.body.home) here.told.home (stream_in c.in-Some-block_at.block.now)
          (sym c.in-Some-block_at.ensures) (counted here.bodies c.in-Some.body.count c.in-Some-block_at.block.now.required here.told.count ∙ sym c.lacks_body.ensures ∙ c.if-lacks_body.false);
      stands =
          block_stands (g.T.Templates.standing c.args.program.templates.now) (g.T.Templates.joins c.args.program.templates.now) (g.T.Callbacks.callables c.args.program.templates.now) (roots_of c.args.program) c.args.program.rules (home_of c.in-Some.body.home) c.args.name.now (stream_in c.in-Some-block_at.block.now) (sym c.in-Some-block_at.ensures);
    }
