use Rattle.std.proofs.Common.{◌∙◌, List, Ok, Err, ap, refl, sym}
use Rattle.template_values_errors.specs.declared.ErrorKind.{ErrorKind}
use Rattle.template_machine_going.specs.Told.{by_kinds}
use Rattle.template_machine_environment.specs.Extras.{user_answers}
use Rattle.template_machine_environment.proofs.Calling.{block_renders, block_leaves, block_ends_in, program_in, told_answers}
use Rattle.template_machine_environment.proofs.state.State.render_block_to_write.Goals as goal

pub returns-in-Ok-clause-renders : goal.returns-in-Ok-clause-renders
returns-in-Ok-clause-renders g c = λ n finished.
    let self = c.args.self.now in
    let says = (user_answers g.E.Callable.Callable.answer g.E.Method.UnknownMethod.answer g.E.Formatter.Formatter.answer g.E.Join.PathJoin.answer) in
    let programs = c.program.ensures in
    let is = program_in says self c.program.result.templates.now _ c.program.result.rules.name.now c.program.result.rules.limit c.program.result.rules.undefined
    programs.templates programs.roots programs.name programs.limit programs.undefined in
    block_renders says self c.args.block.now _ _ _ _ _ _ c.run_block-done.result (Ok tt) _ _ (ap by_kinds (sym c.in-Ok.is)) is c.remaining-left.ensures c.run_block-done.ensures.plan
    c.run_block-done.ensures.failures n finished

pub returns-in-Ok-clause-remains : goal.returns-in-Ok-clause-remains
returns-in-Ok-clause-remains g c =
    let self = c.args.self.now in
    let says = (user_answers g.E.Callable.Callable.answer g.E.Method.UnknownMethod.answer g.E.Formatter.Formatter.answer g.E.Join.PathJoin.answer) in
    let programs = c.program.ensures in
    let is = program_in says self c.program.result.templates.now _ c.program.result.rules.name.now c.program.result.rules.limit c.program.result.rules.undefined
    programs.templates programs.roots programs.name programs.limit programs.undefined in
    block_leaves says self c.args.block.now _ _ _ _ _ _ c.run_block-done.result (Ok tt) _ _ (ap by_kinds (sym c.in-Ok.is)) _ is c.remaining-left.ensures c.run_block-done.ensures.plan
    c.run_block-done.ensures.failures c.spend-self.ensures.left

pub returns-in-Ok-clause-failures : goal.returns-in-Ok-clause-failures
returns-in-Ok-clause-failures g c = told_answers c.run_block-done.result (Ok tt) _ _ (ap by_kinds (sym c.in-Ok.is)) c.run_block-done.ensures.failures

pub returns-in-Ok-clause-rest : goal.returns-in-Ok-clause-rest
returns-in-Ok-clause-rest g c = record { environment = refl; template = refl; id = refl; fuel = c.spend-self.ensures.set; streams = refl }

pub returns-in-Ok-clause-keeps : goal.returns-in-Ok-clause-keeps
returns-in-Ok-clause-keeps g c = c.run_block-done.ensures.keeps

pub returns-in-Ok-clause-world : goal.returns-in-Ok-clause-world
returns-in-Ok-clause-world g c =
    let self = c.args.self.now in
    let says = (user_answers g.E.Callable.Callable.answer g.E.Method.UnknownMethod.answer g.E.Formatter.Formatter.answer g.E.Join.PathJoin.answer) in
    let programs = c.program.ensures in
    let is = program_in says self c.program.result.templates.now _ c.program.result.rules.name.now c.program.result.rules.limit c.program.result.rules.undefined
    programs.templates programs.roots programs.name programs.limit programs.undefined in
    block_ends_in says self c.args.block.now _ _ _ _ _ _ c.run_block-done.result (Ok tt) _ _ (ap by_kinds (sym c.in-Ok.is)) is c.remaining-left.ensures c.run_block-done.ensures.plan
    c.run_block-done.ensures.failures

pub returns-clause-renders : goal.returns-clause-renders
returns-clause-renders g c = λ n finished.
    let self = c.args.self.now in
    let says = (user_answers g.E.Callable.Callable.answer g.E.Method.UnknownMethod.answer g.E.Formatter.Formatter.answer g.E.Join.PathJoin.answer) in
    let programs = c.program.ensures in
    let is = program_in says self c.program.result.templates.now _ c.program.result.rules.name.now c.program.result.rules.limit c.program.result.rules.undefined
    programs.templates programs.roots programs.name programs.limit programs.undefined in
    block_renders says self c.args.block.now _ _ _ _ _ _ c.run_block-done.result (Err c.into_error.result) _ _ (ap (λ (ks : List ErrorKind). Err ks) c.into_error.ensures ∙ ap by_kinds (sym c.in-Err.is)) is c.remaining-left.ensures c.run_block-done.ensures.plan
    c.run_block-done.ensures.failures n finished

pub returns-clause-remains : goal.returns-clause-remains
returns-clause-remains g c =
    let self = c.args.self.now in
    let says = (user_answers g.E.Callable.Callable.answer g.E.Method.UnknownMethod.answer g.E.Formatter.Formatter.answer g.E.Join.PathJoin.answer) in
    let programs = c.program.ensures in
    let is = program_in says self c.program.result.templates.now _ c.program.result.rules.name.now c.program.result.rules.limit c.program.result.rules.undefined
    programs.templates programs.roots programs.name programs.limit programs.undefined in
    block_leaves says self c.args.block.now _ _ _ _ _ _ c.run_block-done.result (Err c.into_error.result) _ _ (ap (λ (ks : List ErrorKind). Err ks) c.into_error.ensures ∙ ap by_kinds (sym c.in-Err.is)) _ is c.remaining-left.ensures c.run_block-done.ensures.plan
    c.run_block-done.ensures.failures c.spend-self.ensures.left

pub returns-clause-world : goal.returns-clause-world
returns-clause-world g c =
    let self = c.args.self.now in
    let says = (user_answers g.E.Callable.Callable.answer g.E.Method.UnknownMethod.answer g.E.Formatter.Formatter.answer g.E.Join.PathJoin.answer) in
    let programs = c.program.ensures in
    let is = program_in says self c.program.result.templates.now _ c.program.result.rules.name.now c.program.result.rules.limit c.program.result.rules.undefined
    programs.templates programs.roots programs.name programs.limit programs.undefined in
    block_ends_in says self c.args.block.now _ _ _ _ _ _ c.run_block-done.result (Err c.into_error.result) _ _ (ap (λ (ks : List ErrorKind). Err ks) c.into_error.ensures ∙ ap by_kinds (sym c.in-Err.is)) is c.remaining-left.ensures c.run_block-done.ensures.plan
    c.run_block-done.ensures.failures

pub returns-clause-failures : goal.returns-clause-failures
returns-clause-failures g c = told_answers c.run_block-done.result (Err c.into_error.result) _ _ (ap (λ (ks : List ErrorKind). Err ks) c.into_error.ensures ∙ ap by_kinds (sym c.in-Err.is)) c.run_block-done.ensures.failures

pub returns-clause-rest : goal.returns-clause-rest
returns-clause-rest g c = record { environment = refl; template = refl; id = refl; fuel = c.spend-self.ensures.set; streams = refl }

pub returns-clause-keeps : goal.returns-clause-keeps
returns-clause-keeps g c = c.run_block-done.ensures.keeps

-- every block ends
pub returns-in-Ok-clause-finished : goal.returns-in-Ok-clause-finished
returns-in-Ok-clause-finished g c = c.every_block_ends.ensures c.args.block.now

pub returns-clause-finished : goal.returns-clause-finished
returns-clause-finished g c = c.every_block_ends.ensures c.args.block.now
