use Rattle.std.proofs.Common.{[], ◌∷◌, refl, sym, ◌∙◌}
use Rattle.std.specs.Cow.{cow_str_bytes}
use Rattle.template_values_errors.specs.declared.ErrorKind.TheVariants.{InvalidOperation, TemplateNotFound}
use Rattle.template_compiler_process.specs.Process.{done}
use Rattle.template_machine_meaning.specs.Blocks.{load_plan}
use Rattle.template_machine_meaning.proofs.RunsKept.{world_stays}
use Rattle.template_machine_loop.specs.Found.{IsRefused}
use Rattle.template_machine_loop.specs.Programs.{programs_in, standing_of, roots_of}
use Rattle.template_machine_loop.proofs.Choosing.{extends_already, extends_nothing, extends_stops, extends_again, extends_missing, extends_it}
use Rattle.template_machine_loop.proofs.Within.{does_at_once, err_on, refused_as, stops_so}
use Rattle.template_machine_loop.proofs.Wrapping.{so_spares, spares_by}
use Rattle.template_machine_loop.proofs.Doing.{refuses}
use Rattle.template_machine_going.specs.Told.{SparesSink}
use Rattle.template_machine_loop.proofs.Lasting.{stays_on}
use Rattle.template_machine_loop.proofs.Loading.{loading_keeps}
use Rattle.template_machine_loop.proofs.extending.extend.Goals as goal

pub returns-then-is_some-clause-plan : goal.returns-then-is_some-clause-plan
returns-then-is_some-clause-plan g c left taken =
    let s = programs_in g.T.Templates.standing g.T.Templates.joins g.T.Callbacks.callables c.args.program in
    refuses s (load_plan s.around c.args.state.now c.args.state.now.parent c.args.value.now) c.args.state.now left taken (λ (u : Unit {0}). done) c.new.result
    (refused_as s (load_plan s.around c.args.state.now c.args.state.now.parent c.args.value.now) c.args.state.now (InvalidOperation ∷ []) c.new.result c.new.ensures (extends_already (g.T.Templates.standing c.args.program.templates.now) (g.T.Templates.joins c.args.program.templates.now) (g.T.Callbacks.callables c.args.program.templates.now) (roots_of c.args.program) c.args.program.rules c.args.state.now c.args.value.now c.parent.result c.parent.ensures (sym c.is_some.ensures ∙ c.if-is_some.true)))

pub returns-in_default-clause-plan : goal.returns-in_default-clause-plan
returns-in_default-clause-plan g c left taken =
    let s = programs_in g.T.Templates.standing g.T.Templates.joins g.T.Callbacks.callables c.args.program in
    refuses s (load_plan s.around c.args.state.now c.args.state.now.parent c.args.value.now) c.args.state.now left taken (λ (u : Unit {0}). done) c.new-in_default.result
    (refused_as s (load_plan s.around c.args.state.now c.args.state.now.parent c.args.value.now) c.args.state.now (InvalidOperation ∷ []) c.new-in_default.result c.new-in_default.ensures (extends_nothing (g.T.Templates.standing c.args.program.templates.now) (g.T.Templates.joins c.args.program.templates.now) (g.T.Callbacks.callables c.args.program.templates.now) (roots_of c.args.program) c.args.program.rules c.args.state.now c.args.value.now c.parent.result c.parent.ensures (sym c.is_some.ensures ∙ c.if-is_some.false) (sym c.in_default.ensures)))

pub returns-in_err-joined-clause-plan : goal.returns-in_err-joined-clause-plan
returns-in_err-joined-clause-plan g c left taken =
    let s = programs_in g.T.Templates.standing g.T.Templates.joins g.T.Callbacks.callables c.args.program in
    stops_so (λ (u : Unit {0}). done) s (load_plan s.around c.args.state.now c.args.state.now.parent c.args.value.now) c.args.state.now left taken _ c.from_residual.result c.from_residual.ensures.1
    (extends_stops (g.T.Templates.standing c.args.program.templates.now) (g.T.Templates.joins c.args.program.templates.now) (g.T.Callbacks.callables c.args.program.templates.now) (roots_of c.args.program) c.args.program.rules c.args.state.now c.args.value.now c.parent.result c.parent.ensures (sym c.is_some.ensures ∙ c.if-is_some.false) c.in-Some.name.now (sym c.in-Some.ensures) c.here_name.result.now (c.here_name.ensures s.around) _ c.in_err-joined.ensures.refused)

pub returns-in_err-joined-clause-spares : goal.returns-in_err-joined-clause-spares
returns-in_err-joined-clause-spares g c =
    let s = programs_in g.T.Templates.standing g.T.Templates.joins g.T.Callbacks.callables c.args.program in
    err_on SparesSink _ c.from_residual.result c.from_residual.ensures.1
    (so_spares (IsRefused s (load_plan s.around c.args.state.now c.args.state.now.parent c.args.value.now) c.args.state.now) _
    (extends_stops (g.T.Templates.standing c.args.program.templates.now) (g.T.Templates.joins c.args.program.templates.now) (g.T.Callbacks.callables c.args.program.templates.now) (roots_of c.args.program) c.args.program.rules c.args.state.now c.args.value.now c.parent.result c.parent.ensures (sym c.is_some.ensures ∙ c.if-is_some.false) c.in-Some.name.now (sym c.in-Some.ensures) c.here_name.result.now (c.here_name.ensures s.around) _ c.in_err-joined.ensures.refused))

pub returns-then-is_loaded-clause-plan : goal.returns-then-is_loaded-clause-plan
returns-then-is_loaded-clause-plan g c left taken =
    let s = programs_in g.T.Templates.standing g.T.Templates.joins g.T.Callbacks.callables c.args.program in
    refuses s (load_plan s.around c.args.state.now c.args.state.now.parent c.args.value.now) c.args.state.now left taken (λ (u : Unit {0}). done) c.new-then-is_loaded.result
    (refused_as s (load_plan s.around c.args.state.now c.args.state.now.parent c.args.value.now) c.args.state.now (InvalidOperation ∷ []) c.new-then-is_loaded.result c.new-then-is_loaded.ensures
    (extends_again (g.T.Templates.standing c.args.program.templates.now) (g.T.Templates.joins c.args.program.templates.now) (g.T.Callbacks.callables c.args.program.templates.now) (roots_of c.args.program) c.args.program.rules c.args.state.now c.args.value.now c.parent.result c.parent.ensures (sym c.is_some.ensures ∙ c.if-is_some.false) c.in-Some.name.now (sym c.in-Some.ensures) c.here_name.result.now (c.here_name.ensures s.around) (cow_str_bytes c.in_ok-joined.joined) c.in_ok-joined.ensures.joined c.as_str-meant.result.now c.as_str-meant.ensures.value (sym c.is_loaded.ensures ∙ c.if-is_loaded.true)))

pub returns-in_default-get-clause-plan : goal.returns-in_default-get-clause-plan
returns-in_default-get-clause-plan g c left taken =
    let s = programs_in g.T.Templates.standing g.T.Templates.joins g.T.Callbacks.callables c.args.program in
    refuses s (load_plan s.around c.args.state.now c.args.state.now.parent c.args.value.now) c.args.state.now left taken (λ (u : Unit {0}). done) c.new-in_default-get.result
    (refused_as s (load_plan s.around c.args.state.now c.args.state.now.parent c.args.value.now) c.args.state.now (TemplateNotFound ∷ []) c.new-in_default-get.result c.new-in_default-get.ensures
    (extends_missing (g.T.Templates.standing c.args.program.templates.now) (g.T.Templates.joins c.args.program.templates.now) (g.T.Callbacks.callables c.args.program.templates.now) (roots_of c.args.program) c.args.program.rules c.args.state.now c.args.value.now c.parent.result c.parent.ensures (sym c.is_some.ensures ∙ c.if-is_some.false) c.in-Some.name.now (sym c.in-Some.ensures) c.here_name.result.now (c.here_name.ensures s.around) (cow_str_bytes c.in_ok-joined.joined) c.in_ok-joined.ensures.joined c.as_str-meant.result.now c.as_str-meant.ensures.value (sym c.is_loaded.ensures ∙ c.if-is_loaded.false) c.in_default-get.ensures.found))

pub returns-clause-plan : goal.returns-clause-plan
returns-clause-plan g c left taken =
    let s = programs_in g.T.Templates.standing g.T.Templates.joins g.T.Callbacks.callables c.args.program in
    does_at_once (λ (u : Unit {0}). done) s (load_plan s.around c.args.state.now c.args.state.now.parent c.args.value.now) c.args.state.now left taken c.load_blocks.result c.told_by.result c.load_blocks.new.self _ done c.told_by.ensures
    (extends_it (g.T.Templates.standing c.args.program.templates.now) (g.T.Templates.joins c.args.program.templates.now) (g.T.Callbacks.callables c.args.program.templates.now) (roots_of c.args.program) c.args.program.rules c.args.state.now c.args.value.now c.parent.result c.parent.ensures (sym c.is_some.ensures ∙ c.if-is_some.false) c.in-Some.name.now (sym c.in-Some.ensures) c.here_name.result.now (c.here_name.ensures s.around) (cow_str_bytes c.in_ok-joined.joined) c.in_ok-joined.ensures.joined c.as_str-meant.result.now c.as_str-meant.ensures.value (standing_of c.in-Some-get.found) (sym c.is_loaded.ensures ∙ c.if-is_loaded.false) c.in-Some-get.ensures.found
    c.in-Some-get.ensures.named) (λ u. refl) c.load_blocks.ensures.loaded c.load_blocks.ensures.refused

pub returns-clause-spares : goal.returns-clause-spares
returns-clause-spares g c = spares_by c.load_blocks.result c.told_by.result c.told_by.ensures

-- the state is as it was, but where blocks are loaded
pub returns-then-is_some-clause-keeps : goal.returns-then-is_some-clause-keeps
returns-then-is_some-clause-keeps g c = world_stays c.args.state.now

pub returns-in_default-clause-keeps : goal.returns-in_default-clause-keeps
returns-in_default-clause-keeps g c = world_stays c.args.state.now

pub returns-in_err-joined-clause-keeps : goal.returns-in_err-joined-clause-keeps
returns-in_err-joined-clause-keeps g c = stays_on c.from_residual.result c.args.state.now

pub returns-then-is_loaded-clause-keeps : goal.returns-then-is_loaded-clause-keeps
returns-then-is_loaded-clause-keeps g c = world_stays c.args.state.now

pub returns-in_default-get-clause-keeps : goal.returns-in_default-get-clause-keeps
returns-in_default-get-clause-keeps g c = world_stays c.args.state.now

pub returns-clause-keeps : goal.returns-clause-keeps
returns-clause-keeps g c =
    loading_keeps c.load_blocks.result c.told_by.result c.args.state.now c.load_blocks.new.self c.told_by.ensures c.load_blocks.ensures.rest c.load_blocks.ensures.kept
