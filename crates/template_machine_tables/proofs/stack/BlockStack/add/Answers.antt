-- A name that has bodies takes one more where they stand.
use Rattle.std.proofs.Common.{ap, sym, ◌∙◌}
use Rattle.std.specs.BTreeMap.{is_at}
use Rattle.std.specs.Map.{set_value}
use Rattle.std.proofs.lemmas.Map.Steps.{set_value_same}
use Rattle.template_machine_meaning.specs.Bodies.{bodies_at, with_body}
use Rattle.template_machine_tables.specs.Stack.{blocks_among, blocks_in}
use Rattle.template_machine_tables.specs.Streams.{home_of}
use Rattle.template_machine_tables.proofs.Naming.{asks, found_among, on_err, on_ok, pushed_over}
use Rattle.template_machine_tables.proofs.stack.BlockStack.add.Goals as goal

pub add_first-requires : goal.add_first-requires
add_first-requires c =
    ap (λ m. bodies_at c.args.name.now (blocks_in m)) c.get_mut.follows.holds-at-none
    ∙ sym (found_among c.self.inside.bodies.entries c.args.name.now) ∙ sym c.in-None.ensures.value

pub returns-in-Some-clause-added : goal.returns-in-Some-clause-added
returns-in-Some-clause-added c =
    let es = c.self.inside.bodies.entries in
    let after = c.push.new.self in
    on_ok c.push.result _ _
    (λ pushed.
    ap blocks_among (c.get_mut.follows.holds after).0
    ∙ pushed_over es c.args.name.now (home_of c.args.home) c.in-Some.bodies.now after c.in-Some.ensures.ordered c.in-Some.ensures.value pushed
    ∙ ap (with_body (home_of c.args.home) c.args.name.now) c.self.view_is)
    c.push.ensures.pushed

pub returns-in-Some-clause-unchanged : goal.returns-in-Some-clause-unchanged
returns-in-Some-clause-unchanged c =
    let es = c.self.inside.bodies.entries in
    let test = is_at (asks c.args.name.now) in
    on_err c.push.result _ _
    (λ same.
    ap blocks_among ((c.get_mut.follows.holds c.push.new.self).0 ∙ ap (set_value test es) same
    ∙ set_value_same test es c.in-Some.bodies.now (sym c.in-Some.ensures.value))
    ∙ c.self.view_is)
    c.push.ensures.unchanged
