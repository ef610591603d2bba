use Rattle.std.proofs.Common.{true, false, sym, ◌∙◌}
use Rattle.template_compiler_code_shapes.proofs.WayLemmas.{texts_listed}
use Rattle.template_compiler_code_shapes.proofs.beside.count_of_held.Goals as goal

pub returns-then-hold_texts : goal.returns-then-hold_texts
returns-then-hold_texts c = sym (texts_listed c.args.value.now c.in-List.items.now true c.in-List.ensures (sym c.if-hold_texts.true ∙ c.hold_texts.ensures))

pub returns-else-hold_texts : goal.returns-else-hold_texts
returns-else-hold_texts c = sym (texts_listed c.args.value.now c.in-List.items.now false c.in-List.ensures (sym c.if-hold_texts.false ∙ c.hold_texts.ensures))
