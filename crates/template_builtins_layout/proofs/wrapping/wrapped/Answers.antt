use Rattle.std.proofs.Common.{sym, ap, ◌∙◌}
use Rattle.std.specs.List.{join_by}
use Rattle.std.proofs.lemmas.Iterator.Splits.{YieldsList-from_lines}
use Rattle.std.proofs.lemmas.Iterator.Consumers.{YieldsList-end}
use Rattle.template_values_print.specs.Pieces.{encoded}
use Rattle.template_builtins_layout.specs.Wrapping.{wrapped_line}
use Rattle.template_builtins_layout.proofs.Broken.{has_more, next_line_is}
use Rattle.template_builtins_layout.proofs.wrapping.wrapped.Goals as goal

pub loop-line-preserved : goal.loop-line-preserved
loop-line-preserved c = (
  sym (has_more c.loop-line.yielded c.in-Some.line),
  next_line_is _ _ _ _ _ c.loop-line.yielded c.in-Some.line c.loop-line.invariant.0 c.loop-line.invariant.1 c.in_ok-push_next_line.ensures.made,
)

pub returns-clause-made : goal.returns-clause-made
returns-clause-made c =
    let whole = YieldsList-end
    (YieldsList-from_lines c.args.text.now cc) c.loop-line.yielded _ c.loop-line.yielded_by _ _ c.in-None.is c.next.ensures.steps in
    c.loop-line.invariant.1
    ∙ ap (join_by (wrapped_line (encoded c.args.layout.markup) c.args.layout.wrap.now c.args.layout.width c.args.layout.cuts) c.args.layout.wrap.now) whole.0
