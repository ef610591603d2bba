use Rattle.std.proofs.Common.{sym, ◌∙◌}
use Rattle.template_builtins_texts.proofs.Trimming.{trimmed_last-empty, trimmed_last-goes_on, trimmed_last-stops}
use Rattle.template_builtins_methods.proofs.strips.trimmed_last.Goals as goal

pub returns-then-not-is_in : goal.returns-then-not-is_in
returns-then-not-is_in c =
    sym (trimmed_last-stops c.args.set.now _ _ c.in-Some.character c.loop-before.invariant.0 c.in-Some.ensures.parts (sym c.is_in.ensures ∙ c.if-not-is_in.true))
    ∙ c.loop-before.invariant.1

pub loop-before-preserved : goal.loop-before-preserved
loop-before-preserved c = (
  c.in-Some.ensures.rest,
  sym (trimmed_last-goes_on c.args.set.now _ _ c.in-Some.character c.in-Some.ensures.parts (sym c.is_in.ensures ∙ c.if-not-is_in.false))
      ∙ c.loop-before.invariant.1,
)

pub returns : goal.returns
returns c = sym (trimmed_last-empty c.args.set.now _ c.in_default.ensures.parts) ∙ c.loop-before.invariant.1
