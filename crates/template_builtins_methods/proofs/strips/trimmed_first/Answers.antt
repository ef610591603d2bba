use Rattle.std.proofs.Common.{sym, ◌∙◌}
use Rattle.template_builtins_texts.proofs.Trimming.{trimmed_first-empty, trimmed_first-goes_on, trimmed_first-stops}
use Rattle.template_builtins_methods.proofs.strips.trimmed_first.Goals as goal

pub returns-then-not-is_in : goal.returns-then-not-is_in
returns-then-not-is_in c =
    sym (trimmed_first-stops c.args.set.now _ _ c.in-Some.character c.loop-character.invariant.0 c.in-Some.ensures.parts (sym c.is_in.ensures ∙ c.if-not-is_in.true))
    ∙ c.loop-character.invariant.1

pub loop-character-preserved : goal.loop-character-preserved
loop-character-preserved c = (
  c.in-Some.ensures.rest,
  sym (trimmed_first-goes_on c.args.set.now _ _ c.in-Some.character c.in-Some.ensures.parts (sym c.is_in.ensures ∙ c.if-not-is_in.false))
      ∙ c.loop-character.invariant.1,
)

pub returns : goal.returns
returns c = sym (trimmed_first-empty c.args.set.now _ c.in_default.ensures.parts) ∙ c.loop-character.invariant.1
