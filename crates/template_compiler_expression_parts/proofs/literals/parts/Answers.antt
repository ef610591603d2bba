use Rattle.std.proofs.Common.{refl, string_bytes, ◌∙◌}
use Rattle.template_compiler_grammar.specs.ReaderParts.{dotted_step}
use Rattle.template_compiler_expression_parts.proofs.Rounds.{dotted_goes, dotted_none, rounds_end, rounds_go}
use Rattle.template_compiler_expression_parts.proofs.Takes.{dotted_takes}
use Rattle.template_compiler_expression_parts.proofs.literals.parts.Goals as goal

pub loop-part-preserved : goal.loop-part-preserved
loop-part-preserved c = (
  c.in-Some.ensures.spans ∙ c.loop-part.invariant.0,
  rounds_go dotted_step dotted_takes _ _ _ _ _ _ c.loop-part.invariant.1
      (dotted_goes _ _ _ _ _ c.in-Some.ensures.passed c.in_ok-put_part-in-Some.ensures),
)

pub returns-in-None-clause-parsed : goal.returns-in-None-clause-parsed
returns-in-None-clause-parsed c =
    rounds_end dotted_step _ _ (string_bytes c.loop-part.name) _ _ _ c.loop-part.invariant.1 (dotted_none _ _ c.in-None.ensures.passed.1, c.in-None.ensures.passed.0, refl)
