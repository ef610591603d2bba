use Rattle.std.proofs.Common.{refl, sym, ◌∙◌}
use Rattle.template_compiler_grammar.specs.TemplateReader.{path_step}
use Rattle.template_compiler_statement_parts.proofs.Placed.{path_on}
use Rattle.template_compiler_statement_parts.proofs.Rounds.{rounds_end}
use Rattle.template_compiler_statement_parts.proofs.targets.read_path.Goals as goal

pub loop-part-preserved : goal.loop-part-preserved
loop-part-preserved c =
    let same = c.in-Some.ensures.spans ∙ c.loop-part.invariant.0 in (
      same,
      sym (path_on c.args.tokens.now.spans _ c.args.start _ _ _ _ _ _ c.in-Some.ensures.parsed same c.expand_span.ensures
          c.in_ok-target-in-Some.ensures.tree c.in_ok-target-in-Some.ensures.places) ∙ c.loop-part.invariant.1,
    )

pub returns-in-None-clause-parsed : goal.returns-in-None-clause-parsed
returns-in-None-clause-parsed c =
    rounds_end (path_step c.args.tokens.now.spans c.args.start) _ _ _ _ _ _ c.loop-part.invariant.1
    (c.in-None.ensures.parsed.1 _ _ _, c.in-None.ensures.parsed.0, refl)
