use Rattle.std.proofs.Common.{length}
use Rattle.template_compiler_tokenizer.specs.Held.{StandsIn, left_of, HoldsRead, IsFurther}
use Rattle.template_compiler_tokenizer.specs.Inner.{standing_in}
use Rattle.template_compiler_tokenizer.proofs.segment.read_inside.Given as goal

-- the tokens that were passed are held
abbrev pub invariant-tokens : goal.invariant-tokens
invariant-tokens l = record {
  stands : StandsIn l.end.syntax.now l.source (standing_in l.end.kind l.at);
  held : HoldsRead l.source l.fn.tokens.items (left_of l.end.syntax.now l.source (standing_in l.end.kind l.fn.at)) l.tokens.items
      (left_of l.end.syntax.now l.source (standing_in l.end.kind l.at));
  further : IsFurther l.end.syntax.now l.source (standing_in l.end.kind l.fn.at) (standing_in l.end.kind l.at);
}

abbrev pub decreases-tokens : goal.decreases-tokens
decreases-tokens l = length (left_of l.end.syntax.now l.source (standing_in l.end.kind l.at))
