use Rattle.std.proofs.Common.{◌+◌, ◌-◌, length}
use Rattle.template_compiler_syntax.specs.Known.{Knows}
use Rattle.template_compiler_tokenizer.specs.Held.{StandsIn, left_of, HoldsRead}
use Rattle.template_compiler_tokenizer.specs.Inner.{standing}
use Rattle.template_compiler_tokenizer.proofs.all.read_all.Given as goal

-- the tokens that were passed are held
abbrev pub invariant-parts : goal.invariant-parts
invariant-parts l = record {
  stands : StandsIn l.syntax l.source (standing l.stage l.at);
  knows : Knows l.syntax l.source l.at.from l.finder;
  held : HoldsRead l.source l.fn.tokens.items (left_of l.syntax l.source l.fn.first) l.tokens.items
      (left_of l.syntax l.source (standing l.stage l.at));
}

abbrev pub decreases-parts : goal.decreases-parts
decreases-parts l = length (left_of l.syntax l.source (standing l.stage l.at)) + (length l.source - l.at.from)
