use Rattle.std.proofs.Common.{◌≡◌, ◌-◌, ◌≤◌, length, List}
use Rattle.std.specs.Str.{IsCharBoundary}
use Rattle.template_compiler_syntax.specs.Syntax.{Syntax}
use Rattle.template_compiler_syntax.specs.declared.StartMarker.TheVariants.{Block}
use Rattle.template_compiler_tokens.specs.Token.{Token}
use Rattle.template_compiler_syntax.specs.Segments.{Ending, HasInside}
use Rattle.template_compiler_placed_tokens.specs.Left.{inside_tokens}
use Rattle.template_compiler_tokenizer.proofs.reach.behind_white_space.Given as goal

-- what stands in a block from `place` on stands there from `from` on, behind white space
abbrev pub invariant-loop-bytes : goal.invariant-loop-bytes
invariant-loop-bytes l = record {
  low : l.from ≤ l.place;
  cut : IsCharBoundary l.bytes l.place;
  inside : (x : Syntax) (tokens : List Token) (ending : Ending) → HasInside x l.bytes Block 0 l.place tokens ending →
      HasInside x l.bytes Block 0 l.from tokens ending;
  same : (x : Syntax) → inside_tokens x l.bytes Block 0 l.from ≡ inside_tokens x l.bytes Block 0 l.place;
}

abbrev pub decreases-loop-bytes : goal.decreases-loop-bytes
decreases-loop-bytes l = length l.bytes - l.place
