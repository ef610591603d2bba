use Rattle.std.proofs.Common.{◌≡◌, ◌-◌, ◌≤◌, length, List}
use Rattle.std.specs.Str.{IsCharBoundary}
use Rattle.template_compiler_tokens.specs.Token.{Token}
use Rattle.template_compiler_syntax.specs.Segments.{Ending, HasInside}
use Rattle.template_compiler_placed_tokens.specs.Left.{inside_tokens}
use Rattle.template_compiler_placed_tokens.proofs.inside.next_place_of.Given as goal

-- what stands inside from `place` on stands there from `from` on, behind white space
abbrev pub invariant-blanks : goal.invariant-blanks
invariant-blanks l = record {
  low : l.from ≤ l.place;
  cut : IsCharBoundary l.bytes l.place;
  inside : (tokens : List Token) (ending : Ending) → HasInside l.end.syntax.now l.bytes l.end.kind l.depth l.place tokens ending →
      HasInside l.end.syntax.now l.bytes l.end.kind l.depth l.from tokens ending;
  same : inside_tokens l.end.syntax.now l.bytes l.end.kind l.depth l.from ≡ inside_tokens l.end.syntax.now l.bytes l.end.kind l.depth l.place;
}

abbrev pub decreases-blanks : goal.decreases-blanks
decreases-blanks l = length l.bytes - l.place
