use Rattle.std.proofs.Common.{◌≡◌, ◌-◌, ◌≤◌, length}
use Rattle.std.specs.Str.{IsCharBoundary}
use Rattle.template_compiler_syntax.specs.Known.{Knows}
use Rattle.template_compiler_placed_tokens.specs.Left.{data_tokens}
use Rattle.template_compiler_placed_tokens.proofs.read.next_in_data.Given as goal

-- no token was passed
abbrev pub invariant-loop-piece : goal.invariant-loop-piece
invariant-loop-piece l = record {
  low : l.from ≤ l.place;
  cut : IsCharBoundary l.source l.place;
  knows : Knows l.syntax l.source l.place l.finder;
  same : data_tokens l.syntax l.source l.fn.left l.from ≡ data_tokens l.syntax l.source l.edge l.place;
}

abbrev pub decreases-loop-piece : goal.decreases-loop-piece
decreases-loop-piece l = length l.source - l.place
