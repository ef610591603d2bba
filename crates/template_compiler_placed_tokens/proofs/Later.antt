-- What is known of start markers stays known further on.
use Rattle.std.proofs.Common.{ℕ, ◌≤◌, List, [], Some, arith}
use Rattle.template_compiler_syntax.specs.declared.edges.Trim.{Trim}
use Rattle.template_compiler_syntax.specs.Segments.{bare_end, signed_end, EndsAt, print_end, block_end, line_end, HasInside, ended, blank}
use Rattle.template_compiler_syntax.specs.declared.StartMarker.{StartMarker}
use Rattle.template_compiler_syntax.specs.Syntax.{Syntax}
use Rattle.template_compiler_syntax.specs.Known.{IsKnown, Knows}
use Rattle.template_compiler_syntax.specs.declared.starts.Known.{Known}
use Rattle.template_compiler_syntax.specs.declared.starts.Known.TheVariants.{Unsearched, At, Nowhere}
use Rattle.template_compiler_syntax.specs.declared.starts.StartFinder.{StartFinder}

known_later : (x : Syntax) (s : List ℕ) (from next : ℕ) (k : StartMarker) (known : Known) → from ≤ next → IsKnown x s from k known → IsKnown x s next k known
known_later x s from next k Unsearched h is = tt
known_later x s from next k (At i) h is = (is.0, λ j low high. is.1 j (omega arith) high)
known_later x s from next k Nowhere h is = λ j low. is j (omega arith)

pub knows_later : (x : Syntax) (s : List ℕ) (from next : ℕ) (finder : StartFinder) → from ≤ next → Knows x s from finder → Knows x s next finder
knows_later x s from next finder h knows = record {
  default_starts = knows.default_starts;
  variable = known_later x s from next _ _ h (knows.variable);
  block = known_later x s from next _ _ h (knows.block);
  comment = known_later x s from next _ _ h (knows.comment);
  line_statement = known_later x s from next _ _ h (knows.line_statement);
  line_comment = known_later x s from next _ _ h (knows.line_comment);
}

pub ends_ahead : {x : Syntax} {s : List ℕ} {k : StartMarker} {i next : ℕ} {last : Trim} → EndsAt x s k i last next → i ≤ next
ends_ahead (print_end black (bare_end stands n)) = omega arith
ends_ahead (print_end black (signed_end none stands l sign n)) = omega arith
ends_ahead (block_end black (bare_end stands n)) = omega arith
ends_ahead (block_end black (signed_end none stands l sign n)) = omega arith
ends_ahead (line_end over n) = omega arith

-- what follows a segment's end stands no further back
pub inside_ahead : {x : Syntax} {s : List ℕ} {k : StartMarker} {d i : ℕ} {p : Trim × ℕ} → HasInside x s k d i [] (Some p) → i ≤ p.1
inside_ahead (ended over) = ends_ahead over
inside_ahead (blank none white rest) = let more = inside_ahead rest in omega arith
