-- What came before the failing turn and what came in it are within the limit together.
use Rattle.std.proofs.Common.{◌≤◌, ◌+◌, ◌++◌, ℕ, List, Option, length, arith, length-append}
use Rattle.std.proofs.lemmas.Grind.{common_steps}
use Rattle.std.specs.Io.KnownBytes.{Consumes}
use Rattle.std.proofs.KnownBytes.{Consumes-trans}
use Rattle.template_program_parts.specs.Reading.{GivesAtMost}
use Rattle.template_program_parts.proofs.whole.read_whole.Goals as goal

GivesAtMost-behind : (a b c : Option (List ℕ)) (front : List ℕ) (more most : ℕ) → Consumes a b front
    → GivesAtMost b c more → length front + more ≤ most → GivesAtMost a c most
GivesAtMost-behind a b c front more most first second fits =
    let taken = second.0 in (
      front ++ taken,
      Consumes-trans a b c front taken first second.1,
      omega (arith, second.2, length-append front taken),
    )

pub returns-in_err-read_more-clause-no_further : goal.returns-in_err-read_more-clause-no_further
returns-in_err-read_more-clause-no_further g c =
    GivesAtMost-behind _ _ _ c.loop-piece.bytes.items _ _ c.loop-piece.invariant.2
    c.in_err-read_more.ensures.no_further (grind (arith, common_steps))
