-- Where segments of a kind end, as it is looked up once.
use Rattle.std.specs.Prelude.{◌≡◌, ℕ, List, slice_index}
use Rattle.template_compiler_syntax.specs.declared.StartMarker.{StartMarker}
use Rattle.template_compiler_syntax.specs.declared.StartMarker.TheVariants.{Variable, Block}
use Rattle.template_compiler_syntax.specs.Syntax.{Syntax, IsSet}
use Rattle.template_compiler_placed_tokens.specs.declared.ends.SegmentEnd.{SegmentEnd}

-- prints and blocks end by these texts; other segments by none
abbrev pub IsEndText : Syntax → StartMarker → List ℕ → Type 0
IsEndText x Variable text = (text ≡ x.variable_end) × IsSet text
IsEndText x Block text = (text ≡ x.block_end) × IsSet text
IsEndText x k text = Unit {0}

-- the delimiter is that of the kind, and begins with the byte
pub record IsSegmentEnd (end : SegmentEnd) : Type 0 where
  pub text : IsEndText end.syntax.now end.kind end.delimiter.now
  pub first : end.first ≡ slice_index end.delimiter.now 0
