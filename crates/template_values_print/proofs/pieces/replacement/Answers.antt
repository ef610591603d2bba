use Rattle.template_values_print.proofs.PieceLemmas.{IsUtf8-one}
use Rattle.template_values_print.proofs.pieces.replacement.Goals as goal

pub from_utf8_unchecked-requires : goal.from_utf8_unchecked-requires
from_utf8_unchecked-requires c = rw c.from_ref.ensures.value (IsUtf8-one c.args.byte.now c.if-byte-lt128.true)
