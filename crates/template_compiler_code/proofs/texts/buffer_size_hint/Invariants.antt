-- The bytes of the texts so far, as far as a `usize` goes.
use Rattle.std.proofs.Common.{◌≡◌, min, take}
use Rattle.std.specs.List.{sum_by}
use Rattle.template_compiler_code.specs.Listing.{code_in}
use Rattle.template_compiler_code.specs.Texts.{raw_length}
use Rattle.template_compiler_code.proofs.texts.buffer_size_hint.Given as goal

abbrev pub invariant-loop-place : goal.invariant-loop-place
invariant-loop-place l = l.raw ≡ min (sum_by raw_length (take l.place (code_in l.code))) 18446744073709551615
