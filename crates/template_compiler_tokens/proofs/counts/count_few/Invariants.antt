use Rattle.std.proofs.Common.{◌≡◌, count_by, fold, take}
use Rattle.template_compiler_tokens.specs.Bytes.{is_newline, next_column}
use Rattle.template_compiler_tokens.proofs.counts.count_few.Given as goal

abbrev pub invariant-loop-byte : goal.invariant-loop-byte
invariant-loop-byte l =
    (l.newlines ≡ count_by is_newline (take l.byte-index l.initial.bytes)) ×
    (l.column ≡ fold next_column l.initial.column (take l.byte-index l.initial.bytes))
