use Rattle.std.proofs.Common.{take, arith, length-take}
use Rattle.template_compiler_tokens.proofs.Columns.{column_bound}
use Rattle.template_compiler_tokens.proofs.counts.count_few.Goals as goal

pub overflow_add-column : goal.overflow_add-column
overflow_add-column c =
    let bound = column_bound c.args.column (take c.loop-byte.byte-index c.args.bytes.now) in
    let len = length-take c.loop-byte.byte-index c.args.bytes.now in
    omega (arith, c.loop-byte.invariant.1, bound, len, c.ranges.column.fits)
