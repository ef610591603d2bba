use Rattle.std.proofs.Common.{chars, length}
use Rattle.template_builtins_layout.proofs.Blanks.{is_nothing, is_something, no_piece, one_piece}
use Rattle.template_builtins_layout.proofs.pieces.split_word.Goals as goal

pub returns-then-is_empty-clause-parts : goal.returns-then-is_empty-clause-parts
returns-then-is_empty-clause-parts c =
    no_piece (chars c.args.text.now) c.split_at_ones.result.1.now c.split_at_ones.ensures.rest
    (is_nothing (length c.split_at_ones.result.1.now) c.is_empty.result c.is_empty.ensures c.if-is_empty.true)

pub returns-clause-parts : goal.returns-clause-parts
returns-clause-parts c =
    one_piece (chars c.args.text.now) (chars c.split_at_ones.result.0.now) c.split_at_ones.result.1.now (chars c.split_at_ones-2.result.0.now) (chars c.split_at_ones-2.result.1.now) c.split_at_ones.ensures.text
    (is_something (length c.split_at_ones.result.1.now) c.is_empty.result c.is_empty.ensures c.if-is_empty.false)
    c.split_at_ones.ensures.front c.split_at_ones.ensures.rest c.split_at_ones-2.ensures.front c.split_at_ones-2.ensures.rest
