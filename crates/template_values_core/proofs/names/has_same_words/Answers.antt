use Rattle.std.proofs.Common.{◌∙◌, ◌-◌, length, arith}
use Rattle.template_values_core.proofs.Words.{ended, passed}
use Rattle.template_values_core.proofs.names.has_same_words.Goals as goal

pub loop-place-preserved : goal.loop-place-preserved
loop-place-preserved c =
    c.loop-place.invariant
    ∙ passed 4 c.loop-place.place c.args.bytes.now c.args.others.now c.has_same_word.result c.if-not-has_same_word.false c.has_same_word.ensures

pub returns : goal.returns
returns c =
    let xs = c.args.bytes.now in
    let ys = c.args.others.now in
    ended 4 (length ys - 4) c.loop-place.place xs ys c.has_same_word-2.result (omega arith) (omega arith) (omega arith)
    c.has_same_word-2.ensures c.loop-place.invariant
