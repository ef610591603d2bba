use Rattle.std.proofs.Common.{take}
use Rattle.std.proofs.lemmas.List.{length-take-le}
use Rattle.template_values_core.proofs.Words.{same_word, small_taken}
use Rattle.template_values_core.proofs.names.has_same_word.Goals as goal

pub returns : goal.returns
returns c =
    let xs = c.args.bytes.now in
    let ys = c.args.others.now in
    same_word (take 4 xs) (take 4 ys) c.first_word.result c.first_word-2.result (length-take-le 4 xs c.requires.word) (length-take-le 4 ys c.requires.other)
    (small_taken 4 xs (λ i. (c.type_inv.bytes i).fits)) (small_taken 4 ys (λ i. (c.type_inv.others i).fits))
    c.first_word.ensures c.first_word-2.ensures
