use Rattle.std.proofs.Common.{sym}
use Rattle.std.proofs.lemmas.Bool.{eq-eqb}
use Rattle.template_compiler_placed_tokens.proofs.OneWord.{same_first}
use Rattle.template_compiler_tokenizer.proofs.reach.may_begin_with.Goals as goal

pub returns-in-Some-first : goal.returns-in-Some-first
returns-in-Some-first c = λ n begins.
    eq-eqb c.in-Some-first.first.now c.in-Some.wanted.now
    (same_first c.args.text.now c.args.word.now n c.in-Some-first.first.now c.in-Some.wanted.now begins (sym c.in-Some-first.ensures.value)
    (sym c.in-Some.ensures.value))
