use Rattle.std.proofs.Common.{◌≡◌, ◌≤◌, ◌+◌, Bool, cond, sym, ap, ◌∙◌, arith}
use Rattle.std.proofs.lemmas.Str.{IsUtf8-past_char}
use Rattle.template_builtins_layout.proofs.Counting.{shorter, words_more, words_none}
use Rattle.template_builtins_layout.proofs.words.word_count.Goals as goal
use Rattle.template_builtins_layout.proofs.words.word_count.Goals.{then-begins_word, else-begins_word}

pub loop-character-preserved : goal.loop-character-preserved
loop-character-preserved c =
    let held = c.loop-character.invariant in
    let parts = c.in-Some.ensures.steps.0 in
    let short = shorter _ _ c.in-Some.character parts in
    let grown : c.if-begins_word.count ≡ c.loop-character.count + cond c.begins_word.result 1 0 =
    elim c.if-begins_word.branch [
      | then-begins_word w ↦ w.count-is ∙ ap (λ (b : Bool). c.loop-character.count + cond b 1 0) (sym w.if-begins_word.true)
      | else-begins_word w ↦ w.count-is ∙ omega arith ∙ ap (λ (b : Bool). c.loop-character.count + cond b 1 0) (sym w.if-begins_word.false)
    ] in
    let small : c.if-begins_word.count ≤ c.loop-character.count + 1 =
    elim c.if-begins_word.branch [ then-begins_word w ↦ omega arith | else-begins_word w ↦ omega arith ] in (
      IsUtf8-past_char _ _ c.in-Some.character held.0 parts,
      words_more c.loop-character.count _ _ _ _ _ _ c.in-Some.character _ c.begins_word.ensures c.is_word_character-inside.ensures held.0 parts held.1 grown,
      omega (arith, short, small, held.2),
    )

pub returns : goal.returns
returns c = omega (arith, c.loop-character.invariant.1, words_none c.loop-character.inside _ c.in-None.ensures.steps.0.0)
