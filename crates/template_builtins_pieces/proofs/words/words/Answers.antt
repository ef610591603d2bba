use Rattle.std.proofs.Common.{ℕ, List, [], ◌++◌, ◌-◌, Bor, chars, encode_utf8_all, map, sym, ap, ◌∙◌, append-nil, arith, true-eqb, false-eqb}
use Rattle.template_builtins_pieces.specs.Reading.{all_shown}
use Rattle.template_builtins_pieces.specs.Words.{words, words_from}
use Rattle.template_builtins_pieces.proofs.Wording.{PartsFirst, shown_more, start_trimmed, word_comes, words_end, words_rest}
use Rattle.template_builtins_pieces.proofs.words.words.Goals as goal

pub loop-left-init : goal.loop-left-init
unfolding words
loop-left-init c = record {
  text = c.trim_start-rest.utf8;
  made =
      ap (λ (xs : List (Bor (List ℕ))). all_shown xs ++ map encode_utf8_all (words_from c.args.limit (chars c.trim_start-rest.result.now))) c.new-parts.ensures.items
      ∙ ap (λ (cs : List ℕ). map encode_utf8_all (words_from c.args.limit cs)) (start_trimmed c.args.text.now c.trim_start-rest.result.now c.trim_start-rest.utf8 c.trim_start-rest.ensures.trim);
}

pub returns-then-is_empty : goal.returns-then-is_empty
returns-then-is_empty c =
    sym (append-nil (all_shown c.loop-left.parts.items))
    ∙ ap (λ (ys : List (List ℕ)). all_shown c.loop-left.parts.items ++ ys) (sym (words_end c.loop-left.rest.now c.loop-left.left (true-eqb _ 0 c.if-is_empty.ensures)))
    ∙ c.loop-left.invariant.made

pub loop-left-preserved : goal.loop-left-preserved
loop-left-preserved c =
    let some = false-eqb _ 0 c.if-is_empty.ensures in
    let parts : PartsFirst c.loop-left.rest.now c.split_first_word.result.0.now c.split_first_word.result.1.now = record {
      word = c.split_first_word.ensures.word;
      others = c.split_first_word.ensures.rest;
      front_text = c.split_first_word.ensures.front;
      back_text = c.split_first_word.ensures.back;
    } in
    let next = start_trimmed c.split_first_word.result.1.now c.trim_start-rest-in-loop-left.result.now c.trim_start-rest-in-loop-left.utf8 c.trim_start-rest-in-loop-left.ensures.trim in
    record {
      text = c.trim_start-rest-in-loop-left.utf8;
      made =
          shown_more c.loop-left.parts.items c.split_first_word.result.0 c.push.new.self.items _ c.in_ok-push.ensures.items
          ∙ ap (λ (ys : List (List ℕ)). all_shown c.loop-left.parts.items ++ ys)
          (sym (word_comes c.loop-left.rest.now c.split_first_word.result.0.now c.split_first_word.result.1.now c.trim_start-rest-in-loop-left.result.now (c.loop-left.left - 1) c.loop-left.left (omega (arith, c.loop-left-test.true)) c.loop-left.invariant.text (omega (arith, some)) parts next))
          ∙ c.loop-left.invariant.made;
    }

pub returns-then-is_empty-2 : goal.returns-then-is_empty-2
returns-then-is_empty-2 c =
    sym (append-nil (all_shown c.loop-left.parts.items))
    ∙ ap (λ (ys : List (List ℕ)). all_shown c.loop-left.parts.items ++ ys) (sym (words_end c.loop-left.rest.now c.loop-left.left (true-eqb _ 0 c.if-is_empty-2.ensures)))
    ∙ c.loop-left.invariant.made

pub returns : goal.returns
returns c =
    let some = false-eqb _ 0 c.if-is_empty-2.ensures in
    sym (append-nil (all_shown c.push-2.new.self.items))
    ∙ shown_more c.loop-left.parts.items c.loop-left.rest c.push-2.new.self.items [] c.in_ok-push-2.ensures.items
    ∙ ap (λ (ys : List (List ℕ)). all_shown c.loop-left.parts.items ++ ys)
    (sym (words_rest c.loop-left.rest.now c.loop-left.left (omega (arith, c.loop-left-test.false)) c.loop-left.invariant.text (omega (arith, some))))
    ∙ c.loop-left.invariant.made
