use Rattle.std.proofs.Common.{ℕ, List, [], ◌++◌, ◌-◌, Bor, chars, encode_utf8_all, map, sym, ap, ◌∙◌, append-nil, arith, true-eqb, false-eqb}
use Rattle.template_builtins_pieces.specs.Reading.{all_shown}
use Rattle.template_builtins_pieces.specs.Words.{words_back}
use Rattle.template_builtins_pieces.proofs.Wording.{PartsLast, shown_more, end_trimmed, word_comes_back, words_back_end, words_back_rest}
use Rattle.template_builtins_pieces.proofs.words.words_back.Goals as goal

pub loop-left-init : goal.loop-left-init
loop-left-init c = record {
  text = c.trim_end-rest.utf8;
  made =
      ap (λ (xs : List (Bor (List ℕ))). all_shown xs ++ map encode_utf8_all (words_back c.args.limit (chars c.trim_end-rest.result.now))) c.new-parts.ensures.items
      ∙ ap (λ (cs : List ℕ). map encode_utf8_all (words_back c.args.limit cs)) (end_trimmed c.args.text.now c.trim_end-rest.result.now c.trim_end-rest.utf8 c.trim_end-rest.ensures.trim);
}

pub returns-then-is_empty : goal.returns-then-is_empty
returns-then-is_empty c =
    sym (append-nil (all_shown c.loop-left.parts.items))
    ∙ ap (λ (ys : List (List ℕ)). all_shown c.loop-left.parts.items ++ ys) (sym (words_back_end c.loop-left.rest.now c.loop-left.left (true-eqb _ 0 c.if-is_empty.ensures)))
    ∙ c.loop-left.invariant.made

pub loop-left-preserved : goal.loop-left-preserved
loop-left-preserved c =
    let some = false-eqb _ 0 c.if-is_empty.ensures in
    let parts : PartsLast c.loop-left.rest.now c.split_last_word.result.0.now c.split_last_word.result.1.now = record {
      word = c.split_last_word.ensures.word;
      others = c.split_last_word.ensures.rest;
      front_text = c.split_last_word.ensures.front;
      back_text = c.split_last_word.ensures.back;
    } in
    let next = end_trimmed c.split_last_word.result.0.now c.trim_end-rest-in-loop-left.result.now c.trim_end-rest-in-loop-left.utf8 c.trim_end-rest-in-loop-left.ensures.trim in
    record {
      text = c.trim_end-rest-in-loop-left.utf8;
      made =
          shown_more c.loop-left.parts.items c.split_last_word.result.1 c.push.new.self.items _ c.in_ok-push.ensures.items
          ∙ ap (λ (ys : List (List ℕ)). all_shown c.loop-left.parts.items ++ ys)
          (sym (word_comes_back c.loop-left.rest.now c.split_last_word.result.0.now c.split_last_word.result.1.now c.trim_end-rest-in-loop-left.result.now (c.loop-left.left - 1) c.loop-left.left (omega (arith, c.loop-left-test.true)) c.loop-left.invariant.text (omega (arith, some)) parts next))
          ∙ c.loop-left.invariant.made;
    }

pub returns-then-is_empty-2 : goal.returns-then-is_empty-2
returns-then-is_empty-2 c =
    sym (append-nil (all_shown c.loop-left.parts.items))
    ∙ ap (λ (ys : List (List ℕ)). all_shown c.loop-left.parts.items ++ ys) (sym (words_back_end c.loop-left.rest.now c.loop-left.left (true-eqb _ 0 c.if-is_empty-2.ensures)))
    ∙ c.loop-left.invariant.made

pub returns : goal.returns
returns c =
    let some = false-eqb _ 0 c.if-is_empty-2.ensures in
    sym (append-nil (all_shown c.push-2.new.self.items))
    ∙ shown_more c.loop-left.parts.items c.loop-left.rest c.push-2.new.self.items [] c.in_ok-push-2.ensures.items
    ∙ ap (λ (ys : List (List ℕ)). all_shown c.loop-left.parts.items ++ ys)
    (sym (words_back_rest c.loop-left.rest.now c.loop-left.left (omega (arith, c.loop-left-test.false)) c.loop-left.invariant.text (omega (arith, some))))
    ∙ c.loop-left.invariant.made
