use Rattle.std.proofs.Common.{◌≡◌, ℕ, List, [], ◌∷◌, ◌++◌, take, drop, ◌-◌, ◌+◌, ◌<◌, get_or, arith, string_bytes, sym, ap, subst, ◌∙◌, append-nil}
use Rattle.std.proofs.lemmas.Str.{IsCharBoundary-start, IsCharBoundary-after_ascii}
use Rattle.template_values_print.proofs.PieceLemmas.{loop_goes_on, loop_ends_block, wrote_both}
use Rattle.template_values_print.specs.declared.pieces.Markup.TheVariants.{Plain}
use Rattle.template_builtins_web.specs.Markup.{unmarked_byte}
use Rattle.template_builtins_web.proofs.markup.unmarked.Goals as goal

pub loop-i-init : goal.loop-i-init
loop-i-init c = record {
  within = omega arith;
  boundary = IsCharBoundary-start c.args.text.now c.utf8.text;
  done = append-nil _ ∙ c.new-out.ensures.bytes;
}

pub loop-i-preserved-in_default : goal.loop-i-preserved-in_default
loop-i-preserved-in_default c =
    let at = ap (λ (s : List ℕ). get_or s c.loop-i.i 0) c.as_bytes-byte-items.ensures.value in
    let P : ℕ → Type 0 = λ b. unmarked_byte b ≡ b ∷ [] in
    record {
      within = omega arith;
      boundary = c.loop-i.invariant.boundary;
      done = loop_goes_on Plain unmarked_byte c.args.text.now (string_bytes c.loop-i.out) [] c.loop-i.start c.loop-i.i (c.loop-i.i + 1) (omega arith) (omega arith) (omega arith) (subst P at c.in_default.ensures.is) c.loop-i.invariant.done;
    }

pub loop-i-preserved : goal.loop-i-preserved
loop-i-preserved c =
    let at = ap (λ (s : List ℕ). get_or s c.loop-i.i 0) c.as_bytes-byte-items.ensures.value in
    let Q : ℕ → Type 0 = λ b. b < 128 in
    let block = c.in_ok-push_str.ensures.bytes ∙ ap (λ (x : List ℕ). string_bytes c.loop-i.out ++ x) c.range.ensures.value in
    let escaped = c.in_ok-push_str-2.ensures.bytes in
    record {
      within = omega arith;
      boundary = IsCharBoundary-after_ascii c.args.text.now c.loop-i.i c.utf8.text (omega arith) (subst Q at c.in-Some.ensures.ascii);
      done = loop_ends_block Plain unmarked_byte c.args.text.now (string_bytes c.loop-i.out) [] _ c.loop-i.start c.loop-i.i (c.loop-i.i + 1) (omega arith) (omega arith) c.loop-i.invariant.done (wrote_both Plain _ _ _ (take (c.loop-i.i - c.loop-i.start) (drop c.loop-i.start c.args.text.now)) c.in-Some.reference.now (unmarked_byte (get_or c.args.text.now c.loop-i.i 0)) block escaped (sym (ap unmarked_byte at) ∙ sym c.in-Some.ensures.is));
    }
