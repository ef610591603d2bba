use Rattle.std.proofs.Common.{◌≡◌, ℕ, List, [], ◌∷◌, ◌++◌, suc, take, drop, ◌-◌, ◌+◌, ◌<◌, get_or, arith, string_bytes, refl, sym, ap, subst, ◌∙◌, append_assoc}
use Rattle.std.specs.List.{prefix_len}
use Rattle.std.specs.Str.{IsUtf8}
use Rattle.std.proofs.lemmas.Str.{IsCharBoundary-start, IsCharBoundary-after_ascii}
use Rattle.template_values_forms.specs.Escapes.{html, html_byte}
use Rattle.template_values_print.specs.Runs.{stands}
use Rattle.template_values_print.specs.declared.runs.Stops.TheVariants.{Markup}
use Rattle.template_values_print.proofs.PieceLemmas.{Begins-refl, Begins-trans, html_byte-utf8, IsUtf8-nil}
use Rattle.template_values_print.proofs.RunLemmas.{grown_by_byte, grown_by_run, markup_stands}
use Rattle.template_values_print.proofs.html.push_references.Goals as goal

pub loop-at-init : goal.loop-at-init
loop-at-init c = record {
  within = omega arith;
  boundary = IsCharBoundary-start c.args.piece.now c.utf8.piece;
  begins = Begins-refl (string_bytes c.args.out.now);
  room = omega arith;
  text = IsUtf8-nil;
  done = refl;
}

pub loop-at-preserved-in_default : goal.loop-at-preserved-in_default
loop-at-preserved-in_default c =
    let text : List ℕ = c.args.piece.now in
    let at : ℕ = c.loop-at.at in
    let old : List ℕ = string_bytes c.args.out.now in
    let end = c.run_end-end in
    let run : List ℕ = take (end.result - at) (drop at text) in
    let put_on = c.in_ok-used.ensures.waits in
    let plain = subst (λ (b : ℕ). html_byte b ≡ b ∷ []) (ap (λ (s : List ℕ). get_or s at 0) c.as_bytes.ensures.value) c.in_default.ensures.is in
    let next : at + 1 ≡ suc at = omega arith in
    let ends = subst (λ (n : ℕ). end.result ≡ n + prefix_len (stands Markup) (drop n text)) next end.ensures.value in
    record {
      within = end.ensures.bound;
      boundary = end.ensures.boundary;
      begins = Begins-trans _ _ _ c.loop-at.invariant.begins put_on.begins;
      room = put_on.room;
      text = put_on.text;
      done = put_on.done ∙ ap (λ (x : List ℕ). (string_bytes c.loop-at.out ++ take c.loop-at.used c.loop-at.block) ++ x) c.range.ensures.value
          ∙ ap (λ (x : List ℕ). x ++ run) c.loop-at.invariant.done ∙ append_assoc old (html (take at text)) run
          ∙ ap (λ (x : List ℕ). old ++ x) (sym (grown_by_run (stands Markup) html_byte markup_stands text at end.result (omega arith) plain ends));
    }

pub put_reference-requires-clause-reference : goal.put_reference-requires-clause-reference
put_reference-requires-clause-reference c = subst IsUtf8 (sym c.in-Some.ensures.is) (html_byte-utf8 _ c.in-Some.ensures.ascii)

pub loop-at-preserved : goal.loop-at-preserved
loop-at-preserved c =
    let text : List ℕ = c.args.piece.now in
    let at : ℕ = c.loop-at.at in
    let old : List ℕ = string_bytes c.args.out.now in
    let before : List ℕ = string_bytes c.loop-at.out ++ take c.loop-at.used c.loop-at.block in
    let byte : ℕ = get_or text at 0 in
    let same = ap (λ (s : List ℕ). get_or s at 0) c.as_bytes.ensures.value in
    let put_on = c.in_ok-used-2.ensures.waits in
    let ascii = subst (λ (b : ℕ). b < 128) same c.in-Some.ensures.ascii in
    record {
      within = omega arith;
      boundary = IsCharBoundary-after_ascii text at c.utf8.piece (omega arith) ascii;
      begins = Begins-trans _ _ _ c.loop-at.invariant.begins put_on.begins;
      room = put_on.room;
      text = put_on.text;
      done = put_on.done ∙ ap (λ (x : List ℕ). before ++ x) (c.in-Some.ensures.is ∙ ap html_byte same)
          ∙ ap (λ (x : List ℕ). x ++ html_byte byte) c.loop-at.invariant.done ∙ append_assoc old (html (take at text)) (html_byte byte)
          ∙ ap (λ (x : List ℕ). old ++ x) (sym (grown_by_byte html_byte text at (at + 1) (omega arith) (omega arith)));
    }
