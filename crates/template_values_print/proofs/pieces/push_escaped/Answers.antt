use Rattle.std.proofs.Common.{◌≡◌, ℕ, List, [], ◌∷◌, ◌++◌, suc, take, drop, ◌-◌, ◌+◌, ◌<◌, get_or, arith, string_bytes, sym, ap, subst, ◌∙◌}
use Rattle.std.specs.List.{flat_map, prefix_len}
use Rattle.std.proofs.lemmas.Str.{IsCharBoundary-start, IsCharBoundary-after_ascii}
use Rattle.template_values_print.proofs.PieceLemmas.{Begins-refl, Begins-wrote, Writes-nothing, grown}
use Rattle.template_values_print.proofs.RunLemmas.{escaped_stands, grown_by_byte, grown_by_run}
use Rattle.template_values_print.specs.Pieces.{encoded, escaped_byte}
use Rattle.template_values_print.specs.Runs.{stands}
use Rattle.template_values_print.specs.declared.runs.Stops.TheVariants.{Escaped}
use Rattle.template_values_print.proofs.pieces.push_escaped.Goals as goal

pub loop-at-init : goal.loop-at-init
loop-at-init c = record {
  within = omega arith;
  boundary = IsCharBoundary-start c.args.text.now c.utf8.text;
  begins = Begins-refl (string_bytes c.args.out.now);
  done = Writes-nothing c.args.markup (string_bytes c.args.out.now);
}

pub loop-at-preserved-in_default : goal.loop-at-preserved-in_default
loop-at-preserved-in_default c =
    let text : List ℕ = c.args.text.now in
    let at : ℕ = c.loop-at.at in
    let old : List ℕ = string_bytes c.args.out.now in
    let f : ℕ → List ℕ = escaped_byte c.args.quoting in
    let end = c.run_end-end in
    let run : List ℕ = take (end.result - at) (drop at text) in
    let plain = subst (λ (b : ℕ). escaped_byte c.args.quoting b ≡ b ∷ []) (ap (λ (s : List ℕ). get_or s at 0) c.as_bytes.ensures.value) c.in_default.ensures.is in
    let next : at + 1 ≡ suc at = omega arith in
    let ends = subst (λ (n : ℕ). end.result ≡ n + prefix_len (stands Escaped) (drop n text)) next end.ensures.value in
    let wrote = c.in_ok-push.ensures ∙ ap (λ (x : List ℕ). string_bytes c.loop-at.out ++ encoded c.args.markup x) c.range.ensures.value in
    record {
      within = end.ensures.bound;
      boundary = end.ensures.boundary;
      begins = Begins-wrote _ _ _ _ c.loop-at.invariant.begins wrote;
      done = wrote ∙ ap (λ (x : List ℕ). x ++ encoded c.args.markup run) c.loop-at.invariant.done
          ∙ sym (grown c.args.markup old (flat_map f (take at text)) run)
          ∙ ap (λ (x : List ℕ). old ++ encoded c.args.markup x) (sym (grown_by_run (stands Escaped) f (escaped_stands c.args.quoting) text at end.result (omega arith) plain ends));
    }

pub loop-at-preserved : goal.loop-at-preserved
loop-at-preserved c =
    let text : List ℕ = c.args.text.now in
    let at : ℕ = c.loop-at.at in
    let old : List ℕ = string_bytes c.args.out.now in
    let f : ℕ → List ℕ = escaped_byte c.args.quoting in
    let byte : ℕ = get_or text at 0 in
    let same = ap (λ (s : List ℕ). get_or s at 0) c.as_bytes.ensures.value in
    let ascii = subst (λ (b : ℕ). b < 128) same c.in-Some.ensures.ascii in
    let wrote = c.in_ok-push_escape.ensures ∙ ap (λ (x : List ℕ). string_bytes c.loop-at.out ++ encoded c.args.markup x) (sym c.in-Some.ensures.is ∙ ap f same) in
    record {
      within = omega arith;
      boundary = IsCharBoundary-after_ascii text at c.utf8.text (omega arith) ascii;
      begins = Begins-wrote _ _ _ _ c.loop-at.invariant.begins wrote;
      done = wrote ∙ ap (λ (x : List ℕ). x ++ encoded c.args.markup (f byte)) c.loop-at.invariant.done
          ∙ sym (grown c.args.markup old (flat_map f (take at text)) (f byte))
          ∙ ap (λ (x : List ℕ). old ++ encoded c.args.markup x) (sym (grown_by_byte f text at (at + 1) (omega arith) (omega arith)));
    }
