use Rattle.std.proofs.Common.{◌≡◌, ◌+◌, ◌∷◌, Some, sym, subst, drop, add-one}
use Rattle.std.proofs.Math.Seq.{drop-cons}
use Rattle.serde_json.specs.Find.{as_str}
use Rattle.serde_json.specs.View.{view}
use Rattle.template_rows.proofs.Listed.{as_str-text, texts-one}
use Rattle.template_rows.proofs.entries.listed_texts.Goals as goal

pub loop-text-preserved : goal.loop-text-preserved
loop-text-preserved c =
    let texts = c.args.texts.now in
    let index = c.loop-text.text-index in
    let here = c.text-item.result in
    let opened : drop index texts ≡ here ∷ drop (index + 1) texts =
    subst (λ text. drop index texts ≡ text ∷ drop (index + 1) texts) (sym c.text-item.is) (rw add-one (drop-cons texts index here c.loop-text-test.true)) in
    let is : as_str (view here) ≡ Some c.as_str.result.now = rw c.in-String.is (rw c.as_str.ensures.value (as_str-text c.in-String.text)) in
    rw c.in_ok-push-in-String.ensures.items (texts-one c.loop-text.listed.items c.as_str.result here (drop (index + 1) texts) _ is (rw opened at c.loop-text.invariant))
