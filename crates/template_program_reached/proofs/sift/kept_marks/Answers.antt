use Rattle.std.proofs.Common.{◌≡◌, ◌⊎◌, ◌∙◌, ◌+◌, ◌<◌, Bool, List, ℕ, Some, true, false, length, get_or, drop, sym, ap, subst, arith, Decides}
use Rattle.std.proofs.lemmas.Bool.{both_ways}
use Rattle.std.proofs.lemmas.List.{get_or_read, length_push}
use Rattle.template_program_reached.specs.Places.{IsLast, TellPlaces, kept_of, text_at}
use Rattle.template_program_reached.specs.Reached.{IsReached}
use Rattle.template_program_reached.specs.Sifted.{IsKept, IsReadable}
use Rattle.template_program_reached.specs.Views.{texts_in}
use Rattle.template_program_reached.proofs.Sifting.{keeps, keeps_no_other, one_more_told}
use Rattle.template_program_reached.proofs.Texts.{length-texts, text_read}
use Rattle.template_program_reached.proofs.sift.kept_marks.Goals as goal
use Rattle.template_program_reached.proofs.sift.kept_marks.Goals.{then-is_last+in_ok-is_kept, else-is_last}

-- one more mark tells whether its template is kept
pub loop-place-preserved : goal.loop-place-preserved
loop-place-preserved c =
    let templates = c.args.templates.now in
    let texts = texts_in templates in
    let place = c.loop-place.place in
    let places = c.in_ok-places.places in
    let reached = c.in_ok-reached.reached.items in
    let x = c.args.syntax.now in
    let main = c.args.main.now in
    let h : place < length templates = omega arith in
    let long : length texts ≡ length templates = length-texts templates in
    let tell : TellPlaces places texts (length texts) = subst (TellPlaces places texts) (sym long) c.in_ok-places.ensures.told in
    let there = text_read templates place c.index-templates-place.result h c.index-templates-place.is in
    let name : c.as_str.result.now ≡ (text_at texts place).0 = c.as_str.ensures.value ∙ sym (ap (λ (p : List ℕ × List ℕ). p.0) there) in
    let IsOne : ℕ → Type 0 = λ i. IsKept x texts main (drop (i + 1) texts) (text_at texts i) in
    let tells : Decides c.if-is_last.is_kept (IsOne place) =
    elim c.if-is_last.branch [
      | then-is_last+in_ok-is_kept w ↦
          let source : w.as_str-then-is_last.result.now ≡ (text_at texts place).1 =
          w.as_str-then-is_last.ensures.value ∙ sym (ap (λ (p : List ℕ × List ℕ). p.1) there) in
          let mark : w.index.result.now ≡ get_or reached place false =
          get_or_read reached place w.index.result.now (omega (arith, c.in_ok-reached.ensures.length)) w.index.ensures false in
          subst (λ (b : Bool). Decides b (IsOne place)) (sym w.is_kept-is)
          (keeps x places texts main place w.in_ok-is_kept.is_kept w.index.result.now tell
          (subst (λ (n : List ℕ). kept_of n places ≡ Some place) name (c.is_last.ensures.0 w.if-is_last.true))
          (λ last. subst (λ (b : Bool). Decides b (IsReached x texts main (text_at texts place).0)) (sym mark)
          (c.in_ok-reached.ensures.marked place (text_at texts place).0
          (subst (λ (n : ℕ). IsLast texts n (text_at texts place).0 place) long last)))
          (subst (λ (s : List ℕ). Decides w.in_ok-is_kept.is_kept
          ((w.index.result.now ≡ true) ⊎ IsReadable x s)) source w.in_ok-is_kept.ensures.needed))
      | else-is_last w ↦
          subst (λ (b : Bool). Decides b (IsOne place)) (sym (w.is_kept-is ∙ w.if-is_last.false))
          (keeps_no_other x places texts main place tell (omega (arith, long))
          (λ is. both_ways c.is_last.result w.if-is_last.false
          (c.is_last.ensures.1 (subst (λ (n : List ℕ). kept_of n places ≡ Some place) (sym name) is))))
    ] in (
      omega (arith, ap (λ (ms : List Bool). length ms) c.in_ok-push.ensures.items, length_push c.loop-place.marks.items c.if-is_last.is_kept, c.loop-place.invariant.0),
      one_more_told IsOne c.loop-place.marks.items c.push.new.self.items place c.if-is_last.is_kept c.loop-place.invariant.0 c.in_ok-push.ensures.items tells
          c.loop-place.invariant.1,
    )
