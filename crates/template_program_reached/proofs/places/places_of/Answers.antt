use Rattle.std.proofs.Common.{◌∙◌, ◌<◌, sym, ap, List, ℕ, length, arith}
use Rattle.template_program_reached.specs.Views.{texts_in}
use Rattle.template_program_reached.proofs.Telling.{places_told_more}
use Rattle.template_program_reached.proofs.Texts.{text_read}
use Rattle.template_program_reached.proofs.places.places_of.Goals as goal

-- the place of one more template is kept
pub loop-place-preserved : goal.loop-place-preserved
loop-place-preserved c =
    let t = c.index-templates-place.result in
    let h : c.loop-place.place < length c.args.templates.now = omega arith in
    places_told_more c.loop-place.places c.insert.new.self (texts_in c.args.templates.now) c.loop-place.place c.as_str.result.now
    (ap (λ (p : List ℕ × List ℕ). p.0) (text_read c.args.templates.now c.loop-place.place t h c.index-templates-place.is)
    ∙ sym c.as_str.ensures.value)
    c.in_ok-insert.ensures.updates c.loop-place.invariant
