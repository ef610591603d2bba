use Rattle.std.proofs.Common.{◌≡◌, ◌+◌, List, String, false, length, get_or, drop, ap, subst, arith, Decides}
use Rattle.std.specs.declared.alloc.Global.{Global}
use Rattle.std.proofs.lemmas.Result.{IfOk-weaker}
use Rattle.template_program_reached.specs.Places.{text_at}
use Rattle.template_program_reached.specs.Sifted.{IsKept}
use Rattle.template_program_reached.specs.Views.{texts_in}
use Rattle.template_program_reached.proofs.Sifting.{sifts_marked}
use Rattle.template_program_reached.proofs.Texts.{length-texts}
use Rattle.template_program_reached.proofs.sift.readable.Goals as goal

pub returns-clause-sifted : goal.returns-clause-sifted
returns-clause-sifted c =
    let templates = c.args.templates.items in
    let marks = c.in_ok-kept.kept.items in
    let same : c.as_slice.result.now ≡ templates = c.as_slice.ensures.value in
    let long : length c.as_slice.result.now ≡ length templates = ap (λ (ts : List (String Global × String Global)). length ts) same in
    IfOk-weaker c.marked.result _ _
    (λ left is. sifts_marked c.args.syntax.now c.args.main.now templates left.items marks
    (omega (arith, c.in_ok-kept.ensures.length, long, length-texts templates))
    (λ i h. subst (λ (ts : List (String Global × String Global)). Decides (get_or marks i false)
    (IsKept c.args.syntax.now (texts_in ts) c.args.main.now (drop (i + 1) (texts_in ts)) (text_at (texts_in ts) i))) same
    (c.in_ok-kept.ensures.kept i (omega (arith, long, length-texts templates, h)))) is)
    c.marked.ensures.marked
