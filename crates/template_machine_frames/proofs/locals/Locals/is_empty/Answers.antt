use Rattle.std.proofs.Common.{◌≡◌, ◌∙◌, ◌==◌, ap, arith, length, ℕ, List}
use Rattle.std.specs.Vec.{vec_len}
use Rattle.template_values_model.specs.Val.{Val}
use Rattle.template_machine_frames.proofs.Behind.{empty_where_few}
use Rattle.template_machine_frames.proofs.locals.Locals.is_empty.Goals as goal

pub returns : goal.returns
returns c =
    let few = c.self.inside.few in
    let long : vec_len few ≡ length few.items = omega (arith, few.ok.0) in
    c.is_empty.ensures ∙ ap (λ n. n == 0) long ∙ empty_where_few few c.self.inside.further c.self.invariant
    ∙ ap (λ (xs : List (List ℕ × Val)). length xs == 0) c.self.view_is
