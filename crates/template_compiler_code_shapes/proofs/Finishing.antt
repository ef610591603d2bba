-- What the end of a pass tells of a stream.
use Rattle.std.proofs.Common.{◌≡◌, List, length, Option, None, Some, refl, sym, ap, ◌∙◌}
use Rattle.std.specs.Prelude.{IsSomeAnd}
use Rattle.template_compiler_code.specs.Code.{Code}
use Rattle.template_compiler_code_shapes.specs.declared.StreamKind.{StreamKind}
use Rattle.template_compiler_code_shapes.specs.declared.StreamKind.TheVariants.{Template, Expression}
use Rattle.template_compiler_code_shapes.specs.Shapes.{Shape}
use Rattle.template_compiler_code_shapes.specs.Streams.{Reached, end_of, IsGood}
use Rattle.template_compiler_code_shapes.specs.Passes.{PassEnds, IsBad}
use Rattle.template_compiler_code_shapes.proofs.Working.{finished, bad_end}

-- the stream is of the kind that leaves the shape at the end
pub good_end : (code : List Code) (hand : Option Shape) (kind : StreamKind) → PassEnds code hand → ((s : Shape) → hand ≡ Some s → s ≡ end_of kind) → IsGood kind code
good_end code hand kind k over = finished code k.mark k.notes k.seen k.place kind k.marks k.works (λ s h. over s (sym k.end ∙ h))

-- at the end a shape stands that no kind of stream leaves
pub ends_badly : (code : List Code) (hand : Option Shape) → PassEnds code hand → IsSomeAnd hand (λ s. (kind : StreamKind) → s ≡ end_of kind → ⊥) → IsBad code
ends_badly code None k h = absurd h
ends_badly code (Some s) k h = λ kind. bad_end code k.mark k.notes k.seen _ k.place None s kind k.works k.end (h kind)

-- what is good as a template's is told as that, since the shape in hand at the end is reached
pub told_first : (code : List Code) (hand : Option Shape) → PassEnds code hand → (kind : StreamKind) → (kind ≡ Expression → hand ≡ Some (end_of kind)) → IsGood Template code → kind ≡ Template
told_first code hand k Template at_end good = refl
told_first code hand k Expression at_end good =
    let reached : Reached code (length code) (end_of Expression) = k.works.reached (length code) (end_of Expression) (k.works.noted (length code) (end_of Expression) (k.end ∙ at_end refl)) in
    let same : end_of Expression ≡ end_of Template = good.over (end_of Expression) reached in
    let wrong : (end_of Expression).operands ≡ (end_of Template).operands = ap (λ (s : Shape). s.operands) same in
    cc
