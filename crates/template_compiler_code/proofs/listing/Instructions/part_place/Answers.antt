use Rattle.std.proofs.Common.{slice_get, ap, ◌∙◌}
use Rattle.template_compiler_code.specs.Listing.{code_in}
use Rattle.template_compiler_code.proofs.Numbering.{at-number}
use Rattle.template_compiler_code.proofs.listing.Instructions.part_place.Goals as goal

pub returns-then-self : goal.returns-then-self
returns-then-self c =
    let number = c.args.number in
    c.place_at.ensures ∙ ap (λ ps. slice_get ps number) (c.places.ensures c.if-self.true)
    ∙ at-number c.args.part 0 (code_in c.args.self.now) number
