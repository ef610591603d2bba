use Rattle.std.proofs.Common.{map, take, sym, ap, ap₂, ◌∙◌}
use Rattle.std.proofs.lemmas.List.{take-map}
use Rattle.template_compiler_code.specs.View.{code_of}
use Rattle.template_compiler_code.proofs.Placing.{take-whole}
use Rattle.template_compiler_code.proofs.listing.Instructions.add_with_line.Goals as goal

pub returns-in-Err-clause-unchanged : goal.returns-in-Err-clause-unchanged
returns-in-Err-clause-unchanged c =
    ap (map code_of) c.taken_back.ensures.kept
    ∙ (sym (take-map code_of c.in_ok-start.start c.add.new.self.code.items)
    ∙ (ap₂ take c.in_ok-start.ensures.place c.in_ok-start.ensures.added ∙ take-whole _ _))
