use Rattle.std.proofs.Common.{map, ap, ◌∙◌}
use Rattle.std.proofs.lemmas.List.{take_all}
use Rattle.template_builtins_arguments.specs.Texts.{text_made}
use Rattle.template_builtins_texts.proofs.Flat.{map_shown}
use Rattle.template_builtins_pieces.proofs.lists.text_values.Goals as goal

pub returns-clause-made : goal.returns-clause-made
returns-clause-made c =
    c.loop-part.invariant
    ∙ ap (map (λ x. text_made c.args.safe x.now)) (take_all c.loop-part.part-index c.args.parts.now c.loop-part-test.false)
    ∙ map_shown (text_made c.args.safe) c.args.parts.now
