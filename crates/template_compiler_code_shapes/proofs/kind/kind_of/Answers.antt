use Rattle.std.proofs.Common.{refl}
use Rattle.std.specs.Prelude.{option_map}
use Rattle.template_compiler_code.specs.Listing.{code_in}
use Rattle.template_compiler_code_shapes.specs.Outlines.{shape_of}
use Rattle.template_compiler_code_shapes.proofs.Finishing.{good_end, ends_badly, told_first}
use Rattle.template_compiler_code_shapes.proofs.kind.kind_of.Goals as goal

pub returns-in-Some-clause-good : goal.returns-in-Some-clause-good
returns-in-Some-clause-good c =
    good_end (code_in c.args.code.now) (option_map shape_of c.in_ok-hand.hand) c.in-Some.kind c.in_ok-hand.ensures.ends c.in-Some.ensures.kind

pub returns-in-Some-clause-first : goal.returns-in-Some-clause-first
returns-in-Some-clause-first c =
    told_first (code_in c.args.code.now) (option_map shape_of c.in_ok-hand.hand) c.in_ok-hand.ensures.ends c.in-Some.kind c.in-Some.ensures.expression

pub returns-in-None-clause-bad : goal.returns-in-None-clause-bad
returns-in-None-clause-bad c =
    λ is. ends_badly (code_in c.args.code.now) (option_map shape_of c.in_ok-hand.hand) c.in_ok-hand.ensures.ends (c.in-None.ensures.none refl)
