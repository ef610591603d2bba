use Rattle.std.proofs.Common.{arith, refl}
use Rattle.template_compiler_tokens.specs.Texts.{unit}
use Rattle.template_compiler_scanner.proofs.Characters.{no_unit, lone_low, lone_high, paired}
use Rattle.template_compiler_scanner.proofs.escapes.unit_escape.Goals as goal
use Rattle.template_compiler_scanner.proofs.escapes.unit_escape.Goals.{then-unit-lt55296-via-then-unit-lt55296, then-unit-lt55296-via-else-unit-lt55296+then-unit-ge57344}

pub returns-in-None : goal.returns-in-None
returns-in-None c = no_unit c.args.text.now c.requires c.in-None.ensures.none

pub returns-then-unit-lt55296 : goal.returns-then-unit-lt55296
returns-then-unit-lt55296 c =
    elim c.then-unit-lt55296.branch [
      | then-unit-lt55296-via-then-unit-lt55296 w ↦
          unit c.requires c.in-Some.ensures.found (λ high. absurd (omega (arith, high.0))) (λ low. absurd (omega (arith, low.0)))
      | then-unit-lt55296-via-else-unit-lt55296+then-unit-ge57344 w ↦
          unit c.requires c.in-Some.ensures.found (λ high. absurd (omega (arith, high.1))) (λ low. absurd (omega (arith, low.1)))
    ]

pub returns-then-unit-ge56320 : goal.returns-then-unit-ge56320
returns-then-unit-ge56320 c =
    lone_low c.args.text.now c.in-Some.unit c.requires c.in-Some.ensures.found (omega arith, omega arith)

pub returns-in-None-low_surrogate : goal.returns-in-None-low_surrogate
returns-in-None-low_surrogate c =
    lone_high c.args.text.now c.in-Some.unit c.requires c.in-Some.ensures.found (omega arith, omega arith)
    c.in-None-low_surrogate.ensures.none

pub returns : goal.returns
returns c =
    paired c.args.text.now c.in-Some.unit c.in-Some-low_surrogate.low c.requires c.in-Some.ensures.found (omega arith, omega arith)
    c.in-Some-low_surrogate.ensures.found _ refl
