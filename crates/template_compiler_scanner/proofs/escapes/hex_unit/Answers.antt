-- Where two digits are missing there are not four.
use Rattle.std.proofs.Common.{ℕ, ◌+◌, List, Option, None, Some, refl}
use Rattle.std.specs.Option.{IfNone}
use Rattle.template_compiler_tokens.specs.Texts.{HasByte, HasUnit}
use Rattle.template_compiler_scanner.proofs.escapes.hex_unit.Goals as goal

lacks_high : {T : Type 0} (o : Option T) (text : List ℕ) (at : ℕ)
    → ((n : ℕ) → HasByte text at n → ⊥) → IfNone o ((n : ℕ) → HasUnit text at n → ⊥)
lacks_high None text at none = λ n h. none h.high h.high_byte
lacks_high (Some x) text at none = tt

lacks_low : {T : Type 0} (o : Option T) (text : List ℕ) (at : ℕ)
    → ((n : ℕ) → HasByte text (at + 2) n → ⊥) → IfNone o ((n : ℕ) → HasUnit text at n → ⊥)
lacks_low None text at none = λ n h. none h.low h.low_byte
lacks_low (Some x) text at none = tt

pub returns-in_err-high-clause-none : goal.returns-in_err-high-clause-none
returns-in_err-high-clause-none c = lacks_high _ c.args.text.now c.args.at c.in_err-high.ensures.none

pub returns-in_err-low-clause-none : goal.returns-in_err-low-clause-none
returns-in_err-low-clause-none c = lacks_low _ c.args.text.now c.args.at c.in_err-low.ensures.none

pub returns-clause-found : goal.returns-clause-found
returns-clause-found c = record {
  high = c.in_ok-high.high;
  low = c.in_ok-low.low;
  high_byte = c.in_ok-high.ensures.found;
  low_byte = c.in_ok-low.ensures.found;
  value = refl;
}
