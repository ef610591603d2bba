-- What stands beneath a frame.
use Rattle.std.proofs.Common.{◌≡◌, ◌||◌, Option, None, Some, is_some, refl}
use Rattle.std.specs.Option.{option_or}
use Rattle.template_values_model.specs.Val.{Val}

pub or_none : (o : Option Val) → option_or o None ≡ o
or_none None = refl
or_none (Some v) = refl

-- what is known in one of two
pub either_known : (o p : Option Val) → is_some (option_or o p) ≡ (is_some o || is_some p)
either_known None p = refl
either_known (Some v) p = refl
