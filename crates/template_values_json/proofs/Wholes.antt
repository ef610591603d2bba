-- A float is no whole number.
use Rattle.std.proofs.Common.{◌≡◌, Bool, true, false, None, Some, refl, option_and_then, if◌then◌else◌}
use Rattle.std.specs.Float.{binary64, float_is_finite}
use Rattle.fast_float.specs.Text.{Parts, nearest}
use Rattle.serde_json.specs.Data.{Num, float}
use Rattle.serde_json.specs.Find.{as_integer}
use Rattle.serde_json.specs.Read.{float_of}

no_whole_by : (finite : Bool) (x : Num) → as_integer x ≡ None → option_and_then as_integer (if finite then Some x else None) ≡ None
no_whole_by true x h = h
no_whole_by false x h = refl

pub no_whole : (sign : Bool) (p : Parts) → option_and_then as_integer (float_of sign p) ≡ None
no_whole sign p = no_whole_by (float_is_finite (nearest binary64 sign p)) (float (nearest binary64 sign p)) refl
