-- What bytes say as JSON.
use Rattle.std.proofs.Common.{◌≡◌, ℕ, List, Bool, true, false, None, Some, refl}
use Rattle.std.specs.Str.{is_utf8, IsUtf8}
use Rattle.std.proofs.lemmas.Str.{IsUtf8-from_is_utf8, is_utf8-from_IsUtf8}
use Rattle.serde_json.specs.Data.{Data}
use Rattle.serde_json.specs.Read.{read}
use Rattle.template_values_json.specs.Json.{data_in}

pub data_in_text : (bytes : List ℕ) (d : Data) → IsUtf8 bytes → read bytes ≡ Some d → data_in bytes ≡ Some d
data_in_text bytes d utf8 h = rw (is_utf8-from_IsUtf8 bytes utf8) h

no_data_by : (b : Bool) (bytes : List ℕ) → is_utf8 bytes ≡ b → (IsUtf8 bytes → read bytes ≡ None) → data_in bytes ≡ None
no_data_by true bytes is h = rw is (h (IsUtf8-from_is_utf8 bytes is))
no_data_by false bytes is h = rw is refl

pub no_data_in : (bytes : List ℕ) → (IsUtf8 bytes → read bytes ≡ None) → data_in bytes ≡ None
no_data_in bytes h = no_data_by (is_utf8 bytes) bytes refl h
