-- The JSON that bytes are.
use Rattle.std.proofs.Common.{◌≡◌, ℕ, List, Bool, true, false, None, refl}
use Rattle.std.specs.Str.{is_utf8, IsUtf8}
use Rattle.std.proofs.lemmas.Str.{IsUtf8-from_is_utf8, is_utf8-from_IsUtf8}
use Rattle.template_values_json.specs.Contexts.{tree_in, tree_of}

pub tree_in_text : (bytes : List ℕ) → IsUtf8 bytes → tree_in bytes ≡ tree_of bytes
tree_in_text bytes utf8 = rw (is_utf8-from_IsUtf8 bytes utf8) refl

no_tree_by : (b : Bool) (bytes : List ℕ) → is_utf8 bytes ≡ b → ¬ (IsUtf8 bytes) → tree_in bytes ≡ None
no_tree_by true bytes is h = absurd (h (IsUtf8-from_is_utf8 bytes is))
no_tree_by false bytes is h = rw is refl

pub no_tree_in : (bytes : List ℕ) → ¬ (IsUtf8 bytes) → tree_in bytes ≡ None
no_tree_in bytes h = no_tree_by (is_utf8 bytes) bytes refl h
