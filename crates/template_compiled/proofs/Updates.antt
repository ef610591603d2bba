-- What holds of all that stands, behind a change.
use Rattle.std.proofs.Common.{◌≡◌, ◌∙◌, sym, ℕ, List, Bool, true, false, cond, Option, None, Some, Result, Ok, Err, OnOk, OnErr, bytes_eq, string_bytes, refl, ap, subst}
use Rattle.std.specs.BTreeMap as tree
use Rattle.std.specs.BTreeMap.{BTreeMap, get_by_text, is_at}
use Rattle.std.specs.Cmp.Lexicographic.{slice_cmp}
use Rattle.std.specs.Map.{lookup}
use Rattle.std.specs.Ordering.{nat_cmp}
use Rattle.std.specs.Prelude.{String}
use Rattle.std.specs.String.{string_cmp}
use Rattle.std.specs.declared.alloc.Global.{Global}
use Rattle.std.proofs.lemmas.Map.Text.{btree_map_updates_text}
use Rattle.template_compiled.specs.Compiled.{Compiled}

-- of each with its name
abbrev pub HoldsOfAll : (List ℕ → Compiled → Type 0) → BTreeMap (String Global) Compiled → Type 0
HoldsOfAll P templates = (name : List ℕ) (t : Compiled) → get_by_text templates name ≡ Some t → P name t

by_test : (P : Compiled → Type 0) (given test : Bool) (w old : Option Compiled) → given ≡ test → ((t : Compiled) → w ≡ Some t → given ≡ true → P t)
    → ((t : Compiled) → old ≡ Some t → P t) → (t : Compiled) → cond test w old ≡ Some t → P t
by_test P given true w old is new before t at = new t at is
by_test P given false w old is new before t at = before t at

pub holds_after : (P : List ℕ → Compiled → Type 0) (bs : List ℕ) (m n : BTreeMap (String Global) Compiled) (w : Option Compiled)
    → tree.UpdatesBy string_cmp (λ k. slice_cmp nat_cmp bs (string_bytes k)) m n w
    → ((name : List ℕ) (t : Compiled) → w ≡ Some t → bytes_eq bs name ≡ true → P name t) → HoldsOfAll P m → HoldsOfAll P n
holds_after P bs m n w updates new hold = λ name t at.
    by_test (P name) (bytes_eq bs name) (bytes_eq bs name) w (get_by_text m name) refl (new name) (hold name) t (sym (btree_map_updates_text bs m n w updates name) ∙ at)

pub none_some : {t : Compiled} → None ≡ Some t → ⊥
none_some at = cc

some_is : {t u : Compiled} → Some t ≡ Some u → t ≡ u
some_is at = cc

-- behind an insertion, or where it failed
pub holds_inserted : {X E : Type 0} (P : List ℕ → Compiled → Type 0) (result : Result X E) (key : String Global) (compiled : Compiled)
    (old new : BTreeMap (String Global) Compiled) → OnOk result (tree.Updates string_cmp old new key (Some compiled)) → OnErr result (tree.IsUnchanged old new)
    → ((name : List ℕ) → bytes_eq (string_bytes key) name ≡ true → P name compiled) → HoldsOfAll P old → HoldsOfAll P new
holds_inserted P (Ok _) key compiled old new updates kept is hold =
    holds_after P (string_bytes key) old new (Some compiled) updates (λ name t same yes. subst (P name) (some_is same) (is name yes)) hold
holds_inserted P (Err _) key compiled old new updates kept is hold = λ name t at.
    hold name t (sym (ap (λ es. lookup (is_at (λ k. slice_cmp nat_cmp name (string_bytes k))) es) kept) ∙ at)
