-- The places that are kept of names.
use Rattle.std.proofs.Common.{◌≡◌, ◌∙◌, ℕ, Bool, true, false, not, cond, List, [], ◌∷◌, ◌++◌, length, None, Some, refl, ap, subst, arith}
use Rattle.std.specs.Borrow.{Bor}
use Rattle.std.specs.BTreeMap.{BTreeMap, UpdatesBy}
use Rattle.std.specs.Cmp.Lexicographic.{slice_cmp}
use Rattle.std.specs.List.{position}
use Rattle.std.specs.Ordering.{nat_cmp}
use Rattle.std.specs.Str.{bytes_eq}
use Rattle.std.proofs.lemmas.Grind.{common_steps}
use Rattle.std.proofs.lemmas.List.Folds.{position_or_len_push}
use Rattle.std.proofs.lemmas.List.Sums.{prefix_len-le-length}
use Rattle.std.proofs.lemmas.Map.Text.{btree_map_updates_str}
use Rattle.std.proofs.lemmas.Slice.Eq.{bytes_eq-Decides}
use Rattle.template_machine_frames.specs.declared.local.Local.{Local}
use Rattle.template_machine_frames.specs.Locals.{is_named, TellPlaces}

-- a new name goes behind the others
place_pushed : (name q : List ℕ) (ls : List Local) (x : Local) → x.name.now ≡ name → position (is_named name) ls ≡ None
    → cond (bytes_eq name q) (Some (length ls)) (position (is_named q) ls) ≡ position (is_named q) (ls ++ x ∷ [])
place_pushed name q ls x n none = by (bytes_eq name q) refl
  where
    by : (b : Bool) → bytes_eq name q ≡ b → cond b (Some (length ls)) (position (is_named q) ls) ≡ position (is_named q) (ls ++ x ∷ [])
    by true e =
        let same : name ≡ q = (bytes_eq-Decides name q).0 e in
        let is : is_named q x ≡ true = ap (λ (bs : List ℕ). bytes_eq bs q) n ∙ e in
        let gone : position (is_named q) ls ≡ None = subst (λ (m : List ℕ). position (is_named m) ls ≡ None) same none in
        grind (arith, common_steps, position_or_len_push (is_named q) ls x, prefix_len-le-length (λ (y : Local). not (is_named q y)) ls)
    by false e =
        let is : is_named q x ≡ false = ap (λ (bs : List ℕ). bytes_eq bs q) n ∙ e in
        grind (arith, common_steps, position_or_len_push (is_named q) ls x, prefix_len-le-length (λ (y : Local). not (is_named q y)) ls)

pub places_pushed : (before after : BTreeMap (Bor (List ℕ)) ℕ) (ls : List Local) (name : Bor (List ℕ)) (x : Local) → x.name.now ≡ name.now
    → position (is_named name.now) ls ≡ None
    → UpdatesBy (λ x y. slice_cmp nat_cmp x.now y.now) (λ k. slice_cmp nat_cmp name.now k.now) before after (Some (length ls))
    → TellPlaces before ls → TellPlaces after (ls ++ x ∷ [])
places_pushed before after ls name x n none updates tell = λ q.
    btree_map_updates_str name.now before after (Some (length ls)) updates q ∙ ap (cond (bytes_eq name.now q) (Some (length ls))) (tell q)
    ∙ place_pushed name.now q ls x n none
