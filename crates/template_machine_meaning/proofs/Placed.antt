-- The bodies of blocks last: where others come behind them, and where a place is put back.
use Rattle.std.proofs.Common.{◌≡◌, ℕ, suc, Bool, true, false, List, [], ◌∷◌, ◌++◌, Option, Some, Ordering, Less, Equal, Greater, option_map, refl, sym, ap, subst, ◌∙◌, append_assoc, append-nil}
use Rattle.std.specs.Prelude.{if◌then◌else◌}
use Rattle.std.specs.Str.{bytes_eq}
use Rattle.std.specs.BTreeMap.{insert_entry}
use Rattle.std.specs.Ordering.{match_ordering, nat_cmp, is_eq}
use Rattle.std.specs.Cmp.Lexicographic.{slice_cmp}
use Rattle.std.proofs.lemmas.Map.Text.{is_eq-slice_cmp}
use Rattle.std.proofs.lemmas.Slice.Eq.{bytes_eq-Decides}
use Rattle.template_machine_meaning.specs.Keys.{Home}
use Rattle.template_machine_meaning.specs.Bodies.{Bodies, bodies_at, bodies_behind, with_body, with_bodies, placed, with_place}
use Rattle.template_machine_meaning.specs.Keeps.{LastsAs, KeepsBodies}

same_text : (p q : List ℕ) → bytes_eq p q ≡ true → p ≡ q
same_text p q e = (bytes_eq-Decides p q).0 e

pub lasts_itself : (b : Bodies) → LastsAs b b
lasts_itself b = record { place = refl; more = []; homes = sym (append-nil b.homes) }

pub bodies_stay : (blocks : List (List ℕ × Bodies)) → KeepsBodies blocks blocks
bodies_stay blocks name b e = (b, e, lasts_itself b)

pub bodies_on : (blocks more most : List (List ℕ × Bodies)) → KeepsBodies blocks more → KeepsBodies more most → KeepsBodies blocks most
bodies_on blocks more most h k name b e =
    let first = h name b e in
    let second = k name first.0 first.1 in (
      second.0,
      second.1,
      record {
        place = second.2.place ∙ first.2.place;
        more = first.2.more ++ second.2.more;
        homes = second.2.homes ∙ ap (λ (homes : List Home). homes ++ second.2.more) first.2.homes ∙ append_assoc b.homes first.2.more second.2.more;
      },
    )

-- what is found where one was put
module _ (q name : List ℕ) (v : Bodies) where
  abbrev or_this : Option Bodies → Option Bodies
  or_this o = if bytes_eq name q then Some v else o

  replaced : (b : Bool) (o p : Option Bodies) → (if b then Some v else o) ≡ (if b then Some v else (if b then p else o))
  replaced true o p = refl
  replaced false o p = refl

  swapped : (b c : Bool) (p o : Option Bodies) → (b ≡ true → c ≡ true → ⊥) → (if b then p else (if c then Some v else o)) ≡ (if c then Some v else (if b then p else o))
  swapped true true p o apart = absurd (apart refl refl)
  swapped true false p o apart = refl
  swapped false c p o apart = refl

  put_at : (e : List ℕ × Bodies) (es : List (List ℕ × Bodies)) → bodies_at q (insert_entry (slice_cmp nat_cmp) es name v) ≡ or_this (bodies_at q es)
      → (o : Ordering) → slice_cmp nat_cmp name e.0 ≡ o
      → bodies_at q (match_ordering o ((name, v) ∷ e ∷ es) ((e.0, v) ∷ es) (e ∷ insert_entry (slice_cmp nat_cmp) es name v)) ≡ or_this (bodies_at q (e ∷ es))
  put_at e es later Less is = refl
  put_at e es later Equal is =
      let same : name ≡ e.0 = same_text name e.0 (sym (is_eq-slice_cmp name e.0) ∙ ap is_eq is) in
      replaced (bytes_eq e.0 q) (bodies_at q es) (Some e.1)
      ∙ ap (λ (text : List ℕ). if bytes_eq text q then Some v else bodies_at q (e ∷ es)) (sym same)
  put_at e es later Greater is =
      let apart : bytes_eq e.0 q ≡ true → bytes_eq name q ≡ true → ⊥ = λ h k.
      let same : name ≡ e.0 = same_text name q k ∙ sym (same_text e.0 q h) in
      let wrong : true ≡ false = sym ((bytes_eq-Decides name e.0).1 same) ∙ sym (is_eq-slice_cmp name e.0) ∙ ap is_eq is in
      absurd (cc) in
      ap (λ o. if bytes_eq e.0 q then Some e.1 else o) later ∙ swapped (bytes_eq e.0 q) (bytes_eq name q) (Some e.1) (bodies_at q es) apart

  found_put : (es : List (List ℕ × Bodies)) → bodies_at q (insert_entry (slice_cmp nat_cmp) es name v) ≡ or_this (bodies_at q es)
  found_put [] = refl
  found_put (e ∷ es) = put_at e es (found_put es) (slice_cmp nat_cmp name e.0) refl

one_behind : (home : Home) (name : List ℕ) (blocks : List (List ℕ × Bodies)) (q : List ℕ) (b : Bodies) → bodies_at q blocks ≡ Some b
    → (is : Bool) → bytes_eq name q ≡ is → (c : Bodies) × ((if is then Some (bodies_behind home (bodies_at name blocks)) else bodies_at q blocks) ≡ Some c) × LastsAs b c
one_behind home name blocks q b e true is =
    let there : bodies_at name blocks ≡ Some b = ap (λ (text : List ℕ). bodies_at text blocks) (same_text name q is) ∙ e in
    (record b { homes = b.homes ++ home ∷ [] }, ap (λ o. Some (bodies_behind home o)) there, record { place = refl; more = home ∷ []; homes = refl })
one_behind home name blocks q b e false is = (b, e, lasts_itself b)

body_lasts : (home : Home) (name : List ℕ) (blocks : List (List ℕ × Bodies)) → KeepsBodies blocks (with_body home name blocks)
body_lasts home name blocks q b e =
    let at = one_behind home name blocks q b e (bytes_eq name q) refl in
    (at.0, found_put q name (bodies_behind home (bodies_at name blocks)) blocks ∙ at.1, at.2)

pub bodies_last : (home : Home) (heads : List (List ℕ × Bool)) (blocks : List (List ℕ × Bodies)) → KeepsBodies blocks (with_bodies home heads blocks)
bodies_last home [] blocks = bodies_stay blocks
bodies_last home (h ∷ heads) blocks =
    bodies_on blocks (with_body home h.0 blocks) (with_bodies home heads (with_body home h.0 blocks)) (body_lasts home h.0 blocks) (bodies_last home heads (with_body home h.0 blocks))

-- another place for one of them
module _ (name : List ℕ) (place : ℕ) where
  abbrev PlacedAt : List (List ℕ × Bodies) → Type 0
  PlacedAt blocks = bodies_at name (with_place name place blocks) ≡ option_map (placed place) (bodies_at name blocks)

  placed_first : (b : List ℕ × Bodies) (bs : List (List ℕ × Bodies)) → PlacedAt bs → (is : Bool) → bytes_eq b.0 name ≡ is
      → bodies_at name (if is then (b.0, placed place b.1) ∷ bs else b ∷ with_place name place bs) ≡ option_map (placed place) (if is then Some b.1 else bodies_at name bs)
  placed_first b bs later true e = ap (λ (t : Bool). if t then Some (placed place b.1) else bodies_at name bs) e
  placed_first b bs later false e = ap (λ (t : Bool). if t then Some b.1 else bodies_at name (with_place name place bs)) e ∙ later

  placed_at : (blocks : List (List ℕ × Bodies)) → PlacedAt blocks
  placed_at [] = refl
  placed_at (b ∷ bs) = placed_first b bs (placed_at bs) (bytes_eq b.0 name) refl

  module _ (q : List ℕ) (other : bytes_eq name q ≡ false) where
    abbrev StaysAt : List (List ℕ × Bodies) → Type 0
    StaysAt blocks = bodies_at q (with_place name place blocks) ≡ bodies_at q blocks

    others_first : (b : List ℕ × Bodies) (bs : List (List ℕ × Bodies)) → StaysAt bs → (is : Bool) → bytes_eq b.0 name ≡ is
        → bodies_at q (if is then (b.0, placed place b.1) ∷ bs else b ∷ with_place name place bs) ≡ (if bytes_eq b.0 q then Some b.1 else bodies_at q bs)
    others_first b bs later true e =
        let differs : bytes_eq b.0 q ≡ false = ap (λ (text : List ℕ). bytes_eq text q) (same_text b.0 name e) ∙ other in
        ap (λ (t : Bool). if t then Some (placed place b.1) else bodies_at q bs) differs ∙ sym (ap (λ (t : Bool). if t then Some b.1 else bodies_at q bs) differs)
    others_first b bs later false e = ap (λ o. if bytes_eq b.0 q then Some b.1 else o) later

    others_at : (blocks : List (List ℕ × Bodies)) → StaysAt blocks
    others_at [] = refl
    others_at (b ∷ bs) = others_first b bs (others_at bs) (bytes_eq b.0 name) refl

-- the place is put back
module _ (name : List ℕ) (b : Bodies) (blocks later : List (List ℕ × Bodies)) (is : bodies_at name blocks ≡ Some b)
    (kept : KeepsBodies (with_place name (suc b.place) blocks) later) where
  of_block : (q : List ℕ) (d : Bodies) → bodies_at q blocks ≡ Some d → (same : Bool) → bytes_eq name q ≡ same
      → (c : Bodies) × (bodies_at q (with_place name b.place later) ≡ Some c) × LastsAs d c
  of_block q d e true same =
      let names : name ≡ q = same_text name q same in
      let one : b ≡ d = let both : Some b ≡ Some d = sym is ∙ ap (λ (text : List ℕ). bodies_at text blocks) names ∙ e in cc in
      let at = kept name (placed (suc b.place) b) (placed_at name (suc b.place) blocks ∙ ap (option_map (placed (suc b.place))) is) in (
        placed b.place at.0,
        ap (λ (text : List ℕ). bodies_at text (with_place name b.place later)) (sym names) ∙ placed_at name b.place later ∙ ap (option_map (placed b.place)) at.1,
        subst (λ (f : Bodies). LastsAs f (placed b.place at.0)) one (record { place = refl; more = at.2.more; homes = at.2.homes }),
      )
  of_block q d e false other =
      let at = kept q d (others_at name (suc b.place) q other blocks ∙ e) in
      (at.0, others_at name b.place q other later ∙ at.1, at.2)

  pub place_back : KeepsBodies blocks (with_place name b.place later)
  place_back q d e = of_block q d e (bytes_eq name q) refl
