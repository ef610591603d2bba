-- A mask that is computed lane by lane is held to a predicate at each of the 256 bytes.
use Rattle.std.proofs.Common.{◌≡◌, ℕ, ◌%◌, ◌*◌, ◌+◌, ◌^◌, ◌<◌, ◌≤◌, ltb, Bool, true, false, not, cond, eqb, List, [], ◌∷◌, map, length, drop, replicate, refl, sym, ap, ap₂, ◌∙◌, arith, w8, Fits}
use Rattle.std.proofs.lemmas.Bool.{agree_below, agree_below_at, eq-eqb, ne_eqb}
use Rattle.std.proofs.lemmas.Simd.{chunk-drop, leading_from_mask_l, length-chunk, map-map, mask_l-mod, trailing_mask_l, zip2_splat}
use Rattle.std.proofs.lemmas.List.{length-map}
use Rattle.std.proofs.lemmas.List.Folds.{prefix_len-append}
use Rattle.std.proofs.lemmas.List.Sums.{prefix_len-le-length}
use Rattle.std.specs.List.{prefix_len}
use lib.Bits.{bit_or}
use lib.Count.{count_trailing_zeros}
use lib.Lanes.{Each1, chunk, mask_l, top, zip2}

-- lanes that are told apart are all ones or zero
abbrev pub hit : ℕ → ℕ → ℕ
hit a b = cond (eqb a b) 255 0

abbrev pub below : ℕ → ℕ → ℕ
below a b = cond (ltb a b) 255 0

-- lanes that are compared after a bit is set in each
pub lanes_with_bit : (v : List ℕ) (n bit byte : ℕ) → length v ≡ n → zip2 hit (zip2 bit_or v (replicate n bit)) (replicate n byte) ≡ map (λ x. hit (bit_or x bit) byte) v
lanes_with_bit v n bit byte long =
    ap (λ (l : List ℕ). zip2 hit l (replicate n byte)) (zip2_splat bit_or v n bit long)
    ∙ zip2_splat hit (map (λ x. bit_or x bit) v) n byte (length-map v (λ x. bit_or x bit) ∙ long)
    ∙ map-map (λ x. hit x byte) (λ x. bit_or x bit) v

each_byte : (f : ℕ → ℕ) (p : ℕ → Bool) → agree_below (λ x. top 7 (f x)) p 256 ≡ true → (v : List ℕ) → Each1 (Fits w8) v → map (top 7) (map f v) ≡ map p v
each_byte f p all [] fits = refl
each_byte f p all (x ∷ xs) fits = ap₂ (λ a b. a ∷ b) (agree_below_at (λ y. top 7 (f y)) p 256 x all fits.0.fits) (each_byte f p all xs fits.1)

pub masked : (f : ℕ → ℕ) (p : ℕ → Bool) (v z : List ℕ) → length v ≤ 64 → Each1 (Fits w8) v → z ≡ map f v
    → agree_below (λ x. top 7 (f x)) p 256 ≡ true → mask_l (map (top 7) z) % 2 ^ 64 ≡ mask_l (map p v)
masked f p v z short fits e all =
    ap (λ l. mask_l l % 2 ^ 64) (ap (map (top 7)) e ∙ each_byte f p all v fits) ∙ mask_l-mod (map p v) 64 (omega (arith, length-map v p))

none_stops : (b : Bool) (n l m : ℕ) → n ≤ l → cond (not b) (1 + n) 0 ≡ 1 + l → (n ≡ l → m ≡ 0) → cond b 1 0 + 2 * m ≡ 0
none_stops true n l m le e ih = let no : ⊥ = omega arith in absurd no
none_stops false n l m le e ih = let z = ih (omega arith) in omega arith

-- A run of bytes at which p does not stop, seen a vector at a time.
module _ (p : ℕ → Bool) where
  all_stand : (xs : List ℕ) → prefix_len (λ x. not (p x)) xs ≡ length xs → mask_l (map p xs) ≡ 0
  all_stand [] e = refl
  all_stand (x ∷ xs) e = none_stops (p x) _ (length xs) _ (prefix_len-le-length (λ y. not (p y)) xs) (omega arith) (all_stand xs)

  split : (d : List ℕ) (i n : ℕ) → prefix_len (λ x. not (p x)) (drop i d) ≡ cond (eqb (prefix_len (λ x. not (p x)) (chunk i n d)) (length (chunk i n d))) (length (chunk i n d) + prefix_len (λ x. not (p x)) (drop (i + n) d)) (prefix_len (λ x. not (p x)) (chunk i n d))
  split d i n = ap (prefix_len (λ x. not (p x))) (chunk-drop i n d) ∙ prefix_len-append (λ x. not (p x)) (chunk i n d) (drop (i + n) d)

  pub run_through : (d : List ℕ) (i n : ℕ) → i + n ≤ length d → mask_l (map p (chunk i n d)) ≡ 0 → prefix_len (λ x. not (p x)) (drop i d) ≡ n + prefix_len (λ x. not (p x)) (drop (i + n) d)
  run_through d i n room none =
      let q : ℕ → Bool = λ x. not (p x) in
      let c = chunk i n d in
      split d i n ∙ ap (λ b. cond b (length c + prefix_len q (drop (i + n) d)) (prefix_len q c)) (eq-eqb _ _ (leading_from_mask_l p c none))
      ∙ ap (λ k. k + prefix_len q (drop (i + n) d)) (length-chunk i n d room)

  pub run_stops : (d : List ℕ) (i n : ℕ) → i + n ≤ length d → n ≤ 64 → 0 < mask_l (map p (chunk i n d)) → prefix_len (λ x. not (p x)) (drop i d) ≡ count_trailing_zeros 64 (mask_l (map p (chunk i n d)))
  run_stops d i n room short some =
      let q : ℕ → Bool = λ x. not (p x) in
      let c = chunk i n d in
      split d i n ∙ ap (λ b. cond b (length c + prefix_len q (drop (i + n) d)) (prefix_len q c)) (ne_eqb _ _ (λ (e : prefix_len q c ≡ length c). omega (arith, all_stand c e)))
      ∙ sym (trailing_mask_l p 64 c (omega (arith, length-chunk i n d room)) some)
