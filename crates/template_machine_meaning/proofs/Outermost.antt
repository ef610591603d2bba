-- The outermost ones of a list: how many they are, and which.
use Rattle.std.proofs.Common.{◌≡◌, ℕ, suc, ◌+◌, ◌-◌, ◌≤◌, List, ◌∷◌, ◌++◌, length, drop, map, sym, ap, ◌∙◌, arith}
use Rattle.std.proofs.lemmas.List.{length-drop, drop-drop, length-map, length-append}
use Rattle.std.specs.List.{drop-map}
use Rattle.std.proofs.Math.Seq.{drop-append_seam}
use Rattle.template_machine_meaning.specs.Plans.{outermost}

pub length_outermost : {X : Type 0} (n : ℕ) (xs : List X) → n ≤ length xs → length (outermost n xs) ≡ n
length_outermost n xs less =
    let many : length xs - (length xs - n) ≡ n = omega arith in
    length-drop (length xs - n) xs ∙ many

pub outermost_all : {X : Type 0} (n : ℕ) (xs : List X) → length xs ≡ n → outermost n xs ≡ xs
outermost_all n xs e =
    let none : length xs - n ≡ 0 = omega arith in
    ap (λ k. drop k xs) none

pub outermost_behind : {X : Type 0} (n : ℕ) (x : X) (xs : List X) → n ≤ length xs → outermost n (x ∷ xs) ≡ outermost n xs
outermost_behind n x xs less =
    let one : suc (length xs) - n ≡ suc (length xs - n) = omega arith in
    ap (λ k. drop k (x ∷ xs)) one

pub outermost_of : {X : Type 0} (k n : ℕ) (xs : List X) → k ≤ n → n ≤ length xs → outermost k (outermost n xs) ≡ outermost k xs
outermost_of k n xs fewer less =
    let rest : (length xs - n) + (n - k) ≡ length xs - k = omega arith in
    ap (λ m. drop (m - k) (outermost n xs)) (length_outermost n xs less)
    ∙ drop-drop (n - k) (length xs - n) xs ∙ ap (λ m. drop m xs) rest

pub outermost_map : {X Y : Type 0} (f : X → Y) (n : ℕ) (xs : List X) → map f (outermost n xs) ≡ outermost n (map f xs)
outermost_map f n xs = sym (drop-map f (length xs - n) xs) ∙ ap (λ k. drop (k - n) (map f xs)) (sym (length-map xs f))

pub outermost_append : {X : Type 0} (n : ℕ) (more xs : List X) → length xs ≡ n → outermost n (more ++ xs) ≡ xs
outermost_append n more xs e =
    let first : length (more ++ xs) - n ≡ length more = omega (arith, length-append more xs) in
    ap (λ k. drop k (more ++ xs)) first ∙ drop-append_seam more xs
