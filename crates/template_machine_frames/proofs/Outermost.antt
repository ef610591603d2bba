-- What is left of a stack that is cut off: the outermost ones.
use Rattle.std.proofs.Common.{◌≡◌, ◌∙◌, ap, sym, ℕ, suc, ◌+◌, ◌-◌, ◌≤◌, List, [], ◌∷◌, ◌++◌, length, take, drop, reverse, arith}
use Rattle.std.proofs.Math.Seq.{drop-append_seam, drop-length}
use Rattle.std.proofs.lemmas.List.{take-append-drop, reverse-append, length-reverse, length-drop, length-append}
use Rattle.template_machine_meaning.specs.Plans.{outermost}

pub outermost_left : {X : Type 0} (n : ℕ) (xs : List X) → reverse (take n xs) ≡ outermost n (reverse xs)
outermost_left n xs =
    let turned : reverse xs ≡ reverse (drop n xs) ++ reverse (take n xs) =
    ap reverse (sym (take-append-drop n xs)) ∙ reverse-append (take n xs) (drop n xs) in
    let gone : length (reverse xs) - n ≡ length (reverse (drop n xs)) =
    ap (λ m. m - n) (length-reverse xs) ∙ sym (length-drop n xs) ∙ sym (length-reverse (drop n xs)) in
    sym (ap (λ m. drop m (reverse xs)) gone ∙ ap (drop (length (reverse (drop n xs)))) turned
    ∙ drop-append_seam (reverse (drop n xs)) (reverse (take n xs)))

-- one more
pub one_more : {X : Type 0} (xs : List X) (x : X) → length (xs ++ x ∷ []) ≡ suc (length (reverse xs))
one_more xs x =
    let all : length (xs ++ x ∷ []) ≡ length xs + 1 = length-append xs (x ∷ []) in
    let same : length (reverse xs) ≡ length xs = length-reverse xs in
    omega (arith, all, same)

-- none of them, or all
pub outermost_none : {X : Type 0} (xs : List X) → outermost 0 xs ≡ []
outermost_none xs =
    let all : length xs - 0 ≡ length xs = omega arith in
    ap (λ n. drop n xs) all ∙ drop-length xs

pub outermost_all : {X : Type 0} (n : ℕ) (xs : List X) → length xs ≤ n → outermost n xs ≡ xs
outermost_all n xs few =
    let none : length xs - n ≡ 0 = omega arith in
    ap (λ m. drop m xs) none
