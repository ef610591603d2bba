-- The places of parts in code: how many are before a place, and which has a number.
use Rattle.std.proofs.Common.{◌≡◌, ℕ, zero, suc, ◌+◌, ◌-◌, ◌<◌, ◌≤◌, true, false, ltb, nat_lt, if◌then◌else◌, All, List, [], ◌∷◌, ◌++◌, map, replicate, length, take, drop, get_or, Some, slice_get, inl, inr, length-take, refl, sym, ap, ap₂, subst, ◌∙◌, arith}
use Rattle.std.proofs.lemmas.Bool.{cases_Bool, ltb-true, ltb-false, lt-ltb}
use Rattle.std.proofs.lemmas.List.{append_assoc, get_or_append_left, get_or-append_right, length-append, length-replicate}
use Rattle.std.proofs.lemmas.List.Elements.{All-nil, All-append, All-replicate, All-get_or}
use Rattle.std.specs.List.Sorted.{IsPartitionPoint, IsPartitionedBy}
use Rattle.template_compiler_process.specs.Process.{Counts, counted_together}
use Rattle.template_compiler_code.specs.Code.{Code}
use Rattle.template_compiler_code.specs.Counting.{count_of, counts_of, counts_in, counts_before, places_from, place_from}
use Rattle.template_compiler_code.specs.declared.numbered.Part.{Part}
use Rattle.template_compiler_code.specs.declared.numbered.Part.TheVariants as parts

together : (part : Part) (a b : Counts) → count_of part (counted_together a b) ≡ count_of part a + count_of part b
together parts.Macro a b = refl
together parts.Rounds a b = refl

pub length-places : (part : Part) (place : ℕ) (code : List Code) → length (places_from part place code) ≡ count_of part (counts_in code)
length-places parts.Macro place [] = refl
length-places parts.Rounds place [] = refl
length-places part place (c ∷ code) =
    length-append (replicate (count_of part (counts_of c)) place) (places_from part (suc place) code)
    ∙ ap₂ (λ m n. m + n) (length-replicate (count_of part (counts_of c)) place) (length-places part (suc place) code)
    ∙ sym (together part (counts_of c) (counts_in code))

-- the places of the instructions before one, and then those from it on
parted : (part : Part) (base q s : ℕ) (code : List Code) → s ≡ base + q
    → places_from part base code ≡ places_from part base (take q code) ++ places_from part s (drop q code)
parted part base zero s code e = ap (λ b. places_from part b code) (sym (omega (arith, e)))
parted part base (suc q) s [] e = refl
parted part base (suc q) s (c ∷ code) e =
    let here = replicate (count_of part (counts_of c)) base in
    ap (λ ps. here ++ ps) (parted part (suc base) q s code (omega (arith, e)))
    ∙ sym (append_assoc here (places_from part (suc base) (take q code)) (places_from part s (drop q code)))

-- code that ends before a place has all of its own before it
all-before : (part : Part) (base s : ℕ) (code : List Code) → base + length code ≤ s → All (λ p. p < s) (places_from part base code)
all-before part base s [] within = All-nil (λ p. p < s)
all-before part base s (c ∷ code) within =
    All-append (λ p. p < s) (replicate (count_of part (counts_of c)) base) (places_from part (suc base) code)
    (All-replicate (λ p. p < s) (count_of part (counts_of c)) base (omega (arith, within)))
    (all-before part (suc base) s code (omega (arith, within)))

-- code that begins at a place or behind it has none of its own before it
all-from : (part : Part) (base s : ℕ) (code : List Code) → s ≤ base → All (λ p. s ≤ p) (places_from part base code)
all-from part base s [] from = All-nil (λ p. s ≤ p)
all-from part base s (c ∷ code) from =
    All-append (λ p. s ≤ p) (replicate (count_of part (counts_of c)) base) (places_from part (suc base) code)
    (All-replicate (λ p. s ≤ p) (count_of part (counts_of c)) base from)
    (all-from part (suc base) s code (omega (arith, from)))

-- a list of which all that is before a place stands in front
module _ (s : ℕ) (front back : List ℕ) (below : All (λ p. p < s) front) (from : All (λ p. s ≤ p) back) where
  left : (k d : ℕ) → k < length front → get_or (front ++ back) k d < s
  left k d less = subst (λ v. v < s) (sym (get_or_append_left front back d k less)) (All-get_or (λ p. p < s) front k d less below)

  right : (k d : ℕ) → length front ≤ k → k < length (front ++ back) → s ≤ get_or (front ++ back) k d
  right k d past less =
      subst (λ v. s ≤ v) (sym (get_or-append_right front back (length front) k d refl past))
      (All-get_or (λ p. s ≤ p) back (k - length front) d (omega (arith, less, past, length-append front back)) from)

  in_parts : IsPartitionedBy (λ p. ltb p s) (front ++ back)
  in_parts i j d le less e =
      elim (cases_Bool (ltb j (length front))) [
        | inl some ↦ lt-ltb _ s (left i d (omega (arith, le, ltb-true j (length front) some)))
        | inr other ↦ absurd (omega (arith, ltb-true _ s e, right j d (ltb-false j (length front) other) less))
      ]

  at_end : (n : ℕ) → n ≤ length (front ++ back)
      → IsPartitionPoint (λ p. ltb p s ≡ true) (λ p. ltb p s ≡ false) (front ++ back) n → n ≡ length front
  at_end n within p =
      elim (cases_Bool (ltb n (length front))) [
        | inl few ↦
            let less = ltb-true n (length front) few in
            absurd (omega (arith, left n 0 less, ltb-false _ s (p.1 n 0 (omega arith) (omega (arith, less, length-append front back)))))
        | inr some ↦
            elim (cases_Bool (ltb (length front) n)) [
              | inl many ↦
                  let less = ltb-true (length front) n many in
                  absurd (omega (arith, ltb-true _ s (p.0 (length front) 0 (omega arith) less), right (length front) 0 (omega arith) (omega (arith, less, within))))
              | inr other ↦ omega (arith, ltb-false n (length front) some, ltb-false (length front) n other)
            ]
      ]

-- where a search by halving among the places ends: as many parts stand before
pub parts-before : (part : Part) (code : List Code) (place n : ℕ) → n ≤ length (places_from part 0 code)
    → (IsPartitionedBy (λ p. ltb p place) (places_from part 0 code)
    → IsPartitionPoint (λ p. ltb p place ≡ true) (λ p. ltb p place ≡ false) (places_from part 0 code) n)
    → n ≡ count_of part (counts_before code place)
parts-before part code place n within ends =
    let front = places_from part 0 (take place code) in
    let back = places_from part place (drop place code) in
    let halves = parted part 0 place place code (omega arith) in
    let below = all-before part 0 place (take place code) (omega (arith, length-take place code)) in
    let from = all-from part place place (drop place code) (omega arith) in
    let point = ends (subst (λ ps. IsPartitionedBy (λ p. ltb p place) ps) (sym halves) (in_parts place front back below from)) in
    at_end place front back below from n (subst (λ ps. n ≤ length ps) halves within)
    (subst (λ ps. IsPartitionPoint (λ p. ltb p place ≡ true) (λ p. ltb p place ≡ false) ps n) halves point)
    ∙ length-places part 0 (take place code)

-- the first ones of a list that begins with as many of one place, and those behind them
few : (k place number : ℕ) (rest : List ℕ) → number < k → slice_get (replicate k place ++ rest) number ≡ Some place
few zero place number rest less = absurd (omega arith)
few (suc k) place zero rest less = refl
few (suc k) place (suc number) rest less = few k place number rest (omega arith)

many : (k place number : ℕ) (rest : List ℕ) → k ≤ number → slice_get (replicate k place ++ rest) number ≡ slice_get rest (number - k)
many zero place number rest past = ap (λ i. slice_get rest i) (omega arith)
many (suc k) place zero rest past = absurd (omega arith)
many (suc k) place (suc number) rest past = many k place number rest (omega arith) ∙ ap (λ i. slice_get rest i) (omega arith)

-- the place under a number in the list of places
pub at-number : (part : Part) (place : ℕ) (code : List Code) (number : ℕ)
    → slice_get (places_from part place code) number ≡ place_from part place code number
at-number part place [] number = refl
at-number part place (c ∷ code) number =
    let k = count_of part (counts_of c) in
    let later = place_from part (suc place) code (number - k) in
    elim (cases_Bool (nat_lt number k)) [
      | inl less ↦ few k place number _ (ltb-true number k less) ∙ sym (ap (λ b. if b then Some place else later) less)
      | inr past ↦
          many k place number _ (ltb-false number k past) ∙ at-number part (suc place) code (number - k)
          ∙ sym (ap (λ b. if b then Some place else later) past)
    ]

-- one instruction more
counted-next : (part : Part) (c : Code) (code : List Code) (left : ℕ) → 0 < left
    → count_of part (counts_before (c ∷ code) left) ≡ count_of part (counts_of c) + count_of part (counts_before code (left - 1))
counted-next part c code zero some = absurd (omega arith)
counted-next part c code (suc left) some =
    together part (counts_of c) (counts_before code left)
    ∙ ap (λ n. count_of part (counts_of c) + count_of part (counts_before code n)) (omega arith)

-- what is left of a list from an element on begins with it
unrolled : {X : Type 0} (f : X → Code) (k : ℕ) (xs : List X) (d : X) → k < length xs
    → map f (drop k xs) ≡ f (get_or xs k d) ∷ map f (drop (suc k) xs)
unrolled f zero [] d less = absurd (omega arith)
unrolled f zero (x ∷ xs) d less = refl
unrolled f (suc k) [] d less = absurd (omega arith)
unrolled f (suc k) (x ∷ xs) d less = unrolled f k xs d (omega arith)

pub counted-on : {X : Type 0} (part : Part) (f : X → Code) (k : ℕ) (xs : List X) (x : X) (left : ℕ) → k < length xs → x ≡ get_or xs k x → 0 < left
    → count_of part (counts_before (map f (drop k xs)) left)
    ≡ count_of part (counts_of (f x)) + count_of part (counts_before (map f (drop (k + 1) xs)) (left - 1))
counted-on part f k xs x left less is some =
    let next : suc k ≡ k + 1 = omega arith in
    ap (λ code. count_of part (counts_before code left)) (unrolled f k xs x less ∙ ap₂ (λ y n. f y ∷ map f (drop n xs)) (sym is) next)
    ∙ counted-next part (f x) (map f (drop (k + 1) xs)) left some
