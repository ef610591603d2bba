-- Widths, digit by digit.
use Rattle.std.proofs.Common.{◌≡◌, ℕ, ◌+◌, ◌-◌, ◌*◌, ◌<◌, ◌≤◌, List, [], ◌∷◌, Bool, true, false, leb, None, Some, Ok, refl, sym, ap, ◌∙◌, arith, get_or, drop, length}
use Rattle.std.specs.Char.{is_ascii_digit}
use Rattle.std.proofs.lemmas.Bool.Decides.{nat_tests}
use Rattle.template_builtins_arguments.specs.Answers.{refused}
use Rattle.template_builtins_fields.specs.Layouts.{digit_of, number_then, width_in}
use Rattle.template_builtins_fields.specs.declared.layouts.TheConstants.{GREATEST_WIDTH}

-- the number so far, and what is left of its digits
abbrev pub IsLeft : List ℕ → ℕ → List ℕ → Type 0
IsLeft cs n rest = number_then n rest ≡ number_then 0 cs

-- a digit goes on, another character ends the number
one_digit : (n c d : ℕ) (rest : List ℕ) (t : Bool) → is_ascii_digit c ≡ t → digit_of c ≡ Some d
    → number_then n (c ∷ rest) ≡ number_then (n * 10 + d) rest
one_digit n c d rest true is made =
    let value : c - 48 ≡ d = let e = rw is at made in cc in
    rw (is, value)
one_digit n c d rest false is made = absurd (let e = rw is at made in cc)

no_digit : (n c : ℕ) (rest : List ℕ) (t : Bool) → is_ascii_digit c ≡ t → digit_of c ≡ None → number_then n (c ∷ rest) ≡ (n, c ∷ rest)
no_digit n c rest false is made = rw is
no_digit n c rest true is made = absurd (let e = rw is at made in cc)

grows_by : (t : Bool) (n : ℕ) (c : ℕ) (cs : List ℕ) → is_ascii_digit c ≡ t → n * 10 + (c - 48) ≤ (number_then (n * 10 + (c - 48)) cs).0
    → n ≤ (number_then n (c ∷ cs)).0
grows_by true n c cs is more = rw is (omega (arith, more))
grows_by false n c cs is more = rw is (omega arith)

grows : (n : ℕ) (cs : List ℕ) → n ≤ (number_then n cs).0
grows n [] = omega arith
grows n (c ∷ cs) = grows_by (is_ascii_digit c) n c cs refl (grows (n * 10 + (c - 48)) cs)

front : (xs : List ℕ) (x : ℕ) → 1 ≤ length xs → x ≡ get_or xs 0 x → xs ≡ x ∷ drop 1 xs
front [] x some is = absurd (omega arith)
front (y ∷ ys) x some is = cc

within : (found : ℕ × List ℕ) (cs : List ℕ) → number_then 0 cs ≡ found → found.0 ≤ GREATEST_WIDTH → width_in cs ≡ Ok found
unfolding width_in
within found cs is small = let e : leb found.0 GREATEST_WIDTH ≡ true = grind (arith, nat_tests) in rw (is, e)

pub stops : (cs : List ℕ) (n c : ℕ) (rest : List ℕ) → 1 ≤ length rest → c ≡ get_or rest 0 c → digit_of c ≡ None → n ≤ GREATEST_WIDTH
    → IsLeft cs n rest → width_in cs ≡ Ok (n, rest)
stops cs n c rest some is none small left =
    let e = front rest c some is in
    let step : number_then n rest ≡ (n, rest) =
    ap (number_then n) e ∙ no_digit n c (drop 1 rest) (is_ascii_digit c) refl none ∙ ap (λ (r : List ℕ). (n, r)) (sym e) in
    within (n, rest) cs (sym left ∙ step) small

pub ends : (cs : List ℕ) (n : ℕ) (rest : List ℕ) → length rest < 1 → n ≤ GREATEST_WIDTH → IsLeft cs n rest → width_in cs ≡ Ok (n, rest)
ends cs n [] none small left = within (n, []) cs (sym left) small
ends cs n (c ∷ rest) none small left = absurd (omega (arith, none))

-- the greatest width is passed, and no digit behind makes the number less
pub past : (cs : List ℕ) (n c d : ℕ) (rest : List ℕ) → 1 ≤ length rest → c ≡ get_or rest 0 c → digit_of c ≡ Some d → GREATEST_WIDTH < n * 10 + d
    → IsLeft cs n rest → width_in cs ≡ refused
unfolding width_in
past cs n c d rest some is made large left =
    let step : number_then n rest ≡ number_then (n * 10 + d) (drop 1 rest) =
    ap (number_then n) (front rest c some is) ∙ one_digit n c d (drop 1 rest) (is_ascii_digit c) refl made in
    let total : (number_then 0 cs).0 ≡ (number_then (n * 10 + d) (drop 1 rest)).0 = ap (λ (x : ℕ × List ℕ). x.0) (sym left ∙ step) in
    let more : GREATEST_WIDTH < (number_then 0 cs).0 = omega (arith, large, total, grows (n * 10 + d) (drop 1 rest)) in
    let e : leb (number_then 0 cs).0 GREATEST_WIDTH ≡ false = grind (arith, nat_tests) in
    rw e
