-- Units and their tenths.
use Rattle.std.proofs.Common.{arith, ◌≡◌, ℕ, ◌+◌, ◌*◌, ◌/◌, ◌%◌, ◌^◌, ◌<◌, ◌≤◌, leb, List, ◌∷◌, length, drop, get_or, sym, ap, ◌∙◌, add-one, inl, inr}
use Rattle.std.proofs.lemmas.Bool.{cases_lt, cond-true, cond-false, le-leb, lt-leb}
use Rattle.std.proofs.lemmas.List.{at_drop_more, at_drop_all}
use Rattle.std.proofs.lemmas.Nat.{div_below, le-div, mul-le}
use Rattle.std.proofs.Math.Nat.{add-mul-div_left, div-add-mod', div-mul-le_self, le-mul_of_pos_right, mul-le-mul_left, mul-le-mul_right, mul_assoc, mul_comm, pow-le-pow_right, pow-suc}
use Rattle.template_builtins_decimals.specs.Sizes.{greatest_unit, next_unit}
use Rattle.template_builtins_decimals.specs.declared.sizes.Unit.{Unit}

product_past : (base n amount : ℕ) → 0 < base → n / base < amount → n < amount * base
product_past base n amount some h =
    elim (cases_lt n (amount * base)) [
      | inl below ↦ below
      | inr past ↦ let most = le-div amount n base some past in absurd (omega arith)
    ]

product_within : (base n amount : ℕ) → amount ≤ n / base → amount * base ≤ n
product_within base n amount h =
    let times = mul-le-mul_right base h in
    let most = div-mul-le_self n base in
    omega arith

pub unit_stays : (base n : ℕ) (unit : Unit) (letters : List ℕ) (i : ℕ) → i < length letters → 0 < base → n / base < unit.amount
    → greatest_unit base n unit (drop i letters) ≡ unit
unit_stays base n unit letters i h some less =
    at_drop_more (greatest_unit base n unit) letters i 0 h
    ∙ cond-false (leb (unit.amount * base) n) _ _ (lt-leb (unit.amount * base) n (product_past base n unit.amount some less))

pub unit_goes : (base n : ℕ) (unit : Unit) (letters : List ℕ) (i letter : ℕ) → i < length letters → letter ≡ get_or letters i letter → unit.amount ≤ n / base
    → greatest_unit base n unit (drop i letters) ≡ greatest_unit base n (next_unit base unit letter) (drop (i + 1) letters)
unit_goes base n unit letters i letter h is more =
    at_drop_more (greatest_unit base n unit) letters i letter h
    ∙ (ap (λ (c : ℕ). greatest_unit base n unit (c ∷ drop (i + 1) letters)) (sym is)
    ∙ cond-true (leb (unit.amount * base) n) _ _ (le-leb (unit.amount * base) n (product_within base n unit.amount more)))

pub unit_ends : (base n : ℕ) (unit : Unit) (letters : List ℕ) (i : ℕ) → length letters ≤ i → greatest_unit base n unit (drop i letters) ≡ unit
unit_ends base n unit letters i h = at_drop_all (greatest_unit base n unit) letters i h

pub amount_fits : (base n amount limit : ℕ) → amount ≤ n / base → n < limit → amount * base < limit
amount_fits base n amount limit h k = let most = product_within base n amount h in omega arith

pub amount_least : (base amount : ℕ) → 1000 ≤ base → 1000 ≤ amount → 1000 ≤ amount * base
amount_least base amount b h = let p : 0 < base = omega arith in let more = le-mul_of_pos_right amount p in omega arith

pub amount_grows : (i amount base : ℕ) → amount ≤ 1024 ^ (i + 1) → base ≤ 1024 → amount * base ≤ 1024 ^ (i + 1 + 1)
amount_grows i amount base h k =
    let next : 1024 ^ (i + 1 + 1) ≡ 1024 ^ (i + 1) * 1024 = ap (λ (m : ℕ). 1024 ^ m) (add-one (i + 1)) ∙ pow-suc 1024 (i + 1) in
    let product = mul-le amount base (1024 ^ (i + 1)) 1024 h k in
    omega arith

pub amount_greatest : (i amount : ℕ) → i ≤ 7 → amount ≤ 1024 ^ (i + 1) → amount ≤ 1024 ^ 8
amount_greatest i amount few h =
    let p : 0 < 1024 = omega arith in
    let q : i + 1 ≤ 8 = omega arith in
    let power = pow-le-pow_right p q in
    omega arith

pub whole_tenths : (n unit : ℕ) → 1000 ≤ unit → n ≤ 2 ^ 127 → n / unit * 1000 ≤ 2 ^ 127
whole_tenths n unit h k =
    let product = div-mul-le_self n unit in
    let less = mul-le-mul_left (n / unit) h in
    omega arith

pub rest_tenths : (n unit : ℕ) → 0 < unit → (n % unit * 10 + unit / 2) / unit < 11
rest_tenths n unit h = div_below (n % unit * 10 + unit / 2) unit 11 h (omega arith)

pub tenths_parts : (n unit : ℕ) → 0 < unit → n / unit * 10 + (n % unit * 10 + unit / 2) / unit ≡ (n * 10 + unit / 2) / unit
tenths_parts n unit h =
    let turned : unit * (n / unit * 10) ≡ n / unit * unit * 10 = sym (mul_assoc unit (n / unit) 10) ∙ ap (λ (m : ℕ). m * 10) (mul_comm unit (n / unit)) in
    let whole : n * 10 + unit / 2 ≡ (n % unit * 10 + unit / 2) + unit * (n / unit * 10) = omega (arith, turned, div-add-mod' n unit) in
    let parts = add-mul-div_left (n % unit * 10 + unit / 2) (n / unit * 10) h in
    let same : (n * 10 + unit / 2) / unit ≡ (n % unit * 10 + unit / 2) / unit + n / unit * 10 = ap (λ (m : ℕ). m / unit) whole ∙ parts in
    omega (arith, same)
