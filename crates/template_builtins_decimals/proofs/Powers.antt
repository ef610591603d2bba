-- Numbers rounded to powers of ten.
use Rattle.std.proofs.Common.{arith, ◌≡◌, ℕ, ◌+◌, ◌*◌, ◌/◌, ◌%◌, ◌^◌, ◌<◌, ◌≤◌, Bool, true, false, cond, ◌&&◌, ltb, refl, sym, ap, ◌∙◌, add-zero, zero-add}
use Rattle.std.proofs.lemmas.Bool.{lt-leb}
use Rattle.std.proofs.Math.Nat.{div-eq_of_lt, div-mul-le_self, mod-eq_of_lt, pow-le-pow_right}
use Rattle.template_builtins_decimals.specs.Rounding.{adds_unit, goes_away, units_in}
use Rattle.template_builtins_decimals.specs.declared.rounding.Method.{Method}
use Rattle.template_builtins_decimals.specs.declared.rounding.Method.TheVariants.{Common, Ceil, Floor}
use Rattle.template_builtins_decimals.proofs.Carries.{one_more}

pub power_fits : (k : ℕ) → k ≤ 38 → 10 ^ k ≤ 10 ^ 38
power_fits k h = let some : 0 < 10 = omega arith in pow-le-pow_right some h

pub power_past : (k : ℕ) → 38 < k → 10 ^ 39 ≤ 10 ^ k
power_past k h = let some : 0 < 10 = omega arith in let least : 39 ≤ k = omega arith in pow-le-pow_right some least

pub power_some : (k : ℕ) → 0 < 10 ^ k
power_some k =
    let some : 0 < 10 = omega arith in
    let least : 0 ≤ k = omega arith in
    let power : 10 ^ 0 ≤ 10 ^ k = pow-le-pow_right some least in
    omega (arith, power)

adds_great : (method : Method) (negative : Bool) (size unit : ℕ) → size * 2 < unit → adds_unit method negative size unit ≡ (goes_away method negative && ltb 0 size)
adds_great Common negative size unit h = lt-leb unit (size * 2) h
adds_great Ceil negative size unit h = refl
adds_great Floor negative size unit h = refl

below_power : (size k : ℕ) → size ≤ 2 ^ 127 → 38 < k → size * 2 < 10 ^ k
below_power size k h great = let power = power_past k great in omega (arith, power)

great_units : (method : Method) (negative : Bool) (size k : ℕ) → size ≤ 2 ^ 127 → 38 < k
    → units_in method negative size (10 ^ k) ≡ cond (goes_away method negative && ltb 0 size) 1 0
unfolding units_in
great_units method negative size k h great =
    let twice = below_power size k h great in
    let below : size < 10 ^ k = omega arith in
    let quotient : size / 10 ^ k ≡ 0 = div-eq_of_lt below in
    let rest : size % 10 ^ k ≡ size = mod-eq_of_lt below in
    ap (λ (m : ℕ). m + cond (adds_unit method negative (size % 10 ^ k) (10 ^ k)) 1 0) quotient
    ∙ ap (λ (m : ℕ). 0 + cond (adds_unit method negative m (10 ^ k)) 1 0) rest
    ∙ ap (λ (b : Bool). 0 + cond b 1 0) (adds_great method negative size (10 ^ k) twice)
    ∙ zero-add (cond (goes_away method negative && ltb 0 size) 1 0)

-- to a power past every number it is 0
pub great_zero : (method : Method) (negative : Bool) (size k : ℕ) → size ≤ 2 ^ 127 → 38 < k → (goes_away method negative && ltb 0 size) ≡ false
    → 0 ≡ units_in method negative size (10 ^ k) * 10 ^ k
great_zero method negative size k h great is =
    let none : units_in method negative size (10 ^ k) ≡ 0 = great_units method negative size k h great ∙ ap (λ (b : Bool). cond b 1 0) is in
    let product : units_in method negative size (10 ^ k) * 10 ^ k ≡ 0 * 10 ^ k = ap (λ (m : ℕ). m * 10 ^ k) none in
    omega (arith, product)

-- or that power
pub great_power : (method : Method) (negative : Bool) (size k : ℕ) → size ≤ 2 ^ 127 → 38 < k → (goes_away method negative && ltb 0 size) ≡ true
    → 2 ^ 128 ≤ units_in method negative size (10 ^ k) * 10 ^ k
great_power method negative size k h great is =
    let one : units_in method negative size (10 ^ k) ≡ 1 = great_units method negative size k h great ∙ ap (λ (b : Bool). cond b 1 0) is in
    let product : units_in method negative size (10 ^ k) * 10 ^ k ≡ 1 * 10 ^ k = ap (λ (m : ℕ). m * 10 ^ k) one in
    let power = power_past k great in
    omega (arith, product, power)

pub units_added : (method : Method) (negative : Bool) (size unit : ℕ) (adds : Bool) → adds ≡ adds_unit method negative (size % unit) unit → adds ≡ true
    → (size / unit + 1) * unit ≡ units_in method negative size unit * unit
unfolding units_in
units_added method negative size unit adds is holds =
    ap (λ (b : Bool). (size / unit + cond b 1 0) * unit) (sym holds ∙ is)

pub units_kept : (method : Method) (negative : Bool) (size unit : ℕ) (adds : Bool) → adds ≡ adds_unit method negative (size % unit) unit → adds ≡ false
    → size / unit * unit ≡ units_in method negative size unit * unit
unfolding units_in
units_kept method negative size unit adds is fails =
    ap (λ (m : ℕ). m * unit) (sym (add-zero (size / unit)))
    ∙ ap (λ (b : Bool). (size / unit + cond b 1 0) * unit) (sym fails ∙ is)

pub units_fit : (size unit : ℕ) → size ≤ 2 ^ 127 → unit ≤ 10 ^ 38 → (size / unit + 1) * unit < 2 ^ 128
units_fit size unit h k =
    let product = one_more (size / unit) unit in
    let most = div-mul-le_self size unit in
    omega (arith, product, most)
