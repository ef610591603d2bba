-- Repeats of nothing, and repeats within a limit.
use Rattle.std.proofs.Common.{◌≡◌, ℕ, zero, suc, ◌<◌, ◌≤◌, ◌*◌, ◌/◌, List, [], ◌∷◌, ◌++◌, length, Ok, refl, sym, ap, ◌∙◌, arith, inl, inr}
use Rattle.std.proofs.Math.Nat.{div-lt_iff_lt-mul}
use Rattle.std.proofs.lemmas.Bool.Decides.{nat_tests}
use Rattle.template_values_model.specs.declared.TheConstants.{DEPTH_LIMIT, REPEATED_TEXT_LIMIT, REPEATED_LIST_LIMIT}
use Rattle.template_values_model.specs.Val.{Val, text, list, vals_of}
use Rattle.template_values_core.specs.Depth.{vals_depth}
use Rattle.template_values_operators.specs.Kinds.{list_made}
use Rattle.template_values_operators.specs.Products.{repeated, text_repeated, list_repeated}
use Rattle.template_values_operators.specs.Rounds.{IsAsOften}
use Rattle.template_values_operators.proofs.Shallow.{vals_depth-append, list_made-shallow}

repeated-nil : {X : Type 0} → (n : ℕ) → repeated {X = X} n [] ≡ []
repeated-nil zero = refl
repeated-nil (suc n) = ap (λ xs. xs ++ []) (repeated-nil n)

pub repeated-often : {X : Type 0} → (n count : ℕ) (xs : List X) → IsAsOften n count (length xs) → repeated n xs ≡ repeated count xs
repeated-often n count xs (inl same) = ap (λ k. repeated k xs) same
repeated-often n count [] (inr empty) = repeated-nil n ∙ sym (repeated-nil count)
repeated-often n count (x ∷ xs) (inr empty) = absurd (omega arith)

pub text_repeated-often : (n count : ℕ) (s : List ℕ) → IsAsOften n count (length s) → count * length s ≤ REPEATED_TEXT_LIMIT
    → text_repeated count s ≡ Ok (text (repeated n s))
text_repeated-often n count s same fits = rw (repeated-often n count s same) (grind (arith, nat_tests))

pub list_repeated-often : (n count : ℕ) (vs : List Val) → IsAsOften n count (length vs) → count * length vs ≤ REPEATED_LIST_LIMIT
    → list_repeated count vs ≡ list_made (repeated n vs)
list_repeated-often n count vs same fits = rw (repeated-often n count vs same) (grind (arith, nat_tests))

repeated-shallow : (n : ℕ) (vs : List Val) (limit : ℕ) → vals_depth (vals_of vs) < limit → vals_depth (vals_of (repeated n vs)) < limit
repeated-shallow zero vs limit h = omega (arith, h)
repeated-shallow (suc n) vs limit h = vals_depth-append (repeated n vs) vs limit (repeated-shallow n vs limit h) h

-- a list within the limit that is repeated is made, since it nests no deeper
pub list_repeated-made : (n count : ℕ) (vs : List Val) → IsAsOften n count (length vs) → count * length vs ≤ REPEATED_LIST_LIMIT
    → vals_depth (vals_of vs) < DEPTH_LIMIT → list_repeated count vs ≡ Ok (list (vals_of (repeated n vs)))
list_repeated-made n count vs same fits h = list_repeated-often n count vs same fits
    ∙ list_made-shallow (repeated n vs) (repeated-shallow n vs DEPTH_LIMIT h)

pub mul-past : (n len limit : ℕ) → 0 < len → limit / len < n → limit < n * len
mul-past n len limit some past = (div-lt_iff_lt-mul some).0 past
