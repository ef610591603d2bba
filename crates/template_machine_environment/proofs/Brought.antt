-- What becomes of what a user brought.
use Rattle.std.proofs.Common.{◌≡◌, ◌∙◌, ℕ, zero, suc, ◌+◌, ◌-◌, ◌<◌, ◌≤◌, Bool, true, false, cond, List, [], ◌∷◌, Option, None, Some, Result, Ok, Err, OnErr, ap, refl, arith}
use Rattle.std.specs.BTreeMap.{BTreeMap, get_by_text, is_at}
use Rattle.std.specs.Cmp.Lexicographic.{slice_cmp}
use Rattle.std.specs.List.{slice_get}
use Rattle.std.specs.Map.{lookup}
use Rattle.std.specs.Ordering.{nat_cmp}
use Rattle.std.specs.Prelude.{◌==◌, String, string_bytes}
use Rattle.std.specs.declared.alloc.Global.{Global}
use Rattle.std.proofs.lemmas.Bool.Decides.{nat_tests}
use Rattle.template_machine_environment.specs.Extras.{numbered_from}

-- nothing stands in an empty map
pub none_there : {X : Type 0} (m : BTreeMap (String Global) X) → m.entries ≡ [] → (name : List ℕ) → get_by_text m name ≡ None
none_there m empty name = ap (λ es. lookup (is_at (λ key. slice_cmp nat_cmp name (string_bytes key))) es) empty

-- where a call was refused
pub on_refusal : {X K A B : Type 0} (result : Result X K) → (A → B) → OnErr result A → OnErr result B
on_refusal (Ok x) f told = told
on_refusal (Err kinds) f told = f told

pub on_err : {X K B : Type 0} (result : Result X K) → B → OnErr result B
on_err (Ok x) told = tt
on_err (Err kinds) told = told

-- the function at a place has the place's number, counted from the first one's
pub at_place : {C : Type 0} (first i : ℕ) (fs : List C) → numbered_from first fs (first + i) ≡ slice_get fs i
at_place first i [] = refl
at_place first zero (f ∷ fs) =
    let here : (first == first + 0) ≡ true = grind (arith, nat_tests) in
    ap (λ b. cond b (Some f) (numbered_from (suc first) fs (first + 0))) here
at_place first (suc i) (f ∷ fs) =
    let later : (first == first + suc i) ≡ false = grind (arith, nat_tests) in
    let same : first + suc i ≡ suc first + i = omega arith in
    ap (λ b. cond b (Some f) (numbered_from (suc first) fs (first + suc i))) later ∙ ap (numbered_from (suc first) fs) same ∙ at_place (suc first) i fs

pub at_number : {C : Type 0} (first number : ℕ) (fs : List C) → first ≤ number → numbered_from first fs number ≡ slice_get fs (number - first)
at_number first number fs from =
    let same : number ≡ first + (number - first) = omega (arith, from) in
    ap (numbered_from first fs) same ∙ at_place first (number - first) fs

-- no number before that of the first one is a function's
pub none_before : {C : Type 0} (first number : ℕ) (fs : List C) → number < first → numbered_from first fs number ≡ None
none_before first number [] below = refl
none_before first number (f ∷ fs) below =
    let other : (first == number) ≡ false = grind (arith, nat_tests) in
    let later : number < suc first = omega (arith, below) in
    ap (λ b. cond b (Some f) (numbered_from (suc first) fs number)) other ∙ none_before (suc first) number fs later
