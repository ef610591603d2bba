-- Macros and loops in code, by their numbers.
use Rattle.std.proofs.Common.{◌≡◌, ℕ, ◌+◌, ◌-◌, ◌≤◌, ◌<◌, suc, Bool, true, false, if◌then◌else◌, List, [], ◌∷◌, ◌++◌, length, Option, None, Some, unwrap_or, nat_lt, refl, sym, ap, ◌∙◌, arith}
use Rattle.std.proofs.lemmas.Bool.Decides.{Decides-ltb, nat_tests}
use Rattle.template_compiler_walk.specs.Counting.{below_or}
use Rattle.template_compiler_code.specs.Code.{Code, push_loop, build_macro}
use Rattle.template_compiler_code.specs.Counting.{counts_of, counts_in, MacroPlace, offset_of, names_listed, macro_from, rounds_from}

pub is_below : (a b : ℕ) → a < b → nat_lt a b ≡ true
is_below a b h = (Decides-ltb a b).1 h

pub not_below : (a b : ℕ) → b ≤ a → nat_lt a b ≡ false
not_below a b h = go (nat_lt a b) refl
  where
    go : (t : Bool) → nat_lt a b ≡ t → nat_lt a b ≡ false
    go true e = let less : a < b = (Decides-ltb a b).0 e in absurd (omega (arith, h, less))
    go false e = e

pub below_first : {X : Type 0} (number many : ℕ) (first second : Option X) → number < many → below_or number many first second ≡ first
below_first number many first second h = ap (λ b. if b then first else second) (is_below number many h)

pub below_second : {X : Type 0} (number many : ℕ) (first second : Option X) → many ≤ number → below_or number many first second ≡ second
below_second number many first second h = ap (λ b. if b then first else second) (not_below number many h)

-- how many names the last instruction lists
abbrev pub listed_last : ℕ → List Code → ℕ
listed_last count [] = count
listed_last count (c ∷ code) = listed_last (names_listed c) code

pub listed_end : (count : ℕ) (front : List Code) (c : Code) → listed_last count (front ++ (c ∷ [])) ≡ names_listed c
listed_end count [] c = refl
listed_end count (x ∷ front) c = listed_end (names_listed x) front c

-- the macro that is made behind so many others
pub macro_found : (front : List Code) (count : ℕ) (name : List ℕ) (offset flags : ℕ) (back : List Code) (number : ℕ) → (counts_in front).macros ≡ number
    → macro_from count (front ++ (build_macro name offset flags ∷ back)) number ≡ Some (record { offset = offset; count = listed_last count front })
macro_found [] count name offset flags back number e = ap (macro_from count (build_macro name offset flags ∷ back)) (sym e)
macro_found (x ∷ front) count name offset flags back number e =
    let own = (counts_of x).macros in
    let whole : own + (counts_in front).macros ≡ number = e in
    let less : (counts_in front).macros ≡ number - own = omega (arith, whole) in
    let behind : own ≤ number = omega (arith, whole) in
    let found : Option MacroPlace = Some (record { offset = offset_of x; count = count }) in
    ap (λ b. if b then found else macro_from (names_listed x) (front ++ (build_macro name offset flags ∷ back)) (number - own)) (not_below number own behind)
    ∙ macro_found front (names_listed x) name offset flags back (number - own) less

-- behind the last one there is none
pub macro_missing : (code : List Code) (count number : ℕ) → (counts_in code).macros ≤ number → macro_from count code number ≡ None
macro_missing [] count number h = refl
macro_missing (x ∷ code) count number h =
    let own = (counts_of x).macros in
    let whole : own + (counts_in code).macros ≤ number = h in
    let less : (counts_in code).macros ≤ number - own = omega (arith, whole) in
    let behind : own ≤ number = omega (arith, whole) in
    let found : Option MacroPlace = Some (record { offset = offset_of x; count = count }) in
    ap (λ b. if b then found else macro_from (names_listed x) code (number - own)) (not_below number own behind) ∙ macro_missing code (names_listed x) (number - own) less

-- so it is of loops that may be called again
pub rounds_found : (front : List Code) (place : ℕ) (back : List Code) (number : ℕ) → (counts_in front).rounds ≡ number
    → rounds_from place (front ++ (push_loop 3 ∷ back)) number ≡ Some (suc (place + length front))
rounds_found [] place back number e =
    let at : suc place ≡ suc (place + 0) = omega arith in
    ap (rounds_from place (push_loop 3 ∷ back)) (sym e) ∙ ap Some at
rounds_found (x ∷ front) place back number e =
    let own = (counts_of x).rounds in
    let whole : own + (counts_in front).rounds ≡ number = e in
    let less : (counts_in front).rounds ≡ number - own = omega (arith, whole) in
    let behind : own ≤ number = omega (arith, whole) in
    let at : suc (suc place + length front) ≡ suc (place + suc (length front)) = omega arith in
    ap (λ b. if b then Some (suc place) else rounds_from (suc place) (front ++ (push_loop 3 ∷ back)) (number - own)) (not_below number own behind)
    ∙ rounds_found front (suc place) back (number - own) less ∙ ap Some at

pub rounds_missing : (code : List Code) (place number : ℕ) → (counts_in code).rounds ≤ number → rounds_from place code number ≡ None
rounds_missing [] place number h = refl
rounds_missing (x ∷ code) place number h =
    let own = (counts_of x).rounds in
    let whole : own + (counts_in code).rounds ≤ number = h in
    let less : (counts_in code).rounds ≤ number - own = omega (arith, whole) in
    let behind : own ≤ number = omega (arith, whole) in
    ap (λ b. if b then Some (suc place) else rounds_from (suc place) code (number - own)) (not_below number own behind) ∙ rounds_missing code (suc place) (number - own) less

pub some_same : {X : Type 0} (x y : X) → Some x ≡ Some y → x ≡ y
some_same x y e = ap (λ o. unwrap_or o x) e

pub none_some : {X : Type 0} {A : Type 0} (y : X) → None ≡ Some y → A
none_some y e = let no : ⊥ = cc in absurd no

-- one of two is found where the number says
pub of_two : {X A : Type 0} (number many : ℕ) (first second : Option X) (x : X) → below_or number many first second ≡ Some x → (number < many → first ≡ Some x → A) → (many ≤ number → second ≡ Some x → A) → A
of_two {X} {A} number many first second x e f g = by (nat_lt number many) refl
  where
    by : (t : Bool) → nat_lt number many ≡ t → A
    by true is = f ((Decides-ltb number many).0 is) (sym (ap (λ b. if b then first else second) is) ∙ e)
    by false is =
        let behind : many ≤ number = grind (arith, nat_tests) in
        g behind (sym (ap (λ b. if b then first else second) is) ∙ e)
