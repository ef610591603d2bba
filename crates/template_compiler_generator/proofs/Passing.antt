-- The steps of the pass over code.
use Rattle.std.proofs.Common.{◌≡◌, ℕ, zero, suc, ◌+◌, ◌<◌, List, [], ◌∷◌, ◌++◌, length, map, take, drop, set, Option, None, Some, option_map, slice_get, refl, sym, ap, ◌∙◌, add-one}
use Rattle.std.proofs.lemmas.Option.{slice_get-get_or, slice_get-map}
use Rattle.template_compiler_code.specs.Code.{Code, apply_filter, perform_test, emit}
use Rattle.template_compiler_code.specs.View.{code_of}
use Rattle.template_compiler_code.specs.declared.instruction.Instruction.{Instruction}
use Rattle.template_compiler_code.specs.declared.instruction.Instruction.TheVariants as instructions
use Rattle.template_compiler_generator.specs.Numbers.{Names, Numbers, bare, name_at, name_of, names_at, names_past, names_with, number_among, numbered, numbered_at, numbered_behind, with_name}
use Rattle.template_compiler_generator.proofs.Alike.{bare_numbered}

-- the code up to a place, and that behind it with its numbers
abbrev pub passed : List Code → ℕ → Names → List Code
passed code place names = take place code ++ numbered_behind names (drop place code)

passes : (code : List Code) (place : ℕ) (names : Names) (c : Code) → slice_get code place ≡ Some c
    → passed (set code place (numbered (names_with names c) c)) (suc place) (names_with names c) ≡ passed code place names
passes [] place names c at = cc
passes (x ∷ code) zero names c at =
    let same : x ≡ c = cc in
    ap (λ y. numbered (names_with names y) y ∷ numbered_behind (names_with names y) code) (sym same)
passes (x ∷ code) (suc place) names c at = ap (λ cs. x ∷ cs) (passes code place names c at)

bare_set : (code : List Code) (place : ℕ) (c d : Code) → slice_get code place ≡ Some c → bare d ≡ bare c → map bare (set code place d) ≡ map bare code
bare_set [] place c d at same = cc
bare_set (x ∷ code) zero c d at same =
    let is : x ≡ c = cc in
    ap (λ y. y ∷ map bare code) (same ∙ ap bare (sym is))
bare_set (x ∷ code) (suc place) c d at same = ap (λ cs. bare x ∷ cs) (bare_set code place c d at same)

-- some instruction stands at a place within the code
within : (code : List Code) (place : ℕ) → place < length code → (c : Code) × (slice_get code place ≡ Some c)
within code place less = (_, slice_get-get_or code place emit less)

pub step_passes : (old new : List Code) (place : ℕ) (before after : Names) → place < length old → Numbers old new place before after
    → passed new (place + 1) after ≡ passed old place before
step_passes old new place before after less step =
    let found = within old place less in
    let c = found.0 in
    let names : after ≡ names_with before c = step.names ∙ ap (names_past before) found.1 in
    let code : new ≡ set old place (numbered (names_with before c) c) =
    step.code ∙ (λ i. numbered_at old place (names i) (found.1 i)) in
    (λ i. passed (code i) (add-one place i) (names i)) ∙ passes old place before c found.1

pub step_bare : (old new : List Code) (place : ℕ) (before after : Names) → place < length old → Numbers old new place before after
    → map bare new ≡ map bare old
step_bare old new place before after less step =
    let found = within old place less in
    let c = found.0 in
    ap (map bare) (step.code ∙ ap (numbered_at old place after) found.1) ∙ bare_set old place c (numbered after c) found.1 (bare_numbered after c)

-- names do not hang on numbers
bare_name : (o : Option Code) → name_of (option_map bare o) ≡ name_of o
bare_name None = refl
bare_name (Some (apply_filter name count number)) = refl
bare_name (Some (perform_test name count number)) = refl
bare_name (Some _) = refl

pub same_name : (a b : List Code) → map bare a ≡ map bare b → (place : ℕ) → name_at a place ≡ name_at b place
same_name a b same place =
    sym (bare_name (slice_get a place)) ∙ ap name_of (sym (slice_get-map bare a place)) ∙ ap (λ code. name_at code place) same
    ∙ ap name_of (slice_get-map bare b place) ∙ bare_name (slice_get b place)

same_names : (a b : List Code) → map bare a ≡ map bare b → (places : List ℕ) → map (name_at a) places ≡ map (name_at b) places
same_names a b same [] = refl
same_names a b same (place ∷ places) = (λ i. same_name a b same place i ∷ same_names a b same places i)

-- a filter has its number
pub filter_step : (old new : List Code) (place : ℕ) (name : List ℕ) (count : Option ℕ) (before number : ℕ) (filters others tests : List ℕ)
    → slice_get old place ≡ Some (apply_filter name count before) → map (name_at old) others ≡ with_name (map (name_at old) filters) name
    → number ≡ number_among (map (name_at old) others) name → new ≡ set old place (apply_filter name count number)
    → Numbers old new place (names_at old filters tests) (names_at new others tests)
filter_step old new place name count before number filters others tests at names is code =
    let stays : map bare new ≡ map bare old = ap (map bare) code ∙ bare_set old place (apply_filter name count before) (apply_filter name count number) at refl in
    let after : names_at new others tests ≡ names_with (names_at old filters tests) (apply_filter name count before) =
    (λ i. record { filters = (same_names new old stays others ∙ names) i; tests = same_names new old stays tests i }) in
    let given : number ≡ number_among (map (name_at new) others) name = is ∙ ap (λ ns. number_among ns name) (sym (same_names new old stays others)) in
    record {
      names = after ∙ ap (names_past (names_at old filters tests)) (sym at);
      code = code ∙ ap (λ n. set old place (apply_filter name count n)) given ∙ ap (numbered_at old place (names_at new others tests)) (sym at);
    }

-- so has a test
pub test_step : (old new : List Code) (place : ℕ) (name : List ℕ) (count : Option ℕ) (before number : ℕ) (filters tests others : List ℕ)
    → slice_get old place ≡ Some (perform_test name count before) → map (name_at old) others ≡ with_name (map (name_at old) tests) name
    → number ≡ number_among (map (name_at old) others) name → new ≡ set old place (perform_test name count number)
    → Numbers old new place (names_at old filters tests) (names_at new filters others)
test_step old new place name count before number filters tests others at names is code =
    let stays : map bare new ≡ map bare old = ap (map bare) code ∙ bare_set old place (perform_test name count before) (perform_test name count number) at refl in
    let after : names_at new filters others ≡ names_with (names_at old filters tests) (perform_test name count before) =
    (λ i. record { filters = same_names new old stays filters i; tests = (same_names new old stays others ∙ names) i }) in
    let given : number ≡ number_among (map (name_at new) others) name = is ∙ ap (λ ns. number_among ns name) (sym (same_names new old stays others)) in
    record {
      names = after ∙ ap (names_past (names_at old filters tests)) (sym at);
      code = code ∙ ap (λ n. set old place (perform_test name count n)) given ∙ ap (numbered_at old place (names_at new filters others)) (sym at);
    }

-- where there is no instruction, and at any other, all stays
pub no_step : (code : List Code) (place : ℕ) (names : Names) → slice_get code place ≡ None → Numbers code code place names names
no_step code place names at = record {
  names = ap (names_past names) (sym at);
  code = ap (numbered_at code place names) (sym at);
}

set_same : (code : List Code) (place : ℕ) (c : Code) → slice_get code place ≡ Some c → code ≡ set code place c
set_same [] place c at = cc
set_same (x ∷ code) zero c at =
    let is : x ≡ c = cc in
    ap (λ y. y ∷ code) is
set_same (x ∷ code) (suc place) c at = ap (λ cs. x ∷ cs) (set_same code place c at)

-- an instruction that has no number
abbrev pub IsPlain : Code → Type 0
IsPlain c = (names : Names) → (names ≡ names_with names c) × (c ≡ numbered names c)

pub is_plain : (i : Instruction) → ((p q r : _) → i ≡ instructions.ApplyFilter p q r → ⊥) → ((p q r : _) → i ≡ instructions.PerformTest p q r → ⊥) → IsPlain (code_of i)
is_plain (instructions.ApplyFilter p q r) no_filter no_test = absurd (no_filter p q r refl)
is_plain (instructions.PerformTest p q r) no_filter no_test = absurd (no_test p q r refl)
is_plain _ no_filter no_test = λ names. (refl, refl)

pub plain_step : (code : List Code) (place : ℕ) (names : Names) (c : Code) → slice_get code place ≡ Some c → IsPlain c → Numbers code code place names names
plain_step code place names c at plain = record {
  names = (plain names).0 ∙ ap (names_past names) (sym at);
  code = set_same code place c at ∙ ap (set code place) (plain names).1 ∙ ap (numbered_at code place names) (sym at);
}
