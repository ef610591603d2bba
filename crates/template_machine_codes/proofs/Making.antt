-- Where the bodies of macros and the rounds of loops begin that a stream makes: with the shape that is reached there.
use Rattle.std.proofs.Common.{◌≡◌, ℕ, zero, suc, ◌+◌, ◌-◌, ◌<◌, ◌≤◌, Bool, true, false, cond, List, [], ◌∷◌, length, take, Option, None, Some, slice_get, refl, sym, ap, subst, ◌∙◌, arith}
use Rattle.std.proofs.lemmas.Bool.{lt-ltb, le-ltb}
use Rattle.std.specs.Prelude.{IsSome, nat_lt, option_map, unwrap_or}
use Rattle.template_values_model.specs.Val as values
use Rattle.template_values_model.specs.Val.{Val, items_of}
use Rattle.template_values_core.specs.Reads.{items_in}
use Rattle.template_compiler_process.specs.Process.{Counts}
use Rattle.template_compiler_code.specs.Code.{Code, load_const, push_loop, build_macro}
use Rattle.template_compiler_code.specs.Counting.{is_recursive, counts_of, counts_in, counts_before, offset_of, names_listed, MacroPlace, macro_from, macro_at, rounds_from, rounds_at}
use Rattle.template_compiler_code_shapes.specs.declared.outline.Opened.TheVariants.{Loop as loop_frame, Recursive as recursive_frame}
use Rattle.template_compiler_code_shapes.specs.Shapes as shapes
use Rattle.template_compiler_code_shapes.specs.Shapes.{Shape, body_of, taken, closure_taken}
use Rattle.template_compiler_code_shapes.specs.Effects.{Effect, falling, is_iterate, may_lead, code_before, are_texts, texts_held, texts_loaded, making, effect_of}
use Rattle.template_compiler_code_shapes.specs.declared.StreamKind.{StreamKind}
use Rattle.template_compiler_code_shapes.specs.Streams.{Reached, falls_to, enters_at, IsGood}
use Rattle.template_machine_meaning.specs.Keys.{Stream}
use Rattle.template_machine_codes.specs.Streams.{Codes, IsBodyReached, AreRoundsReached, floor_at, in_rounds}
use Rattle.template_machine_codes.proofs.Taking.{some_mapped, some_tested}

some_is : {A : Type 0} (x y : A) → Some x ≡ Some y → x ≡ y
some_is x y e = cc

-- how many names stand before a place
abbrev listed_before : ℕ → List Code → ℕ → ℕ
listed_before count code zero = count
listed_before count [] (suc place) = 0
listed_before count (c ∷ code) (suc place) = listed_before (names_listed c) code place

-- the number of the one at a place finds it
found_first : {A : Type 0} (number more : ℕ) (x : A) (o : Option A) → number < more → cond (nat_lt number more) (Some x) o ≡ Some x
found_first number more x o less = ap (λ b. cond b (Some x) o) (lt-ltb number more less)

found_later : {A : Type 0} (many number : ℕ) (x : Option A) (o : ℕ → Option A) → cond (nat_lt (many + number) many) x (o (many + number - many)) ≡ o number
found_later many number x o =
    let not_less : many ≤ many + number = omega arith in
    let same : many + number - many ≡ number = omega arith in
    ap (λ b. cond b x (o (many + number - many))) (le-ltb (many + number) many not_less) ∙ ap o same

macro_there : (count : ℕ) (code : List Code) (place : ℕ) (c : Code) → slice_get code place ≡ Some c → 0 < (counts_of c).macros
    → macro_from count code (counts_in (take place code)).macros ≡ Some (record { offset = offset_of c; count = listed_before count code place })
macro_there count [] place c e some = absurd (cc)
macro_there count (x ∷ code) zero c e some =
    let is : x ≡ c = some_is x c e in
    let here : 0 < (counts_of x).macros = subst (λ (y : Code). 0 < (counts_of y).macros) (sym is) some in
    found_first 0 (counts_of x).macros (record { offset = offset_of x; count = count }) (macro_from (names_listed x) code (0 - (counts_of x).macros)) here
    ∙ ap (λ (y : Code). Some (record { offset = offset_of y; count = count })) is
macro_there count (x ∷ code) (suc place) c e some =
    found_later (counts_of x).macros (counts_in (take place code)).macros (Some (record { offset = offset_of x; count = count })) (λ number. macro_from (names_listed x) code number)
    ∙ macro_there (names_listed x) code place c e some

rounds_there : (first : ℕ) (code : List Code) (place : ℕ) (c : Code) → slice_get code place ≡ Some c → 0 < (counts_of c).rounds
    → rounds_from first code (counts_in (take place code)).rounds ≡ Some (suc (first + place))
rounds_there first [] place c e some = absurd (cc)
rounds_there first (x ∷ code) zero c e some =
    let is : x ≡ c = some_is x c e in
    let here : 0 < (counts_of x).rounds = subst (λ (y : Code). 0 < (counts_of y).rounds) (sym is) some in
    let same : suc first ≡ suc (first + 0) = omega arith in
    found_first 0 (counts_of x).rounds (suc first) (rounds_from (suc first) code (0 - (counts_of x).rounds)) here ∙ ap (λ n. Some n) same
rounds_there first (x ∷ code) (suc place) c e some =
    let same : suc (suc first + place) ≡ suc (first + suc place) = omega arith in
    found_later (counts_of x).rounds (counts_in (take place code)).rounds (Some (suc first)) (λ number. rounds_from (suc first) code number)
    ∙ rounds_there (suc first) code place c e some ∙ ap (λ n. Some n) same

-- what stands before lists the names that are loaded there
listed_is : (count : ℕ) (code : List Code) (place : ℕ) (c : Code) → slice_get code place ≡ Some c → listed_before count code (suc place) ≡ names_listed c
listed_is count [] place c e = absurd (cc)
listed_is count (x ∷ code) zero c e = ap names_listed (some_is x c e)
listed_is count (x ∷ code) (suc place) c e = listed_is (names_listed x) code place c e

held_is : (v : Val) (n : ℕ) → texts_held v ≡ Some n → length (unwrap_or (items_in v) []) ≡ n
held_is (values.list vs) n e = by_test (are_texts (items_of vs)) e
  where
    by_test : (b : Bool) → cond b (Some (length (items_of vs))) None ≡ Some n → length (items_of vs) ≡ n
    by_test true h = some_is (length (items_of vs)) n h
    by_test false h = absurd (cc)
held_is _ n e = absurd (cc)

loaded_is : (count : ℕ) (code : List Code) (place n : ℕ) → texts_loaded (code_before code place) ≡ Some n → listed_before count code place ≡ n
loaded_is count code zero n e = absurd (cc)
loaded_is count code (suc place) n e = by_code (slice_get code place) refl e
  where
    by_code : (o : Option Code) → slice_get code place ≡ o → texts_loaded o ≡ Some n → listed_before count code (suc place) ≡ n
    by_code (Some (load_const v)) there h = listed_is count code place (load_const v) there ∙ held_is v n h
    by_code (Some _) there h = absurd (cc)
    by_code None there h = absurd (cc)

module _ (kind : StreamKind) (code : List Code) (good : IsGood kind code) (codes : Codes) (stream : Stream) (is_code : codes.code stream ≡ Some code) (is_known : codes.known stream ≡ true) where
  same_code : (other : List Code) → codes.code stream ≡ Some other → other ≡ code
  same_code other e = some_is other code (sym e ∙ is_code)

  entered : (place offset : ℕ) (name : List ℕ) (flags : ℕ) (s : Shape) → Reached code place s → slice_get code place ≡ Some (build_macro name offset flags)
      → (o : Option ℕ) → texts_loaded (code_before code place) ≡ o → IsSome (making code offset o s) → (n : ℕ) × (o ≡ Some n) × Reached code offset (body_of n)
  entered place offset name flags s r there None loaded some = absurd (cc)
  entered place offset name flags s r there (Some n) loaded some =
      let effect : Shape → Effect = λ below. record { falls = Some (shapes.given 1 below); jumps = None; enters = Some (offset, body_of n) } in
      let may = some_tested (may_lead code offset) (option_map effect (closure_taken s s.operands)) some in
      let t = some_mapped effect (closure_taken s s.operands) may.1 in
      let is : effect_of code place (build_macro name offset flags) s ≡ Some (effect t.0) =
      ap (λ (o : Option ℕ). making code offset o s) loaded ∙ ap (λ b. cond b (option_map effect (closure_taken s s.operands)) None) may.0 ∙ ap (λ (o : Option Shape). option_map effect o) t.1 in
      (n, refl, enters_at r there is refl)

  -- a macro that is made where code is reached
  module _ (place : ℕ) (name : List ℕ) (offset flags : ℕ) (s : Shape) (r : Reached code place s) (there : slice_get code place ≡ Some (build_macro name offset flags)) where
    begins_reached : Reached code offset (body_of (listed_before 0 code place))
    begins_reached =
        let z = entered place offset name flags s r there (texts_loaded (code_before code place)) refl (good.fine place s (build_macro name offset flags) r there) in
        subst (λ (n : ℕ). Reached code offset (body_of n)) (sym (loaded_is 0 code place z.0 z.1)) z.2

    at_place : (m : MacroPlace) → macro_at code (counts_before code place).macros ≡ Some m → Reached code m.offset (body_of m.count)
    at_place m e =
        let is : record { offset = offset; count = listed_before 0 code place } ≡ m =
        some_is (record { offset = offset; count = listed_before 0 code place }) m (sym (macro_there 0 code place (build_macro name offset flags) there (omega arith)) ∙ e) in
        subst (λ (p : MacroPlace). Reached code p.offset (body_of p.count)) is begins_reached

    pub macro_reached : IsBodyReached codes stream (counts_before code place).macros
    macro_reached = (
      is_known,
      λ other e m found.
          subst (λ (c : List Code). Reached c m.offset (body_of m.count)) (sym (same_code other e))
          (at_place m (subst (λ (c : List Code). macro_at c (counts_before code place).macros ≡ Some m) (same_code other e) found)),
    )

  -- a loop that is opened where code is reached
  module _ (place flags : ℕ) (s : Shape) (r : Reached code place s) (there : slice_get code place ≡ Some (push_loop flags)) (recursive : is_recursive flags ≡ true) where
    behind_push : (below : Shape) × Reached code (suc place) (in_rounds place below)
    behind_push =
        let f : Shape → Effect = λ below. falling (shapes.opened (shapes.loop_opened flags place below) below) in
        let may = some_tested (is_iterate (slice_get code (suc place))) (option_map f (taken 1 s)) (good.fine place s (push_loop flags) r there) in
        let t = some_mapped f (taken 1 s) may.1 in
        let is : effect_of code place (push_loop flags) s ≡ Some (f t.0) =
        ap (λ b. cond b (option_map f (taken 1 s)) None) may.0 ∙ ap (λ (o : Option Shape). option_map f o) t.1 in
        (t.0, subst (λ b. Reached code (suc place) (shapes.opened (cond b (recursive_frame place (floor_at t.0)) (loop_frame place)) t.0)) recursive (falls_to r there is refl))

    counted_one : 0 < (counts_of (push_loop flags)).rounds
    counted_one =
        let one : 0 < 1 = omega arith in
        subst (λ b. 0 < (cond {A = Counts} b (record { macros = 0; rounds = 1 }) (record { macros = 0; rounds = 0 })).rounds) (sym recursive) one

    rounds_there_reached : (other : List Code) → codes.code stream ≡ Some other → (to : ℕ) → rounds_at other (counts_before code place).rounds ≡ Some to
        → (push : ℕ) × (below : Shape) × Reached other to (in_rounds push below)
    rounds_there_reached other e to found =
        let found_here : rounds_at code (counts_before code place).rounds ≡ Some to = subst (λ (c : List Code). rounds_at c (counts_before code place).rounds ≡ Some to) (same_code other e) found in
        let is : suc (0 + place) ≡ to = some_is (suc (0 + place)) to (sym (rounds_there 0 code place (push_loop flags) there counted_one) ∙ found_here) in
        let to_is : suc place ≡ to = omega (arith, is) in (
          place,
          behind_push.0,
          subst (λ (c : List Code). Reached c to (in_rounds place behind_push.0)) (sym (same_code other e)) (subst (λ (n : ℕ). Reached code n (in_rounds place behind_push.0)) to_is behind_push.1),
        )

    pub loop_reached : AreRoundsReached codes stream (counts_before code place).rounds
    loop_reached = (is_known, rounds_there_reached)
