-- What an admissible instruction takes lies on the operands, above those that lie away under the floor.
use Rattle.std.proofs.Common.{◌≡◌, ℕ, zero, suc, ◌+◌, ◌<◌, ◌≤◌, Bool, true, false, cond, List, [], ◌∷◌, ◌++◌, length, map, Option, None, Some, refl, sym, ap, ◌∙◌, arith}
use Rattle.std.proofs.lemmas.Bool.{lt-leb}
use Rattle.std.specs.Prelude.{IsSome, ◌&&◌, nat_le, option_map, option_and_then, slice_get}
use Rattle.template_values_model.specs.Val.{Val}
use Rattle.template_compiler_code.specs.Code.{Operand, single, counted, counting, closure, Code}
use Rattle.template_compiler_code.specs.Steps as table
use Rattle.template_compiler_code_shapes.specs.Effects as effects
use Rattle.template_compiler_code_shapes.specs.Effects.{falling, made}
use Rattle.template_compiler_code_shapes.specs.Shapes as shapes
use Rattle.template_compiler_code_shapes.specs.Shapes.{Form, single_form, counted_form, counting_form, closure_form, form_of, Shape, floor_of, below_values, lowered, taken, run_taken, handed, closure_taken}

-- an option that is mapped to something has something
pub some_mapped : {A B : Type 0} (f : A → B) (o : Option A) → IsSome (option_map f o) → (x : A) × (o ≡ Some x)
some_mapped f None some = absurd (cc)
some_mapped f (Some x) some = (x, refl)

pub some_bound : {A B : Type 0} (f : A → Option B) (o : Option A) → IsSome (option_and_then f o) → (x : A) × (o ≡ Some x) × IsSome (f x)
some_bound f None some = absurd (cc)
some_bound f (Some x) some = (x, refl, some)

pub some_tested : {A : Type 0} (b : Bool) (o : Option A) → IsSome (cond b o None) → (b ≡ true) × IsSome o
some_tested true o some = (refl, some)
some_tested false o some = absurd (cc)

some_is : {A : Type 0} (x y : A) → Some x ≡ Some y → x ≡ y
some_is x y e = cc

-- so many forms are left below values
left_below : (n : ℕ) (forms rest : List Form) → below_values n forms ≡ Some rest → length rest + n ≡ length forms
left_below zero forms rest e = let same : forms ≡ rest = cc in let many : length forms ≡ length rest = ap (λ (fs : List Form). length fs) same in omega (arith, many)
left_below (suc n) [] rest e = absurd (cc)
left_below (suc n) (single_form ∷ forms) rest e = let h : length rest + n ≡ length forms = left_below n forms rest e in omega (arith, h)
left_below (suc n) (counted_form ∷ forms) rest e = absurd (cc)
left_below (suc n) (counting_form ∷ forms) rest e = absurd (cc)
left_below (suc n) (closure_form ∷ forms) rest e = absurd (cc)

-- a shape with these operands, over those that are away
abbrev pub over : List Form → Shape → List Operand → Shape
over under s operands = record s { operands = map form_of operands ++ under }

module _ (under : List Form) (s : Shape) (low : length under ≤ (floor_of s.frames).operands) where
  abbrev shape_of : List Operand → Shape
  shape_of operands = over under s operands

  short : (forms : List Form) → length forms < length under → lowered s forms ≡ None
  short forms few = ap (λ b. cond b (Some (record s { operands = forms })) None) (lt-leb (floor_of s.frames).operands (length forms) (omega (arith, low, few)))

  no_room : (forms : List Form) (below : Shape) → length forms < length under → lowered s forms ≡ Some below → ⊥
  no_room forms below few e = let none : lowered s forms ≡ None = short forms few in absurd (cc)

  by_test : (b : Bool) (t below : Shape) → cond b (Some t) None ≡ Some below → below ≡ t
  by_test true t below e = sym (some_is t below e)
  by_test false t below e = absurd (cc)

  pub lowered_is : (operands : List Operand) (below : Shape) → lowered s (map form_of operands ++ under) ≡ Some below → below ≡ shape_of operands
  lowered_is operands below e = by_test (nat_le (floor_of s.frames).operands (length (map form_of operands ++ under))) (shape_of operands) below e

  -- what lies below so many values
  abbrev pub down : ℕ → List Form → Option Shape
  down n forms = option_and_then (lowered s) (below_values n forms)

  nothing_below : (n : ℕ) (below : Shape) → down (suc n) under ≡ Some below → ⊥
  nothing_below n below e = by_left (below_values (suc n) under) refl e
    where
      by_left : (o : Option (List Form)) → below_values (suc n) under ≡ o → option_and_then (lowered s) o ≡ Some below → ⊥
      by_left None is h = absurd (cc)
      by_left (Some rest) is h =
          let few : length rest + suc n ≡ length under = left_below (suc n) under rest is in
          no_room rest below (omega (arith, few)) h

  -- the top one of so many values
  pub record Topped (n : ℕ) (operands : List Operand) (below : Shape) : Type 0 where
    pub top : Val
    pub rest : List Operand
    pub are : operands ≡ single top ∷ rest
    pub left : down n (map form_of rest ++ under) ≡ Some below

  pub topped_by : (n : ℕ) (operands : List Operand) (below : Shape) → down (suc n) (map form_of operands ++ under) ≡ Some below → Topped n operands below
  topped_by n [] below e = absurd (nothing_below n below e)
  topped_by n (single v ∷ rest) below e = record { top = v; rest = rest; are = refl; left = e }
  topped_by n (counted vs ∷ rest) below e = absurd (cc)
  topped_by n (counting vs v ∷ rest) below e = absurd (cc)
  topped_by n (closure c ∷ rest) below e = absurd (cc)

  pub record One (operands : List Operand) (below : Shape) : Type 0 where
    pub top : Val
    pub rest : List Operand
    pub are : operands ≡ single top ∷ rest
    pub left : below ≡ shape_of rest

  pub one : (operands : List Operand) (below : Shape) → down 1 (map form_of operands ++ under) ≡ Some below → One operands below
  one operands below e =
      let x = topped_by 0 operands below e in
      record { top = x.top; rest = x.rest; are = x.are; left = lowered_is x.rest below x.left }

  pub record Two (operands : List Operand) (below : Shape) : Type 0 where
    pub top : Val
    pub next : Val
    pub rest : List Operand
    pub are : operands ≡ single top ∷ single next ∷ rest
    pub left : below ≡ shape_of rest

  pub two : (operands : List Operand) (below : Shape) → down 2 (map form_of operands ++ under) ≡ Some below → Two operands below
  two operands below e =
      let x = topped_by 1 operands below e in
      let y = one x.rest below x.left in
      record { top = x.top; next = y.top; rest = y.rest; are = x.are ∙ ap (λ (os : List Operand). single x.top ∷ os) y.are; left = y.left }

  pub record Four (operands : List Operand) (below : Shape) : Type 0 where
    pub top : Val
    pub next : Val
    pub third : Val
    pub fourth : Val
    pub rest : List Operand
    pub are : operands ≡ single top ∷ single next ∷ single third ∷ single fourth ∷ rest
    pub left : below ≡ shape_of rest

  pub four : (operands : List Operand) (below : Shape) → down 4 (map form_of operands ++ under) ≡ Some below → Four operands below
  four operands below e =
      let x = topped_by 3 operands below e in
      let y = topped_by 2 x.rest below x.left in
      let z = two y.rest below y.left in
      record {
        top = x.top;
        next = y.top;
        third = z.top;
        fourth = z.next;
        rest = z.rest;
        are = x.are ∙ ap (λ (os : List Operand). single x.top ∷ os) (y.are ∙ ap (λ (os : List Operand). single y.top ∷ os) z.are);
        left = z.left;
      }

  -- so many values, the lowest first
  pub record Many (o : Option (List Val × List Operand)) (below : Shape) : Type 0 where
    pub values : List Val
    pub rest : List Operand
    pub are : o ≡ Some (values, rest)
    pub left : below ≡ shape_of rest

  pub many : (n : ℕ) (operands : List Operand) (values : List Val) (below : Shape) → down n (map form_of operands ++ under) ≡ Some below → Many (table.taken n operands values) below
  many zero operands values below e = record { values = values; rest = operands; are = refl; left = lowered_is operands below e }
  many (suc n) [] values below e = absurd (nothing_below n below e)
  many (suc n) (single v ∷ rest) values below e = many n rest (v ∷ values) below e
  many (suc n) (counted vs ∷ rest) values below e = absurd (cc)
  many (suc n) (counting vs v ∷ rest) values below e = absurd (cc)
  many (suc n) (closure c ∷ rest) values below e = absurd (cc)

  -- a counted run
  no_run : (t : Shape) (forms : List Form) (below : Shape) → t.frames ≡ s.frames → length forms ≤ length under → run_taken t forms ≡ Some below → ⊥
  no_run t (counted_form ∷ forms) below same few e =
      let floor : (floor_of t.frames).operands ≡ (floor_of s.frames).operands = ap (λ fs. (floor_of fs).operands) same in
      let none : lowered t forms ≡ None = ap (λ b. cond b (Some (record t { operands = forms })) None) (lt-leb (floor_of t.frames).operands (length forms) (omega (arith, floor, low, few))) in
      absurd (cc)
  no_run t [] below same few e = absurd (cc)
  no_run t (single_form ∷ forms) below same few e = absurd (cc)
  no_run t (counting_form ∷ forms) below same few e = absurd (cc)
  no_run t (closure_form ∷ forms) below same few e = absurd (cc)

  run : (from operands : List Operand) (below : Shape) → run_taken (shape_of from) (map form_of operands ++ under) ≡ Some below → Many (table.handed None operands) below
  run from [] below e = absurd (no_run (shape_of from) under below refl (omega arith) e)
  run from (counted vs ∷ rest) below e = record { values = vs; rest = rest; are = refl; left = lowered_is rest below e }
  run from (single v ∷ rest) below e = absurd (cc)
  run from (counting vs v ∷ rest) below e = absurd (cc)
  run from (closure c ∷ rest) below e = absurd (cc)

  pub given : (count : Option ℕ) (operands : List Operand) (below : Shape) → handed count (shape_of operands) ≡ Some below → Many (table.handed count operands) below
  given (Some n) operands below e = many n operands [] below e
  given None operands below e = run operands operands below e

  -- a closure, and a value above it
  pub record Enclosed (operands : List Operand) (below : Shape) : Type 0 where
    pub top : Val
    pub closing : Option ℕ
    pub rest : List Operand
    pub are : operands ≡ single top ∷ closure closing ∷ rest
    pub left : below ≡ shape_of rest

  no_closure : (t : Shape) (forms : List Form) (below : Shape) → t.frames ≡ s.frames → length forms ≤ suc (length under) → closure_taken t forms ≡ Some below → ⊥
  no_closure t (single_form ∷ closure_form ∷ forms) below same few e =
      let floor : (floor_of t.frames).operands ≡ (floor_of s.frames).operands = ap (λ fs. (floor_of fs).operands) same in
      let none : lowered t forms ≡ None = ap (λ b. cond b (Some (record t { operands = forms })) None) (lt-leb (floor_of t.frames).operands (length forms) (omega (arith, floor, low, few))) in
      absurd (cc)
  no_closure t _ below same few e = absurd (cc)

  pub enclosed : (from operands : List Operand) (below : Shape) → closure_taken (shape_of from) (map form_of operands ++ under) ≡ Some below → Enclosed operands below
  enclosed from [] below e = absurd (no_closure (shape_of from) under below refl (omega arith) e)
  enclosed from (o ∷ []) below e = absurd (no_closure (shape_of from) (form_of o ∷ under) below refl (omega arith) e)
  enclosed from (single v ∷ closure c ∷ rest) below e = record { top = v; closing = c; rest = rest; are = refl; left = lowered_is rest below e }
  enclosed from (single v ∷ single u ∷ rest) below e = absurd (cc)
  enclosed from (single v ∷ counted us ∷ rest) below e = absurd (cc)
  enclosed from (single v ∷ counting us u ∷ rest) below e = absurd (cc)
  enclosed from (counted vs ∷ o ∷ rest) below e = absurd (cc)
  enclosed from (counting vs v ∷ o ∷ rest) below e = absurd (cc)
  enclosed from (closure c ∷ o ∷ rest) below e = absurd (cc)

  -- a run to which something is added, and what is added; or two values
  traded_short : (n : ℕ) (operands : List Operand) (below : Shape) → length (map form_of operands ++ under) < n + length under → down n (map form_of operands ++ under) ≡ Some below → ⊥
  traded_short n operands below few e = by_left (below_values n (map form_of operands ++ under)) refl e
    where
      by_left : (o : Option (List Form)) → below_values n (map form_of operands ++ under) ≡ o → option_and_then (lowered s) o ≡ Some below → ⊥
      by_left None is h = absurd (cc)
      by_left (Some rest) is h =
          let left : length rest + n ≡ length (map form_of operands ++ under) = left_below n (map form_of operands ++ under) rest is in
          no_room rest below (omega (arith, left, few)) h

  -- too few for an operation, or for a change of places
  trades_nothing : (n m : ℕ) (operands : List Operand) → length (map form_of operands ++ under) < n + length under → IsSome (effects.traded n m (shape_of operands)) → ⊥
  trades_nothing n m operands few some =
      let t = some_mapped (λ (below : Shape). falling (shapes.given m below)) (taken n (shape_of operands)) some in
      traded_short n operands t.0 few t.1

  makes_nothing : (form : Form) (b : Bool) (rest : List Form) → length rest < length under → IsSome (cond b (made form (lowered s rest)) None) → ⊥
  makes_nothing form b rest few some =
      let may = some_tested b (made form (lowered s rest)) some in
      let t = some_mapped (λ (below : Shape). falling (shapes.topped form below)) (lowered s rest) may.1 in
      no_room rest t.0 few t.1

  pub no_operation : (adding : Bool) (operands : List Operand) (forms : List Form) → length (map form_of operands ++ under) < 2 + length under → length forms < 2 + length under
      → IsSome (effects.operated adding (shape_of operands) forms) → ⊥
  no_operation adding operands (single_form ∷ counting_form ∷ rest) few less some = makes_nothing counted_form adding rest (omega (arith, less)) some
  no_operation adding operands _ few less some = trades_nothing 2 1 operands few some

  pub no_swap : (code : List Code) (place : ℕ) (operands : List Operand) (forms : List Form) → length (map form_of operands ++ under) < 2 + length under → length forms < 2 + length under
      → IsSome (effects.swapped code place (shape_of operands) forms) → ⊥
  no_swap code place operands (single_form ∷ counted_form ∷ rest) few less some =
      makes_nothing counting_form (effects.loads_one (slice_get code (suc place)) && effects.adds (slice_get code (suc (suc place)))) rest (omega (arith, less)) some
  no_swap code place operands _ few less some = trades_nothing 2 2 operands few some
