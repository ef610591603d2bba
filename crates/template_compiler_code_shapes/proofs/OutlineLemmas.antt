-- Outlines and the shapes that they stand for.
use Rattle.std.proofs.Common.{◌≡◌, ℕ, zero, suc, ◌+◌, ◌-◌, ◌<◌, ◌≤◌, Bool, true, false, cond, List, [], ◌∷◌, ◌++◌, length, reverse, replicate, take, get_or, None, Some, slice_get, refl, sym, ap, subst, ◌∙◌, arith}
use Rattle.std.specs.Prelude.{IsTrue, ◌↔◌, ◌&&◌, ◌==◌, option_and_then, nat_le}
use Rattle.std.proofs.lemmas.Bool.{le-leb, and_parts, eqb-true}
use Rattle.std.proofs.Math.Seq.{take-suc}
use Rattle.std.proofs.lemmas.List.{reverse-reverse, reverse-append, length-append, length-replicate}
use Rattle.std.proofs.lemmas.Option.{get_or_from_slice_get, slice_get_within}
use Rattle.template_compiler_code_shapes.specs.declared.StreamKind.{StreamKind}
use Rattle.template_compiler_code_shapes.specs.declared.StreamKind.TheVariants.{Template, Expression}
use Rattle.template_compiler_code_shapes.specs.Streams.{end_of}
use Rattle.template_compiler_code_shapes.specs.Shapes.{Form, single_form, Floor, Opened, Shape, body_of, floor_of, below_values, lowered, taken, run_taken, given, is_none_left, is_over}
use Rattle.template_compiler_code_shapes.specs.Outlines.{form_in, forms_over, shape_of, count_under, has_under, below_two, pair_taken}
use Rattle.template_compiler_code_shapes.specs.declared.outline.Other.{Other}
use Rattle.template_compiler_code_shapes.specs.declared.outline.Other.TheVariants.{Counted, Counting, Closure}
use Rattle.template_compiler_code_shapes.specs.declared.outline.Under.{Under}
use Rattle.template_compiler_code_shapes.specs.declared.outline.Outline.{Outline}

no_value : (x : Other) → form_in x ≡ single_form → ⊥
no_value Counted e = cc
no_value Counting e = cc
no_value Closure e = cc

same_other : (x y : Other) → form_in x ≡ form_in y → x ≡ y
same_other Counted Counted e = refl
same_other Counting Counting e = refl
same_other Closure Closure e = refl
same_other Counted Counting e = cc
same_other Counted Closure e = cc
same_other Counting Counted e = cc
same_other Counting Closure e = cc
same_other Closure Counted e = cc
same_other Closure Counting e = cc

heads : (x y : Form) (xs ys : List Form) → x ∷ xs ≡ y ∷ ys → (x ≡ y) × (xs ≡ ys)
heads x y xs ys e = (cc, cc)

-- what lies over others is told from its forms
pub same_over : (us vs : List Under) (n m : ℕ) → forms_over us n ≡ forms_over vs m → (us ≡ vs) × (n ≡ m)
same_over [] [] zero zero e = (refl, refl)
same_over [] [] zero (suc m) e = cc
same_over [] [] (suc n) zero e = cc
same_over [] [] (suc n) (suc m) e = let h = same_over [] [] n m (heads single_form single_form (replicate n single_form) (replicate m single_form) e).1 in (refl, ap suc h.1)
same_over [] (v ∷ vs) zero zero e = cc
same_over [] (v ∷ vs) zero (suc m) e = cc
same_over [] (v ∷ vs) (suc n) zero e = absurd (no_value v.other (sym (heads single_form (form_in v.other) (replicate n single_form) (forms_over vs v.below) e).0))
same_over [] (v ∷ vs) (suc n) (suc m) e = let h = same_over [] (v ∷ vs) n m (heads single_form single_form (replicate n single_form) (forms_over (v ∷ vs) m) e).1 in (h.0, ap suc h.1)
same_over (u ∷ us) [] zero zero e = cc
same_over (u ∷ us) [] (suc n) zero e = cc
same_over (u ∷ us) [] zero (suc m) e = absurd (no_value u.other (heads (form_in u.other) single_form (forms_over us u.below) (replicate m single_form) e).0)
same_over (u ∷ us) [] (suc n) (suc m) e = let h = same_over (u ∷ us) [] n m (heads single_form single_form (forms_over (u ∷ us) n) (replicate m single_form) e).1 in (h.0, ap suc h.1)
same_over (u ∷ us) (v ∷ vs) zero (suc m) e = absurd (no_value u.other (heads (form_in u.other) single_form (forms_over us u.below) (forms_over (v ∷ vs) m) e).0)
same_over (u ∷ us) (v ∷ vs) (suc n) zero e = absurd (no_value v.other (sym (heads single_form (form_in v.other) (forms_over (u ∷ us) n) (forms_over vs v.below) e).0))
same_over (u ∷ us) (v ∷ vs) (suc n) (suc m) e = let h = same_over (u ∷ us) (v ∷ vs) n m (heads single_form single_form (forms_over (u ∷ us) n) (forms_over (v ∷ vs) m) e).1 in (h.0, ap suc h.1)
same_over (u ∷ us) (v ∷ vs) zero zero e =
    let parts = heads (form_in u.other) (form_in v.other) (forms_over us u.below) (forms_over vs v.below) e in
    let h = same_over us vs u.below v.below parts.1 in
    let other : u.other ≡ v.other = same_other u.other v.other parts.0 in
    (both u v us vs h.1 other h.0, refl)
  where
    both : (u v : Under) (us vs : List Under) → u.below ≡ v.below → u.other ≡ v.other → us ≡ vs → u ∷ us ≡ v ∷ vs
    both u v us vs below other rest =
        let same : u ≡ v = ap (λ b. record { below = b; other = u.other }) below ∙ ap (λ o. record { below = v.below; other = o }) other in
        ap (λ w. w ∷ us) same ∙ ap (λ ws. v ∷ ws) rest

pub same_parts : (a b : Outline) → shape_of a ≡ shape_of b
    → (a.values ≡ b.values) × (a.others.items ≡ b.others.items) × (a.frames.items ≡ b.frames.items) × (a.escapes ≡ b.escapes) × (a.captures ≡ b.captures) × (a.in_macro ≡ b.in_macro)
same_parts a b e =
    let over = same_over (reverse a.others.items) (reverse b.others.items) a.values b.values (ap (λ (s : Shape). s.operands) e) in
    let others : a.others.items ≡ b.others.items = sym (reverse-reverse a.others.items) ∙ ap reverse over.0 ∙ reverse-reverse b.others.items in
    let frames : a.frames.items ≡ b.frames.items = sym (reverse-reverse a.frames.items) ∙ ap (λ (s : Shape). reverse s.frames) e ∙ reverse-reverse b.frames.items in
    (over.1, others, frames, ap (λ (s : Shape). s.escapes) e, ap (λ (s : Shape). s.captures) e, ap (λ (s : Shape). s.in_macro) e)

pub same_shape : (a b : Outline) → a.values ≡ b.values → a.others.items ≡ b.others.items → a.frames.items ≡ b.frames.items → a.escapes ≡ b.escapes → a.captures ≡ b.captures → a.in_macro ≡ b.in_macro → shape_of a ≡ shape_of b
same_shape a b values others frames escapes captures in_macro = cc

-- what stands up to a place is that one behind the others
pub upto : {A : Type 0} (xs : List A) (p : ℕ) (x : A) → slice_get xs p ≡ Some x → reverse (take (suc p) xs) ≡ x ∷ reverse (take p xs)
upto xs p x e =
    let within : p < length xs = slice_get_within xs p x e in
    let is : get_or xs p x ≡ x = get_or_from_slice_get xs p x x e in
    ap reverse (take-suc xs p x within) ∙ reverse-append (take p xs) (get_or xs p x ∷ []) ∙ ap (λ y. y ∷ reverse (take p xs)) is

-- how many operands there are
pub length_over : (us : List Under) (n : ℕ) → length (forms_over us n) ≡ n + count_under us
length_over [] n = length-replicate n single_form ∙ (let e : n ≡ n + 0 = omega arith in e)
length_over (u ∷ us) n =
    let rest : length (forms_over us u.below) ≡ u.below + count_under us = length_over us u.below in
    length-append (replicate n single_form) (form_in u.other ∷ forms_over us u.below)
    ∙ ap (λ k. k + suc (length (forms_over us u.below))) (length-replicate n single_form)
    ∙ ap (λ k. n + suc k) rest

over_suc : (us : List Under) (n : ℕ) → forms_over us (suc n) ≡ single_form ∷ forms_over us n
over_suc [] n = refl
over_suc (u ∷ us) n = refl

no_value_below : (n : ℕ) (x : Other) (forms : List Form) → below_values (suc n) (form_in x ∷ forms) ≡ None
no_value_below n Counted forms = refl
no_value_below n Counting forms = refl
no_value_below n Closure forms = refl

-- what lies below some of the values
below_over : (us : List Under) (n m : ℕ) → n ≤ m → below_values n (forms_over us m) ≡ Some (forms_over us (m - n))
below_over us zero m less = let e : m ≡ m - 0 = omega arith in ap (λ k. Some (forms_over us k)) e
below_over us (suc n) zero less = absurd (omega arith)
below_over us (suc n) (suc m) less =
    let e : m - n ≡ suc m - suc n = omega arith in
    ap (below_values (suc n)) (over_suc us m) ∙ below_over us n m (omega arith) ∙ ap (λ k. Some (forms_over us k)) e

below_too_few : (us : List Under) (n m : ℕ) → m < n → below_values n (forms_over us m) ≡ None
below_too_few us zero m less = absurd (omega arith)
below_too_few [] (suc n) zero less = refl
below_too_few (u ∷ us) (suc n) zero less = no_value_below n u.other (forms_over us u.below)
below_too_few us (suc n) (suc m) less = ap (below_values (suc n)) (over_suc us m) ∙ below_too_few us n m (omega arith)

-- so many values are taken, where the floor lies below
pub takes : (o : Outline) (count left : ℕ) (above : Bool) → count ≤ o.values → left ≡ o.values - count
    → above ≡ nat_le (floor_of (reverse o.frames.items)).operands (length (forms_over (reverse o.others.items) left))
    → taken count (shape_of o) ≡ cond above (Some (shape_of (record o { values = left }))) None
takes o count left above less is test =
    let others = reverse o.others.items in
    ap (option_and_then (lowered (shape_of o))) (below_over others count o.values less ∙ ap (λ k. Some (forms_over others k)) (sym is))
    ∙ ap (λ b. cond b (Some (record (shape_of o) { operands = forms_over others left })) None) (sym test)

pub takes_too_many : (o : Outline) (count : ℕ) → o.values < count → taken count (shape_of o) ≡ None
takes_too_many o count more = ap (option_and_then (lowered (shape_of o))) (below_too_few (reverse o.others.items) count o.values more)

-- so many values more
pub gives : (o : Outline) (count sum : ℕ) → sum ≡ o.values + count → shape_of (record o { values = sum }) ≡ given count (shape_of o)
gives o count sum e =
    let swapped : sum ≡ count + o.values = omega arith in
    ap (λ forms. record (shape_of o) { operands = forms }) (ap (forms_over (reverse o.others.items)) swapped ∙ more (reverse o.others.items) count o.values)
  where
    more : (us : List Under) (n m : ℕ) → forms_over us (n + m) ≡ replicate n single_form ++ forms_over us m
    more us zero m = let e : 0 + m ≡ m = omega arith in ap (forms_over us) e
    more us (suc n) m = (let e : suc n + m ≡ suc (n + m) = omega arith in ap (forms_over us) e) ∙ over_suc us (n + m) ∙ ap (λ forms. single_form ∷ forms) (more us n m)

-- the topmost of the others
under_top : (us xs : List Under) (u : Under) (n : ℕ) → us ≡ xs ++ u ∷ [] → forms_over (reverse us) n ≡ replicate n single_form ++ form_in u.other ∷ forms_over (reverse xs) u.below
under_top us xs u n e = ap (λ ws. forms_over ws n) (ap reverse e ∙ reverse-append xs (u ∷ []))

-- a shape with other operands
abbrev pub with_operands : Outline → List Form → Shape
with_operands o forms = record (shape_of o) { operands = forms }

-- a counted run is taken
pub takes_run : (o : Outline) (xs : List Under) (u : Under) (above : Bool) → o.values ≡ 0 → o.others.items ≡ xs ++ u ∷ [] → u.other ≡ Counted
    → above ≡ nat_le (floor_of (reverse o.frames.items)).operands (length (forms_over (reverse xs) u.below))
    → run_taken (shape_of o) (shape_of o).operands ≡ cond above (Some (with_operands o (forms_over (reverse xs) u.below))) None
takes_run o xs u above none is counted test =
    ap (run_taken (shape_of o)) (ap (forms_over (reverse o.others.items)) none ∙ under_top o.others.items xs u 0 is ∙ ap (λ x. form_in x ∷ forms_over (reverse xs) u.below) counted)
    ∙ ap (λ b. cond b (Some (with_operands o (forms_over (reverse xs) u.below))) None) (sym test)

-- where there is none on top
pub takes_no_run : (o : Outline) → (o.values ≡ 0 → (xs : List Under) (u : Under) → o.others.items ≡ xs ++ u ∷ [] → u.other ≡ Counted → ⊥) → run_taken (shape_of o) (shape_of o).operands ≡ None
takes_no_run o other = by_operands (reverse o.others.items) o.values (λ none us u e. other none (reverse us) u (sym (reverse-reverse o.others.items) ∙ ap reverse e ∙ reversed u us))
  where
    reversed : (u : Under) (us : List Under) → reverse (u ∷ us) ≡ reverse us ++ u ∷ []
    reversed u us = reverse-append (u ∷ []) us

    by_other : (us : List Under) (u : Under) (x : Other) → u.other ≡ x → (u.other ≡ Counted → ⊥) → run_taken (shape_of o) (form_in u.other ∷ forms_over us u.below) ≡ None
    by_other us u Counted e h = absurd (h e)
    by_other us u Counting e h = ap (λ y. run_taken (shape_of o) (form_in y ∷ forms_over us u.below)) e
    by_other us u Closure e h = ap (λ y. run_taken (shape_of o) (form_in y ∷ forms_over us u.below)) e

    by_operands : (us : List Under) (n : ℕ) → (n ≡ 0 → (ws : List Under) (u : Under) → us ≡ u ∷ ws → u.other ≡ Counted → ⊥) → run_taken (shape_of o) (forms_over us n) ≡ None
    by_operands [] zero h = refl
    by_operands [] (suc n) h = refl
    by_operands (u ∷ us) zero h = by_other us u u.other refl (λ e. h refl us u refl e)
    by_operands (u ∷ us) (suc n) h = refl

-- what lies under a value, by cases

under_none : (other : Other) → has_under (form_in other) [] ≡ false
under_none Counted = refl
under_none Counting = refl
under_none Closure = refl

under_one : (other : Other) → has_under (form_in other) (single_form ∷ []) ≡ false
under_one Counted = refl
under_one Counting = refl
under_one Closure = refl

under_values : (other : Other) (forms : List Form) → has_under (form_in other) (single_form ∷ single_form ∷ forms) ≡ false
under_values Counted forms = refl
under_values Counting forms = refl
under_values Closure forms = refl

under_no_value : (other x : Other) (forms : List Form) → has_under (form_in other) (form_in x ∷ forms) ≡ false
under_no_value Counted Counted forms = refl
under_no_value Counted Counting forms = refl
under_no_value Counted Closure forms = refl
under_no_value Counting Counted forms = refl
under_no_value Counting Counting forms = refl
under_no_value Counting Closure forms = refl
under_no_value Closure Counted forms = refl
under_no_value Closure Counting forms = refl
under_no_value Closure Closure forms = refl

under_other : (other x : Other) (forms : List Form) → (x ≡ other → ⊥) → has_under (form_in other) (single_form ∷ form_in x ∷ forms) ≡ false
under_other Counted Counted forms h = absurd (h refl)
under_other Counted Counting forms h = refl
under_other Counted Closure forms h = refl
under_other Counting Counted forms h = refl
under_other Counting Counting forms h = absurd (h refl)
under_other Counting Closure forms h = refl
under_other Closure Counted forms h = refl
under_other Closure Counting forms h = refl
under_other Closure Closure forms h = absurd (h refl)

under_such : (other : Other) (forms : List Form) → has_under (form_in other) (single_form ∷ form_in other ∷ forms) ≡ true
under_such Counted forms = refl
under_such Counting forms = refl
under_such Closure forms = refl

under_by_cases : (other : Other) (us : List Under) (n : ℕ) → (n ≡ 1 → (u : Under) (ws : List Under) → us ≡ u ∷ ws → u.other ≡ other → ⊥) → has_under (form_in other) (forms_over us n) ≡ false
under_by_cases other [] zero h = under_none other
under_by_cases other [] (suc zero) h = under_one other
under_by_cases other [] (suc (suc n)) h = under_values other (replicate n single_form)
under_by_cases other (u ∷ us) zero h = under_no_value other u.other (forms_over us u.below)
under_by_cases other (u ∷ us) (suc zero) h = under_other other u.other (forms_over us u.below) (λ e. h refl u us refl e)
under_by_cases other (u ∷ us) (suc (suc n)) h = under_values other (forms_over (u ∷ us) n)

reversed : (u : Under) (us : List Under) → reverse (u ∷ us) ≡ reverse us ++ u ∷ []
reversed u us = reverse-append (u ∷ []) us

-- no such operand lies there
pub lacks_under : (o : Outline) (other : Other) → (o.values ≡ 1 → (xs : List Under) (u : Under) → o.others.items ≡ xs ++ u ∷ [] → u.other ≡ other → ⊥)
    → has_under (form_in other) (shape_of o).operands ≡ false
lacks_under o other h = under_by_cases other (reverse o.others.items) o.values
    (λ one u ws e same. h one (reverse ws) u (sym (reverse-reverse o.others.items) ∙ ap reverse e ∙ reversed u ws) same)

-- such an operand lies there
pub lies_under : (o : Outline) (xs : List Under) (u : Under) → o.values ≡ 1 → o.others.items ≡ xs ++ u ∷ [] → (shape_of o).operands ≡ single_form ∷ form_in u.other ∷ forms_over (reverse xs) u.below
lies_under o xs u one is = ap (forms_over (reverse o.others.items)) one ∙ under_top o.others.items xs u 1 is

pub found_under : (o : Outline) (xs : List Under) (u : Under) (other : Other) → o.values ≡ 1 → o.others.items ≡ xs ++ u ∷ [] → u.other ≡ other → has_under (form_in other) (shape_of o).operands ≡ true
found_under o xs u other one is such =
    ap (has_under (form_in other)) (lies_under o xs u one is ∙ ap (λ x. single_form ∷ form_in x ∷ forms_over (reverse xs) u.below) such) ∙ under_such other (forms_over (reverse xs) u.below)

pub takes_no_pair : (o : Outline) (other : Other) → (o.values ≡ 1 → (xs : List Under) (u : Under) → o.others.items ≡ xs ++ u ∷ [] → u.other ≡ other → ⊥) → pair_taken (form_in other) (shape_of o) ≡ None
takes_no_pair o other h = ap (λ b. cond b (lowered (shape_of o) (below_two (shape_of o).operands)) None) (lacks_under o other h)

pub takes_pair : (o : Outline) (xs : List Under) (u : Under) (other : Other) (above : Bool) → o.values ≡ 1 → o.others.items ≡ xs ++ u ∷ [] → u.other ≡ other
    → above ≡ nat_le (floor_of (reverse o.frames.items)).operands (length (forms_over (reverse xs) u.below))
    → pair_taken (form_in other) (shape_of o) ≡ cond above (Some (with_operands o (forms_over (reverse xs) u.below))) None
takes_pair o xs u other above one is such test =
    ap (λ b. cond b (lowered (shape_of o) (below_two (shape_of o).operands)) None) (found_under o xs u other one is such)
    ∙ ap (λ forms. lowered (shape_of o) (below_two forms)) (lies_under o xs u one is)
    ∙ ap (λ b. cond b (Some (with_operands o (forms_over (reverse xs) u.below))) None) (sym test)

-- an operand more
pub tops : (o : Outline) (u : Under) (others : List Under) → u.below ≡ o.values → others ≡ o.others.items ++ u ∷ []
    → forms_over (reverse others) 0 ≡ form_in u.other ∷ (shape_of o).operands
tops o u others below is = under_top others o.others.items u 0 is ∙ ap (λ n. form_in u.other ∷ forms_over (reverse o.others.items) n) below

-- the values on top reach the floor
pub above_by_values : (o : Outline) (f : Floor) → f ≡ floor_of (reverse o.frames.items) → f.operands ≤ o.values
    → true ≡ nat_le (floor_of (reverse o.frames.items)).operands (length (forms_over (reverse o.others.items) o.values))
above_by_values o f is less =
    let same : f.operands ≡ (floor_of (reverse o.frames.items)).operands = ap (λ (g : Floor). g.operands) is in
    let long : length (forms_over (reverse o.others.items) o.values) ≡ o.values + count_under (reverse o.others.items) = length_over (reverse o.others.items) o.values in
    let low : (floor_of (reverse o.frames.items)).operands ≤ length (forms_over (reverse o.others.items) o.values) = omega (arith, same, long, less) in
    sym (le-leb _ _ low)

-- a shape with which no kind of stream ends
pub no_end : (s t u : Shape) (a b : Bool) → t ≡ end_of Template → u ≡ end_of Expression → (IsTrue a ↔ (s ≡ t)) → (IsTrue b ↔ (s ≡ u)) → a ≡ false → b ≡ false → (kind : StreamKind) → s ≡ end_of kind → ⊥
no_end s t u a b first second as_first as_second other another Template e = let yes : a ≡ true = as_first.1 (e ∙ sym first) in cc
no_end s t u a b first second as_first as_second other another Expression e = let yes : b ≡ true = as_second.1 (e ∙ sym second) in cc

none_left : (forms : List Form) (frames : List Opened) → is_none_left forms frames ≡ true → (forms ≡ []) × (frames ≡ [])
none_left [] [] e = (refl, refl)
none_left [] (x ∷ frames) e = absurd cc
none_left (x ∷ forms) frames e = absurd cc

over_is : (s : Shape) → is_over s ≡ true → s ≡ body_of 0
over_is s e =
    let outer = and_parts s.in_macro (is_none_left s.operands s.frames && ((s.escapes == 0) && (s.captures == 0))) e in
    let inner = and_parts (is_none_left s.operands s.frames) ((s.escapes == 0) && (s.captures == 0)) outer.1 in
    let counts = and_parts (s.escapes == 0) (s.captures == 0) inner.1 in
    let none = none_left s.operands s.frames inner.0 in
    ap (λ x. record { operands = x; frames = s.frames; escapes = s.escapes; captures = s.captures; in_macro = s.in_macro }) none.0
    ∙ ap (λ x. record { operands = []; frames = x; escapes = s.escapes; captures = s.captures; in_macro = s.in_macro }) none.1
    ∙ ap (λ x. record { operands = []; frames = []; escapes = x; captures = s.captures; in_macro = s.in_macro }) (eqb-true s.escapes 0 counts.0)
    ∙ ap (λ x. record { operands = []; frames = []; escapes = 0; captures = x; in_macro = s.in_macro }) (eqb-true s.captures 0 counts.1)
    ∙ ap (λ x. record { operands = []; frames = []; escapes = 0; captures = 0; in_macro = x }) outer.0

-- the body of a macro is over where its shape is that of one without arguments
pub over_as_same : (b : Bool) (s t : Shape) → t ≡ body_of 0 → (IsTrue b ↔ (s ≡ t)) → b ≡ is_over s
over_as_same true s t is same = let P : Shape → Type 0 = λ x. true ≡ is_over x in subst P (sym (same.0 refl ∙ is)) refl
over_as_same false s t is same = by_test (is_over s) refl
  where
    by_test : (b : Bool) → is_over s ≡ b → false ≡ is_over s
    by_test false e = sym e
    by_test true e = (let yes : false ≡ true = same.1 (over_is s e ∙ sym is) in absurd cc)
