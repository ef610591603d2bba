-- How a stream's list changes.
use Rattle.std.proofs.Common.{◌≡◌, ℕ, ◌+◌, ◌<◌, ◌≤◌, ◌⊎◌, inl, inr, List, [], ◌∷◌, ◌++◌, map, length, set, get_or, slice_get, Option, None, Some, refl, sym, ◌∙◌, ap, arith}
use Rattle.std.proofs.lemmas.Option.{slice_get_cases}
use Rattle.std.proofs.lemmas.List.{drop_more, drop_all, drop-set-lt}
use Rattle.template_compiler_tree.specs.declared.span.Span.{Span}
use Rattle.template_compiler_tokens.specs.Token as spec
use Rattle.template_compiler_tokens.specs.Token.{bad}
use Rattle.template_compiler_stream.specs.Refusals.{fault_of}
use Rattle.template_compiler_tokens.specs.View.{token_of}
use Rattle.template_compiler_tokens.specs.declared.token.Token.{Token}
use Rattle.template_compiler_stream.specs.declared.refusal.Fault.{Fault}
use Rattle.template_compiler_stream.specs.Left.{left_in, ended, behind, passed}

-- the token that is held at the place stands next
held_next : (xs : List (Token × Span)) (i : ℕ) (d : Token × Span) (f : Option Fault) → i < length xs →
    left_in xs i f ≡ token_of (get_or xs i d).0 ∷ left_in xs (i + 1) f
unfolding left_in
held_next xs i d f within =
    ap (λ (ys : List (Token × Span)). map (λ (t : Token × Span). token_of t.0) ys ++ ended f) (drop_more xs i d within)

-- where none is held, what stands behind the tokens does
none_next : (xs : List (Token × Span)) (i : ℕ) (f : Option Fault) → length xs ≤ i → left_in xs i f ≡ ended f
unfolding left_in
none_next xs i f past = ap (λ (ys : List (Token × Span)). map (λ (t : Token × Span). token_of t.0) ys ++ ended f) (drop_all i xs past)

some_next : (xs : List (Token × Span)) (i : ℕ) (t : Token × Span) (f : Option Fault) → i < length xs → t ≡ get_or xs i t →
    left_in xs i f ≡ token_of t.0 ∷ left_in xs (i + 1) f
some_next xs i t f within read =
    held_next xs i t f within ∙ ap (λ (u : Token × Span). token_of u.0 ∷ left_in xs (i + 1) f) (sym read)

pub next_some : (xs ds : List (Token × Span)) (i : ℕ) (t : Token × Span) (f : Option Fault) → ds ≡ xs → i < length ds → t ≡ get_or ds i t →
    left_in xs i f ≡ token_of t.0 ∷ left_in xs (i + 1) f
next_some xs ds i t f same within read = some_next xs i t f (rw same at within) (rw same at read)

pub next_none : (xs ds : List (Token × Span)) (i : ℕ) (f : Option Fault) → ds ≡ xs → length ds ≤ i → left_in xs i f ≡ ended f
next_none xs ds i f same past = none_next xs i f (rw same at past)

pub next_end : (xs ds : List (Token × Span)) (i : ℕ) (f : Option Fault) (g : Fault) → ds ≡ xs → length ds ≤ i → f ≡ Some g →
    left_in xs i f ≡ bad (fault_of g) ∷ []
next_end xs ds i f g same past h = next_none xs ds i f same past ∙ ap ended h

pub next_nothing : (xs ds : List (Token × Span)) (i : ℕ) (f : Option Fault) → ds ≡ xs → length ds ≤ i → f ≡ None → left_in xs i f ≡ []
next_nothing xs ds i f same past h = next_none xs ds i f same past ∙ ap ended h

-- what is left at a token's place counts no more once it was passed
past_set : (xs : List (Token × Span)) (i : ℕ) (y : Token × Span) (f : Option Fault) → left_in (set xs i y) (i + 1) f ≡ left_in xs (i + 1) f
unfolding left_in
past_set xs i y f =
    ap (λ (ys : List (Token × Span)). map (λ (t : Token × Span). token_of t.0) ys ++ ended f) (drop-set-lt (i + 1) xs i y (omega arith))

pub taken : (xs : List (Token × Span)) (i : ℕ) (t y : Token × Span) (f : Option Fault) → i < length xs → t ≡ get_or xs i t →
    left_in xs i f ≡ token_of t.0 ∷ left_in (set xs i y) (i + 1) f
taken xs i t y f within read = some_next xs i t f within read ∙ ap (λ ts. token_of t.0 ∷ ts) (sym (past_set xs i y f))

-- no token is a fault, and faults are not passed
pub passed_token : (t : Token) (ts : List spec.Token) → passed (token_of t ∷ ts) ≡ ts
passed_token t ts = grind arith

pub passed_ended : (f : Option Fault) → ended f ≡ passed (ended f)
passed_ended None = refl
passed_ended (Some f) = refl

pub passed_past : (xs : List (Token × Span)) (i : ℕ) (f : Option Fault) → length xs ≤ i → left_in xs i f ≡ passed (left_in xs i f)
passed_past xs i f past = let none = none_next xs i f past in none ∙ passed_ended f ∙ ap passed (sym none)

pub passed_here : (xs : List (Token × Span)) (i : ℕ) (f : Option Fault) → i < length xs → left_in xs (i + 1) f ≡ passed (left_in xs i f)
passed_here xs i f within = go (slice_get_cases xs i).1
  where
    go : ((x : Token × Span) × (i < length xs) × (slice_get xs i ≡ Some x) × (get_or xs i x ≡ x)) ⊎
        ((length xs ≤ i) × (slice_get xs i ≡ None)) → left_in xs (i + 1) f ≡ passed (left_in xs i f)
    go (inl (x, inside, found, read)) =
        sym (ap passed (held_next xs i x f inside) ∙ passed_token (get_or xs i x).0 (left_in xs (i + 1) f))
    go (inr (none, found)) = absurd (omega (arith, none, within))

behind_ended : (f : Option Fault) → behind (ended f) ≡ ended None
behind_ended None = refl
behind_ended (Some f) = refl

pub second_some : (xs ds : List (Token × Span)) (i j : ℕ) (t : Token × Span) (f : Option Fault) → ds ≡ xs → j ≡ i + 1 → j < length ds →
    t ≡ get_or ds j t → behind (left_in xs i f) ≡ token_of t.0 ∷ left_in xs (j + 1) f
second_some xs ds i j t f same next within read =
    let fits : j < length xs = rw same at within in
    ap behind (held_next xs i t f (omega arith)) ∙ ap (λ n. left_in xs n f) (sym next) ∙ next_some xs ds j t f same within read

pub second_none : (xs ds : List (Token × Span)) (i : ℕ) (f : Option Fault) → ds ≡ xs → length ds ≤ i + 1 →
    (g : Option Fault) × (behind (left_in xs i f) ≡ ended g)
second_none xs ds i f same past = go (slice_get_cases xs i).1
  where
    go : ((x : Token × Span) × (i < length xs) × (slice_get xs i ≡ Some x) × (get_or xs i x ≡ x)) ⊎
        ((length xs ≤ i) × (slice_get xs i ≡ None)) → (g : Option Fault) × (behind (left_in xs i f) ≡ ended g)
    go (inl (x, within, found, read)) = (f, ap behind (held_next xs i x f within) ∙ next_none xs ds (i + 1) f same past)
    go (inr (none, found)) = (None, ap behind (none_next xs i f none) ∙ behind_ended f)
