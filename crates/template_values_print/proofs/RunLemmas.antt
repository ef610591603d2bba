-- Lemmas on runs of bytes that stand for themselves.
use Rattle.std.proofs.Common.{◌≡◌, ℕ, zero, suc, ◌+◌, ◌-◌, ◌<◌, ◌≤◌, Bool, true, false, not, cond, List, [], ◌∷◌, ◌++◌, length, take, drop, get_or, refl, sym, ap, ap₂, subst, ◌∙◌, append_assoc, arith, inl, inr}
use Rattle.std.proofs.lemmas.Bool.{cases_lt, true≢false}
use Rattle.std.proofs.lemmas.Str.{IsCharBoundary-before_ascii, IsCharBoundary-end}
use Rattle.std.proofs.lemmas.List.{get_or-drop, length-drop}
use Rattle.std.proofs.lemmas.List.Sums.{prefix_len_stops, prefix_len-le-length}
use Rattle.std.specs.List.{flat_map, prefix_len}
use Rattle.std.specs.Str.{IsCharBoundary}
use Rattle.json.specs.Print.{escape_byte}
use Rattle.json.proofs.Printed.Strings.{escape_byte_plain}
use Rattle.template_values_forms.specs.Escapes.{html_byte, quoted_byte}
use Rattle.template_values_print.specs.Pieces.{escaped_byte}
use Rattle.template_values_print.proofs.PieceLemmas.{flat_map-next}
use Rattle.template_values_print.specs.Runs.{is_escaped, is_markup, stands}
use Rattle.template_values_print.specs.declared.pieces.Quoting.{Quoting}
use Rattle.template_values_print.specs.declared.pieces.Quoting.TheVariants.{Printed, Json}
use Rattle.template_values_print.specs.declared.runs.Stops.{Stops}
use Rattle.template_values_print.specs.declared.runs.Stops.TheVariants.{Markup, Escaped}

markup_low : (x : ℕ) → 128 ≤ x → is_markup x ≡ false
markup_low x high = grind arith

escaped_low : (x : ℕ) → 128 ≤ x → is_escaped x ≡ false
escaped_low x high = grind arith

stops_low : (stops : Stops) (x : ℕ) → 128 ≤ x → stands stops x ≡ true
stops_low Markup x high = ap not (markup_low x high)
stops_low Escaped x high = ap not (escaped_low x high)

stop_is_ascii : (stops : Stops) (x : ℕ) → stands stops x ≡ false → x < 128
stop_is_ascii stops x stop = elim (cases_lt x 128) [
  | inl small ↦ small
  | inr big ↦ absurd (true≢false (sym (stops_low stops x big) ∙ stop))
]

pub run_boundary : (stops : Stops) (s : List ℕ) (i : ℕ) → i ≤ length s → IsCharBoundary s (i + prefix_len (stands stops) (drop i s))
run_boundary stops s i within =
    let run : ℕ = prefix_len (stands stops) (drop i s) in
    elim (cases_lt (i + run) (length s)) [
      | inl inside ↦
          let stop = prefix_len_stops (stands stops) (drop i s) 0 (omega (arith, length-drop i s)) in
          let byte : get_or (drop i s) run 0 ≡ get_or s (i + run) 0 = get_or-drop i s run 0 in
          let P : ℕ → Type 0 = λ b. stands stops b ≡ false in
          IsCharBoundary-before_ascii s (i + run) inside (stop_is_ascii stops _ (subst P byte stop))
      | inr past ↦
          let end : length s ≡ i + run = omega (arith, length-drop i s, prefix_len-le-length (stands stops) (drop i s)) in
          let Q : ℕ → Type 0 = λ n. IsCharBoundary s n in
          subst Q end (IsCharBoundary-end s)
    ]

pub markup_stands : (x : ℕ) → stands Markup x ≡ true → html_byte x ≡ x ∷ []
markup_stands x plain = grind arith

quoted_stands : (x : ℕ) → stands Escaped x ≡ true → quoted_byte x ≡ x ∷ []
quoted_stands x plain = grind arith

no_quote : (x : ℕ) → stands Escaped x ≡ true → x ≡ 34 → ⊥
no_quote x plain is = grind arith

no_backslash : (x : ℕ) → stands Escaped x ≡ true → x ≡ 92 → ⊥
no_backslash x plain is = grind arith

no_control : (x : ℕ) → stands Escaped x ≡ true → 32 ≤ x
no_control x plain = grind arith

json_stands : (x : ℕ) → stands Escaped x ≡ true → escape_byte x ≡ x ∷ []
json_stands x plain = escape_byte_plain x (no_quote x plain) (no_backslash x plain) (no_control x plain)

pub escaped_stands : (quoting : Quoting) (x : ℕ) → stands Escaped x ≡ true → escaped_byte quoting x ≡ x ∷ []
escaped_stands Printed x plain = quoted_stands x plain
escaped_stands Json x plain = json_stands x plain

sub-sucs : (i a : ℕ) → suc i - suc a ≡ i - a
sub-sucs i a = omega arith

module _ (q : ℕ → Bool) (f : ℕ → List ℕ) (same : (x : ℕ) → q x ≡ true → f x ≡ x ∷ []) where
  -- a run is as it was
  pub run_stands : (s : List ℕ) → flat_map f (take (prefix_len q s) s) ≡ take (prefix_len q s) s
  run_stands [] = refl
  run_stands (x ∷ s) = by (run_stands s) (q x) refl
    where
      by : flat_map f (take (prefix_len q s) s) ≡ take (prefix_len q s) s → (b : Bool) → q x ≡ b →
          flat_map f (take (cond b (1 + prefix_len q s) 0) (x ∷ s)) ≡ take (cond b (1 + prefix_len q s) 0) (x ∷ s)
      by rest true e =
          let next : 1 + prefix_len q s ≡ suc (prefix_len q s) = omega arith in
          rw next (ap₂ (λ (a b : List ℕ). a ++ b) (same x e) rest)
      by rest false e = refl

  -- a text that ends with a run, which goes on behind a byte that stands for itself
  pub grown_by_run : (s : List ℕ) (i e : ℕ) → i < length s → f (get_or s i 0) ≡ get_or s i 0 ∷ [] → e ≡ suc i + prefix_len q (drop (suc i) s) → flat_map f (take e s) ≡ flat_map f (take i s) ++ take (e - i) (drop i s)
  grown_by_run [] i e h plain is = absurd (omega (arith, h))
  grown_by_run (x ∷ s) zero e h plain is =
      let ends : e ≡ suc (prefix_len q s) = omega (arith, is) in
      let all : e - 0 ≡ e = omega arith in
      rw all (rw ends (ap₂ (λ (a b : List ℕ). a ++ b) plain (run_stands s)))
  grown_by_run (x ∷ s) (suc i) zero h plain is = absurd (omega (arith, is))
  grown_by_run (x ∷ s) (suc i) (suc e) h plain is =
      ap (λ (z : List ℕ). f x ++ z) (grown_by_run s i e (omega (arith, h)) plain (omega (arith, is)))
      ∙ sym (append_assoc (f x) (flat_map f (take i s)) (take (e - i) (drop i s)))
      ∙ ap (λ (n : ℕ). (f x ++ flat_map f (take i s)) ++ take n (drop i s)) (sym (sub-sucs e i))

-- a text that ends with one byte more
pub grown_by_byte : (f : ℕ → List ℕ) (s : List ℕ) (i j : ℕ) → j ≡ suc i → i < length s → flat_map f (take j s) ≡ flat_map f (take i s) ++ f (get_or s i 0)
grown_by_byte f s i j e h = ap (λ (n : ℕ). flat_map f (take n s)) e ∙ flat_map-next f s i h

pub run_bound : (q : ℕ → Bool) (s : List ℕ) (i : ℕ) → i ≤ length s → i + prefix_len q (drop i s) ≤ length s
run_bound q s i within = omega (arith, prefix_len-le-length q (drop i s), length-drop i s)
