-- A text is as it was with its references only where it has no markup.
use Rattle.std.proofs.Common.{◌≡◌, ◌↔◌, ℕ, suc, ◌+◌, ◌≤◌, Bool, true, false, cond, List, [], ◌∷◌, ◌++◌, length, take, drop, refl, sym, ap, subst, ◌∙◌, arith}
use Rattle.std.proofs.Math.Seq.{take-length}
use Rattle.std.proofs.lemmas.List.{length-append}
use Rattle.std.specs.List.{prefix_len}
use Rattle.template_values_forms.specs.Escapes.{html, html_byte}
use Rattle.template_values_print.specs.Runs.{stands}
use Rattle.template_values_print.specs.declared.runs.Stops.TheVariants.{Markup}
use Rattle.template_values_print.proofs.RunLemmas.{markup_stands, run_stands}

byte_length : (x : ℕ) → 1 ≤ length (html_byte x)
byte_length x = grind arith

markup_length : (x : ℕ) → stands Markup x ≡ false → 2 ≤ length (html_byte x)
markup_length x marked = grind arith

html_length : (s : List ℕ) → length s ≤ length (html s)
html_length [] = omega arith
html_length (x ∷ s) = omega (arith, byte_length x, html_length s, length-append (html_byte x) (html s))

pub unmarked_stands : (s : List ℕ) → prefix_len (stands Markup) s ≡ length s → html s ≡ s
unmarked_stands s whole =
    let all : take (prefix_len (stands Markup) s) s ≡ s = ap (λ (n : ℕ). take n s) whole ∙ take-length s in
    subst (λ (t : List ℕ). html t ≡ t) all (run_stands (stands Markup) html_byte markup_stands s)

pub stands_unmarked : (s : List ℕ) → html s ≡ s → prefix_len (stands Markup) s ≡ length s
stands_unmarked [] same = refl
stands_unmarked (x ∷ s) same = by (λ rest. stands_unmarked s rest) (stands Markup x) refl
  where
    by : (html s ≡ s → prefix_len (stands Markup) s ≡ length s) → (b : Bool) → stands Markup x ≡ b →
        cond b (1 + prefix_len (stands Markup) s) 0 ≡ suc (length s)
    by rest true plain = omega (arith, rest (ap (drop 1) (ap (λ (b : List ℕ). b ++ html s) (sym (markup_stands x plain)) ∙ same)))
    by rest false marked = absurd (omega (arith, ap length same, length-append (html_byte x) (html s), markup_length x marked, html_length s))

-- a run over the whole text
pub unmarked_exactly : (s : List ℕ) (end : ℕ) → end ≡ 0 + prefix_len (stands Markup) s → (end ≡ length s) ↔ (html s ≡ s)
unmarked_exactly s end is = (λ whole. unmarked_stands s (omega (arith, is, whole)), λ same. omega (arith, is, stands_unmarked s same))
