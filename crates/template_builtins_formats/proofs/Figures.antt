-- The numbers that figures write, and the digits of numbers.
use Rattle.std.proofs.Common.{arith, ◌≡◌, ◌≢◌, ℕ, ◌+◌, ◌*◌, ◌/◌, ◌%◌, ◌<◌, ◌≤◌, false, List, [], ◌∷◌, ◌++◌, map, drop, length, get_or, Ok, refl, sym, ap, ◌∙◌}
use Rattle.std.proofs.lemmas.Bool.{ne_eqb}
use Rattle.std.proofs.lemmas.Bool.Decides.{nat_tests}
use Rattle.std.proofs.lemmas.Int.Digits.{digits_of_step}
use Rattle.std.proofs.lemmas.List.{at_drop_more, at_drop_all, map_push}
use Rattle.std.specs.Char.{digit_value}
use Rattle.std.specs.Fmt.{digit_glyph}
use Rattle.std.specs.Int.Digits.{digits_of}
use Rattle.std.specs.Str.Parse.{digits_value, digits_value_after}
use Rattle.template_builtins_arguments.specs.Answers.{refused}
use Rattle.template_builtins_numbers.proofs.Digits.{grows}
use Rattle.template_builtins_numbers.specs.Decimals.{without_minus}
use Rattle.template_builtins_numbers.specs.Wholes.{is_negative}
use Rattle.template_builtins_formats.specs.Digits.{is_upper, radix_of, some_digits}
use Rattle.template_builtins_formats.specs.Directives.{limited}
use Rattle.template_builtins_formats.specs.declared.directives.Base.{Base}

-- one figure more
pub figure_turn : (n : ℕ) (s : List ℕ) (k : ℕ) → k < length s
    → digits_value_after 10 n (drop k s) ≡ digits_value_after 10 (n * 10 + digit_value (get_or s k 0)) (drop (k + 1) s)
figure_turn n s k h = at_drop_more (digits_value_after 10 n) s k 0 h

pub figures_end : (n : ℕ) (s : List ℕ) (k : ℕ) → length s ≤ k → digits_value_after 10 n (drop k s) ≡ n
figures_end n s k h = at_drop_all (digits_value_after 10 n) s k h

-- more figures write no smaller number
pub figures_grow : (n : ℕ) (s : List ℕ) → n ≤ digits_value_after 10 n s
figures_grow n s = grows 10 n s (omega arith)

pub past_limit : (s : List ℕ) → 16777216 < digits_value 10 s → limited s ≡ refused
unfolding limited
past_limit s h = grind (arith, nat_tests)

pub within_limit : (s : List ℕ) → digits_value 10 s ≤ 16777216 → limited s ≡ Ok (digits_value 10 s)
unfolding limited
within_limit s h = grind (arith, nat_tests)

-- one digit more
pub digits_more : (base : Base) (radix n : ℕ) → radix ≡ radix_of base → 8 ≤ radix → 0 < n
    → some_digits base n ≡ some_digits base (n / radix) ++ digit_glyph (is_upper base) (n % radix) ∷ []
digits_more base radix n is least some =
    ap (λ (r : ℕ). map (digit_glyph (is_upper base)) (digits_of r n)) (sym is)
    ∙ ap (map (digit_glyph (is_upper base))) (digits_of_step radix n (omega arith) some)
    ∙ map_push (digit_glyph (is_upper base)) (digits_of radix (n / radix)) (n % radix)
    ∙ ap (λ (r : ℕ). map (digit_glyph (is_upper base)) (digits_of r (n / radix)) ++ digit_glyph (is_upper base) (n % radix) ∷ []) is

-- where no minus stands first
pub no_minus : (s : List ℕ) → ((rest : List ℕ) → s ≢ 45 ∷ rest) → false ≡ is_negative s
no_minus [] h = refl
no_minus (c ∷ cs) h = sym (ne_eqb c 45 (λ e. h cs (ap (λ (d : ℕ). d ∷ cs) e)))

pub no_minus_digits : (s : List ℕ) → ((rest : List ℕ) → s ≢ 45 ∷ rest) → s ≡ without_minus s
no_minus_digits s h = rw (← no_minus s h)
