-- What stands at the places of a source. Texts are lists of bytes: 9 is a tab, 10 `\n`, 13 `\r`, 32 a space, 43 `+`, 45 `-`.
use Rattle.template_compiler_syntax.specs.declared.edges.Trim.{Trim}
use Rattle.template_compiler_syntax.specs.declared.edges.Trim.TheVariants.{Plain, Minus, Plus}
use Rattle.std.specs.Prelude.{◌≡◌, ℕ, zero, suc, ◌+◌, ◌-◌, ◌<◌, ◌≤◌, ◌⊎◌, Bool, ◌&&◌, ◌||◌, ◌==◌, if◌then◌else◌, List, length, take, drop, slice_index}

-- the text between two places
abbrev pub stretch : List ℕ → ℕ → ℕ → List ℕ
stretch s from to = take (to - from) (drop from s)

-- the text stands at the place
abbrev pub StandsAt : List ℕ → ℕ → List ℕ → Type 0
StandsAt s i text = take (length text) (drop i s) ≡ text

-- the first place from `from` on at which the fact holds
pub record IsFirst (P : ℕ → Type 0) (from i : ℕ) : Type 0 where
  pub ahead : from ≤ i
  pub here : P i
  pub before : (j : ℕ) → from ≤ j → j < i → P j → ⊥

-- it holds at no place from `from` on
abbrev pub IsNowhere : (P : ℕ → Type 0) → ℕ → Type 0
IsNowhere P from = (j : ℕ) → from ≤ j → P j → ⊥

-- a space or a tab
abbrev pub is_blank : ℕ → Bool
is_blank b = b == 32 || b == 9

-- where the blanks that stand directly before a place begin
unfoldable pub blanks_from : List ℕ → ℕ → ℕ
blanks_from s zero = 0
blanks_from s (suc i) = if is_blank (slice_index s i) then blanks_from s i else suc i

-- only blanks stand before the place on its line. Lines begin at the source's start and behind each `\n`
abbrev pub is_first_on_line : List ℕ → ℕ → Bool
is_first_on_line s i = blanks_from s i == 0 || slice_index s (blanks_from s i - 1) == 10

-- how long the newline is that stands at the place: `\n`, `\r\n` or none
abbrev pub newline_len : List ℕ → ℕ → ℕ
newline_len s i =
    if slice_index s i == 10 then 1
    else if slice_index s i == 13 && slice_index s (i + 1) == 10 then 2
    else 0

-- a line ends at the place
abbrev pub IsLineEnd : List ℕ → ℕ → Type 0
IsLineEnd s i = (0 < newline_len s i) ⊎ (length s ≤ i)

-- the text without one byte `c` at its end
abbrev pub less_final : ℕ → List ℕ → List ℕ
less_final c s = if slice_index s (length s - 1) == c then take (length s - 1) s else s

-- the text without one final newline, and then without one final carriage return
abbrev pub less_final_newline : List ℕ → List ℕ
less_final_newline s = less_final 13 (less_final 10 s)

-- the sign that a byte is
abbrev pub sign_of : ℕ → Trim
sign_of b = if b == 45 then Minus else if b == 43 then Plus else Plain

-- the sign that stands at a place
abbrev pub sign_at : List ℕ → ℕ → Trim
sign_at s i = sign_of (slice_index s i)

abbrev pub sign_width : Trim → ℕ
sign_width Plain = 0
sign_width Minus = 1
sign_width Plus = 1
