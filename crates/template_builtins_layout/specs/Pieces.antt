-- The words of a line, with the white space before each.
use Rattle.std.specs.Prelude.{◌≡◌, ℕ, zero, suc, ◌&&◌, Bool, true, false, not, List, [], ◌∷◌, length, nat_lt, chars, MatchOption, Option, None, Some, if◌then◌else◌}
use Rattle.std.specs.Borrow.{Bor}
use Rattle.std.specs.Char.{is_whitespace}

-- white space of ASCII
unfoldable pub is_blank : ℕ → Bool
is_blank c = nat_lt c 128 && is_whitespace c

-- such white space, or another character
abbrev pub is_kind : Bool → ℕ → Bool
is_kind blank c = if blank then is_blank c else not (is_blank c)

-- the first characters of a kind, and what is behind them
abbrev pub first_ones : Bool → List ℕ → List ℕ
first_ones blank [] = []
first_ones blank (c ∷ cs) = if is_kind blank c then c ∷ first_ones blank cs else []

abbrev pub behind_ones : Bool → List ℕ → List ℕ
behind_ones blank [] = []
behind_ones blank (c ∷ cs) = if is_kind blank c then behind_ones blank cs else c ∷ cs

-- white space with the word behind it, and what is behind that; white space alone is nothing
abbrev pub piece_from : List ℕ → List ℕ → Option ((List ℕ × List ℕ) × List ℕ)
piece_from gap [] = None
piece_from gap (c ∷ cs) = Some ((gap, first_ones false (c ∷ cs)), behind_ones false (c ∷ cs))

abbrev pub first_piece : List ℕ → Option ((List ℕ × List ℕ) × List ℕ)
first_piece cs = piece_from (first_ones true cs) (behind_ones true cs)

-- a call gives these as texts
abbrev pub Gives : Option ((Bor (List ℕ) × Bor (List ℕ)) × Bor (List ℕ)) → Option ((List ℕ × List ℕ) × List ℕ) → Type 0
Gives result found = MatchOption result (found ≡ None) (λ p. found ≡ Some ((chars p.0.0.now, chars p.0.1.now), chars p.1.now))

abbrev pub piece_then : (List ℕ → List (List ℕ × List ℕ)) → Option ((List ℕ × List ℕ) × List ℕ) → List (List ℕ × List ℕ)
piece_then f None = []
piece_then f (Some parts) = parts.0 ∷ f parts.1

abbrev pub pieces_up_to : ℕ → List ℕ → List (List ℕ × List ℕ)
pieces_up_to zero cs = []
pieces_up_to (suc n) cs = piece_then (pieces_up_to n) (first_piece cs)

-- each word of a line with the white space before it; there are no more than characters
unfoldable pub pieces : List ℕ → List (List ℕ × List ℕ)
pieces cs = pieces_up_to (length cs) cs
