-- Pieces of formats, and how a format goes on behind them.
use Rattle.std.proofs.Common.{arith, ◌≡◌, ◌≢◌, ◌⊎◌, inl, inr, ℕ, zero, suc, ◌<◌, List, [], ◌∷◌, ◌++◌, length, Option, None, Some, Result, Ok, Err, refl, sym, ap, ◌∙◌, append_assoc}
use Rattle.std.proofs.lemmas.Bool.{le-ltb, lt-ltb, ne_eqb}
use Rattle.std.specs.List.{after_first, before_first, position_or_len}
use Rattle.template_values_errors.specs.declared.ErrorKind.{ErrorKind}
use Rattle.template_values_errors.specs.Memory.{NoMemory}
use Rattle.template_values_model.specs.Val.{Val}
use Rattle.template_callables.specs.Callables.{View}
use Rattle.template_builtins_arguments.specs.Answers.{single, then as after}
use Rattle.template_builtins_formats.specs.Directives.{behind, directive_in, front, limited, width_in}
use Rattle.template_builtins_formats.specs.Formats.{Piece, before_rest, behind_percent, directed, formatted, is_percent, last_piece, next_piece, pieces_up_to}

-- behind a `%` that is not one of two stands a directive
pub not_percent : (view : View) (before s : List ℕ) (vs : List Val) → ((rest : List ℕ) → s ≢ 37 ∷ rest)
    → directed view before s vs ≡ behind_percent view before s vs
unfolding directed directive_in width_in behind front limited
not_percent view before [] vs h = refl
not_percent view before (c ∷ s) vs h = rw (ne_eqb c 37 (λ e. h s (ap (λ (d : ℕ). d ∷ s) e)))

pub next_some : (view : View) (s before behind : List ℕ) (vs : List Val) → position_or_len is_percent s < length s
    → before ≡ before_first is_percent s → behind ≡ after_first is_percent s → behind_percent view before behind vs ≡ next_piece view s vs
unfolding next_piece
next_some view s before behind vs h front-is behind-is =
    ap (λ (x : List ℕ). behind_percent view x behind vs) front-is
    ∙ ap (λ (x : List ℕ). behind_percent view (before_first is_percent s) x vs) behind-is
    ∙ rw (lt-ltb (position_or_len is_percent s) (length s) h)

pub next_none : (view : View) (s : List ℕ) (vs : List Val) → position_or_len is_percent s ≡ length s → last_piece s vs ≡ next_piece view s vs
unfolding next_piece
next_none view s vs h = rw (le-ltb (position_or_len is_percent s) (length s) (omega (arith, h)))

-- what is made of the rest stands behind what is made
abbrev put_onto : List ℕ → Result (List ℕ) ErrorKind → Result (List ℕ) ErrorKind
put_onto out made = after made (λ t. Ok (out ++ t))

abbrev pub Goes : View → List ℕ → List ℕ → List Val → List ℕ → List Val → Type 0
Goes view out rest given whole all =
    (n : ℕ) × (length rest < n) × (put_onto out (pieces_up_to view n rest given) ≡ formatted view whole all)

put_none : (made : Result (List ℕ) ErrorKind) → put_onto [] made ≡ made
put_none (Ok t) = refl
put_none (Err kind) = refl

put_twice : (out made : List ℕ) (rest : Result (List ℕ) ErrorKind) → put_onto (out ++ made) rest ≡ put_onto out (put_onto made rest)
put_twice out made (Ok t) = ap Ok (append_assoc out made t)
put_twice out made (Err kind) = refl

formatted_is : (view : View) (whole : List ℕ) (all : List Val) → formatted view whole all ≡ pieces_up_to view (suc (length whole)) whole all
unfolding formatted
formatted_is view whole all = refl

pub goes_first : (view : View) (out whole : List ℕ) (all : List Val) → out ≡ [] → Goes view out whole all whole all
goes_first view out whole all none = (
  suc (length whole),
  omega arith,
  ap (λ (x : List ℕ). put_onto x (pieces_up_to view (suc (length whole)) whole all)) none
      ∙ put_none (pieces_up_to view (suc (length whole)) whole all)
      ∙ sym (formatted_is view whole all),
)

abbrev continued : View → ℕ → List ℕ → Result Piece ErrorKind → Result (List ℕ) ErrorKind
continued view n out next = put_onto out (after next (λ p. before_rest (pieces_up_to view n) p.text p.left))

pub goes_on : (view : View) (out more rest made text : List ℕ) (given arguments all : List Val) (whole : List ℕ) (left : Option (List ℕ × List Val))
    → next_piece view rest given ≡ Ok (record { text = made; left = left }) → left ≡ Some (text, arguments) → more ≡ out ++ made
    → length text < length rest → Goes view out rest given whole all → Goes view more text arguments whole all
goes_on view out more rest made text given arguments all whole left next is grown less (zero, room, held) = absurd (omega (arith, room))
goes_on view out more rest made text given arguments all whole left next is grown less (suc n, room, held) = (
  n,
  omega (arith, less, room),
  ap (λ (x : List ℕ). put_onto x (pieces_up_to view n text arguments)) grown
      ∙ put_twice out made (pieces_up_to view n text arguments)
      ∙ ap (λ (x : Option (List ℕ × List Val)). put_onto out (before_rest (pieces_up_to view n) made x)) (sym is)
      ∙ sym (ap (continued view n out) next)
      ∙ held,
)

pub goes_last : (view : View) (out more rest made : List ℕ) (given all : List Val) (whole : List ℕ) (left : Option (List ℕ × List Val))
    → next_piece view rest given ≡ Ok (record { text = made; left = left }) → left ≡ None → more ≡ out ++ made
    → Goes view out rest given whole all → formatted view whole all ≡ Ok more
goes_last view out more rest made given all whole left next is grown (zero, room, held) = absurd (omega (arith, room))
goes_last view out more rest made given all whole left next is grown (suc n, room, held) =
    sym held
    ∙ ap (continued view n out) next
    ∙ ap (λ (x : Option (List ℕ × List Val)). put_onto out (before_rest (pieces_up_to view n) made x)) is
    ∙ ap Ok (sym grown)

fails : (view : View) (n : ℕ) (out : List ℕ) (kinds : List ErrorKind) (next : Result Piece ErrorKind) → single next ≡ Err kinds
    → single (continued view n out next) ≡ Err kinds
fails view n out kinds (Ok p) h = absurd (cc h)
fails view n out kinds (Err kind) h = let same : kind ∷ [] ≡ kinds = cc h in ap Err same

pub goes_wrong : (view : View) (out rest : List ℕ) (given all : List Val) (whole : List ℕ) (kinds : List ErrorKind)
    → single (next_piece view rest given) ≡ Err kinds → Goes view out rest given whole all → single (formatted view whole all) ≡ Err kinds
goes_wrong view out rest given all whole kinds h (zero, room, held) = absurd (omega (arith, room))
goes_wrong view out rest given all whole kinds h (suc n, room, held) =
    sym (ap single held) ∙ fails view n out kinds (next_piece view rest given) h

pub goes_told : (view : View) (out rest : List ℕ) (given all : List Val) (whole : List ℕ) (kinds : List ErrorKind)
    → NoMemory kinds ⊎ (single (next_piece view rest given) ≡ Err kinds) → Goes view out rest given whole all
    → NoMemory kinds ⊎ (single (formatted view whole all) ≡ Err kinds)
goes_told view out rest given all whole kinds (inl none) goes = inl none
goes_told view out rest given all whole kinds (inr h) goes = inr (goes_wrong view out rest given all whole kinds h goes)
