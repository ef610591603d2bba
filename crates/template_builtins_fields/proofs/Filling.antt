-- Texts with fields in braces, part by part.
use Rattle.std.proofs.Common.{◌≡◌, ℕ, zero, suc, ◌-◌, ◌+◌, ◌<◌, ◌≤◌, List, [], ◌∷◌, ◌++◌, length, None, Some, Result, Ok, Err, inl, inr, refl, sym, ap, ◌∙◌, arith, append_assoc}
use Rattle.template_values_errors.specs.declared.ErrorKind.{ErrorKind}
use Rattle.template_values_model.specs.Val.{Val}
use Rattle.template_callables.specs.Callables.{View}
use Rattle.template_builtins_arguments.specs.Answers.{Tells, then as after}
use Rattle.template_builtins_fields.specs.Choices.{no_numbering}
use Rattle.template_builtins_fields.specs.Formats.{Part, closed, cut, filled, filled_up_to, part_at, put_behind}
use Rattle.template_builtins_fields.specs.declared.arguments.Numbering.{Numbering}

-- what is made of the rest stands behind what is made: there are no more fields than bytes left
abbrev pub IsLeft : View → List Val → List ℕ → List ℕ → Numbering → List ℕ → Type 0
IsLeft view vs whole out numbering rest =
    (n : ℕ) × (length rest ≤ n) × (put_behind out (filled_up_to n view vs numbering rest) ≡ filled view vs whole)

put_none : (r : Result (List ℕ) ErrorKind) → put_behind [] r ≡ r
put_none (Ok s) = refl
put_none (Err kind) = refl

put_twice : (front next : List ℕ) (r : Result (List ℕ) ErrorKind) → put_behind front (put_behind next r) ≡ put_behind (front ++ next) r
put_twice front next (Ok s) = ap Ok (sym (append_assoc front next s))
put_twice front next (Err kind) = refl

pub all_left : (view : View) (vs : List Val) (whole out : List ℕ) (numbering : Numbering) → out ≡ [] → numbering ≡ no_numbering
    → IsLeft view vs whole out numbering whole
unfolding filled
all_left view vs whole out numbering none start = (
  length whole,
  omega arith,
  ap (λ (x : List ℕ). put_behind x (filled_up_to (length whole) view vs numbering whole)) none
      ∙ put_none _
      ∙ ap (λ (k : Numbering). filled_up_to (length whole) view vs k whole) start,
)

pub one_part : (view : View) (vs : List Val) (whole out more : List ℕ) (numbering : Numbering) (rest before behind : List ℕ) (part : Part)
    → cut 123 rest ≡ Some (before, behind) → part_at view vs numbering before behind ≡ Ok part → more ≡ out ++ part.0
    → length part.1.1 < length rest
    → IsLeft view vs whole out numbering rest → IsLeft view vs whole more part.1.0 part.1.1
one_part view vs whole out more numbering rest before behind part is made grown less (n, room, held) =
    let counted : n ≡ suc (n - 1) = omega (arith, less, room) in
    let others = filled_up_to (n - 1) view vs part.1.0 part.1.1 in
    let step : filled_up_to (suc (n - 1)) view vs numbering rest ≡ put_behind part.0 others = rw (is, made) in (
      n - 1,
      omega (arith, less, room),
      ap (λ (x : List ℕ). put_behind x (filled_up_to (n - 1) view vs part.1.0 part.1.1)) grown
          ∙ sym (put_twice out part.0 others)
          ∙ ap (put_behind out) (sym step)
          ∙ ap (λ (k : ℕ). put_behind out (filled_up_to k view vs numbering rest)) (sym counted)
          ∙ held,
    )

-- a part that is refused is the whole's refusal
refused_by : (out : List ℕ) (part : Result Part ErrorKind) (f : Part → Result (List ℕ) ErrorKind) (kinds : List ErrorKind)
    → Tells {T = Part} (Err kinds) part → Tells {T = List ℕ} (Err kinds) (put_behind out (after part f))
refused_by out (Ok x) f kinds h = elim h [ inl m ↦ inl m | inr e ↦ absurd cc ]
refused_by out (Err kind) f kinds h = elim h [ inl m ↦ inl m | inr e ↦ inr (let same : kind ∷ [] ≡ kinds = cc in ap Err same) ]

pub part_fails : (view : View) (vs : List Val) (whole out : List ℕ) (numbering : Numbering) (rest before behind : List ℕ) (kinds : List ErrorKind)
    → cut 123 rest ≡ Some (before, behind) → length behind < length rest → Tells {T = Part} (Err kinds) (part_at view vs numbering before behind)
    → IsLeft view vs whole out numbering rest → Tells {T = List ℕ} (Err kinds) (filled view vs whole)
part_fails view vs whole out numbering rest before behind kinds is less failed (n, room, held) =
    let counted : n ≡ suc (n - 1) = omega (arith, less, room) in
    let go : Part → Result (List ℕ) ErrorKind = λ part. put_behind part.0 (filled_up_to (n - 1) view vs part.1.0 part.1.1) in
    let step : filled_up_to (suc (n - 1)) view vs numbering rest ≡ after (part_at view vs numbering before behind) go = rw is in
    let e : filled view vs whole ≡ put_behind out (after (part_at view vs numbering before behind) go) =
    sym held ∙ ap (λ (k : ℕ). put_behind out (filled_up_to k view vs numbering rest)) counted ∙ ap (put_behind out) step in
    rw e (refused_by out (part_at view vs numbering before behind) go kinds failed)

no_part : (n : ℕ) (view : View) (vs : List Val) (numbering : Numbering) (rest : List ℕ) → cut 123 rest ≡ None → filled_up_to n view vs numbering rest ≡ closed rest
no_part zero view vs numbering rest none = refl
no_part (suc n) view vs numbering rest none = rw none

pub none_left : (view : View) (vs : List Val) (whole out : List ℕ) (numbering : Numbering) (rest : List ℕ) → cut 123 rest ≡ None
    → IsLeft view vs whole out numbering rest → filled view vs whole ≡ put_behind out (closed rest)
none_left view vs whole out numbering rest none (n, room, held) = sym held ∙ ap (put_behind out) (no_part n view vs numbering rest none)
