-- How answers follow one another, and what comes of each item in turn.
use Rattle.std.proofs.Common.{◌≡◌, ◌∙◌, ◌⊎◌, inl, inr, sym, ap, refl, ℕ, ◌+◌, ◌<◌, ◌≤◌, List, [], ◌∷◌, ◌++◌, map, Result, Ok, Err, length, drop, get_or}
use Rattle.std.proofs.lemmas.List.{drop_more, drop_all}
use Rattle.template_values_errors.specs.declared.ErrorKind.{ErrorKind}
use Rattle.template_values_errors.specs.Memory.{NoMemory}
use Rattle.template_values_model.specs.Fault.{Fault}
use Rattle.template_values_model.specs.Gives.{Gives}
use Rattle.template_builtins_arguments.specs.Answers.{Tells, then as after, told, single}
use Rattle.template_builtins_sorting.specs.Keys.{each}

-- an operation's answer, told by kinds
pub tells_told : {T : Type 0} (r : Result T (List ErrorKind)) (a : Result T Fault) → Gives r a → Tells r (told a)
tells_told (Ok x) a h = ap told h
tells_told (Err kinds) (Ok x) h = elim h [ inl m ↦ inl m | inr e ↦ absurd cc ]
tells_told (Err kinds) (Err fault) h = h

-- the error of the first part is the whole's
pub tells_after_err : {T U : Type 0} (a : Result T ErrorKind) (f : T → Result U ErrorKind) (kinds : List ErrorKind)
    → NoMemory kinds ⊎ (single a ≡ Err kinds) → NoMemory kinds ⊎ (single (after a f) ≡ Err kinds)
tells_after_err (Ok x) f kinds h = elim h [ inl m ↦ inl m | inr e ↦ absurd cc ]
tells_after_err (Err kind) f kinds h = elim h [ inl m ↦ inl m | inr e ↦ inr (let same : kind ∷ [] ≡ kinds = cc in ap Err same) ]

pub after_ok : {T U : Type 0} (a : Result T ErrorKind) (x : T) (f : T → Result U ErrorKind) → a ≡ Ok x → after a f ≡ f x
after_ok a x f e = ap (λ (b : Result _ ErrorKind). after b f) e

-- ---- in turn

module _ {T U : Type 0} (f : T → Result U ErrorKind) where
  -- what is done so far goes before what comes of the others
  abbrev pub Goes : List U → List T → List T → Type 0
  Goes done rest all = each f all ≡ after (each f rest) (λ ys. Ok (done ++ ys))

  pub goes_none : (all : List T) → Goes [] all all
  goes_none all = by (each f all)
    where
      by : (a : Result (List U) ErrorKind) → a ≡ after a (λ ys. Ok ys)
      by (Ok ys) = refl
      by (Err kind) = refl

  append_one : (done ys : List U) (y : U) → done ++ (y ∷ ys) ≡ (done ++ (y ∷ [])) ++ ys
  append_one [] ys y = refl
  append_one (d ∷ done) ys y = ap (λ (zs : List U). d ∷ zs) (append_one done ys y)

  moved : (a : Result (List U) ErrorKind) (done : List U) (y : U)
      → after (after a (λ ys. Ok (y ∷ ys))) (λ zs. Ok (done ++ zs)) ≡ after a (λ ys. Ok ((done ++ (y ∷ [])) ++ ys))
  moved (Ok ys) done y = ap Ok (append_one done ys y)
  moved (Err kind) done y = refl

  next : (all : List T) (i : ℕ) (x : T) → i < length all → x ≡ get_or all i x → drop i all ≡ x ∷ drop (i + 1) all
  next all i x lt is = drop_more all i x lt ∙ ap (λ (y : T). y ∷ drop (i + 1) all) (sym is)

  -- what comes of the next one stands in front of what comes of the others
  turned : (done : List U) (all : List T) (i : ℕ) (x : T) (a : Result U ErrorKind) → i < length all → x ≡ get_or all i x → f x ≡ a
      → Goes done (drop i all) all
      → each f all ≡ after (after a (λ z. after (each f (drop (i + 1) all)) (λ ys. Ok (z ∷ ys)))) (λ ys. Ok (done ++ ys))
  turned done all i x a lt is gives goes =
      goes
      ∙ ap (λ (xs : List T). after (each f xs) (λ ys. Ok (done ++ ys))) (next all i x lt is)
      ∙ ap (λ (b : Result U ErrorKind). after (after b (λ z. after (each f (drop (i + 1) all)) (λ ys. Ok (z ∷ ys)))) (λ ys. Ok (done ++ ys)))
      gives

  pub goes_more : (done : List U) (all : List T) (i : ℕ) (x : T) (y : U) → i < length all → x ≡ get_or all i x → f x ≡ Ok y
      → Goes done (drop i all) all → Goes (done ++ (y ∷ [])) (drop (i + 1) all) all
  goes_more done all i x y lt is gives goes = turned done all i x (Ok y) lt is gives goes ∙ moved (each f (drop (i + 1) all)) done y

  nothing_more : (done : List U) → done ++ [] ≡ done
  nothing_more [] = refl
  nothing_more (d ∷ done) = ap (λ (zs : List U). d ∷ zs) (nothing_more done)

  pub goes_all : (done : List U) (all : List T) (i : ℕ) → length all ≤ i → Goes done (drop i all) all → each f all ≡ Ok done
  goes_all done all i le goes =
      goes
      ∙ ap (λ (xs : List T). after (each f xs) (λ ys. Ok (done ++ ys))) (drop_all i all le)
      ∙ ap Ok (nothing_more done)

  -- the first error is the whole's
  pub goes_err : (done : List U) (all : List T) (i : ℕ) (x : T) (kinds : List ErrorKind) → i < length all → x ≡ get_or all i x
      → Goes done (drop i all) all → NoMemory kinds ⊎ (single (f x) ≡ Err kinds) → NoMemory kinds ⊎ (single (each f all) ≡ Err kinds)
  goes_err done all i x kinds lt is goes h = by (f x) refl h
    where
      by : (a : Result U ErrorKind) → f x ≡ a → NoMemory kinds ⊎ (single a ≡ Err kinds) → NoMemory kinds ⊎ (single (each f all) ≡ Err kinds)
      by (Ok y) gives h = elim h [ inl m ↦ inl m | inr e ↦ absurd cc ]
      by (Err kind) gives h =
          let whole : each f all ≡ Err kind = turned done all i x (Err kind) lt is gives goes in
          elim h [ inl m ↦ inl m | inr e ↦ inr (let same : kind ∷ [] ≡ kinds = cc in ap single whole ∙ ap Err same) ]

-- ---- of what a function gives of each

pub each-map : {S T U : Type 0} (f : T → Result U ErrorKind) (g : S → T) (xs : List S) → each f (map g xs) ≡ each (λ x. f (g x)) xs
each-map f g [] = refl
each-map f g (x ∷ xs) = ap (λ (a : Result (List _) ErrorKind). after (f (g x)) (λ y. after a (λ ys. Ok (y ∷ ys)))) (each-map f g xs)

pub goes_all_of : {S T U : Type 0} (f : T → Result U ErrorKind) (g : S → T) (done : List U) (all : List S) (i : ℕ) → length all ≤ i
    → Goes (λ x. f (g x)) done (drop i all) all → each f (map g all) ≡ Ok done
goes_all_of f g done all i le goes = each-map f g all ∙ goes_all (λ x. f (g x)) done all i le goes

pub goes_err_of : {S T U : Type 0} (f : T → Result U ErrorKind) (g : S → T) (done : List U) (all : List S) (i : ℕ) (x : S)
    (kinds : List ErrorKind) → i < length all → x ≡ get_or all i x → Goes (λ y. f (g y)) done (drop i all) all → NoMemory kinds ⊎ (single (f (g x)) ≡ Err kinds)
    → NoMemory kinds ⊎ (single (each f (map g all)) ≡ Err kinds)
goes_err_of f g done all i x kinds lt is goes h =
    elim (goes_err (λ y. f (g y)) done all i x kinds lt is goes h) [
      | inl m ↦ inl m
      | inr e ↦ inr (ap single (each-map f g all) ∙ e)
    ]

pub ruleset in_turn = (goes_none, goes_more, goes_all, goes_err)

pub ruleset in_turn_of = (goes_none, goes_more, goes_all_of, goes_err_of)
