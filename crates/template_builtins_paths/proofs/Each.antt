-- What comes of each, item by item.
use Rattle.std.proofs.Common.{◌≡◌, ℕ, List, ◌<◌, ◌≤◌, ◌+◌, ◌∷◌, [], ◌++◌, length, drop, get_or, Result, Ok, Err, refl, sym, ap, ◌∙◌, append_assoc}
use Rattle.std.proofs.lemmas.List.{at_drop_more, at_drop_all, append-nil}
use Rattle.template_values_errors.specs.declared.ErrorKind.{ErrorKind}
use Rattle.template_builtins_arguments.specs.Answers.{Tells, then as after}
use Rattle.template_builtins_paths.specs.Items.{each}
use Rattle.template_builtins_paths.proofs.Steps.{tells_after_err, after_ok}

-- these, then what comes of the rest
abbrev pub onto : {Y : Type 0} → List Y → Result (List Y) ErrorKind → Result (List Y) ErrorKind
onto front rest = after rest (λ ys. Ok (front ++ ys))

onto_nothing : {Y : Type 0} (r : Result (List Y) ErrorKind) → r ≡ onto [] r
onto_nothing (Ok ys) = refl
onto_nothing (Err kind) = refl

onto_one : {Y : Type 0} (front : List Y) (y : Y) (rest : Result (List Y) ErrorKind) → onto front (after rest (λ ys. Ok (y ∷ ys))) ≡ onto (front ++ (y ∷ [])) rest
onto_one front y (Ok ys) = ap Ok (sym (append_assoc front (y ∷ []) ys))
onto_one front y (Err kind) = refl

pub each_none : {X Y : Type 0} (f : X → Result Y ErrorKind) (xs : List X) → each f xs ≡ onto [] (each f xs)
each_none f xs = onto_nothing (each f xs)

-- the next one is first among those that are left
pub each_turn : {X Y : Type 0} (f : X → Result Y ErrorKind) (xs : List X) (k : ℕ) (x : X) → k < length xs → x ≡ get_or xs k x → each f (drop k xs) ≡ after (f x) (λ y. after (each f (drop (k + 1) xs)) (λ ys. Ok (y ∷ ys)))
each_turn f xs k x h e = at_drop_more (each f) xs k x h ∙ ap (λ z. each f (z ∷ drop (k + 1) xs)) (sym e)

pub each_goes : {X Y : Type 0} (f : X → Result Y ErrorKind) (xs : List X) (k : ℕ) (x : X) (y : Y) (front : List Y) → k < length xs → x ≡ get_or xs k x → f x ≡ Ok y → onto front (each f (drop k xs)) ≡ onto (front ++ (y ∷ [])) (each f (drop (k + 1) xs))
each_goes f xs k x y front h e made = ap (onto front) (each_turn f xs k x h e ∙ after_ok (f x) y _ made) ∙ onto_one front y (each f (drop (k + 1) xs))

pub each_fails : {X Y : Type 0} (f : X → Result Y ErrorKind) (xs : List X) (k : ℕ) (x : X) (front : List Y) (kinds : List ErrorKind) → k < length xs → x ≡ get_or xs k x → Tells {T = Y} (Err kinds) (f x) → Tells {T = List Y} (Err kinds) (onto front (each f (drop k xs)))
each_fails {Y = Y} f xs k x front kinds h e failed =
    rw (each_turn f xs k x h e) (tells_after_err {T = List Y} {U = List Y} _ (λ ys. Ok (front ++ ys)) kinds (tells_after_err (f x) _ kinds failed))

pub each_ends : {X Y : Type 0} (f : X → Result Y ErrorKind) (xs : List X) (k : ℕ) (front : List Y) → length xs ≤ k → onto front (each f (drop k xs)) ≡ Ok front
each_ends f xs k front h = ap (onto front) (at_drop_all (each f) xs k h) ∙ ap Ok (append-nil front)
