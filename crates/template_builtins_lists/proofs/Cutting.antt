-- What comes of the pieces of a list, piece by piece.
use Rattle.std.proofs.Common.{arith, ◌≡◌, ℕ, List, ◌<◌, ◌+◌, ◌∷◌, [], ◌++◌, length, min, take, drop, get_or, Ok, Err, refl, ap, ◌∙◌}
use Rattle.std.proofs.lemmas.List.{at_drop_more, take_min, drop_min}
use Rattle.template_values_errors.specs.declared.ErrorKind.{ErrorKind}
use Rattle.template_values_model.specs.Val.{Val}
use Rattle.template_builtins_arguments.specs.Answers.{Made, Tells}
use Rattle.template_builtins_paths.specs.Items.{each}
use Rattle.template_builtins_paths.proofs.Each.{onto, each_goes, each_fails}
use Rattle.template_builtins_lists.specs.Lines.{cut}

cut_more : (ns : List ℕ) (k : ℕ) (rest piece left : List Val) → k < length ns → piece ≡ take (get_or ns k 0) rest → left ≡ drop (get_or ns k 0) rest → cut (drop k ns) rest ≡ piece ∷ cut (drop (k + 1) ns) left
cut_more ns k rest piece left h front back = at_drop_more (λ xs. cut xs rest) ns k 0 h ∙ rw (front, back) refl

pub cut_goes : (f : List Val → Made) (ns : List ℕ) (k : ℕ) (rest piece left : List Val) (y : Val) (before : List Val) → k < length ns → piece ≡ take (get_or ns k 0) rest → left ≡ drop (get_or ns k 0) rest → f piece ≡ Ok y
    → onto before (each f (cut (drop k ns) rest)) ≡ onto (before ++ (y ∷ [])) (each f (cut (drop (k + 1) ns) left))
cut_goes f ns k rest piece left y before h front back made =
    ap (λ (xs : List (List Val)). onto before (each f xs)) (cut_more ns k rest piece left h front back)
    ∙ each_goes f (piece ∷ cut (drop (k + 1) ns) left) 0 piece y before (omega arith) refl made

pub cut_fails : (f : List Val → Made) (ns : List ℕ) (k : ℕ) (rest piece before : List Val) (kinds : List ErrorKind) → k < length ns → piece ≡ take (get_or ns k 0) rest → Tells {T = Val} (Err kinds) (f piece)
    → Tells {T = List Val} (Err kinds) (onto before (each f (cut (drop k ns) rest)))
cut_fails f ns k rest piece before kinds h front failed =
    rw (cut_more ns k rest piece (drop (get_or ns k 0) rest) h front refl) (each_fails f (piece ∷ cut (drop (k + 1) ns) (drop (get_or ns k 0) rest)) 0 piece before kinds (omega arith) refl failed)

-- so many items of a list, or all
pub cut_front : (n most : ℕ) (rest piece : List Val) → most ≡ min n (length rest) → piece ≡ take most rest → piece ≡ take n rest
cut_front n most rest piece is front = front ∙ ap (λ (k : ℕ). take k rest) is ∙ take_min n rest

pub cut_back : (n most : ℕ) (rest left : List Val) → most ≡ min n (length rest) → left ≡ drop most rest → left ≡ drop n rest
cut_back n most rest left is back = back ∙ ap (λ (k : ℕ). drop k rest) is ∙ drop_min n rest
