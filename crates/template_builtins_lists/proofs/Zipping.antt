-- The items of several lists, side by side.
use Rattle.std.proofs.Common.{arith, ◌≡◌, ℕ, List, ◌<◌, ◌≤◌, ◌+◌, ◌∷◌, [], ◌++◌, drop, get_or, Option, None, Some, option_to_list, Ok, Err, sym, ◌∙◌, append-nil}
use Rattle.std.specs.List.{range_with_len}
use Rattle.std.proofs.lemmas.List.FromFn.{length-range_with_len, get_or-range_with_len}
use Rattle.template_values_errors.specs.declared.ErrorKind.{ErrorKind}
use Rattle.template_values_model.specs.Val.{Val}
use Rattle.template_builtins_arguments.specs.Answers.{Made, Tells}
use Rattle.template_builtins_paths.specs.Items.{each}
use Rattle.template_builtins_paths.proofs.Each.{onto, each_goes, each_fails, each_ends}

number_at : (n k : ℕ) → k < n → k ≡ get_or (range_with_len 0 n) k k
number_at n k h = let sum : k ≡ 0 + k = omega arith in sum ∙ sym (get_or-range_with_len 0 n k k h)

-- what comes of each number below another
pub number_goes : (f : ℕ → Made) (n k : ℕ) (y : Val) (front : List Val) → k < n → f k ≡ Ok y
    → onto front (each f (drop k (range_with_len 0 n))) ≡ onto (front ++ (y ∷ [])) (each f (drop (k + 1) (range_with_len 0 n)))
number_goes f n k y front h made =
    each_goes f (range_with_len 0 n) k k y front (omega (arith, h, length-range_with_len 0 n)) (number_at n k h) made

pub number_fails : (f : ℕ → Made) (n k : ℕ) (front : List Val) (kinds : List ErrorKind) → k < n → Tells {T = Val} (Err kinds) (f k)
    → Tells {T = List Val} (Err kinds) (onto front (each f (drop k (range_with_len 0 n))))
number_fails f n k front kinds h failed =
    each_fails f (range_with_len 0 n) k k front kinds (omega (arith, h, length-range_with_len 0 n)) (number_at n k h) failed

pub numbers_end : (f : ℕ → Made) (n k : ℕ) (front : List Val) → n ≤ k → onto front (each f (drop k (range_with_len 0 n))) ≡ Ok front
numbers_end f n k front h = each_ends f (range_with_len 0 n) k front (omega (arith, h, length-range_with_len 0 n))

-- a list that has no item there
pub without_item : (row : List Val) (o : Option Val) → None ≡ o → row ≡ row ++ option_to_list o
without_item row None h = sym (append-nil row)
without_item row (Some v) h = absurd cc
