-- Where a path leads, part by part.
use Rattle.std.proofs.Common.{arith, ◌≡◌, ℕ, Bool, true, false, cond, List, ◌<◌, ◌+◌, ◌∷◌, length, drop, get_or, Some, None, Ok, sym, ap, ◌∙◌}
use Rattle.std.proofs.lemmas.List.{at_drop_more, at_drop_all}
use Rattle.template_values_model.specs.Val.{Val}
use Rattle.template_values_operators.specs.Kinds.{is_undefined}
use Rattle.template_builtins_arguments.specs.Answers.{then as after}
use Rattle.template_builtins_paths.specs.Paths.{reached, part_at}

-- the next part stands first among those that are left
pub reached_turn : (v : Val) (parts : List (List ℕ)) (n : ℕ) (part : List ℕ) → (n < length parts) × (part ≡ get_or parts n part) → reached v (drop n parts) ≡ reached v (part ∷ drop (n + 1) parts)
reached_turn v parts n part h =
    at_drop_more (reached v) parts n part h.0 ∙ ap (λ (x : List ℕ). reached v (x ∷ drop (n + 1) parts)) (sym h.1)

pub reached_ends : (v : Val) (part : List ℕ) (parts : List (List ℕ)) → is_undefined v ≡ true → reached v (part ∷ parts) ≡ Ok None
reached_ends v part parts e = ap (λ (b : Bool). cond b (Ok None) (after (part_at v part) (λ found. reached found parts))) e

pub reached_goes : (v : Val) (part : List ℕ) (parts : List (List ℕ)) → is_undefined v ≡ false → reached v (part ∷ parts) ≡ after (part_at v part) (λ found. reached found parts)
reached_goes v part parts e = ap (λ (b : Bool). cond b (Ok None) (after (part_at v part) (λ found. reached found parts))) e

pub reached_all : (v : Val) (parts : List (List ℕ)) (n : ℕ) → n ≡ length parts → reached v (drop n parts) ≡ Ok (Some v)
reached_all v parts n e = at_drop_all (reached v) parts n (omega arith)
