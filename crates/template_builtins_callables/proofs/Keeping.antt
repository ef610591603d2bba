-- The items that are kept, as a loop finds them: what was found so far, and what is kept of the items that are left.
use Rattle.std.proofs.Common.{◌≡◌, ◌∙◌, sym, ap, refl, ℕ, ◌+◌, ◌<◌, ◌≤◌, Bool, List, [], ◌∷◌, ◌++◌, drop, length, Result, Ok, Err, append_assoc, get_or}
use Rattle.std.proofs.lemmas.List.{at_drop_more, at_drop_all, append-nil}
use Rattle.template_values_errors.specs.declared.ErrorKind.{ErrorKind}
use Rattle.template_values_model.specs.Val.{Val}
use Rattle.template_builtins_arguments.specs.Answers.{Tells, then as after}
use Rattle.template_builtins_paths.proofs.Each.{onto}
use Rattle.template_builtins_paths.proofs.Steps.{tells_after_err, after_ok}
use Rattle.template_builtins_callables.specs.Each.{kept, one_if}

onto_nothing : (r : Result (List Val) ErrorKind) → r ≡ onto [] r
onto_nothing (Ok ys) = refl
onto_nothing (Err kind) = refl

onto_more : (found more : List Val) (rest : Result (List Val) ErrorKind)
    → onto found (after rest (λ ys. Ok (more ++ ys))) ≡ onto (found ++ more) rest
onto_more found more (Ok ys) = ap Ok (sym (append_assoc found more ys))
onto_more found more (Err kind) = refl

pub kept_none : (f : Val → Result Bool ErrorKind) (vs : List Val) → kept f vs ≡ onto [] (kept f vs)
kept_none f vs = onto_nothing (kept f vs)

-- the next one is first among those that are left
kept_turn : (f : Val → Result Bool ErrorKind) (vs : List Val) (k : ℕ) (v : Val) → k < length vs → v ≡ get_or vs k v
    → kept f (drop k vs) ≡ after (f v) (λ holds. after (kept f (drop (k + 1) vs)) (λ ys. Ok (one_if holds v ++ ys)))
kept_turn f vs k v h e = at_drop_more (kept f) vs k v h ∙ ap (λ z. kept f (z ∷ drop (k + 1) vs)) (sym e)

pub kept_goes : (f : Val → Result Bool ErrorKind) (vs : List Val) (k : ℕ) (v : Val) (b : Bool) (found : List Val) → k < length vs
    → v ≡ get_or vs k v → f v ≡ Ok b → onto found (kept f (drop k vs)) ≡ onto (found ++ one_if b v) (kept f (drop (k + 1) vs))
kept_goes f vs k v b found h e asked =
    ap (onto found) (kept_turn f vs k v h e ∙ after_ok (f v) b _ asked) ∙ onto_more found (one_if b v) (kept f (drop (k + 1) vs))

pub kept_fails : (f : Val → Result Bool ErrorKind) (vs : List Val) (k : ℕ) (v : Val) (found : List Val) (kinds : List ErrorKind)
    → k < length vs → v ≡ get_or vs k v → Tells {T = Bool} (Err kinds) (f v)
    → Tells {T = List Val} (Err kinds) (onto found (kept f (drop k vs)))
kept_fails f vs k v found kinds h e failed =
    rw (kept_turn f vs k v h e)
    (tells_after_err {T = List Val} {U = List Val} _ (λ ys. Ok (found ++ ys)) kinds
    (tells_after_err {T = Bool} {U = List Val} (f v) _ kinds failed))

pub kept_ends : (f : Val → Result Bool ErrorKind) (vs : List Val) (k : ℕ) (found : List Val) → length vs ≤ k
    → onto found (kept f (drop k vs)) ≡ Ok found
kept_ends f vs k found h = ap (onto found) (at_drop_all (kept f) vs k h) ∙ ap Ok (append-nil found)
