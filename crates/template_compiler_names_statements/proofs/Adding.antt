-- Owned sets with more names.
use Rattle.std.proofs.Common.{Result, Ok, Err, OnErr, IsTrue, ◌≡◌, ℕ, Bool, ◌||◌, List, ◌∷◌, String, Global, string_bytes, bytes_eq, sym, ap, ◌∙◌}
use Rattle.std.proofs.lemmas.Map.Text.{is_eq-slice_cmp}
use Rattle.std.specs.BTreeSet.{contains_text}
use Rattle.template_compiler_names.proofs.Laws.{or_assoc, turned}

-- one is added
pub one_added : (rest : List (String Global)) (name : String Global) (left : List (String Global)) (old new all : Bool) (q : List ℕ) →
    rest ≡ name ∷ left → new ≡ (old || bytes_eq (string_bytes name) q) → (old || contains_text record { keys = rest } q) ≡ all →
    (new || contains_text record { keys = left } q) ≡ all
one_added rest name left old new all q is more before =
    let bytes = string_bytes name in
    ap (λ b. b || contains_text record { keys = left } q) more ∙ sym (or_assoc old (bytes_eq bytes q) (contains_text record { keys = left } q)) ∙
    ap (λ b. old || (b || contains_text record { keys = left } q)) (turned bytes q ∙ sym (is_eq-slice_cmp q bytes)) ∙
    ap (λ (ks : List (String Global)). old || contains_text record { keys = ks } q) (sym is) ∙ before

pub kept_more : (old new b : Bool) → new ≡ (old || b) → IsTrue old → IsTrue new
kept_more old new b more kept = more ∙ ap (λ x. x || b) kept

-- none was added at a refusal
pub some_added : (before new left all : Bool) → new ≡ before → (before || left) ≡ all → IsTrue new → IsTrue all
some_added before new left all same is holds = sym is ∙ ap (λ x. x || left) (sym same ∙ holds)

pub on_err : {T E : Type 0} (P : Type 0) (r : Result T E) → P → OnErr r P
on_err P (Ok value) holds = tt
on_err P (Err error) holds = holds
