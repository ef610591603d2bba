-- The last dot, or none, is what `rfind` gives.
use Rattle.std.proofs.Common.{◌≡◌, ◌≢◌, ◌∙◌, ℕ, ◌+◌, ◌<◌, List, ◌∷◌, ◌++◌, length, get_or, take, drop, sym, refl, inl, inr, arith, add-one, lit<, length-drop}
use Rattle.std.proofs.Math.Seq.{split_at}
use Rattle.std.proofs.lemmas.List.{get_or-drop}
use Rattle.std.proofs.lemmas.Str.Pattern.{rfind_char}
use Rattle.std.specs.Prelude.{None, Some}
use Rattle.template_machine_surroundings.specs.Rule.{IsExtensionOf, LacksDots}
use Rattle.template_machine_surroundings.proofs.escape.extension.Goals as goal

-- what stands behind the last dot is the extension
behind_last : (s : List ℕ) (k : ℕ) → k < length s → get_or s k 0 ≡ 46 → ((i : ℕ) → k < i → i < length s → get_or s i 0 ≢ 46)
    → IsExtensionOf s (drop (k + 1) s)
behind_last s k lt is later =
    let split : s ≡ take k s ++ 46 ∷ drop (k + 1) s = rw (add-one, ← is) (split_at s k 0 lt) in
    let lacks : LacksDots (drop (k + 1) s) =
    λ i h at. later (k + 1 + i) (omega arith) (omega (arith, length-drop (k + 1) s)) (sym (get_or-drop (k + 1) s i 0) ∙ at) in
    inl (take k s, split, lacks)

pub split_at-requires : goal.split_at-requires
split_at-requires c = c.in-Some.ensures.cases.1.1.after

pub returns-in-Some : goal.returns-in-Some
returns-in-Some c =
    let found = rfind_char 46 c.args.stem.now (Some c.in-Some.dot) c.in-Some.ensures.cases (lit< tt) in
    rw c.split_at.ensures.back (behind_last c.args.stem.now c.in-Some.dot found.0 found.1 found.2)

pub returns-in-None : goal.returns-in-None
returns-in-None c =
    let found = rfind_char 46 c.args.stem.now None c.in-None.ensures.cases (lit< tt) in
    inr (refl, found)
