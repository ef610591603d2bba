-- Lemmas on a sink that has taken a beginning of a text: for this crate's loop, and for crates that write several texts.
use Rattle.std.proofs.Common.{◌≡◌, ℕ, ◌+◌, ◌≤◌, List, ◌++◌, Option, length, take, drop, min, sym, ap, ◌∙◌, subst, append_assoc, arith}
use Rattle.std.proofs.Math.Seq.{take-append-add, take-length}
use Rattle.std.proofs.lemmas.List.{take-append-drop, take-append-le, take_min}
use Rattle.std.specs.Io.KnownBytes.{Appends}
use Rattle.std.proofs.KnownBytes.{Appends-nil, Appends-trans}
use Rattle.template_machine_surroundings.specs.Writes.{AppendsBeginning}

-- a sink that stays as it was has taken a beginning
pub beginning_none : (a : Option (List ℕ)) (bs : List ℕ) → AppendsBeginning a a bs
beginning_none a bs = (0, Appends-nil a)

-- the whole text is a beginning of it
pub beginning_whole : (a b : Option (List ℕ)) (bs : List ℕ) → Appends a b bs → AppendsBeginning a b bs
beginning_whole a b bs taken = (length bs, subst (Appends a b) (sym (take-length bs)) taken)

-- a beginning of a text is one of every longer text
pub beginning_longer : (a b : Option (List ℕ)) (bs cs : List ℕ) → AppendsBeginning a b bs → AppendsBeginning a b (bs ++ cs)
beginning_longer a b bs cs begun =
    let count = min begun.0 (length bs) in
    let within : count ≤ length bs = omega arith in
    let same : take begun.0 bs ≡ take count (bs ++ cs) = sym (take-append-le count bs cs within ∙ take_min begun.0 bs) in
    (count, subst (Appends a b) same begun.1)

-- one text taken whole, and then a beginning of another
pub beginning_after : (a b c : Option (List ℕ)) (bs cs : List ℕ) → Appends a b bs → AppendsBeginning b c cs → AppendsBeginning a c (bs ++ cs)
beginning_after a b c bs cs taken begun =
    let same : bs ++ take begun.0 cs ≡ take (length bs + begun.0) (bs ++ cs) = sym (take-append-add bs cs begun.0) in
    (length bs + begun.0, subst (Appends a c) same (Appends-trans a b c bs (take begun.0 cs) taken begun.1))

-- a beginning of what is left of a text, behind what was taken of it
pub beginning_of_rest : (a b c : Option (List ℕ)) (text written rest : List ℕ) → text ≡ written ++ rest
    → Appends a b written → AppendsBeginning b c rest → AppendsBeginning a c text
beginning_of_rest a b c text written rest whole taken begun =
    subst (AppendsBeginning a c) (sym whole) (beginning_after a b c written rest taken begun)

-- a piece moves from what is left to what was taken
pub rest-moved : (text written rest : List ℕ) (count : ℕ) → text ≡ written ++ rest → text ≡ (written ++ take count rest) ++ drop count rest
rest-moved text written rest count whole =
    whole ∙ ap (λ l. written ++ l) (sym (take-append-drop count rest)) ∙ sym (append_assoc written (take count rest) (drop count rest))
