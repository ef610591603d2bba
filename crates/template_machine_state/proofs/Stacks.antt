-- Stacks of captures and of names, the innermost one last.
use Rattle.std.proofs.Common.{◌≡◌, ◌∙◌, ap, sym, ℕ, suc, ◌+◌, ◌-◌, ◌<◌, List, [], ◌∷◌, ◌++◌, length, take, drop, get_or, reverse, arith}
use Rattle.std.specs.Borrow.{Bor}
use Rattle.std.proofs.Math.Numerals.{add-one}
use Rattle.std.proofs.Math.Seq.{take-suc, take-append_seam}
use Rattle.std.proofs.lemmas.List.{length-append, length-map, length-take-le, take_all, drop-map}
use Rattle.template_machine_meaning.specs.Captures.{innermost}
use Rattle.template_machine_meaning.specs.Plans.{outermost}
use Rattle.template_machine_meaning.specs.World.{Capture}
use Rattle.template_machine_frames.proofs.Outermost.{outermost_left}
use Rattle.template_machine_state.specs.Loaded.{names_in}
use Rattle.template_machine_state.proofs.Innermost.{last_gone}

-- the capture that was opened where so many were open, which is the last one of those that are left of a stack
left_of : (cs cut : List Capture) (count : ℕ) → cut ≡ take (count + 1) cs → reverse cut ≡ outermost (suc count) (reverse cs)
left_of cs cut count is = ap reverse (is ∙ ap (λ n. take n cs) (add-one count)) ∙ outermost_left (suc count) cs

pub opened_there : (cs cut left : List Capture) (c : Capture) (count : ℕ) → cut ≡ take (count + 1) cs → cut ≡ left ++ c ∷ []
    → c ≡ innermost (outermost (suc count) (reverse cs))
opened_there cs cut left c count is gone = sym (ap innermost (sym (left_of cs cut count is) ∙ last_gone cut left c gone))

pub others_left : (cs cut left : List Capture) (c : Capture) (count : ℕ) → count < length cs → cut ≡ take (count + 1) cs → cut ≡ left ++ c ∷ []
    → outermost count (reverse left) ≡ outermost count (reverse cs)
others_left cs cut left c count within is gone =
    let before = take count cs in
    let last = get_or cs count c ∷ [] in
    let size : length before ≡ count = length-take-le count cs (omega arith) in
    let whole : cut ≡ before ++ last = is ∙ ap (λ n. take n cs) (add-one count) ∙ take-suc cs count c within in
    let all : length cut ≡ length before + 1 = ap length whole ∙ length-append before last in
    let more : length cut ≡ length left + 1 = ap length gone ∙ length-append left (c ∷ []) in
    let same_size : length left ≡ length before = omega (arith, all, more) in
    let same : left ≡ before =
    sym (take-append_seam left (c ∷ [])) ∙ ap (λ n. take n (left ++ c ∷ [])) same_size
    ∙ ap (take (length before)) (sym gone ∙ whole) ∙ take-append_seam before last in
    ap (λ (xs : List Capture). outermost count (reverse xs)) same ∙ sym (outermost_left count before)
    ∙ ap reverse (take_all count before (omega (arith, size))) ∙ outermost_left count cs

-- names of which some are left
pub names_left : (n : ℕ) (xs : List (Bor (List ℕ))) → names_in (reverse (take n xs)) ≡ outermost n (names_in (reverse xs))
names_left n xs =
    let now : Bor (List ℕ) → List ℕ = λ b. b.now in
    ap names_in (outermost_left n xs) ∙ sym (drop-map now (length (reverse xs) - n) (reverse xs))
    ∙ ap (λ m. drop (m - n) (names_in (reverse xs))) (sym (length-map (reverse xs) now))
