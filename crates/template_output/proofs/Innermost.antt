-- The last capture is the innermost one.
use Rattle.std.proofs.Common.{◌≡◌, ℕ, suc, ◌+◌, List, [], ◌∷◌, ◌++◌, length, get_or, set, take, map, reverse, Result, Ok, Err, OnErr, OnOk, sym, ap, ◌∙◌, arith}
use Rattle.std.proofs.Math.Seq.{take-suc, take-suc-set}
use Rattle.std.proofs.lemmas.List.{reverse-append, take_all, length-set, map_push}
use Rattle.template_machine_meaning.specs.World.{Capture}
use Rattle.template_machine_meaning.specs.Captures.{with_text}
use Rattle.template_output.specs.Captures.{capture_of, with_written}
use Rattle.template_output.specs.declared.capture.Capture as own

abbrev seen : List own.Capture → List Capture
seen cs = reverse (map capture_of cs)

seen_last : (front : List own.Capture) (c : own.Capture) → seen (front ++ c ∷ []) ≡ capture_of c ∷ seen front
seen_last front c = ap reverse (map_push capture_of front c) ∙ reverse-append (map capture_of front) (capture_of c ∷ [])

whole : (cs : List own.Capture) (place : ℕ) (d : own.Capture) → place + 1 ≡ length cs → cs ≡ take place cs ++ get_or cs place d ∷ []
whole cs place d e = sym (take_all (suc place) cs (omega arith)) ∙ take-suc cs place d (omega arith)

set_whole : (cs : List own.Capture) (place : ℕ) (g : own.Capture) → place + 1 ≡ length cs → set cs place g ≡ take place cs ++ g ∷ []
set_whole cs place g e =
    let n : length (set cs place g) ≡ length cs = length-set cs place g in
    sym (take_all (suc place) (set cs place g) (omega arith)) ∙ take-suc-set cs place g (omega arith)

before : (cs : List own.Capture) (place : ℕ) (f : own.Capture) → place + 1 ≡ length cs → f ≡ get_or cs place f → seen cs ≡ capture_of f ∷ seen (take place cs)
before cs place f e at =
    ap seen (whole cs place f e) ∙ seen_last (take place cs) (get_or cs place f) ∙ ap (λ (c : own.Capture). capture_of c ∷ seen (take place cs)) (sym at)

after : (cs : List own.Capture) (place : ℕ) (g : own.Capture) → place + 1 ≡ length cs → seen (set cs place g) ≡ capture_of g ∷ seen (take place cs)
after cs place g e = ap seen (set_whole cs place g e) ∙ seen_last (take place cs) g

-- the last one takes a text, where a call succeeded
pub caught_on : {X E : Type 0} (result : Result X E) (text : List ℕ) (cs : List own.Capture) (place : ℕ) (f g : own.Capture)
    → place + 1 ≡ length cs → f ≡ get_or cs place f → OnOk result (capture_of g ≡ with_text text (capture_of f))
    → OnOk result (reverse (map capture_of (set cs place g)) ≡ with_written text (reverse (map capture_of cs)))
caught_on (Ok x) text cs place f g e at is =
    after cs place g e ∙ ap (λ (c : Capture). c ∷ seen (take place cs)) is ∙ sym (ap (with_written text) (before cs place f e at))
caught_on (Err kinds) text cs place f g e at is = tt

-- it stays, where one was refused
pub kept_on : {X E : Type 0} (result : Result X E) (cs : List own.Capture) (place : ℕ) (f g : own.Capture)
    → place + 1 ≡ length cs → f ≡ get_or cs place f → OnErr result (capture_of g ≡ capture_of f)
    → OnErr result (reverse (map capture_of (set cs place g)) ≡ reverse (map capture_of cs))
kept_on (Ok x) cs place f g e at is = tt
kept_on (Err kinds) cs place f g e at is =
    after cs place g e ∙ ap (λ (c : Capture). c ∷ seen (take place cs)) is ∙ sym (before cs place f e at)
