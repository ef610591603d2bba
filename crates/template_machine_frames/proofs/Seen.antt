-- The frames that are seen of a stack, whose last frame is the innermost one.
use Rattle.std.proofs.Common.{◌≡◌, ◌∙◌, ℕ, suc, ◌-◌, ◌<◌, ◌≤◌, List, [], ◌∷◌, ◌++◌, length, get_or, take, drop, reverse, Option, None, Some, slice_get, refl, sym, ap, arith}
use Rattle.std.specs.Prelude.{option_copied}
use Rattle.std.specs.Borrow.{Bor}
use Rattle.std.specs.Option.{option_or}
use Rattle.std.proofs.Math.Seq.{take-append_seam}
use Rattle.std.proofs.lemmas.List.{take_all, take-append-drop, length-take-le, length-reverse, length-drop, reverse-append}
use Rattle.template_values_model.specs.Val.{Val, undefined}
use Rattle.template_values_model.specs.Lookup.{value_at}
use Rattle.template_machine_meaning.specs.Plans.{with_writes}
use Rattle.template_machine_meaning.specs.World.{Bindings, Frame, base_context, context_beneath, known_at, known_in}
use Rattle.template_machine_frames.specs.Frames.{innermost_changed, seen_in}
use Rattle.template_machine_frames.proofs.Known.{last_first}

-- those of the first of the stack
abbrev pub seen_to : ℕ → ℕ → List Frame → List Frame
seen_to base left fs = seen_in base (reverse (take left fs))

so_many : (fs : List Frame) (left : ℕ) → left ≤ length fs → length (reverse (take left fs)) ≡ left
so_many fs left within = length-reverse (take left fs) ∙ length-take-le left fs within

-- the last of them is seen where not all of them are hidden
seen_step : (fs : List Frame) (base place : ℕ) (d : Frame) → base ≤ place → place < length fs
    → seen_to base (suc place) fs ≡ get_or fs place d ∷ seen_to base place fs
seen_step fs base place d behind within =
    let x = get_or fs place d in
    let rest = reverse (take place fs) in
    let n : length rest ≡ place = so_many fs place (omega arith) in
    let m : length (x ∷ rest) - base ≡ suc (length rest - base) = omega (arith, n) in
    ap (seen_in base) (last_first fs place d within) ∙ ap (λ k. take k (x ∷ rest)) m

pub known_last : (cs : List Bindings) (name : List ℕ) (fs : List Frame) (base place : ℕ) (d : Frame) → base ≤ place → place < length fs
    → known_at cs name (seen_to base (suc place) fs) ≡ option_or (known_in cs name (get_or fs place d)) (known_at cs name (seen_to base place fs))
known_last cs name fs base place d behind within = ap (known_at cs name) (seen_step fs base place d behind within)

-- it has the name, or those before it have
pub known_here : (cs : List Bindings) (name : List ℕ) (fs : List Frame) (base left place : ℕ) (d : Frame) (v : Val) → left ≡ suc place → base < left
    → left ≤ length fs → d ≡ get_or fs place d → Some v ≡ known_in cs name d → Some v ≡ known_at cs name (seen_to base left fs)
known_here cs name fs base left place d v behind seen within at found =
    sym (ap (λ n. known_at cs name (seen_to base n fs)) behind ∙ known_last cs name fs base place d (omega arith) (omega arith)
    ∙ ap (λ o. option_or o (known_at cs name (seen_to base place fs))) (ap (known_in cs name) (sym at) ∙ sym found))

pub none_copied : (o : Option (Bor Val)) → ((v : Bor Val) → o ≡ Some v → ⊥) → None ≡ option_copied o
none_copied None none = refl
none_copied (Some v) none = absurd (none v refl)

pub known_before : (cs : List Bindings) (name : List ℕ) (fs : List Frame) (base left place : ℕ) (d : Frame) → left ≡ suc place → base < left
    → left ≤ length fs → d ≡ get_or fs place d → None ≡ known_in cs name d
    → known_at cs name (seen_to base place fs) ≡ known_at cs name (seen_to base left fs)
known_before cs name fs base left place d behind seen within at none =
    sym (ap (λ n. known_at cs name (seen_to base n fs)) behind ∙ known_last cs name fs base place d (omega arith) (omega arith)
    ∙ ap (λ o. option_or o (known_at cs name (seen_to base place fs))) (ap (known_in cs name) (sym at) ∙ sym none))

-- else none is
seen_none : (fs : List Frame) (base : ℕ) → length fs ≤ base → seen_in base fs ≡ []
seen_none fs base hidden =
    let none : length fs - base ≡ 0 = omega arith in
    ap (λ k. take k fs) none

pub known_none : (cs : List Bindings) (name : List ℕ) (fs : List Frame) (base left : ℕ) → left ≤ length fs → left ≤ base
    → known_at cs name (seen_to base left fs) ≡ None
known_none cs name fs base left within hidden =
    let n : length (reverse (take left fs)) ≡ left = so_many fs left within in
    ap (known_at cs name) (seen_none (reverse (take left fs)) base (omega (arith, n)))

-- all of them
pub known_all : (cs : List Bindings) (name : List ℕ) (fs : List Frame) (base left : ℕ) → left ≡ length fs
    → known_at cs name (seen_to base left fs) ≡ known_at cs name (seen_in base (reverse fs))
known_all cs name fs base left all = ap (λ (xs : List Frame). known_at cs name (seen_in base (reverse xs))) (take_all left fs (omega arith))

-- those behind so many of the first
pub seen_behind : (fs : List Frame) (n : ℕ) → n ≤ length fs → reverse (drop n fs) ≡ seen_in n (reverse fs)
seen_behind fs n within =
    let last = reverse (drop n fs) in
    let turned : reverse fs ≡ last ++ reverse (take n fs) =
    ap reverse (sym (take-append-drop n fs)) ∙ reverse-append (take n fs) (drop n fs) in
    let gone : length (reverse fs) - n ≡ length last =
    ap (λ m. m - n) (length-reverse fs) ∙ sym (length-drop n fs) ∙ sym (length-reverse (drop n fs)) in
    sym (ap (λ m. take m (reverse fs)) gone ∙ ap (take (length last)) turned ∙ take-append_seam last (reverse (take n fs)))

pub seen_part : (fs : List Frame) (n : ℕ) → n ≤ length fs → reverse (take (length fs - n) (drop n fs)) ≡ seen_in n (reverse fs)
seen_part fs n within =
    let same : length (drop n fs) ≡ length fs - n = length-drop n fs in
    ap reverse (take_all (length fs - n) (drop n fs) (omega (arith, same))) ∙ seen_behind fs n within

pub seen_out : (fs : List Frame) (n : ℕ) → length fs < n → [] ≡ seen_in n (reverse fs)
seen_out fs n out =
    let same : length (reverse fs) ≡ length fs = length-reverse fs in
    sym (seen_none (reverse fs) n (omega (arith, same)))

-- what no frame knows the context of the last one doesn't have
first_none : (o p : Option Val) → option_or o p ≡ None → o ≡ None
first_none None p none = refl
first_none (Some v) p none = cc

second_none : (o p : Option Val) → option_or o p ≡ None → p ≡ None
second_none None p none = none
second_none (Some v) p none = cc

context_known : (cs : List Bindings) (name : List ℕ) (v : Val) (fs : List Frame) → value_at name v ≡ None → known_at cs name fs ≡ None
    → value_at name (context_beneath v fs) ≡ None
context_known cs name v [] none known = none
context_known cs name v (f ∷ fs) none known =
    context_known cs name f.context fs
    (second_none _ (value_at name f.context) (first_none (known_in cs name f) (known_at cs name fs) known))
    (second_none (known_in cs name f) (known_at cs name fs) known)

pub context_seen : (cs : List Bindings) (name : List ℕ) (base : ℕ) (fs : List Frame) → base ≡ 0 → known_at cs name (seen_in base fs) ≡ None
    → value_at name (base_context fs) ≡ None
context_seen cs name base fs all known =
    let same : seen_in base fs ≡ fs = take_all (length fs - base) fs (omega arith) in
    context_known cs name undefined fs refl (sym (ap (known_at cs name) same) ∙ known)

-- the first of a stack is the outermost frame
context_last : (v : Val) (gs : List Frame) (f : Frame) → context_beneath v (gs ++ f ∷ []) ≡ f.context
context_last v [] f = refl
context_last v (g ∷ gs) f = context_last g.context gs f

some_is : {f g : Frame} → Some f ≡ Some g → f ≡ g
some_is at = cc

pub context_of_first : (name : List ℕ) (fs : List Frame) (f : Frame) → Some f ≡ slice_get fs 0
    → value_at name f.context ≡ value_at name (base_context (reverse fs))
context_of_first name [] f at = cc
context_of_first name (g ∷ fs) f at =
    ap (λ (h : Frame). value_at name h.context) (some_is at)
    ∙ sym (ap (λ (gs : List Frame). value_at name (base_context gs)) (reverse-append (g ∷ []) fs) ∙ ap (value_at name) (context_last undefined (reverse fs) g))

pub context_of_none : (name : List ℕ) (fs : List Frame) → None ≡ slice_get fs 0 → value_at name (base_context (reverse fs)) ≡ None
context_of_none name [] at = refl
context_of_none name (g ∷ fs) at = cc

-- the closure that the innermost frame writes
pub writes_changed : (number : Option ℕ) (fs : List Frame) → innermost_changed (λ f. record f { writes = number }) fs ≡ with_writes number fs
writes_changed number [] = refl
writes_changed number (f ∷ fs) = refl

pub none_written : (number : Option ℕ) (fs : List Frame) → length fs ≡ 0 → reverse fs ≡ with_writes number (reverse fs)
none_written number [] none = refl
none_written number (f ∷ fs) none = absurd (omega arith)
