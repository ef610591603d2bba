-- How many macros and loops stand before a place, and behind a piece that stands there.
use Rattle.std.proofs.Common.{◌≡◌, ℕ, ◌+◌, suc, List, [], ◌∷◌, ◌++◌, length, take, refl, sym, ap, subst, ◌∙◌, append_assoc, length-append, arith}
use Rattle.template_values_model.specs.Val.{Val}
use Rattle.template_compiler_process.specs.Process.{Counts, no_counts, counted_together, Process, Below}
use Rattle.template_compiler_walk.specs.Expressions.{Giving}
use Rattle.template_compiler_code.specs.Code.{Operand, single, Code}
use Rattle.template_compiler_code.specs.Counting.{counts_of, counts_in, counts_before}
use Rattle.template_compiler_code.specs.Steps.{exec}
use Rattle.template_compiler_codegen.specs.Core.{Coded, then_code}
use Rattle.template_compiler_codegen.proofs.Standing.{StandsAt, first_part, behind_then, stands_first, stands_second}
use Rattle.template_compiler_codegen.proofs.Plain.{with_none, counts_append}
use Rattle.template_compiler_codegen.proofs.Expressions.{Gives, Performs, gives_to, Over}

front_alone : (front back : List Code) → take (length front) (front ++ back) ≡ front
front_alone [] back = refl
front_alone (c ∷ front) back = ap (λ cs. c ∷ cs) (front_alone front back)

pub counts_of_front : (code : List Code) (place : ℕ) (a : List Code) (h : StandsAt code place a) → counts_before code place ≡ counts_in h.front
counts_of_front code place a h =
    ap (λ n. counts_in (take n code)) (sym h.at) ∙ ap (λ (all : List Code). counts_in (take (length h.front) all)) h.is ∙ ap counts_in (front_alone h.front (a ++ h.back))

-- behind a piece there are those before it and its own
pub behind_piece : (code : List Code) (place : ℕ) (a : List Code) → StandsAt code place a → counts_before code (place + length a) ≡ counted_together (counts_before code place) (counts_in a)
behind_piece code place a h =
    let last : StandsAt code (place + length a) [] = record {
      front = h.front ++ a;
      back = h.back;
      is = h.is ∙ sym (append_assoc h.front a h.back);
      at = length-append h.front a ∙ ap (λ n. n + length a) h.at;
    } in
    counts_of_front code (place + length a) [] last ∙ counts_append h.front a ∙ ap (λ n. counted_together n (counts_in a)) (sym (counts_of_front code place a h))

pub counted_behind : (code : List Code) (place : ℕ) (a : List Code) → StandsAt code place a → (first counts : Counts) → counts_before code place ≡ first → counts_in a ≡ counts
    → counts_before code (place + length a) ≡ counted_together first counts
counted_behind code place a h first counts before own = behind_piece code place a h ∙ ap (λ n. counted_together n (counts_in a)) before ∙ ap (counted_together first) own

-- behind a piece that counts nothing there are as many
pub still_behind : (code : List Code) (place : ℕ) (a : List Code) → StandsAt code place a → (first : Counts) → counts_before code place ≡ first → counts_in a ≡ no_counts → counts_before code (place + length a) ≡ first
still_behind code place a h first before none = counted_behind code place a h first no_counts before none ∙ with_none first

-- a piece that gives a value in this code, wherever it stands behind so many
abbrev pub PerformsBehind : List Code → Counts → Coded → Giving → Type 0
PerformsBehind code first piece walk = (place : ℕ) → counts_before code place ≡ first → StandsAt code place (piece place) → Gives code walk place (place + length (piece place))

-- so it is over a value
abbrev pub OverBehind : List Code → Counts → Coded → (Val → Giving) → Type 0
OverBehind code first piece more = (place : ℕ) → counts_before code place ≡ first → StandsAt code place (piece place) → (k : ℕ) → (j : ℕ) × ((v : Val) (operands : List Operand) (go : Val → Process)
    → ((w : Val) → Below (go w) (exec code k (place + length (piece place)) (single w ∷ operands))) → Below (more v go) (exec code j place (single v ∷ operands)))

-- what does so behind any does so anywhere
pub performs_anywhere : (piece : Coded) (walk : Giving) → ((code : List Code) (first : Counts) → PerformsBehind code first piece walk) → Performs piece walk
performs_anywhere piece walk f code place h = f code (counts_before code place) place refl h

pub over_anywhere : (piece : Coded) (more : Val → Giving) → ((code : List Code) (first : Counts) → OverBehind code first piece more) → Over piece more
over_anywhere piece more f code place h = f code (counts_before code place) place refl h

-- a piece that counts nothing, and another over the value that the first gives
pub gives_then_behind : (code : List Code) (before : Counts) (first second : Coded) (walk : Giving) (more : Val → Giving) → Performs first walk → ((place : ℕ) → counts_in (first place) ≡ no_counts)
    → OverBehind code before second more → PerformsBehind code before (then_code first second) (λ go. walk (λ v. more v go))
gives_then_behind code before first second walk more f none g place counted h =
    let mid = place + length (first place) in
    let stands = stands_first code place first second h in
    gives_to code (λ go. walk (λ v. more v go)) place (mid + length (second mid)) (place + length (then_code first second place)) (sym (behind_then first second place))
    (λ k.
    let later = g mid (still_behind code place (first place) stands before counted (none place)) (stands_second code place first second h) k in
    let earlier = f code place stands later.0 in
    (earlier.0, λ operands go below. earlier.1 operands (λ v. more v go) (λ v. later.1 v operands go below)))

-- behind one instruction that counts nothing
pub still_one : (code : List Code) (place : ℕ) (c : Code) (piece : List Code) → StandsAt code place (c ∷ piece) → (first : Counts) → counts_before code place ≡ first → counts_of c ≡ no_counts → counts_before code (suc place) ≡ first
still_one code place c piece h first before none =
    let P : ℕ → Type 0 = λ n. counts_before code n ≡ first in
    let next : place + length (c ∷ []) ≡ suc place = omega arith in
    subst P next (still_behind code place (c ∷ []) (first_part code place (c ∷ []) piece h) first before (ap (λ (n : Counts). counted_together n no_counts) none))

-- at the beginning there are none
pub none_before : (code : List Code) (h : StandsAt code 0 code) → h.front ≡ [] → counts_before code 0 ≡ no_counts
none_before code h first = counts_of_front code 0 code h ∙ ap counts_in first
