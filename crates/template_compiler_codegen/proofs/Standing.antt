-- Pieces of code, and where they stand in the whole.
use Rattle.std.proofs.Common.{◌≡◌, ℕ, ◌+◌, suc, List, [], ◌∷◌, ◌++◌, length, Some, slice_get, refl, sym, ap, subst, ◌∙◌, append_assoc, length-append, arith}
use Rattle.template_compiler_process.specs.Process.{Process, Below}
use Rattle.template_compiler_code.specs.Code.{Operand, Code, jump, jump_if_false}
use Rattle.template_compiler_code.specs.Counting.{counts_before}
use Rattle.template_compiler_code.specs.Steps.{act, exec}
use Rattle.template_compiler_codegen.specs.Expressions.{Coded, then_code, either_code}

-- the piece stands in the code at the place
pub record StandsAt (code : List Code) (place : ℕ) (piece : List Code) : Type 0 where
  pub front : List Code
  pub back : List Code
  pub is : code ≡ front ++ (piece ++ back)
  pub at : length front ≡ place

pub first_part : (code : List Code) (place : ℕ) (a b : List Code) → StandsAt code place (a ++ b) → StandsAt code place a
first_part code place a b h = record { front = h.front; back = b ++ h.back; is = h.is ∙ ap (λ c. h.front ++ c) (append_assoc a b h.back); at = h.at }

pub last_part : (code : List Code) (place : ℕ) (a b : List Code) → StandsAt code place (a ++ b) → StandsAt code (place + length a) b
last_part code place a b h = record {
  front = h.front ++ a;
  back = h.back;
  is = h.is ∙ ap (λ c. h.front ++ c) (append_assoc a b h.back) ∙ sym (append_assoc h.front a (b ++ h.back));
  at = length-append h.front a ∙ ap (λ n. n + length a) h.at;
}

-- behind the first instruction of a piece
pub behind_one : (code : List Code) (place : ℕ) (c : Code) (piece : List Code) → StandsAt code place (c ∷ piece) → StandsAt code (suc place) piece
behind_one code place c piece h =
    let P : ℕ → Type 0 = λ n. StandsAt code n piece in
    let next : place + length (c ∷ []) ≡ suc place = omega arith in
    subst P next (last_part code place (c ∷ []) piece h)

at_front : (front : List Code) (c : Code) (back : List Code) → slice_get (front ++ (c ∷ back)) (length front) ≡ Some c
at_front [] c back = refl
at_front (x ∷ front) c back = at_front front c back

pub instruction_at : (code : List Code) (place : ℕ) (c : Code) (piece : List Code) → StandsAt code place (c ∷ piece) → slice_get code place ≡ Some c
instruction_at code place c piece h =
    ap (λ n. slice_get code n) (sym h.at) ∙ ap (λ (all : List Code). slice_get all (length h.front)) h.is ∙ at_front h.front c (piece ++ h.back)

-- what runs there is the instruction
pub exec_at : (code : List Code) (place : ℕ) (c : Code) → slice_get code place ≡ Some c → (k : ℕ) (operands : List Operand) → exec code (suc k) place operands ≡ act (exec code k) (counts_before code place) (Some c) place operands
exec_at code place c h k operands = ap (λ o. act (exec code k) (counts_before code place) o place operands) h

-- a process is below what runs there, if it is below the instruction
pub below_at : (code : List Code) (place : ℕ) (c : Code) → slice_get code place ≡ Some c → (k : ℕ) (operands : List Operand) (p : Process)
    → Below p (act (exec code k) (counts_before code place) (Some c) place operands) → Below p (exec code (suc k) place operands)
below_at code place c h k operands p below =
    let P : Process → Type 0 = λ q. Below p q in
    subst P (sym (exec_at code place c h k operands)) below

-- the place behind one piece and another
pub behind_then : (first second : Coded) (place : ℕ) → place + length (then_code first second place) ≡ (place + length (first place)) + length (second (place + length (first place)))
behind_then first second place = omega (arith, length-append (first place) (second (place + length (first place))))

pub stands_first : (code : List Code) (place : ℕ) (first second : Coded) → StandsAt code place (then_code first second place) → StandsAt code place (first place)
stands_first code place first second h = first_part code place (first place) (second (place + length (first place))) h

pub stands_second : (code : List Code) (place : ℕ) (first second : Coded) → StandsAt code place (then_code first second place) → StandsAt code (place + length (first place)) (second (place + length (first place)))
stands_second code place first second h = last_part code place (first place) (second (place + length (first place))) h

-- the parts of two pieces of which one runs
pub record StandsEither (code : List Code) (place : ℕ) (first second : Coded) : Type 0 where
  pub test : List Code
  pub tests : StandsAt code place (jump_if_false (suc (suc place + length (first (suc place)))) ∷ test)
  pub left : StandsAt code (suc place) (first (suc place))
  pub rest : List Code
  pub leaps : StandsAt code (suc place + length (first (suc place))) (jump (suc (suc place + length (first (suc place))) + length (second (suc (suc place + length (first (suc place)))))) ∷ rest)
  pub right : StandsAt code (suc (suc place + length (first (suc place)))) (second (suc (suc place + length (first (suc place)))))

pub stands_either : (code : List Code) (place : ℕ) (first second : Coded) → StandsAt code place (either_code first second place) → StandsEither code place first second
stands_either code place first second h =
    let yes_code = first (suc place) in
    let begins = suc (suc place + length yes_code) in
    let other = second begins in
    let leap = jump (begins + length other) in
    let inner = behind_one code place (jump_if_false begins) (yes_code ++ (leap ∷ other)) h in
    let last = last_part code (suc place) yes_code (leap ∷ other) inner in
    record {
      test = yes_code ++ (leap ∷ other);
      tests = h;
      left = first_part code (suc place) yes_code (leap ∷ other) inner;
      rest = other;
      leaps = last;
      right = behind_one code (suc place + length yes_code) leap other last;
    }

pub behind_either : (first second : Coded) (place : ℕ)
    → suc (suc place + length (first (suc place))) + length (second (suc (suc place + length (first (suc place))))) ≡ place + length (either_code first second place)
behind_either first second place =
    let begins = suc (suc place + length (first (suc place))) in
    omega (arith, length-append (first (suc place)) (jump (begins + length (second begins)) ∷ second begins))
