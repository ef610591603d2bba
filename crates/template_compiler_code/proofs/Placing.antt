-- Marks that lie within the code, and code that is cut where it was added to.
use Rattle.std.proofs.Common.{◌≡◌, ℕ, ◌<◌, Bool, true, false, ltb, ltb-true, cond, List, [], ◌∷◌, ◌++◌, All, filter, length, take, refl, ap}
use Rattle.std.proofs.lemmas.List.Elements.{All-nil, All-cons, All-head, All-tail}
use Rattle.template_compiler_code.specs.declared.marks.Mark.{Mark}
use Rattle.template_compiler_code.specs.Code.{Code}

-- marks before one place that begin before another one too
pub placed-cut : (n len bound : ℕ) → ((k : ℕ) → k < n → k < len → k < bound) → (marks : List Mark) → All (λ m. m.start < n) marks
    → All (λ m. m.start < bound) (filter (λ m. ltb m.start len) marks)
placed-cut n len bound both [] placed = All-nil (λ m. m.start < bound)
placed-cut n len bound both (m ∷ marks) placed =
    let rest = placed-cut n len bound both marks (All-tail (λ m. m.start < n) m marks placed) in
    kept (ltb m.start len) refl rest
  where
    kept : (b : Bool) → ltb m.start len ≡ b → All (λ m. m.start < bound) (filter (λ m. ltb m.start len) marks)
        → All (λ m. m.start < bound) (cond b (m ∷ filter (λ m. ltb m.start len) marks) (filter (λ m. ltb m.start len) marks))
    kept true e rest = All-cons (λ m. m.start < bound) m _ (both m.start (All-head (λ m. m.start < n) m marks placed) (ltb-true m.start len e)) rest
    kept false e rest = rest

pub take-whole : (code more : List Code) → take (length code) (code ++ more) ≡ code
take-whole [] more = refl
take-whole (c ∷ code) more = ap (λ cs. c ∷ cs) (take-whole code more)
