-- Readings behind one another, and repetitions round by round.
use Rattle.std.proofs.Common.{refl, ◌≡◌, ℕ, zero, suc, ◌<◌, List, length, Ok, Err, ◌∙◌, ap, subst, arith}
use Rattle.template_compiler_tokens.specs.Token.{Token, TokenFault}
use Rattle.template_compiler_tokens.specs.Steps.{Read, and_then, Step, goes, stops, fails, under, goes_on, many, all}

pub then_goes : {A B : Type 0} {m : Read A} {a : A} {ts : List Token} {r : Read B} (go : A → List Token → Read B) →
    m ≡ Ok (a, ts) → go a ts ≡ r → and_then m go ≡ r
unfolding and_then
then_goes go e f = ap (λ m. and_then m go) e ∙ f

pub then_fails : {A B : Type 0} {m : Read A} {f : TokenFault} (go : A → List Token → Read B) → m ≡ Err f → and_then m go ≡ Err f
unfolding and_then
then_fails go e = ap (λ m. and_then m go) e

pub under_goes : {A B : Type 0} {m : Read A} {a : A} {ts : List Token} {r : Step B} (go : A → List Token → Step B) →
    m ≡ Ok (a, ts) → go a ts ≡ r → under m go ≡ r
unfolding under
under_goes go e f = ap (λ m. under m go) e ∙ f

-- the rounds from here on end so, however many more are allowed
pub record Loops {A : Type 0} (step : A → List Token → Step A) (a : A) (ts : List Token) (r : Read A) : Type 0 where
  pub within : (n : ℕ) → length ts < n → many n step a ts ≡ r

pub loop_stops : {A : Type 0} {step : A → List Token → Step A} {a : A} {ts : List Token} →
    step a ts ≡ stops → Loops step a ts (Ok (a, ts))
unfolding many goes_on
loop_stops {step = step} {a = a} {ts = ts} e = record { within = go }
  where
    go : (n : ℕ) → length ts < n → many n step a ts ≡ Ok (a, ts)
    go zero h = absurd (omega arith)
    go (suc n) h = ap (λ s. goes_on s (Ok (a, ts)) (many n step)) e

pub loop_stops_at : {A : Type 0} {step : A → List Token → Step A} {a b : A} {ts : List Token} →
    a ≡ b → step a ts ≡ stops → Loops step a ts (Ok (b, ts))
loop_stops_at {step = step} {a = a} {ts = ts} e f = subst (λ x. Loops step a ts (Ok (x, ts))) e (loop_stops f)

pub loop_goes : {A : Type 0} {step : A → List Token → Step A} {a b : A} {ts us : List Token} {r : Read A} →
    step a ts ≡ goes b us → length us < length ts → Loops step b us r → Loops step a ts r
unfolding many goes_on
loop_goes {step = step} {a = a} {b = b} {ts = ts} {us = us} {r = r} e l behind = record { within = go }
  where
    go : (n : ℕ) → length ts < n → many n step a ts ≡ r
    go zero h = absurd (omega arith)
    go (suc n) h = ap (λ s. goes_on s (Ok (a, ts)) (many n step)) e ∙ behind.within n (omega arith)

pub all_of : {A : Type 0} {step : A → List Token → Step A} {a : A} {ts : List Token} {r : Read A} →
    Loops step a ts r → all step a ts ≡ r
unfolding all
all_of {ts = ts} loops = loops.within (suc (length ts)) (omega arith)

-- where each round takes a token at least, the first one can be taken off
abbrev pub Shrinks : {A : Type 0} → (A → List Token → Step A) → Type 0
Shrinks {A = A} step = (a b : A) (ts us : List Token) → step a ts ≡ goes b us → length us < length ts

module _ {A : Type 0} (step : A → List Token → Step A) (falls : Shrinks step) where
  enough_by : (m n : ℕ) (a : A) (ts : List Token) (s : Step A) → step a ts ≡ s → length ts < suc m → length ts < suc n →
      ((b : A) (us : List Token) → length us < m → length us < n → many m step b us ≡ many n step b us) →
      goes_on s (Ok (a, ts)) (many m step) ≡ goes_on s (Ok (a, ts)) (many n step)
  unfolding goes_on
  enough_by m n a ts (goes b us) e h k rest = let l = falls a b ts us e in rest b us (omega arith) (omega arith)
  enough_by m n a ts stops e h k rest = refl
  enough_by m n a ts (fails f) e h k rest = refl

  many_enough : (m n : ℕ) (a : A) (ts : List Token) → length ts < m → length ts < n → many m step a ts ≡ many n step a ts
  unfolding many
  many_enough zero n a ts h k = absurd (omega arith)
  many_enough (suc m) zero a ts h k = absurd (omega arith)
  many_enough (suc m) (suc n) a ts h k =
      enough_by m n a ts (step a ts) refl h k (λ b us i j. many_enough m n b us i j)

  pub all_goes : (a b : A) (ts us : List Token) → step a ts ≡ goes b us → all step a ts ≡ all step b us
  unfolding all many goes_on
  all_goes a b ts us e =
      let l = falls a b ts us e in
      ap (λ s. goes_on s (Ok (a, ts)) (many (length ts) step)) e ∙ many_enough (length ts) (suc (length us)) b us l (omega arith)

pub all_stops : {A : Type 0} (step : A → List Token → Step A) (a : A) (ts : List Token) → step a ts ≡ stops → all step a ts ≡ Ok (a, ts)
unfolding all many goes_on
all_stops step a ts e = ap (λ s. goes_on s (Ok (a, ts)) (many (length ts) step)) e

pub all_fails : {A : Type 0} (step : A → List Token → Step A) (a : A) (ts : List Token) (f : TokenFault) → step a ts ≡ fails f → all step a ts ≡ Err f
unfolding all many goes_on
all_fails step a ts f e = ap (λ s. goes_on s (Ok (a, ts)) (many (length ts) step)) e
