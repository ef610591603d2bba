-- The forms of the reading of tokens: one reading behind another, and repetitions.
use Rattle.std.specs.Prelude.{ℕ, zero, suc, List, ◌∷◌, length, Result, Ok, Err}
use Rattle.template_compiler_tokens.specs.Token.{Token, bad, TokenFault, bad_syntax}

-- what is read with the tokens behind it, or why nothing is
abbrev pub Read : Type 0 → Type 0
Read A = Result (A × List Token) TokenFault

-- the fault of a token that does not fit
abbrev pub fault : List Token → TokenFault
fault (bad f ∷ ts) = f
fault _ = bad_syntax

unfoldable pub and_then : {A B : Type 0} → Read A → (A → List Token → Read B) → Read B
and_then (Ok x) go = go x.0 x.1
and_then (Err f) go = Err f

-- one round of a repetition
pub data Step (A : Type 0) : Type 0 where
  goes : A → List Token → Step A
  stops : Step A
  fails : TokenFault → Step A

unfoldable pub under : {A B : Type 0} → Read A → (A → List Token → Step B) → Step B
under (Ok x) go = go x.0 x.1
under (Err f) go = fails f

unfoldable pub goes_on : {A : Type 0} → Step A → Read A → (A → List Token → Read A) → Read A
goes_on (goes a ts) here go = go a ts
goes_on stops here go = here
goes_on (fails f) here go = Err f

-- at most so many rounds
unfoldable pub many : {A : Type 0} → ℕ → (A → List Token → Step A) → A → List Token → Read A
many zero step a ts = Ok (a, ts)
many (suc n) step a ts = goes_on (step a ts) (Ok (a, ts)) (many n step)

-- each round takes a token at least, so these are all
unfoldable pub all : {A : Type 0} → (A → List Token → Step A) → A → List Token → Read A
all step a ts = many (suc (length ts)) step a ts
