-- What outputs answered, one call after another.
use Rattle.std.proofs.Common.{◌≡◌, ◌∙◌, ℕ, ◌+◌, List, [], ◌∷◌, ◌++◌, Option, None, Some, Result, Ok, Err, refl, sym, ap, arith, append_assoc, append-nil}
use Rattle.std.proofs.lemmas.Option.{same_Some}
use Rattle.std.specs.declared.io.Error.{Error}
use Rattle.template_program_output.specs.Answer.{Answer, failures_among, failures_of, to_flush}
use Rattle.template_program_output.specs.Buffer.{failures_told}
use Rattle.template_program_output.specs.Shown.{TellsAnswer, TellsResult}

failures-append : (xs ys : List Answer) → failures_among (xs ++ ys) ≡ failures_among xs + failures_among ys
failures-append [] ys = omega arith
failures-append (x ∷ xs) ys = let rest = failures-append xs ys in omega (arith, rest)

-- no call
pub tells_none : (a : Option (List Answer)) → TellsResult a a (Ok tt)
tells_none None = refl
tells_none (Some answers) = ([], ap Some (sym (append-nil answers)), refl)

-- one call that went well, and then another
pub tells_more : (a b c : Option (List Answer)) (r : Result (Unit {0}) Error)
    → TellsResult a b (Ok tt) → TellsResult b c r → TellsResult a c r
tells_more None None c r first second = second
tells_more None (Some b) c r first second = cc
tells_more (Some a) None c r first second = let bad = first.1 in cc
tells_more (Some a) (Some b) c r (more, is, none) (later, then, failed) = (
  more ++ later,
  then ∙ ap (λ l. Some (l ++ later)) (same_Some b (a ++ more) is) ∙ ap Some (append_assoc a more later),
  let both = failures-append more later in omega (arith, both, none, failed),
)

-- how often it failed, as the answers or the counter tell it
pub counts : (a b : Option (List Answer)) (before after : ℕ) (r : Result (Unit {0}) Error)
    → TellsResult a b r → after ≡ before + failures_of r → failures_told b after ≡ failures_told a before + failures_of r
counts None b before after r tells counted = ap (λ o. failures_told o after) tells ∙ counted
counts (Some a) b before after r (more, is, failed) counted =
    ap (λ o. failures_told o after) is ∙ failures-append a more ∙ ap (λ n. failures_among a + n) failed

-- a flush
pub tells_flush : (a b : Option (List Answer)) (r : Result (Unit {0}) Error) → TellsAnswer a b (to_flush r) → TellsResult a b r
tells_flush None b r tells = tells
tells_flush (Some answers) b (Ok u) tells = (to_flush (Ok u) ∷ [], tells, refl)
tells_flush (Some answers) b (Err e) tells = (to_flush (Err e) ∷ [], tells, omega arith)
