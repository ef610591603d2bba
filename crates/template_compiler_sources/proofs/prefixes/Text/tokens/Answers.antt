use Rattle.std.proofs.Common.{◌≡◌, ℕ, List, Result, Ok, Err, IfOk}
use Rattle.template_compiler_tokens.specs.Token.{Token}
use Rattle.template_compiler_syntax.specs.Syntax.{Syntax}
use Rattle.template_compiler_syntax.specs.Flat.{IsTokens}
use Rattle.template_compiler_sources.specs.Scoped.{taken_words}
use Rattle.template_compiler_stream.specs.Spans.{PlacedTokens}
use Rattle.template_compiler_sources.specs.Ends.{TakenTokens, taken_tokens}
use Rattle.template_compiler_sources.proofs.prefixes.Text.tokens.Goals as goal

taken_once : {x : Syntax} {source : List ℕ} {left : List Token} →
    ((ts : List Token) → IsTokens x source ts → taken_words x.scoped_blocks ts ≡ left) → (ts : List Token) → TakenTokens x source ts → ts ≡ left
taken_once one ts (taken_tokens {tokens = all} spelled) = one all spelled

all_taken : {B : Type 0} (x : Syntax) (source : List ℕ) (r : Result PlacedTokens B) →
    IfOk r (λ s. (ts : List Token) → IsTokens x source ts → taken_words x.scoped_blocks ts ≡ s.left) →
    IfOk r (λ s. (ts : List Token) → TakenTokens x source ts → ts ≡ s.left)
all_taken x source (Ok s) one = taken_once one
all_taken x source (Err e) one = one

pub returns-in-Template : goal.returns-in-Template
returns-in-Template c =
    rw c.in-Template.is (all_taken c.in-Template.syntax c.in-Template.source.now c.template_tokens.result c.template_tokens.ensures)

pub returns-in-Expression : goal.returns-in-Expression
returns-in-Expression c = rw c.in-Expression.is c.expression_tokens.ensures
