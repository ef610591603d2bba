-- What is left of tokens without each word `scoped` behind the name of a block.
use Rattle.std.proofs.Common.{◌≡◌, Bool, true, false, List, [], ◌∷◌, ◌++◌, length, Option, None, Some, refl, ap, ◌∙◌, arith}
use Rattle.std.specs.Prelude.{if◌then◌else◌, not}
use Rattle.std.specs.List.{items_where_true}
use Rattle.std.specs.List.Retain.{IsFiltered, ReturnsInTurn}
use Rattle.template_compiler_tree.specs.declared.span.Span.{Span}
use Rattle.template_compiler_tokens.specs.Token as spec
use Rattle.template_compiler_tokens.specs.Token.{bad}
use Rattle.template_compiler_tokens.specs.View.{token_of}
use Rattle.template_compiler_tokens.specs.declared.token.Token.{Token}
use Rattle.template_compiler_stream.specs.declared.refusal.Fault.{Fault}
use Rattle.template_compiler_stream.specs.Refusals.{fault_of}
use Rattle.template_compiler_stream.specs.Left.{ended}
use Rattle.template_compiler_tokenizer.specs.Held.{spanned_of}
use Rattle.template_compiler_tokenizer.specs.Spans.{Spanned, spanned, words_in}
use Rattle.template_compiler_sources.specs.Scoped.{after, is_scoped, taken_spans, taken_words, unscoped}
use Rattle.template_compiler_sources.specs.declared.scoped.Head.{Head}
use Rattle.template_compiler_sources.specs.declared.scoped.Head.TheVariants.{Elsewhere}

abbrev token_in : Spanned → spec.Token
token_in t = t.token

-- their spans tell nothing
words_or : (b : Bool) (t : Spanned) (ts : List Spanned) (us : List spec.Token) → words_in ts ≡ us →
    words_in (if b then ts else t ∷ ts) ≡ (if b then us else t.token ∷ us)
words_or true t ts us is = is
words_or false t ts us is = ap (λ us. t.token ∷ us) is

words_unscoped : (head : Head) (ts : List Spanned) → words_in (unscoped token_in head ts) ≡ unscoped (λ t. t) head (words_in ts)
words_unscoped head [] = refl
words_unscoped head (t ∷ ts) = words_or (is_scoped head t.token) t _ _ (words_unscoped (after head t.token) ts)

pub words_taken : (scoped : Bool) (ts : List Spanned) → words_in (taken_spans scoped ts) ≡ taken_words scoped (words_in ts)
words_taken true ts = words_unscoped Elsewhere ts
words_taken false ts = refl

-- what stands behind them and is no token stays
or_append : (b : Bool) (t : Spanned) (ts us rest : List Spanned) → us ≡ ts ++ rest →
    (if b then us else t ∷ us) ≡ (if b then ts else t ∷ ts) ++ rest
or_append true t ts us rest is = is
or_append false t ts us rest is = ap (λ us. t ∷ us) is

none_left : (ts : List Spanned) → words_in ts ≡ [] → ts ≡ []
none_left [] e = refl
none_left (t ∷ ts) e = cc

rest_stays : (head : Head) (rest : List Spanned) (fault : Option Fault) → words_in rest ≡ ended fault → unscoped token_in head rest ≡ rest
rest_stays head [] fault e = refl
rest_stays head (t ∷ ts) None e = cc
rest_stays head (t ∷ ts) (Some f) e =
    let first : t.token ≡ bad (fault_of f) = cc in
    let last : ts ≡ [] = none_left ts cc in
    rw first (rw last refl)

append_unscoped : (head : Head) (ts rest : List Spanned) (fault : Option Fault) → words_in rest ≡ ended fault →
    unscoped token_in head (ts ++ rest) ≡ unscoped token_in head ts ++ rest
append_unscoped head [] rest fault e = rest_stays head rest fault e
append_unscoped head (t ∷ ts) rest fault e =
    or_append (is_scoped head t.token) t _ _ rest (append_unscoped (after head t.token) ts rest fault e)

pub append_taken : (scoped : Bool) (ts rest : List Spanned) (fault : Option Fault) → words_in rest ≡ ended fault →
    taken_spans scoped (ts ++ rest) ≡ taken_spans scoped ts ++ rest
append_taken true ts rest fault e = append_unscoped Elsewhere ts rest fault e
append_taken false ts rest fault e = refl

-- A test that stands where a reader does, and says which tokens stay.
module _ {P : Type 0} (R : P → Token × Span → Bool → P → Type 0) (head_in : P → Head)
    (step : (p : P) (t : Token × Span) (b : Bool) (q : P) → R p t b q →
    (b ≡ not (is_scoped (head_in p) (token_of t.0))) × (head_in q ≡ after (head_in p) (token_of t.0))) where
  first_stays : (b s : Bool) (bs : List Bool) (t : Token × Span) (ts : List (Token × Span)) (us : List Spanned) → b ≡ not s →
      spanned_of (items_where_true bs ts) ≡ us →
      spanned_of (items_where_true (b ∷ bs) (t ∷ ts)) ≡ (if s then us else spanned (token_of t.0) t.1 ∷ us)
  first_stays true true bs t ts us told is = cc
  first_stays true false bs t ts us told is = ap (λ us. spanned (token_of t.0) t.1 ∷ us) is
  first_stays false true bs t ts us told is = is
  first_stays false false bs t ts us told is = cc

  those_stay : (p q : P) (bs : List Bool) (ts : List (Token × Span)) → length bs ≡ length ts → ReturnsInTurn R p bs ts q →
      spanned_of (items_where_true bs ts) ≡ unscoped token_in (head_in p) (spanned_of ts)
  those_stay p q [] [] e run = refl
  those_stay p q [] (t ∷ ts) e run = absurd (omega arith)
  those_stay p q (b ∷ bs) [] e run = absurd run
  those_stay p q (b ∷ bs) (t ∷ ts) e run =
      let one = step p t b run.0 run.1 in
      let rest = those_stay run.0 q bs ts (omega arith) run.2 in
      first_stays b (is_scoped (head_in p) (token_of t.0)) bs t ts _ one.0
      (rest ∙ ap (λ head. unscoped token_in head (spanned_of ts)) one.1)

  pub unscoped_stay : (p : P) (old new : List (Token × Span)) → IsFiltered R p old new →
      spanned_of new ≡ unscoped token_in (head_in p) (spanned_of old)
  unscoped_stay p old new ran = ap spanned_of ran.4 ∙ those_stay p ran.1 ran.0 old ran.2 ran.3
