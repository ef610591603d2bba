-- Each round of a repetition takes a token at least.
use Rattle.std.proofs.Common.{◌≡◌, ◌<◌, ◌≤◌, ℕ, Bool, true, false, if◌then◌else◌, List, [], ◌∷◌, length, Ok, Err, refl, ap, arith}
use Rattle.template_compiler_tree.specs.Tree.{keyword, positional, positional_spread, keyword_spread}
use Rattle.template_compiler_tree.specs.declared.span.Span.{Span}
use Rattle.template_compiler_tokens.specs.Places.{next_span}
use Rattle.template_compiler_tokens.specs.Token.{Token, TokenFault, symbol, identifier, mul, pow, comma, colon, assign, pipe}
use Rattle.template_compiler_tokens.specs.Steps.{Read, fault, and_then, Step, goes, stops, fails, under}
use Rattle.template_compiler_tokens.proofs.Loops.{Shrinks}
use Rattle.template_compiler_grammar.specs.ReaderParts.{colon_end, begins_closing, separated, unless_closing}
use Rattle.template_compiler_grammar.specs.Nodes.{placed, Node, and_node, PlacedPairs, and_placed_pair, PlacedArgument, and_placed_written, OptionalNode}
use Rattle.template_compiler_grammar.specs.Reader.{deeper, expression_by, items_step, pairs_step, named_argument, argument_by, arguments_step, filter_by, chain_step}
use Rattle.template_compiler_grammar.proofs.Sound.{expression_takes, filter_takes}

made_by : (m : Read Node) (make : Node → PlacedArgument) (a : PlacedArgument) (ts us : List Token) →
    ((e : Node) (vs : List Token) → m ≡ Ok (e, vs) → length vs < length ts) → and_then m (λ e vs. Ok (make e, vs)) ≡ Ok (a, us) →
    length us < length ts
unfolding and_then
made_by (Ok x) make a ts us takes h =
    let same : (make x.0, x.1) ≡ (a, us) = cc in
    let l : length x.1 ≡ length us = ap (λ (y : PlacedArgument × List Token). length y.1) same in
    let k = takes x.0 x.1 refl in omega arith
made_by (Err f) make a ts us takes h = cc

-- a round that begins with a reading
under_takes : {A B : Type 0} (m : Read A) (go : A → List Token → Step B) (b : B) (ts us : List Token) →
    ((a : A) (vs : List Token) → m ≡ Ok (a, vs) → length vs < length ts) →
    ((a : A) (vs : List Token) → go a vs ≡ goes b us → length us ≤ length vs) → under m go ≡ goes b us → length us < length ts
unfolding under
under_takes (Ok x) go b ts us takes behind e = let l = takes x.0 x.1 refl in let k = behind x.0 x.1 e in omega arith
under_takes (Err f) go b ts us takes behind e = cc

closing_within : {A : Type 0} (a b : A) (c : Bool) (f : TokenFault) (ts us : List Token) →
    (if c then goes a ts else fails f) ≡ goes b us → length us ≤ length ts
closing_within a b true f ts us e = let same : ts ≡ us = cc in let l = ap length same in omega arith
closing_within a b false f ts us e = cc

separated_within : {A : Type 0} (a b : A) (ts us : List Token) → separated a ts ≡ goes b us → length us ≤ length ts
unfolding separated
separated_within a b [] us e = cc
separated_within a b (symbol comma ∷ ts) us e = let same : ts ≡ us = cc in let l = ap length same in omega arith
separated_within a b (t ∷ ts) us e = closing_within a b (begins_closing (t ∷ ts)) (fault (t ∷ ts)) (t ∷ ts) us e

unless_by : {A : Type 0} (s : Step A) (b : Bool) (a : A) (us : List Token) → (if b then stops else s) ≡ goes a us → s ≡ goes a us
unless_by s true a us e = cc
unless_by s false a us e = e

unless_goes : {A : Type 0} (s : Step A) (ts : List Token) (a : A) (us : List Token) → unless_closing s ts ≡ goes a us → s ≡ goes a us
unfolding unless_closing
unless_goes s ts a us e = unless_by s (begins_closing ts) a us e

colon_within : (a b : Node) (ts us : List Token) → colon_end a ts ≡ Ok (b, us) → length us ≤ length ts
unfolding colon_end
colon_within a b [] us e = cc
colon_within a b (symbol colon ∷ ts) us e =
    let same : (a, ts) ≡ (b, us) = cc in
    let l : length ts ≡ length us = ap (λ (y : Node × List Token). length y.1) same in omega arith
colon_within a b (t ∷ ts) us e = cc

then_takes : (m : Read Node) (b : Node) (ts us : List Token) → ((a : Node) (vs : List Token) → m ≡ Ok (a, vs) → length vs < length ts) →
    and_then m colon_end ≡ Ok (b, us) → length us < length ts
unfolding and_then
then_takes (Ok x) b ts us takes e = let l = takes x.0 x.1 refl in let k = colon_within x.0 b x.1 us e in omega arith
then_takes (Err f) b ts us takes e = cc

chain_within : (b o : OptionalNode) (ts us : List Token) → goes b ts ≡ goes o us → length us ≤ length ts
chain_within b o ts us e = let same : ts ≡ us = cc in let l = ap length same in omega arith

module _ (spans : List Span) (d : ℕ) where
  -- an argument is an expression, mostly with something before it
  made_takes : (make : Node → PlacedArgument) (a : PlacedArgument) (ts us : List Token) →
      and_then (expression_by spans (deeper spans d) ts) (λ e vs. Ok (make e, vs)) ≡ Ok (a, us) → length us < length ts
  made_takes make a ts us h =
      made_by (expression_by spans (deeper spans d) ts) make a ts us (λ e vs i. expression_takes spans d e ts vs i) h

  named_takes : (n : List ℕ) (a : PlacedArgument) (ts us : List Token) →
      named_argument spans (expression_by spans (deeper spans d)) n ts ≡ Ok (a, us) → length us < length (identifier n ∷ ts)
  unfolding named_argument
  named_takes n a [] us h = made_takes (λ e. placed (positional e.tree) e.places) a (identifier n ∷ []) us h
  named_takes n a (symbol assign ∷ ts) us h = let l = made_takes (λ e. placed (keyword n e.tree) e.places) a ts us h in omega arith
  named_takes n a (t ∷ ts) us h = made_takes (λ e. placed (positional e.tree) e.places) a (identifier n ∷ t ∷ ts) us h

  argument_takes : (a : PlacedArgument) (ts us : List Token) →
      argument_by spans (expression_by spans (deeper spans d)) ts ≡ Ok (a, us) → length us < length ts
  unfolding argument_by
  argument_takes a [] us h = made_takes (λ e. placed (positional e.tree) e.places) a [] us h
  argument_takes a (identifier n ∷ ts) us h = named_takes n a ts us h
  argument_takes a (symbol mul ∷ ts) us h = let l = made_takes (λ e. placed (positional_spread e.tree) e.places) a ts us h in omega arith
  argument_takes a (symbol pow ∷ ts) us h = let l = made_takes (λ e. placed (keyword_spread e.tree) e.places) a ts us h in omega arith
  argument_takes a (t ∷ ts) us h = made_takes (λ e. placed (positional e.tree) e.places) a (t ∷ ts) us h

  pub items_fall : Shrinks (items_step spans (expression_by spans (deeper spans d)))
  items_fall es fs ts us e =
      under_takes (expression_by spans (deeper spans d) ts) _ fs ts us (λ a vs h. expression_takes spans d a ts vs h)
      (λ a vs h. separated_within (and_node es a) fs vs us h) (unless_goes _ ts fs us e)

  under_within : (p q : PlacedPairs) (k : Node) (ts us : List Token) →
      under (expression_by spans (deeper spans d) ts) (λ v vs. separated (and_placed_pair p k v) vs) ≡ goes q us → length us ≤ length ts
  under_within p q k ts us e =
      let l = under_takes (expression_by spans (deeper spans d) ts) _ q ts us (λ a vs h. expression_takes spans d a ts vs h)
      (λ a vs h. separated_within (and_placed_pair p k a) q vs us h) e in omega arith

  pub pairs_fall : Shrinks (pairs_step spans (expression_by spans (deeper spans d)))
  pairs_fall p q ts us e =
      under_takes (and_then (expression_by spans (deeper spans d) ts) colon_end) _ q ts us
      (λ a vs h. then_takes (expression_by spans (deeper spans d) ts) a ts vs (λ b ws i. expression_takes spans d b ts ws i) h)
      (λ a vs h. under_within p q a vs us h) (unless_goes _ ts q us e)

  pub arguments_fall : Shrinks (arguments_step spans (expression_by spans (deeper spans d)))
  arguments_fall w x ts us e =
      under_takes (argument_by spans (expression_by spans (deeper spans d)) ts) _ x ts us (λ a vs h. argument_takes a ts vs h)
      (λ a vs h. separated_within (and_placed_written w a) x vs us h) (unless_goes _ ts x us e)

  -- chains of filters
  pub chains_fall : Shrinks (chain_step spans (deeper spans d))
  unfolding chain_step
  chains_fall o p (symbol pipe ∷ ts) us e =
      let start = next_span spans ts in
      let l = under_takes (filter_by spans (deeper spans d) start o ts) _ p ts us (λ a vs h. filter_takes spans d start o a ts vs h)
      (λ a vs h. chain_within _ p vs us h) e in omega arith
  chains_fall o p _ us e = cc
