-- Filters behind one another, round by round.
use Rattle.std.proofs.Common.{◌≡◌, ℕ, false, List, ◌∷◌, ◌<◌, length, Ok, refl}
use Rattle.template_compiler_tree.specs.declared.span.Span.{Span}
use Rattle.template_compiler_tokens.specs.Places.{next_span}
use Rattle.template_compiler_tokens.specs.Token.{Token, symbol, pipe}
use Rattle.template_compiler_tokens.specs.Steps.{all}
use Rattle.template_compiler_grammar.specs.Nodes.{Node, OptionalNode, given_node}
use Rattle.template_compiler_grammar.specs.Reader.{deeper, filter_by, chain_step}
use Rattle.template_compiler_stream.specs.declared.refusal.Refusal.{Refusal}
use Rattle.template_compiler_stream.specs.Refusals.{Refused}
use Rattle.template_compiler_stream.specs.Signs.{begins_symbol}
use Rattle.template_compiler_expression_parts.proofs.Rounds.{chain_goes, chain_none, chain_refused, rounds_end, rounds_go, rounds_refused}
use Rattle.template_compiler_expression_parser.proofs.Falls.{chains_fall}

module _ (spans : List Span) (d : ℕ) (value : OptionalNode) where
  pub chain_more : (whole : OptionalNode) (e : Node) (old ts us vs : List Token) →
      all (chain_step spans (deeper spans d)) value old ≡ all (chain_step spans (deeper spans d)) whole vs → old ≡ symbol pipe ∷ ts →
      filter_by spans (deeper spans d) (next_span spans ts) value ts ≡ Ok (e, us) →
      all (chain_step spans (deeper spans d)) (given_node e) us ≡ all (chain_step spans (deeper spans d)) whole vs
  chain_more whole e old ts us vs same h i =
      rounds_go (chain_step spans (deeper spans d)) (chains_fall spans d) value (given_node e) whole old us vs same
      (chain_goes spans (deeper spans d) value e old ts us h i)

  pub chain_falls : (e : Node) (old ts us : List Token) → old ≡ symbol pipe ∷ ts →
      filter_by spans (deeper spans d) (next_span spans ts) value ts ≡ Ok (e, us) → length us < length old
  chain_falls e old ts us h i = chains_fall spans d value (given_node e) old us (chain_goes spans (deeper spans d) value e old ts us h i)

  pub chain_ends : (whole : OptionalNode) (old new vs : List Token) →
      all (chain_step spans (deeper spans d)) value old ≡ all (chain_step spans (deeper spans d)) whole vs → new ≡ old →
      begins_symbol pipe old ≡ false → all (chain_step spans (deeper spans d)) whole vs ≡ Ok (value, new)
  chain_ends whole old new vs same h i =
      rounds_end (chain_step spans (deeper spans d)) value whole value old vs new same (chain_none spans (deeper spans d) value old i, h, refl)

  pub chain_fails_at : (whole : OptionalNode) (e : Refusal) (old ts vs : List Token) →
      all (chain_step spans (deeper spans d)) value old ≡ all (chain_step spans (deeper spans d)) whole vs → old ≡ symbol pipe ∷ ts →
      Refused (filter_by spans (deeper spans d) (next_span spans ts) value ts) e →
      Refused (all (chain_step spans (deeper spans d)) whole vs) e
  chain_fails_at whole e old ts vs same h i =
      rounds_refused (chain_step spans (deeper spans d)) value whole old vs e same (chain_refused spans (deeper spans d) value e old ts h i)
