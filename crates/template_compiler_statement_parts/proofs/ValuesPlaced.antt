-- Values, assignments and parameters with their places, by what stands next.
use Rattle.std.proofs.Common.{◌≡◌, ℕ, suc, false, true, if◌then◌else◌, List, [], ◌∷◌, Ok, Err, codes, refl, ap}
use Rattle.template_compiler_tree.specs.declared.span.Span.{Span}
use Rattle.template_compiler_tokens.specs.Token.{Token, bad_syntax, assign, block_end, paren_close, paren_open, symbol}
use Rattle.template_compiler_tokens.specs.Steps.{Read, and_then, all}
use Rattle.template_compiler_grammar.specs.TemplateReaderParts.{is_nothing, more_step}
use Rattle.template_compiler_grammar.specs.ReaderParts.{paren_end}
use Rattle.template_compiler_grammar.specs.Words.{begins_word}
use Rattle.template_compiler_grammar.specs.Nodes.{Node, given_node, no_node}
use Rattle.template_compiler_grammar.specs.Reader.{expression_at}
use Rattle.template_compiler_grammar.specs.TemplateNodes.{PlacedParameters, and_placed_plain, no_placed_assignments, no_placed_parameters}
use Rattle.template_compiler_grammar.specs.TemplateReader.{Here, assignment_by, assignments_by, deeper_parameters, default_by, loop_filter_by, optional_parameters_by, parameter_by, parameters_by}
use Rattle.template_compiler_stream.specs.Signs.{begins_symbol}
use Rattle.template_compiler_stream.specs.Tags.{begins_block_end}

module _ (spans : List Span) where
  pub no_filter : (read : List Token → Read Node) (ts : List Token) → begins_word (codes "if") ts ≡ false →
      loop_filter_by spans read ts ≡ Ok (no_node, ts)
  unfolding loop_filter_by
  no_filter read [] h = refl
  no_filter read (t ∷ ts) h = ap (λ b. if b then and_then (read ts) (λ e us. Ok (given_node e, us)) else Ok (no_node, t ∷ ts)) h

  pub no_parens : (r : Here) (ts : List Token) → begins_symbol paren_open ts ≡ false →
      optional_parameters_by spans r ts ≡ Ok (no_placed_parameters, ts)
  unfolding optional_parameters_by
  no_parens r [] h = refl
  no_parens r (symbol paren_open ∷ ts) h = cc
  no_parens r (t ∷ ts) h = refl

  pub some_parameters : (read : List Token → Read Node) (ts : List Token) → begins_symbol paren_close ts ≡ false →
      parameters_by spans read ts ≡
      and_then (parameter_by spans read no_placed_parameters ts) (λ p us. and_then (all (more_step (parameter_by spans read)) p us) paren_end)
  unfolding parameters_by
  some_parameters read [] h = refl
  some_parameters read (symbol paren_close ∷ ts) h = cc
  some_parameters read (t ∷ ts) h = refl

  pub no_default : (read : List Token → Read Node) (p : PlacedParameters) (a : Node) (ts : List Token) → begins_symbol assign ts ≡ false →
      default_by spans read p a ts ≡ (if is_nothing p.tree.1 then Ok (and_placed_plain p a, ts) else Err bad_syntax)
  unfolding default_by
  no_default read p a [] h = refl
  no_default read p a (symbol assign ∷ ts) h = cc
  no_default read p a (t ∷ ts) h = refl

  pub no_assignment : (r : Here) (ts : List Token) → begins_block_end ts ≡ true → assignments_by spans r ts ≡ Ok (no_placed_assignments, ts)
  unfolding assignments_by
  no_assignment r [] h = cc
  no_assignment r (block_end ∷ ts) h = refl
  no_assignment r (t ∷ ts) h = cc

  pub some_assignment : (r : Here) (ts : List Token) → begins_block_end ts ≡ false →
      assignments_by spans r ts ≡ and_then (assignment_by spans r no_placed_assignments ts) (all (more_step (assignment_by spans r)))
  unfolding assignments_by
  some_assignment r [] h = refl
  some_assignment r (block_end ∷ ts) h = cc
  some_assignment r (t ∷ ts) h = refl

  -- one level less
  pub parameters_less : (d n : ℕ) (ts : List Token) → d ≡ suc n → deeper_parameters spans d ts ≡ parameters_by spans (expression_at spans n) ts
  unfolding deeper_parameters
  parameters_less d n ts e = ap (λ d. deeper_parameters spans d ts) e
