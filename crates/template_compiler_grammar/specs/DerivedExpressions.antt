-- Where the nodes of an expression stand: the places of what the grammar reads, with the spans of all tokens. A node that
-- begins with one that was read before it has the tokens where that began.
use Rattle.std.specs.Prelude.{ℕ, List, ◌∷◌}
use Rattle.template_compiler_tree.specs.declared.span.Span.{Span}
use Rattle.template_compiler_tree.specs.Tree.{Expression, Optional, Expressions, Links, Arguments, Argument}
use Rattle.template_compiler_tree.specs.NodePlaces.{Places, at, Parts, no_parts, parts_more, one, and_parts}
use Rattle.template_compiler_tokens.specs.Places.{next_span, stretch}
use Rattle.template_compiler_tokens.specs.Token.{Token, identifier, string, number, symbol, minus, bracket_open, bracket_close, brace_open, brace_close, paren_open, paren_close}
use Rattle.template_compiler_grammar.specs.Words.{Level, word_not}
use Rattle.template_compiler_grammar.specs.Trees.{Paired, Written}
use Rattle.template_compiler_grammar.specs.Grammar.{IsExpression, unconditional, if_alone, if_else, IsBinary, operands, IsOperands, operands_end, operands_more, IsOperand, factor, text_operand, term, conjunct, disjunct, IsNegation, negation, no_negation, IsComparison, comparison, IsLinks, links_end, links_operator, links_not_in, IsPower, no_power, power, IsFiltered, filtered_value, IsFilters, filters_end, filters_more, IsFilterParts, filter_parts, is_test, is_not_test, IsFilter, filter, IsTest, test, bare_test, IsOptionalArguments, no_list, a_list, IsUnary, minus_sign, primary, IsParts, parts_end, parts_more, IsPart, attribute_part, number_part, subscript_part, call_part, IsSubscript, item_subscript, slice_subscript, IsBound, no_bound, a_bound, IsStep, no_step, a_step, IsPrimary, name_primary, word_primary, number_primary, text_primary, paren_primary, list_primary, map_primary, IsParen, empty_tuple, in_parens, tuple, IsItems, items_end, items_last, items_more, IsPairs, pairs_end, pairs_last, pairs_more, IsArgumentList, argument_list, IsArguments, arguments_end, arguments_last, arguments_next, IsArgument, positional_argument, keyword_argument, spread_argument, keyword_spread_argument}
use Rattle.template_compiler_grammar.specs.DerivedNodes.{enclosed, and_place, negated_at, compared_at, WrittenPlaces, and_written_place, PairedPlaces, and_pair_place}

abbrev mutual
  pub expression_places : {d : ℕ} {ts us : List Token} {e : Expression} → List Span → IsExpression d ts e us → Places
  expression_places spans (unconditional e) = binary_places spans e
  expression_places spans (if_alone {ts = ts} {vs = vs} a c) =
      at (stretch spans ts vs) (parts_more (binary_places spans c) (one (binary_places spans a)))
  expression_places spans (if_else {ts = ts} {ws = ws} a c b) =
      at (stretch spans ts ws) (parts_more (binary_places spans c) (parts_more (binary_places spans a) (one (expression_places spans b))))

  pub binary_places : {d : ℕ} {k : Level} {ts us : List Token} {e : Expression} → List Span → IsBinary d k ts e us → Places
  binary_places spans (operands {ts = ts} a more) = operands_places spans ts (operand_places spans a) more

  pub operands_places : {d : ℕ} {k : Level} {ts us : List Token} {a e : Expression} → List Span → List Token → Places → IsOperands d k a ts e us → Places
  operands_places spans from a operands_end = a
  operands_places spans from a (operands_more {us = us} op b more) =
      operands_places spans from (at (stretch spans from us) (parts_more a (one (operand_places spans b)))) more

  pub operand_places : {d : ℕ} {k : Level} {ts us : List Token} {e : Expression} → List Span → IsOperand d k ts e us → Places
  operand_places spans (factor e) = power_places spans e
  operand_places spans (text_operand e) = binary_places spans e
  operand_places spans (term e) = binary_places spans e
  operand_places spans (conjunct e) = negation_places spans e
  operand_places spans (disjunct e) = binary_places spans e

  pub negation_places : {d : ℕ} {ts us : List Token} {e : Expression} → List Span → IsNegation d ts e us → Places
  negation_places spans (negation {ts = ts} {us = us} e) = at (stretch spans (word_not ∷ ts) us) (one (negation_places spans e))
  negation_places spans (no_negation none e) = comparison_places spans e

  pub comparison_places : {d : ℕ} {ts us : List Token} {e : Expression} → List Span → IsComparison d ts e us → Places
  comparison_places spans (comparison {ts = ts} {vs = vs} {ls = ls} a links is) =
      compared_at (stretch spans ts vs) (binary_places spans a) ls (links_places spans no_parts links)

  pub links_places : {d : ℕ} {ts us : List Token} {ls ms : Links} → List Span → Parts → IsLinks d ls ts ms us → Parts
  links_places spans ps links_end = ps
  links_places spans ps (links_operator op b more) = links_places spans (and_place ps (binary_places spans b)) more
  links_places spans ps (links_not_in b more) = links_places spans (and_place ps (binary_places spans b)) more

  pub power_places : {d : ℕ} {ts us : List Token} {e : Expression} → List Span → IsPower d ts e us → Places
  power_places spans (no_power e) = filtered_places spans e
  power_places spans (power {ts = ts} {vs = vs} a b) =
      at (stretch spans ts vs) (parts_more (filtered_places spans a) (one (power_places spans b)))

  pub filtered_places : {d : ℕ} {ts us : List Token} {e : Expression} → List Span → IsFiltered d ts e us → Places
  filtered_places spans (filtered_value {ts = ts} a more) = filters_places spans ts (unary_places spans a) more

  pub filters_places : {d : ℕ} {ts us : List Token} {a e : Expression} → List Span → List Token → Places → IsFilters d a ts e us → Places
  filters_places spans from a filters_end = a
  filters_places spans from a (filters_more b more) = filters_places spans from (filter_parts_places spans from a b) more

  pub filter_parts_places : {d : ℕ} {ts us : List Token} {a e : Expression} → List Span → List Token → Places → IsFilterParts d a ts e us → Places
  filter_parts_places spans from a (filter_parts b more) = parts_places spans from (filter_places spans from (one a) b) more
  filter_parts_places spans from a (is_test none e) = test_places spans from a e
  filter_parts_places spans from a (is_not_test e) = test_places spans from a e

  -- the places of the value, if there is one, come first
  pub filter_places : {d : ℕ} {ts us : List Token} {value : Optional} {e : Expression} →
      List Span → List Token → Parts → IsFilter d value ts e us → Places
  filter_places spans from value (filter {vs = vs} named args) = at (stretch spans from vs) (and_parts value (optional_places spans args))

  pub test_places : {d : ℕ} {negated : _} {ts us : List Token} {a e : Expression} →
      List Span → List Token → Places → IsTest d negated a ts e us → Places
  test_places spans from a (test {negated = negated} {vs = vs} named none args more) =
      parts_places spans from (negated_at negated (stretch spans from vs) (parts_more a (optional_places spans args))) more
  test_places spans from a (bare_test {negated = negated} {vs = vs} named bare b is) =
      negated_at negated (stretch spans from vs) (parts_more a (one (unary_places spans b)))

  pub optional_places : {d : ℕ} {ts us : List Token} {args : Arguments} → List Span → IsOptionalArguments d ts args us → Parts
  optional_places spans (no_list none) = no_parts
  optional_places spans (a_list args) = argument_list_places spans args

  pub unary_places : {d : ℕ} {ts us : List Token} {e : Expression} → List Span → IsUnary d ts e us → Places
  unary_places spans (minus_sign {ts = ts} {us = us} e) = at (stretch spans (symbol minus ∷ ts) us) (one (unary_places spans e))
  unary_places spans (primary {ts = ts} a more) = parts_places spans ts (primary_places spans a) more

  pub parts_places : {d : ℕ} {ts us : List Token} {a e : Expression} → List Span → List Token → Places → IsParts d a ts e us → Places
  parts_places spans from a parts_end = a
  parts_places spans from a (parts_more b more) = parts_places spans from (part_places spans from a b) more

  pub part_places : {d : ℕ} {ts us : List Token} {a e : Expression} → List Span → List Token → Places → IsPart d a ts e us → Places
  part_places spans from a (attribute_part {ts = ts}) = at (stretch spans from ts) (one a)
  part_places spans from a (number_part {n = n} {ts = ts}) =
      at (stretch spans from ts) (parts_more a (one (at (next_span spans (number n ∷ ts)) no_parts)))
  part_places spans from a (subscript_part e) = subscript_places spans from a e
  part_places spans from a (call_part {us = us} args) = at (stretch spans from us) (parts_more a (argument_list_places spans args))

  pub subscript_places : {d : ℕ} {ts us : List Token} {a e : Expression} → List Span → List Token → Places → IsSubscript d a ts e us → Places
  subscript_places spans from a (item_subscript {us = us} key) =
      at (enclosed spans from (symbol bracket_close ∷ us)) (parts_more a (one (expression_places spans key)))
  subscript_places spans from a (slice_subscript {ws = ws} start stop step) =
      at (enclosed spans from (symbol bracket_close ∷ ws)) (parts_more a (and_parts (bound_places spans start)
      (and_parts (bound_places spans stop) (step_places spans step))))

  pub bound_places : {d : ℕ} {ts us : List Token} {bound : Optional} → List Span → IsBound d ts bound us → Parts
  bound_places spans no_bound = no_parts
  bound_places spans (a_bound e) = one (expression_places spans e)

  pub step_places : {d : ℕ} {ts us : List Token} {step : Optional} → List Span → IsStep d ts step us → Parts
  step_places spans no_step = no_parts
  step_places spans (a_step e) = bound_places spans e

  pub primary_places : {d : ℕ} {ts us : List Token} {e : Expression} → List Span → IsPrimary d ts e us → Places
  primary_places spans (name_primary {n = n} {ts = ts} none) = at (next_span spans (identifier n ∷ ts)) no_parts
  primary_places spans (word_primary {n = n} {ts = ts} some) = at (next_span spans (identifier n ∷ ts)) no_parts
  primary_places spans (number_primary {n = n} {ts = ts}) = at (next_span spans (number n ∷ ts)) no_parts
  primary_places spans (text_primary {s = s} {ts = ts} {us = us} texts) = at (stretch spans (string s ∷ ts) us) no_parts
  primary_places spans (paren_primary {ts = ts} e) = paren_places spans (symbol paren_open ∷ ts) e
  primary_places spans (list_primary {ts = ts} {us = us} es) =
      at (enclosed spans (symbol bracket_open ∷ ts) (symbol bracket_close ∷ us)) (items_places spans no_parts es)
  primary_places spans (map_primary {ts = ts} {us = us} p is) =
      let places = pairs_places spans (no_parts, no_parts) p in
      at (enclosed spans (symbol brace_open ∷ ts) (symbol brace_close ∷ us)) (and_parts places.0 places.1)

  -- parentheses around one expression are no part of it
  pub paren_places : {d : ℕ} {ts us : List Token} {e : Expression} → List Span → List Token → IsParen d ts e us → Places
  paren_places spans from (empty_tuple {ts = ts}) = at (stretch spans from ts) no_parts
  paren_places spans from (in_parens e) = expression_places spans e
  paren_places spans from (tuple {vs = vs} a es) =
      at (enclosed spans from (symbol paren_close ∷ vs)) (items_places spans (one (expression_places spans a)) es)

  pub items_places : {d : ℕ} {ts us : List Token} {es fs : Expressions} → List Span → Parts → IsItems d es ts fs us → Parts
  items_places spans ps items_end = ps
  items_places spans ps (items_last e is) = and_place ps (expression_places spans e)
  items_places spans ps (items_more e more) = items_places spans (and_place ps (expression_places spans e)) more

  pub pairs_places : {d : ℕ} {ts us : List Token} {p q : Paired} → List Span → PairedPlaces → IsPairs d p ts q us → PairedPlaces
  pairs_places spans ps pairs_end = ps
  pairs_places spans ps (pairs_last k v is) = and_pair_place ps (expression_places spans k) (expression_places spans v)
  pairs_places spans ps (pairs_more k v more) =
      pairs_places spans (and_pair_place ps (expression_places spans k) (expression_places spans v)) more

  pub argument_list_places : {d : ℕ} {ts us : List Token} {args : Arguments} → List Span → IsArgumentList d ts args us → Parts
  argument_list_places spans (argument_list w is few) = let places = arguments_places spans (no_parts, no_parts) w in and_parts places.0 places.1

  pub arguments_places : {d : ℕ} {ts us : List Token} {w x : Written} → List Span → WrittenPlaces → IsArguments d w ts x us → WrittenPlaces
  arguments_places spans ps arguments_end = ps
  arguments_places spans ps (arguments_last {a = a} e is) = and_written_place ps a (argument_places spans e)
  arguments_places spans ps (arguments_next {a = a} e more) = arguments_places spans (and_written_place ps a (argument_places spans e)) more

  pub argument_places : {d : ℕ} {ts us : List Token} {a : Argument} → List Span → IsArgument d ts a us → Places
  argument_places spans (positional_argument e) = expression_places spans e
  argument_places spans (keyword_argument e) = expression_places spans e
  argument_places spans (spread_argument e) = expression_places spans e
  argument_places spans (keyword_spread_argument e) = expression_places spans e
