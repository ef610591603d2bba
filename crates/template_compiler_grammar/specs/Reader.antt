-- The reading of an expression from left to right, with the places of its nodes: what the grammar's relation computes to. What
-- begins with a node that was read before it has the span of its start. The parser's functions cite it; that it is the grammar,
-- and that its places are those of the grammar, is proved.
use Rattle.std.specs.Prelude.{ℕ, zero, suc, pos, Bool, true, false, nat_le, if◌then◌else◌, codes, List, [], ◌∷◌, Option, None, Some, Ok, Err}
use Rattle.template_values_model.specs.Val.{int, text}
use Rattle.template_compiler_tree.specs.declared.span.Span.{Span}
use Rattle.template_compiler_tree.specs.Tree.{constant, unary, filtered, attribute, item, call, list_literal, tuple_literal, map_literal, Optional, absent, given, no_expressions, keyword, positional, positional_spread, keyword_spread}
use Rattle.template_compiler_tree.specs.declared.operators.UnaryOpKind.TheVariants as unaries
use Rattle.template_compiler_tree.specs.declared.operators.BinOpKind.{BinOpKind}
use Rattle.template_compiler_tree.specs.declared.operators.BinOpKind.TheVariants as operators
use Rattle.template_compiler_tree.specs.declared.operators.CompareOpKind.{CompareOpKind}
use Rattle.template_compiler_tree.specs.declared.operators.CompareOpKind.TheVariants as comparisons
use Rattle.template_compiler_tree.specs.NodePlaces.{at, Parts, no_parts, parts_more, one, and_parts}
use Rattle.template_compiler_tokens.specs.Places.{last_span, next_span, until, stretch}
use Rattle.template_compiler_tokens.specs.Token.{Token, bad_syntax, identifier, string, number, symbol, minus, mul, pow, dot, comma, colon, assign, pipe, bracket_open, paren_open, paren_close, brace_open}
use Rattle.template_compiler_tokens.specs.Steps.{Read, fault, and_then, Step, goes, stops, fails, under, all}
use Rattle.template_compiler_grammar.specs.Words.{is_word, begins_bare, literal_word, Level, factors, texts, terms, conjunction, disjunction, operator, comparison_operator}
use Rattle.template_compiler_grammar.specs.Trees.{argument_count, in_order}
use Rattle.template_compiler_grammar.specs.ReaderParts.{too_deep, name_of, text_step, paren_end, bracket_end, brace_end, colon_end, separated, unless_closing, word_tree, begins_bound_end}
use Rattle.template_compiler_grammar.specs.Nodes.{placed, Node, node, OptionalNode, no_node, given_node, Nodes, no_nodes, first_node, and_node, PlacedLinks, no_placed_links, and_placed_link, PlacedPairs, no_placed_pairs, and_placed_pair, PlacedArgument, PlacedWritten, no_placed_written, and_placed_written, PlacedArguments, no_placed_arguments, bare_argument, placed_in_order, binary_node, conditional_node, slice_node, compared_node, tested_node}

-- what can be read one nesting level deeper; what has begun before it has where that starts
pub record Deeper : Type 0 where
  pub expression : List Token → Read Node
  pub condition : List Token → Read Node
  pub negation : List Token → Read Node
  pub power : List Token → Read Node
  pub unary_sign : List Token → Read Node
  pub paren : Span → List Token → Read Node
  pub list : Span → List Token → Read Node
  pub pairs : Span → List Token → Read Node
  pub subscript : Span → Node → List Token → Read Node
  pub arguments : List Token → Read PlacedArguments

abbrev pub nothing_deeper : Deeper
nothing_deeper = record {
  expression = too_deep;
  condition = too_deep;
  negation = too_deep;
  power = too_deep;
  unary_sign = too_deep;
  paren = λ start. too_deep;
  list = λ start. too_deep;
  pairs = λ start. too_deep;
  subscript = λ start a. too_deep;
  arguments = too_deep;
}

-- by the spans of all tokens
module _ (spans : List Span) where
  -- from where it starts to the last token before the others
  abbrev pub up_to : Span → List Token → Span
  up_to start behind = until start (last_span spans behind)

  -- from where it starts to the next token
  abbrev pub through_next : Span → List Token → Span
  through_next start ts = until start (next_span spans ts)

  -- primaries and their parts
  unfoldable pub primary_by : Deeper → List Token → Read Node
  primary_by r (identifier n ∷ ts) =
      Ok (node (word_tree (literal_word n) n) (next_span spans (identifier n ∷ ts)) no_parts, ts)
  primary_by r (number n ∷ ts) = Ok (node (constant (int (pos n))) (next_span spans (number n ∷ ts)) no_parts, ts)
  primary_by r (string s ∷ ts) =
      and_then (all text_step s ts) (λ t us. Ok (node (constant (text t)) (stretch spans (string s ∷ ts) us) no_parts, us))
  primary_by r (symbol paren_open ∷ ts) = r.paren (next_span spans (symbol paren_open ∷ ts)) ts
  primary_by r (symbol bracket_open ∷ ts) = r.list (next_span spans (symbol bracket_open ∷ ts)) ts
  primary_by r (symbol brace_open ∷ ts) = r.pairs (next_span spans (symbol brace_open ∷ ts)) ts
  primary_by r ts = Err (fault ts)

  unfoldable pub dot_part : Span → Node → List Token → Step Node
  dot_part start a (identifier n ∷ ts) = goes (node (attribute a.tree n) (up_to start ts) (one a.places)) ts
  dot_part start a (number n ∷ ts) =
      goes (node (item a.tree (constant (int (pos n)))) (up_to start ts)
      (parts_more a.places (one (at (next_span spans (number n ∷ ts)) no_parts)))) ts
  dot_part start a ts = fails (fault ts)

  unfoldable pub part_step : Deeper → Span → Node → List Token → Step Node
  part_step r start a (symbol dot ∷ ts) = dot_part start a ts
  part_step r start a (symbol bracket_open ∷ ts) = under (r.subscript start a ts) goes
  part_step r start a (symbol paren_open ∷ ts) =
      under (r.arguments ts) (λ args us. goes (node (call a.tree args.tree) (up_to start us) (parts_more a.places args.places)) us)
  part_step r start a _ = stops

  unfoldable pub parts_by : Deeper → Span → Node → List Token → Read Node
  parts_by r start = all (part_step r start)

  unfoldable pub unary_by : Deeper → List Token → Read Node
  unary_by r (symbol minus ∷ ts) =
      and_then (r.unary_sign ts)
      (λ e us. Ok (node (unary unaries.Neg e.tree) (stretch spans (symbol minus ∷ ts) us) (one e.places), us))
  unary_by r ts = and_then (primary_by r ts) (parts_by r (next_span spans ts))

  -- filters and tests
  unfoldable pub optional_arguments_by : Deeper → List Token → Read PlacedArguments
  optional_arguments_by r (symbol paren_open ∷ ts) = r.arguments ts
  optional_arguments_by r ts = Ok (no_placed_arguments, ts)

  unfoldable pub filter_by : Deeper → Span → OptionalNode → List Token → Read Node
  filter_by r start value ts =
      and_then (name_of ts) (λ n us. and_then (optional_arguments_by r us)
      (λ args vs. Ok (node (filtered n value.tree args.tree) (up_to start vs) (and_parts value.places args.places), vs)))

  unfoldable pub test_arguments_by : Deeper → Bool → Bool → Span → Node → List ℕ → List Token → Read Node
  test_arguments_by r true negated start a n ts =
      and_then (unary_by r ts) (λ b us. Ok (tested_node negated n a (bare_argument b) (up_to start us), us))
  test_arguments_by r false negated start a n ts =
      and_then (optional_arguments_by r ts) (λ args us. parts_by r start (tested_node negated n a args (up_to start us)) us)

  unfoldable pub test_by : Deeper → Bool → Span → Node → List Token → Read Node
  test_by r negated start a ts = and_then (name_of ts) (λ n us. test_arguments_by r (begins_bare us) negated start a n us)

  -- behind `is`
  unfoldable pub is_by : Deeper → Span → Node → List Token → Read Node
  is_by r start a [] = Err bad_syntax
  is_by r start a (t ∷ ts) =
      if is_word (codes "not") t then test_by r true start a ts else test_by r false start a (t ∷ ts)

  unfoldable pub filter_step : Deeper → Span → Node → List Token → Step Node
  filter_step r start a (symbol pipe ∷ ts) = under (and_then (filter_by r start (given_node a) ts) (parts_by r start)) goes
  filter_step r start a (identifier n ∷ ts) =
      if is_word (codes "is") (identifier n) then under (is_by r start a ts) goes else stops
  filter_step r start a _ = stops

  unfoldable pub filtered_by : Deeper → List Token → Read Node
  filtered_by r ts = and_then (unary_by r ts) (all (filter_step r (next_span spans ts)))

  -- the filters behind a value, or behind none: each begins at its name
  unfoldable pub chain_step : Deeper → OptionalNode → List Token → Step OptionalNode
  chain_step r value (symbol pipe ∷ ts) = under (filter_by r (next_span spans ts) value ts) (λ e us. goes (given_node e) us)
  chain_step r value _ = stops

  unfoldable pub filter_chain_by : Deeper → OptionalNode → List Token → Read OptionalNode
  filter_chain_by r = all (chain_step r)

  -- operators
  unfoldable pub power_behind : Deeper → Span → Node → List Token → Read Node
  power_behind r start a (symbol pow ∷ ts) =
      and_then (r.power ts) (λ b us. Ok (binary_node operators.Pow a b (up_to start us), us))
  power_behind r start a ts = Ok (a, ts)

  unfoldable pub power_by : Deeper → List Token → Read Node
  power_by r ts = and_then (filtered_by r ts) (power_behind r (next_span spans ts))

  unfoldable pub operand_behind : Option BinOpKind → (List Token → Read Node) → Span → Node → List Token → Step Node
  operand_behind (Some op) read start a ts = under (read ts) (λ b us. goes (binary_node op a b (up_to start us)) us)
  operand_behind None read start a ts = stops

  unfoldable pub operand_step : Level → (List Token → Read Node) → Span → Node → List Token → Step Node
  operand_step k read start a [] = stops
  operand_step k read start a (t ∷ ts) = operand_behind (operator k t) read start a ts

  unfoldable pub binary_of : Level → (List Token → Read Node) → List Token → Read Node
  binary_of k read ts = and_then (read ts) (all (operand_step k read (next_span spans ts)))

  unfoldable pub terms_by : Deeper → List Token → Read Node
  terms_by r = binary_of terms (binary_of texts (binary_of factors (power_by r)))

  -- `not` behind a sum is `not in`
  unfoldable pub not_in_link : (List Token → Read Node) → PlacedLinks → List Token → Step PlacedLinks
  not_in_link read ls [] = fails bad_syntax
  not_in_link read ls (t ∷ ts) =
      if is_word (codes "in") t
      then under (read ts) (λ b us. goes (and_placed_link ls comparisons.NotIn b) us)
      else fails (fault (t ∷ ts))

  unfoldable pub link_behind : Option CompareOpKind → Bool → (List Token → Read Node) → PlacedLinks → List Token → Step PlacedLinks
  link_behind (Some op) negated read ls ts = under (read ts) (λ b us. goes (and_placed_link ls op b) us)
  link_behind None true read ls ts = not_in_link read ls ts
  link_behind None false read ls ts = stops

  unfoldable pub link_step : (List Token → Read Node) → PlacedLinks → List Token → Step PlacedLinks
  link_step read ls [] = stops
  link_step read ls (t ∷ ts) = link_behind (comparison_operator t) (is_word (codes "not") t) read ls ts

  unfoldable pub comparison_by : Deeper → List Token → Read Node
  comparison_by r ts =
      and_then (terms_by r ts) (λ a us. and_then (all (link_step (terms_by r)) no_placed_links us)
      (λ ls vs. Ok (compared_node a ls (stretch spans ts vs), vs)))

  unfoldable pub negation_by : Deeper → List Token → Read Node
  negation_by r [] = comparison_by r []
  negation_by r (t ∷ ts) =
      if is_word (codes "not") t
      then and_then (r.negation ts)
      (λ e us. Ok (node (unary unaries.Not e.tree) (stretch spans (t ∷ ts) us) (one e.places), us))
      else comparison_by r (t ∷ ts)

  -- what stands on both sides of a level's operators
  unfoldable pub operand_by : Deeper → Level → List Token → Read Node
  operand_by r factors = power_by r
  operand_by r texts = binary_of factors (power_by r)
  operand_by r terms = binary_of texts (binary_of factors (power_by r))
  operand_by r conjunction = negation_by r
  operand_by r disjunction = binary_of conjunction (negation_by r)

  unfoldable pub binary_by : Deeper → Level → List Token → Read Node
  binary_by r k = binary_of k (operand_by r k)

  -- if-expressions
  unfoldable pub else_behind : Deeper → Span → Node → Node → List Token → Read Node
  else_behind r start a c [] = Ok (conditional_node c a no_node (up_to start []), [])
  else_behind r start a c (t ∷ ts) =
      if is_word (codes "else") t
      then and_then (r.expression ts) (λ b us. Ok (conditional_node c a (given_node b) (up_to start us), us))
      else Ok (conditional_node c a no_node (up_to start (t ∷ ts)), t ∷ ts)

  unfoldable pub if_behind : Deeper → Span → Node → List Token → Read Node
  if_behind r start a [] = Ok (a, [])
  if_behind r start a (t ∷ ts) =
      if is_word (codes "if") t then and_then (r.condition ts) (else_behind r start a) else Ok (a, t ∷ ts)

  unfoldable pub expression_by : Deeper → List Token → Read Node
  expression_by r ts = and_then (binary_by r disjunction ts) (if_behind r (next_span spans ts))

  -- what stands in brackets
  abbrev pub items_step : (List Token → Read Node) → Nodes → List Token → Step Nodes
  items_step read es ts = unless_closing (under (read ts) (λ e us. separated (and_node es e) us)) ts

  unfoldable pub items_by : (List Token → Read Node) → Nodes → List Token → Read Nodes
  items_by read = all (items_step read)

  abbrev pub pairs_step : (List Token → Read Node) → PlacedPairs → List Token → Step PlacedPairs
  pairs_step read p ts =
      unless_closing (under (and_then (read ts) colon_end)
      (λ k us. under (read us) (λ v vs. separated (and_placed_pair p k v) vs))) ts

  unfoldable pub pairs_by : (List Token → Read Node) → List Token → Read PlacedPairs
  pairs_by read = all (pairs_step read) no_placed_pairs

  unfoldable pub paren_behind : (List Token → Read Node) → Span → Node → List Token → Read Node
  paren_behind read start e (symbol comma ∷ ts) =
      and_then (items_by read (first_node e) ts)
      (λ es us. paren_end (node (tuple_literal es.tree) (through_next start us) es.places) us)
  paren_behind read start e ts = paren_end e ts

  unfoldable pub paren_by : (List Token → Read Node) → Span → List Token → Read Node
  paren_by read start (symbol paren_close ∷ ts) = Ok (node (tuple_literal no_expressions) (up_to start ts) no_parts, ts)
  paren_by read start ts = and_then (read ts) (paren_behind read start)

  unfoldable pub list_by : (List Token → Read Node) → Span → List Token → Read Node
  list_by read start ts =
      and_then (items_by read no_nodes ts)
      (λ es us. bracket_end (node (list_literal es.tree) (through_next start us) es.places) us)

  unfoldable pub map_by : (List Token → Read Node) → Span → List Token → Read Node
  map_by read start ts =
      and_then (pairs_by read ts) (λ p us. brace_end
      (node (map_literal p.tree.0 p.tree.1) (through_next start us) (and_parts p.places.0 p.places.1)) us)

  -- a bound of a slice may be left out before `:` and before a closing bracket
  unfoldable pub bound_by : (List Token → Read Node) → List Token → Read OptionalNode
  bound_by read ts = if begins_bound_end ts then Ok (no_node, ts) else and_then (read ts) (λ e us. Ok (given_node e, us))

  unfoldable pub step_by : (List Token → Read Node) → List Token → Read OptionalNode
  step_by read (symbol colon ∷ ts) = bound_by read ts
  step_by read ts = Ok (no_node, ts)

  -- behind the first colon
  unfoldable pub slice_by : (List Token → Read Node) → Span → Node → OptionalNode → List Token → Read Node
  slice_by read start a first ts =
      and_then (bound_by read ts) (λ stop us. and_then (step_by read us)
      (λ step vs. bracket_end (slice_node a first stop step (through_next start vs)) vs))

  -- behind a key, with its places
  unfoldable pub item_by : Span → Node → Optional → Parts → List Token → Read Node
  item_by start a (given key) places ts =
      bracket_end (node (item a.tree key) (through_next start ts) (parts_more a.places places)) ts
  item_by start a absent places ts = Err (fault ts)

  unfoldable pub subscript_behind : (List Token → Read Node) → Span → Node → OptionalNode → List Token → Read Node
  subscript_behind read start a first (symbol colon ∷ ts) = slice_by read start a first ts
  subscript_behind read start a first ts = item_by start a first.tree first.places ts

  unfoldable pub subscript_by : (List Token → Read Node) → Span → Node → List Token → Read Node
  subscript_by read start a ts = and_then (bound_by read ts) (subscript_behind read start a)

  unfoldable pub named_argument : (List Token → Read Node) → List ℕ → List Token → Read PlacedArgument
  named_argument read n (symbol assign ∷ ts) = and_then (read ts) (λ e us. Ok (placed (keyword n e.tree) e.places, us))
  named_argument read n ts = and_then (read (identifier n ∷ ts)) (λ e us. Ok (placed (positional e.tree) e.places, us))

  unfoldable pub argument_by : (List Token → Read Node) → List Token → Read PlacedArgument
  argument_by read (identifier n ∷ ts) = named_argument read n ts
  argument_by read (symbol mul ∷ ts) = and_then (read ts) (λ e us. Ok (placed (positional_spread e.tree) e.places, us))
  argument_by read (symbol pow ∷ ts) = and_then (read ts) (λ e us. Ok (placed (keyword_spread e.tree) e.places, us))
  argument_by read ts = and_then (read ts) (λ e us. Ok (placed (positional e.tree) e.places, us))

  unfoldable pub few_arguments : PlacedWritten → List Token → Read PlacedArguments
  few_arguments w ts =
      if nat_le (argument_count (in_order w.tree)) 2000 then Ok (placed_in_order w, ts) else Err bad_syntax

  abbrev pub arguments_step : (List Token → Read Node) → PlacedWritten → List Token → Step PlacedWritten
  arguments_step read w ts = unless_closing (under (argument_by read ts) (λ a us. separated (and_placed_written w a) us)) ts

  unfoldable pub arguments_by : (List Token → Read Node) → List Token → Read PlacedArguments
  arguments_by read ts =
      and_then (all (arguments_step read) no_placed_written ts) (λ w us. and_then (paren_end w us) few_arguments)

  -- what can be read with so many levels left, one level deeper
  abbrev pub one_deeper : Deeper → Deeper
  one_deeper r = record {
    expression = expression_by r;
    condition = binary_by r disjunction;
    negation = negation_by r;
    power = power_by r;
    unary_sign = unary_by r;
    paren = paren_by (expression_by r);
    list = list_by (expression_by r);
    pairs = map_by (expression_by r);
    subscript = subscript_by (expression_by r);
    arguments = arguments_by (expression_by r);
  }

  unfoldable pub deeper : ℕ → Deeper
  deeper zero = nothing_deeper
  deeper (suc d) = one_deeper (deeper d)

  unfoldable pub expression_at : ℕ → List Token → Read Node
  expression_at d = expression_by (deeper d)

  -- what stands without an if-expression, as behind the `in` of a loop
  unfoldable pub condition_at : ℕ → List Token → Read Node
  condition_at d = binary_by (deeper d) disjunction

  -- the arguments of a call or a filter, where `(` is next
  unfoldable pub optional_arguments_at : ℕ → List Token → Read PlacedArguments
  optional_arguments_at d = optional_arguments_by (deeper d)

  -- a filter begins at its name
  unfoldable pub filter_at : ℕ → OptionalNode → List Token → Read Node
  filter_at d value ts = filter_by (deeper d) (next_span spans ts) value ts

  unfoldable pub filter_chain_at : ℕ → OptionalNode → List Token → Read OptionalNode
  filter_chain_at d = filter_chain_by (deeper d)
