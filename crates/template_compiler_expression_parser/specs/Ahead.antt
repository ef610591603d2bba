-- What goes on with an operand, by the token that stands next.
use Rattle.std.specs.Prelude.{◌≡◌, ◌||◌, ℕ, Bool, true, false, bytes_eq, codes, List, None, Ok}
use Rattle.std.specs.Option.{option_map_or}
use Rattle.template_compiler_tokens.specs.Token.{Token, Symbol, plus, minus, mul, div, floor_div, modulo, tilde, eq, ne, gt, gte, lt, lte, dot, bracket_open, paren_open, pipe, pow}
use Rattle.template_compiler_tokens.specs.Steps.{Read, and_then, all}
use Rattle.template_compiler_grammar.specs.Words.{begins_word, factors, texts, terms, conjunction, disjunction}
use Rattle.template_compiler_grammar.specs.Nodes.{Node, node, compared_node, no_placed_links}
use Rattle.template_compiler_grammar.specs.Reader.{Deeper, unary_by, filter_step, power_behind, operand_by, operand_step, link_step, terms_by, up_to}
use Rattle.template_compiler_tree.specs.Tree.{unary}
use Rattle.template_compiler_tree.specs.NodePlaces.{one}
use Rattle.template_compiler_tree.specs.declared.operators.UnaryOpKind.TheVariants as unaries
use Rattle.template_compiler_tree.specs.declared.span.Span.{Span}
use Rattle.template_compiler_stream.specs.Signs.{next_symbol, next_comparison, begins_symbol}

-- the operators of sums
abbrev pub is_sum_sign : Symbol → Bool
is_sum_sign plus = true
is_sum_sign minus = true
is_sum_sign mul = true
is_sum_sign div = true
is_sum_sign floor_div = true
is_sum_sign modulo = true
is_sum_sign tilde = true
is_sum_sign _ = false

-- what begins a part
abbrev pub is_part_sign : Symbol → Bool
is_part_sign dot = true
is_part_sign bracket_open = true
is_part_sign paren_open = true
is_part_sign _ = false

-- comparisons
abbrev pub is_link_sign : Symbol → Bool
is_link_sign eq = true
is_link_sign ne = true
is_link_sign gt = true
is_link_sign gte = true
is_link_sign lt = true
is_link_sign lte = true
is_link_sign _ = false

-- a filter and a power
abbrev pub is_filter_sign : Symbol → Bool
is_filter_sign pipe = true
is_filter_sign pow = true
is_filter_sign _ = false

-- words that begin a comparison
abbrev pub is_link_word : List ℕ → Bool
is_link_word word = bytes_eq (codes "in") word || bytes_eq (codes "not") word

abbrev pub begins_sign : (Symbol → Bool) → List Token → Bool
begins_sign is ts = option_map_or is (next_symbol ts) false

-- no comparison stands next
abbrev pub HasNoLink : List Token → Type 0
HasNoLink ts = (next_comparison ts ≡ None) × (begins_word (codes "not") ts ≡ false)

-- neither a filter nor a test nor a power stands next
abbrev pub HasNoFilter : List Token → Type 0
HasNoFilter ts = (begins_symbol pipe ts ≡ false) × (begins_word (codes "is") ts ≡ false) × (begins_symbol pow ts ≡ false)

-- none of these, nor an operator of a sum
abbrev pub HasNoOperator : List Token → Type 0
HasNoOperator ts = HasNoFilter ts × HasNoLink ts × (begins_sign is_sum_sign ts ≡ false)

-- what is read behind a minus that starts at a span
abbrev pub negative_from : List Span → Deeper → Span → List Token → Read Node
negative_from spans r start ts =
    and_then (unary_by spans r ts) (λ e us. Ok (node (unary unaries.Neg e.tree) (up_to spans start us) (one e.places), us))

-- what is read behind a first operand that starts at a span
module _ (spans : List Span) (r : Deeper) (start : Span) (a : Node) (ts : List Token) where
  -- the operators of a sum
  abbrev pub sum_from : Read Node
  sum_from =
      and_then
      (and_then (all (operand_step spans factors (operand_by spans r factors) start) a ts)
      (all (operand_step spans texts (operand_by spans r texts) start)))
      (all (operand_step spans terms (operand_by spans r terms) start))

  -- comparisons
  abbrev pub comparison_from : Read Node
  comparison_from =
      and_then (all (link_step spans (terms_by spans r)) no_placed_links ts) (λ ls vs. Ok (compared_node a ls (up_to spans start vs), vs))

  -- `and` and `or`
  abbrev pub choices_from : Read Node
  choices_from =
      and_then (all (operand_step spans conjunction (operand_by spans r conjunction) start) a ts)
      (all (operand_step spans disjunction (operand_by spans r disjunction) start))

-- all operators: filters and a power, a sum, comparisons
abbrev pub operators_from : List Span → Deeper → Span → Node → List Token → Read Node
operators_from spans r start a ts =
    and_then (and_then (and_then (all (filter_step spans r start) a ts) (power_behind spans r start)) (λ b us. sum_from spans r start b us))
    (λ b us. comparison_from spans r start b us)
