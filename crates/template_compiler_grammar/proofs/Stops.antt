-- Where repetitions stop, and what the reader with places does at tokens that are given by a test alone.
use Rattle.std.proofs.Common.{◌≡◌, ℕ, ◌<◌, true, false, List, [], ◌∷◌, codes, None, Ok, refl, ◌∙◌, ap, arith}
use Rattle.template_compiler_tree.specs.declared.span.Span.{Span}
use Rattle.template_compiler_tree.specs.Tree.{Argument}
use Rattle.template_compiler_tokens.specs.Token.{Token, identifier, string, symbol, pow, dot, colon, pipe, bracket_open, bracket_close, paren_open, paren_close, brace_close}
use Rattle.template_compiler_tokens.specs.Steps.{Read, Step, goes, stops, and_then}
use Rattle.template_compiler_grammar.specs.Words.{is_word, begins_word, begins_paren, begins_dotted, Level}
use Rattle.template_compiler_grammar.specs.Ends.{Behind}
use Rattle.template_compiler_grammar.specs.ReaderParts.{dotted_step, text_step, name_of, begins_closing, begins_bound_end, separated, unless_closing}
use Rattle.template_compiler_grammar.proofs.Ranks.{level_rank, no_is, no_operator, no_comparison, is_no_not, is_no_if, is_no_else}
use Rattle.template_compiler_grammar.specs.Grammar.{IsArgument, positional_argument, keyword_argument, spread_argument, keyword_spread_argument}
use Rattle.template_compiler_grammar.proofs.Opens.{begins_opener, expression_opens}
use Rattle.template_compiler_grammar.specs.Nodes.{Node, no_node, given_node, PlacedLinks, no_placed_arguments, conditional_node}
use Rattle.template_compiler_grammar.specs.Reader.{Deeper, up_to, part_step, filter_step, power_behind, operand_behind, operand_step, link_behind, link_step, else_behind, if_behind, negation_by, comparison_by, is_by, test_by, optional_arguments_by, bound_by, step_by, paren_by, paren_behind}

pub dotted_stops : (n : List ℕ) (ts : List Token) → begins_dotted ts ≡ false → dotted_step n ts ≡ stops
unfolding dotted_step
dotted_stops n (symbol dot ∷ identifier part ∷ ts) h = cc
dotted_stops n _ h = refl

pub texts_stop : (s : List ℕ) (ts : List Token) → Behind 0 ts → text_step s ts ≡ stops
unfolding text_step
texts_stop s (string t ∷ ts) h = absurd (omega arith)
texts_stop s _ h = refl

-- nothing goes on with a closing bracket
pub begins_closing_behind : (k : ℕ) (ts : List Token) → begins_closing ts ≡ true → k < 11 → Behind k ts
begins_closing_behind k [] h l = cc
begins_closing_behind k (symbol paren_close ∷ ts) h l = l
begins_closing_behind k (symbol bracket_close ∷ ts) h l = l
begins_closing_behind k (symbol brace_close ∷ ts) h l = l
begins_closing_behind k _ h l = cc

-- an opening token is none that ends
pub opener_closing : (ts : List Token) → begins_opener ts ≡ true → begins_closing ts ≡ false
opener_closing [] h = cc
opener_closing (symbol paren_close ∷ ts) h = cc
opener_closing (symbol bracket_close ∷ ts) h = cc
opener_closing (symbol brace_close ∷ ts) h = cc
opener_closing _ h = refl

pub opener_bound : (ts : List Token) → begins_opener ts ≡ true → begins_bound_end ts ≡ false
opener_bound [] h = cc
opener_bound (symbol paren_close ∷ ts) h = cc
opener_bound (symbol bracket_close ∷ ts) h = cc
opener_bound (symbol brace_close ∷ ts) h = cc
opener_bound (symbol colon ∷ ts) h = cc
opener_bound _ h = refl

pub closing_bound : (ts : List Token) → begins_closing ts ≡ true → begins_bound_end ts ≡ true
closing_bound [] h = cc
closing_bound (symbol paren_close ∷ ts) h = refl
closing_bound (symbol bracket_close ∷ ts) h = refl
closing_bound (symbol brace_close ∷ ts) h = refl
closing_bound _ h = cc

pub bound_end_behind : (ts : List Token) → begins_bound_end ts ≡ true → Behind 10 ts
bound_end_behind [] h = cc
bound_end_behind (symbol paren_close ∷ ts) h = omega arith
bound_end_behind (symbol bracket_close ∷ ts) h = omega arith
bound_end_behind (symbol brace_close ∷ ts) h = omega arith
bound_end_behind (symbol colon ∷ ts) h = omega arith
bound_end_behind _ h = cc

-- nothing that is read begins with a closing bracket
pub argument_closing : {d : ℕ} {a : Argument} {ts us : List Token} → IsArgument d ts a us → begins_closing ts ≡ false
argument_closing (positional_argument {ts = ts} e) = opener_closing ts (expression_opens e)
argument_closing (keyword_argument e) = refl
argument_closing (spread_argument e) = refl
argument_closing (keyword_spread_argument e) = refl

-- lists in brackets
pub separated_last : {A : Type 0} (a : A) (ts : List Token) → begins_closing ts ≡ true → separated a ts ≡ goes a ts
unfolding separated
separated_last a [] h = cc
separated_last a (symbol paren_close ∷ ts) h = refl
separated_last a (symbol bracket_close ∷ ts) h = refl
separated_last a (symbol brace_close ∷ ts) h = refl
separated_last a _ h = cc

pub unless_closed : {A : Type 0} (step : Step A) (ts : List Token) → begins_closing ts ≡ true → unless_closing step ts ≡ stops
unfolding unless_closing
unless_closed step ts h = rw h

pub unless_open : {A : Type 0} (step : Step A) (ts : List Token) → begins_closing ts ≡ false → unless_closing step ts ≡ step
unfolding unless_closing
unless_open step ts h = rw h

module _ (spans : List Span) where
  pub parts_stop : (r : Deeper) (start : Span) (a : Node) (ts : List Token) → Behind 1 ts → part_step spans r start a ts ≡ stops
  unfolding part_step
  parts_stop r start a (symbol dot ∷ ts) h = absurd (omega arith)
  parts_stop r start a (symbol bracket_open ∷ ts) h = absurd (omega arith)
  parts_stop r start a (symbol paren_open ∷ ts) h = absurd (omega arith)
  parts_stop r start a _ h = refl

  pub filters_stop : (r : Deeper) (start : Span) (a : Node) (ts : List Token) → Behind 2 ts → filter_step spans r start a ts ≡ stops
  unfolding filter_step
  filters_stop r start a (symbol pipe ∷ ts) h = absurd (omega arith)
  filters_stop r start a (identifier n ∷ ts) h = rw (no_is n h)
  filters_stop r start a _ h = refl

  pub powers_stop : (r : Deeper) (start : Span) (a : Node) (ts : List Token) → Behind 3 ts → power_behind spans r start a ts ≡ Ok (a, ts)
  unfolding power_behind
  powers_stop r start a (symbol pow ∷ ts) h = absurd (omega arith)
  powers_stop r start a _ h = refl

  pub operands_stop : (k : Level) (read : List Token → Read Node) (start : Span) (a : Node) (ts : List Token) →
      Behind (level_rank k) ts → operand_step spans k read start a ts ≡ stops
  unfolding operand_step operand_behind
  operands_stop k read start a [] h = refl
  operands_stop k read start a (t ∷ ts) h = ap (λ o. operand_behind spans o read start a ts) (no_operator k t h)

  pub links_stop : (read : List Token → Read Node) (ls : PlacedLinks) (ts : List Token) → Behind 7 ts → link_step spans read ls ts ≡ stops
  unfolding link_step link_behind
  links_stop read ls [] h = refl
  links_stop read ls (t ∷ ts) h =
      ap (λ o. link_behind spans o (is_word (codes "not") t) read ls ts) (no_comparison t h) ∙
      ap (λ b. link_behind spans None b read ls ts) (is_no_not t h)

  pub if_stops : (r : Deeper) (start : Span) (a : Node) (ts : List Token) → Behind 10 ts → if_behind spans r start a ts ≡ Ok (a, ts)
  unfolding if_behind
  if_stops r start a [] h = refl
  if_stops r start a (t ∷ ts) h = rw (is_no_if t h)

  pub else_stops : (r : Deeper) (start : Span) (a c : Node) (ts : List Token) → Behind 10 ts →
      else_behind spans r start a c ts ≡ Ok (conditional_node c a no_node (up_to spans start ts), ts)
  unfolding else_behind
  else_stops r start a c [] h = refl
  else_stops r start a c (t ∷ ts) h = rw (is_no_else t h)

  -- what is not the word `not`
  pub no_negation_by : (r : Deeper) (ts : List Token) → begins_word (codes "not") ts ≡ false →
      negation_by spans r ts ≡ comparison_by spans r ts
  unfolding negation_by
  no_negation_by r [] h = refl
  no_negation_by r (t ∷ ts) h = rw h

  pub no_negated_test : (r : Deeper) (start : Span) (a : Node) (ts : List Token) → begins_word (codes "not") ts ≡ false →
      is_by spans r start a ts ≡ test_by spans r false start a ts
  unfolding is_by test_by name_of and_then
  no_negated_test r start a [] h = refl
  no_negated_test r start a (t ∷ ts) h = rw h

  pub no_arguments_by : (r : Deeper) (ts : List Token) → begins_paren ts ≡ false →
      optional_arguments_by spans r ts ≡ Ok (no_placed_arguments, ts)
  unfolding optional_arguments_by
  no_arguments_by r (symbol paren_open ∷ ts) h = cc
  no_arguments_by r _ h = refl

  pub paren_open_by : (read : List Token → Read Node) (start : Span) (ts : List Token) → begins_opener ts ≡ true →
      paren_by spans read start ts ≡ and_then (read ts) (paren_behind spans read start)
  unfolding paren_by
  paren_open_by read start (symbol paren_close ∷ ts) h = cc
  paren_open_by read start _ h = refl

  -- bounds of slices
  pub bound_left_out : (read : List Token → Read Node) (ts : List Token) → begins_bound_end ts ≡ true →
      bound_by spans read ts ≡ Ok (no_node, ts)
  unfolding bound_by
  bound_left_out read ts h = rw h

  pub bound_read_by : (read : List Token → Read Node) (ts : List Token) → begins_opener ts ≡ true →
      bound_by spans read ts ≡ and_then (read ts) (λ e us. Ok (given_node e, us))
  unfolding bound_by
  bound_read_by read ts h = rw (opener_bound ts h)

  pub step_left_out : (read : List Token → Read Node) (ts : List Token) → begins_closing ts ≡ true →
      step_by spans read ts ≡ Ok (no_node, ts)
  unfolding step_by
  step_left_out read (symbol colon ∷ ts) h = cc
  step_left_out read _ h = refl
