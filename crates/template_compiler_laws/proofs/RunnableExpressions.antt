-- Expressions.
use Rattle.std.proofs.Common.{ℕ, Bool, List, sym, subst}
use Rattle.template_compiler_tree.specs.Tree.{Expression, Optional, Expressions, Links, Arguments, Argument, absent, given}
use Rattle.template_compiler_walk.specs.Runnable.{IsRunnable, IsRunnableIfGiven, AreRunnable, AreRunnableLinks, AreRunnableArguments, AreFilters}
use Rattle.template_compiler_tokens.specs.Token.{Token}
use Rattle.template_compiler_grammar.specs.Words.{Level}
use Rattle.template_compiler_grammar.specs.Trees.{Paired, Written}
use Rattle.template_compiler_grammar.specs.Grammar.{IsExpression, unconditional, if_alone, if_else, IsBinary, operands, IsOperands, operands_end, operands_more, IsOperand, factor, text_operand, term, conjunct, disjunct, IsNegation, negation, no_negation, IsComparison, comparison, IsLinks, links_end, links_operator, links_not_in, IsPower, no_power, power, IsFiltered, filtered_value, IsFilters, filters_end, filters_more, IsFilterParts, filter_parts, is_test, is_not_test, IsFilter, filter, IsTest, test, bare_test, IsOptionalArguments, no_list, a_list, IsUnary, minus_sign, primary, IsParts, parts_end, parts_more, IsPart, attribute_part, number_part, subscript_part, call_part, IsSubscript, item_subscript, slice_subscript, IsBound, no_bound, a_bound, IsStep, no_step, a_step, IsPrimary, name_primary, word_primary, number_primary, text_primary, paren_primary, list_primary, map_primary, IsParen, empty_tuple, in_parens, tuple, IsItems, items_end, items_last, items_more, IsPairs, pairs_end, pairs_last, pairs_more, IsArgumentList, argument_list, IsArguments, arguments_end, arguments_last, arguments_next, IsArgument, positional_argument, keyword_argument, spread_argument, keyword_spread_argument, IsFilterChain, chain_end, chain_more}
use Rattle.template_compiler_laws.proofs.Trees.{and_runs, and_link_runs, compared_runs, tested_runs, ArgumentRuns, WrittenRuns, and_written_runs, followed_runs}

abbrev PairsRun : Paired → Type 0
PairsRun p = AreRunnable p.0 × AreRunnable p.1

mutual
  pub expression_runs : {d : ℕ} {ts us : List Token} {e : Expression} → IsExpression d ts e us → IsRunnable e
  expression_runs (unconditional b) = binary_runs b
  expression_runs (if_alone a c) = (binary_runs c, binary_runs a, tt)
  expression_runs (if_else a c b) = (binary_runs c, binary_runs a, expression_runs b)

  pub binary_runs : {d : ℕ} {k : Level} {ts us : List Token} {e : Expression} → IsBinary d k ts e us → IsRunnable e
  binary_runs (operands o more) = operands_run (operand_runs o) more

  operands_run : {d : ℕ} {k : Level} {ts us : List Token} {a e : Expression} → IsRunnable a → IsOperands d k a ts e us → IsRunnable e
  operands_run h operands_end = h
  operands_run h (operands_more op o more) = operands_run (h, operand_runs o) more

  operand_runs : {d : ℕ} {k : Level} {ts us : List Token} {e : Expression} → IsOperand d k ts e us → IsRunnable e
  operand_runs (factor p) = power_runs p
  operand_runs (text_operand b) = binary_runs b
  operand_runs (term b) = binary_runs b
  operand_runs (conjunct n) = negation_runs n
  operand_runs (disjunct b) = binary_runs b

  negation_runs : {d : ℕ} {ts us : List Token} {e : Expression} → IsNegation d ts e us → IsRunnable e
  negation_runs (negation n) = negation_runs n
  negation_runs (no_negation none c) = comparison_runs c

  comparison_runs : {d : ℕ} {ts us : List Token} {e : Expression} → IsComparison d ts e us → IsRunnable e
  comparison_runs (comparison {a = a} {ls = ls} b links is) = subst (λ x. IsRunnable x) (sym is) (compared_runs a ls (binary_runs b) (links_run tt links))

  links_run : {d : ℕ} {ts us : List Token} {ls ms : Links} → AreRunnableLinks ls → IsLinks d ls ts ms us → AreRunnableLinks ms
  links_run h links_end = h
  links_run h (links_operator {ls = ls} {op = op} {b = b} is e more) = links_run (and_link_runs ls op b h (binary_runs e)) more
  links_run h (links_not_in {ls = ls} {b = b} e more) = links_run (and_link_runs ls _ b h (binary_runs e)) more

  power_runs : {d : ℕ} {ts us : List Token} {e : Expression} → IsPower d ts e us → IsRunnable e
  power_runs (no_power f) = filtered_runs f
  power_runs (power f p) = (filtered_runs f, power_runs p)

  filtered_runs : {d : ℕ} {ts us : List Token} {e : Expression} → IsFiltered d ts e us → IsRunnable e
  filtered_runs (filtered_value u more) = filters_run (unary_runs u) more

  filters_run : {d : ℕ} {ts us : List Token} {a e : Expression} → IsRunnable a → IsFilters d a ts e us → IsRunnable e
  filters_run h filters_end = h
  filters_run h (filters_more p more) = filters_run (filter_parts_run h p) more

  filter_parts_run : {d : ℕ} {ts us : List Token} {a e : Expression} → IsRunnable a → IsFilterParts d a ts e us → IsRunnable e
  filter_parts_run h (filter_parts f more) = parts_run (filter_runs h f) more
  filter_parts_run h (is_test none t) = test_runs h t
  filter_parts_run h (is_not_test t) = test_runs h t

  filter_runs : {d : ℕ} {ts us : List Token} {a e : Expression} → IsRunnable a → IsFilter d (given a) ts e us → IsRunnable e
  filter_runs h (filter n args) = (h, optional_arguments_run args)

  test_runs : {d : ℕ} {negated : Bool} {ts us : List Token} {a e : Expression} → IsRunnable a → IsTest d negated a ts e us → IsRunnable e
  test_runs h (test {negated = negated} {a = a} {n = n} {args = args} word none given_ones more) =
      parts_run (tested_runs negated n a args h (optional_arguments_run given_ones)) more
  test_runs h (bare_test {negated = negated} {a = a} {n = n} word bare u is) =
      subst (λ x. IsRunnable x) (sym is) (tested_runs negated n a _ h (unary_runs u, tt))

  pub optional_arguments_run : {d : ℕ} {ts us : List Token} {args : Arguments} → IsOptionalArguments d ts args us → AreRunnableArguments args
  optional_arguments_run (no_list none) = tt
  optional_arguments_run (a_list l) = list_runs l

  unary_runs : {d : ℕ} {ts us : List Token} {e : Expression} → IsUnary d ts e us → IsRunnable e
  unary_runs (minus_sign u) = unary_runs u
  unary_runs (primary p more) = parts_run (primary_runs p) more

  parts_run : {d : ℕ} {ts us : List Token} {a e : Expression} → IsRunnable a → IsParts d a ts e us → IsRunnable e
  parts_run h parts_end = h
  parts_run h (parts_more p more) = parts_run (part_runs h p) more

  part_runs : {d : ℕ} {ts us : List Token} {a e : Expression} → IsRunnable a → IsPart d a ts e us → IsRunnable e
  part_runs h attribute_part = h
  part_runs h number_part = (h, tt)
  part_runs h (subscript_part s) = subscript_runs h s
  part_runs h (call_part l) = (h, list_runs l)

  subscript_runs : {d : ℕ} {ts us : List Token} {a e : Expression} → IsRunnable a → IsSubscript d a ts e us → IsRunnable e
  subscript_runs h (item_subscript key) = (h, expression_runs key)
  subscript_runs h (slice_subscript start stop by) = (h, bound_runs start, bound_runs stop, step_runs by)

  bound_runs : {d : ℕ} {ts us : List Token} {o : Optional} → IsBound d ts o us → IsRunnableIfGiven o
  bound_runs no_bound = tt
  bound_runs (a_bound e) = expression_runs e

  step_runs : {d : ℕ} {ts us : List Token} {o : Optional} → IsStep d ts o us → IsRunnableIfGiven o
  step_runs no_step = tt
  step_runs (a_step b) = bound_runs b

  primary_runs : {d : ℕ} {ts us : List Token} {e : Expression} → IsPrimary d ts e us → IsRunnable e
  primary_runs (name_primary none) = tt
  primary_runs (word_primary is) = tt
  primary_runs number_primary = tt
  primary_runs (text_primary t) = tt
  primary_runs (paren_primary p) = paren_runs p
  primary_runs (list_primary items) = items_run tt items
  primary_runs (map_primary pairs is) = subst (λ x. IsRunnable x) (sym is) (pairs_run (tt, tt) pairs)

  paren_runs : {d : ℕ} {ts us : List Token} {e : Expression} → IsParen d ts e us → IsRunnable e
  paren_runs empty_tuple = tt
  paren_runs (in_parens e) = expression_runs e
  paren_runs (tuple e items) = items_run (expression_runs e, tt) items

  items_run : {d : ℕ} {ts us : List Token} {es fs : Expressions} → AreRunnable es → IsItems d es ts fs us → AreRunnable fs
  items_run h items_end = h
  items_run h (items_last {e = e} {es = es} x is) = subst (λ l. AreRunnable l) (sym is) (and_runs es e h (expression_runs x))
  items_run h (items_more {e = e} {es = es} x more) = items_run (and_runs es e h (expression_runs x)) more

  pairs_run : {d : ℕ} {ts us : List Token} {p q : Paired} → PairsRun p → IsPairs d p ts q us → PairsRun q
  pairs_run h pairs_end = h
  pairs_run h (pairs_last {k = k} {v = v} {p = p} x y is) =
      subst (λ l. PairsRun l) (sym is) (and_runs p.0 k h.0 (expression_runs x), and_runs p.1 v h.1 (expression_runs y))
  pairs_run h (pairs_more {k = k} {v = v} {p = p} x y more) =
      pairs_run (and_runs p.0 k h.0 (expression_runs x), and_runs p.1 v h.1 (expression_runs y)) more

  list_runs : {d : ℕ} {ts us : List Token} {args : Arguments} → IsArgumentList d ts args us → AreRunnableArguments args
  list_runs (argument_list {w = w} more is few) =
      let all = arguments_run (tt, tt) more in subst (λ l. AreRunnableArguments l) (sym is) (followed_runs w.0 w.1 all.0 all.1)

  arguments_run : {d : ℕ} {ts us : List Token} {w x : Written} → WrittenRuns w → IsArguments d w ts x us → WrittenRuns x
  arguments_run h arguments_end = h
  arguments_run h (arguments_last {a = a} {w = w} one is) = subst (λ l. WrittenRuns l) (sym is) (and_written_runs w a h (argument_runs one))
  arguments_run h (arguments_next {a = a} {w = w} one more) = arguments_run (and_written_runs w a h (argument_runs one)) more

  argument_runs : {d : ℕ} {ts us : List Token} {a : Argument} → IsArgument d ts a us → ArgumentRuns a
  argument_runs (positional_argument e) = expression_runs e
  argument_runs (keyword_argument e) = expression_runs e
  argument_runs (spread_argument e) = expression_runs e
  argument_runs (keyword_spread_argument e) = expression_runs e

-- the filters of a block
abbrev pub FiltersRun : Optional → Type 0
FiltersRun absent = Unit {0}
FiltersRun (given e) = AreFilters e

one_more : {d : ℕ} {ts us : List Token} {value : Optional} {e : Expression} → FiltersRun value → IsFilter d value ts e us → AreFilters e
one_more h (filter {value = absent} n args) = optional_arguments_run args
one_more h (filter {value = given a} n args) = (h, optional_arguments_run args)

pub first_filter : {d : ℕ} {ts us : List Token} {e : Expression} → IsFilter d absent ts e us → AreFilters e
first_filter f = one_more tt f

pub filter_chain_runs : {d : ℕ} {ts us : List Token} {value all : Optional} → FiltersRun value → IsFilterChain d value ts all us → FiltersRun all
filter_chain_runs h chain_end = h
filter_chain_runs h (chain_more f more) = filter_chain_runs (one_more h f) more
