-- An expression is no larger than 201 times what its tokens weigh.
use Rattle.std.proofs.Common.{◌≤◌, ℕ, ◌+◌, ◌*◌, suc, Bool, List, ap, arith}
use Rattle.template_compiler_tree.specs.declared.operators.CompareOpKind.TheVariants as comparisons
use Rattle.template_compiler_tree.specs.Tree.{Expression, Optional, Expressions, Links, Arguments, Argument, no_arguments, arguments_more, positional}
use Rattle.template_compiler_tokens.specs.Token.{Token}
use Rattle.template_compiler_grammar.specs.Words.{Level}
use Rattle.template_compiler_grammar.specs.Trees.{Paired, Written}
use Rattle.template_compiler_grammar.specs.Grammar.{IsExpression, unconditional, if_alone, if_else, IsBinary, operands, IsOperands, operands_end, operands_more, IsOperand, factor, text_operand, term, conjunct, disjunct, IsNegation, negation, no_negation, IsComparison, comparison, IsLinks, links_end, links_operator, links_not_in, IsPower, no_power, power, IsFiltered, filtered_value, IsFilters, filters_end, filters_more, IsFilterParts, filter_parts, is_test, is_not_test, IsFilter, filter, IsTest, test, bare_test, IsOptionalArguments, no_list, a_list, IsUnary, minus_sign, primary, IsParts, parts_end, parts_more, IsPart, attribute_part, number_part, subscript_part, call_part, IsSubscript, item_subscript, slice_subscript, IsBound, no_bound, a_bound, IsStep, no_step, a_step, IsPrimary, name_primary, word_primary, number_primary, text_primary, paren_primary, list_primary, map_primary, IsParen, empty_tuple, in_parens, tuple, IsItems, items_end, items_last, items_more, IsPairs, pairs_end, pairs_last, pairs_more, IsArgumentList, argument_list, IsArguments, arguments_end, arguments_last, arguments_next, IsArgument, positional_argument, keyword_argument, spread_argument, keyword_spread_argument}
use Rattle.template_compiler_laws.proofs.Weights.{weight, name_weighs, texts_weigh}
use Rattle.template_compiler_laws.proofs.Sizes.{expression_size, optional_size, expressions_size, argument_size, arguments_size, written_size, links_size, and_expression_size, and_link_size, and_written_size, followed_size, compared_size, tested_size}

mutual
  pub expression_bound : {d : ℕ} {ts us : List Token} {e : Expression} → IsExpression d ts e us →
      expression_size 150 e + 201 * weight us ≤ 201 * weight ts
  expression_bound (unconditional b) = binary_bound b
  expression_bound (if_alone a c) = let p = binary_bound a in let q = binary_bound c in omega arith
  expression_bound (if_else a c b) =
      let p = binary_bound a in let q = binary_bound c in let r = expression_bound b in omega arith

  pub binary_bound : {d : ℕ} {k : Level} {ts us : List Token} {e : Expression} → IsBinary d k ts e us →
      expression_size 150 e + 201 * weight us ≤ 201 * weight ts
  binary_bound (operands o t) = let p = operand_bound o in let q = operands_bound t in omega arith

  operands_bound : {d : ℕ} {k : Level} {ts us : List Token} {a e : Expression} → IsOperands d k a ts e us →
      expression_size 150 e + 201 * weight us ≤ expression_size 150 a + 201 * weight ts
  operands_bound operands_end = omega arith
  operands_bound (operands_more o b t) = let p = operand_bound b in let q = operands_bound t in omega arith

  operand_bound : {d : ℕ} {k : Level} {ts us : List Token} {e : Expression} → IsOperand d k ts e us →
      expression_size 150 e + 201 * weight us ≤ 201 * weight ts
  operand_bound (factor p) = power_bound p
  operand_bound (text_operand b) = binary_bound b
  operand_bound (term b) = binary_bound b
  operand_bound (conjunct n) = negation_bound n
  operand_bound (disjunct b) = binary_bound b

  negation_bound : {d : ℕ} {ts us : List Token} {e : Expression} → IsNegation d ts e us →
      expression_size 150 e + 201 * weight us ≤ 201 * weight ts
  negation_bound (negation n) = let p = negation_bound n in omega arith
  negation_bound (no_negation e c) = comparison_bound c

  comparison_bound : {d : ℕ} {ts us : List Token} {e : Expression} → IsComparison d ts e us →
      expression_size 150 e + 201 * weight us ≤ 201 * weight ts
  comparison_bound (comparison {a = a} {ls = ls} b t e) =
      let p = binary_bound b in let q = links_bound t in omega (arith, compared_size 150 a ls, ap (expression_size 150) e)

  links_bound : {d : ℕ} {ls ms : Links} {ts us : List Token} → IsLinks d ls ts ms us →
      links_size 150 ms + 201 * weight us ≤ links_size 150 ls + 201 * weight ts
  links_bound links_end = omega arith
  links_bound (links_operator {ls = ls} {op = op} {b = b} e c t) =
      let p = binary_bound c in let q = links_bound t in omega (arith, and_link_size 150 ls op b)
  links_bound (links_not_in {ls = ls} {b = b} c t) =
      let p = binary_bound c in let q = links_bound t in omega (arith, and_link_size 150 ls comparisons.NotIn b)

  power_bound : {d : ℕ} {ts us : List Token} {e : Expression} → IsPower d ts e us →
      expression_size 150 e + 201 * weight us ≤ 201 * weight ts
  power_bound (no_power f) = filtered_bound f
  power_bound (power f p) = let q = filtered_bound f in let r = power_bound p in omega arith

  filtered_bound : {d : ℕ} {ts us : List Token} {e : Expression} → IsFiltered d ts e us →
      expression_size 150 e + 201 * weight us ≤ 201 * weight ts
  filtered_bound (filtered_value u f) = let p = unary_bound u in let q = filters_bound f in omega arith

  filters_bound : {d : ℕ} {a e : Expression} {ts us : List Token} → IsFilters d a ts e us →
      expression_size 150 e + 201 * weight us ≤ expression_size 150 a + 201 * weight ts
  filters_bound filters_end = omega arith
  filters_bound (filters_more f t) = let p = filter_parts_bound f in let q = filters_bound t in omega arith

  filter_parts_bound : {d : ℕ} {a e : Expression} {ts us : List Token} → IsFilterParts d a ts e us →
      expression_size 150 e + 201 * weight us ≤ expression_size 150 a + 201 * weight ts
  filter_parts_bound (filter_parts f p) = let q = filter_bound f in let r = parts_bound p in omega arith
  filter_parts_bound (is_test e t) = let p = test_bound t in omega arith
  filter_parts_bound (is_not_test t) = let p = test_bound t in omega arith

  pub filter_bound : {d : ℕ} {value : Optional} {e : Expression} {ts us : List Token} → IsFilter d value ts e us →
      expression_size 150 e + 201 * weight us ≤ optional_size 150 value + 201 * weight ts
  filter_bound (filter n l) = let p = name_weighs n in let q = optional_arguments_bound l in omega arith

  test_bound : {d : ℕ} {negated : Bool} {a e : Expression} {ts us : List Token} → IsTest d negated a ts e us →
      expression_size 150 e + 201 * weight us ≤ expression_size 150 a + 201 * weight ts
  test_bound (test {negated = negated} {a = a} {n = n} {args = args} m e l p) =
      let q = name_weighs m in let r = optional_arguments_bound l in let s = parts_bound p in omega (arith, tested_size 150 negated n a args)
  test_bound (bare_test {negated = negated} {a = a} {b = b} {n = n} m e u f) =
      let q = name_weighs m in let r = unary_bound u in
      omega (arith, tested_size 150 negated n a (arguments_more (positional b) no_arguments), ap (expression_size 150) f)

  unary_bound : {d : ℕ} {ts us : List Token} {e : Expression} → IsUnary d ts e us →
      expression_size 150 e + 201 * weight us ≤ 201 * weight ts
  unary_bound (minus_sign u) = let p = unary_bound u in omega arith
  unary_bound (primary a p) = let q = primary_bound a in let r = parts_bound p in omega arith

  parts_bound : {d : ℕ} {a e : Expression} {ts us : List Token} → IsParts d a ts e us →
      expression_size 150 e + 201 * weight us ≤ expression_size 150 a + 201 * weight ts
  parts_bound parts_end = omega arith
  parts_bound (parts_more a p) = let q = part_bound a in let r = parts_bound p in omega arith

  part_bound : {d : ℕ} {a e : Expression} {ts us : List Token} → IsPart d a ts e us →
      expression_size 150 e + 201 * weight us ≤ expression_size 150 a + 201 * weight ts
  part_bound attribute_part = omega arith
  part_bound number_part = omega arith
  part_bound (subscript_part s) = let p = subscript_bound s in omega arith
  part_bound (call_part l) = let p = argument_list_bound l in omega arith

  subscript_bound : {d : ℕ} {a e : Expression} {ts us : List Token} → IsSubscript d a ts e us →
      expression_size 150 e + 201 * weight us ≤ expression_size 150 a + 201 * weight ts
  subscript_bound (item_subscript e) = let p = expression_bound e in omega arith
  subscript_bound (slice_subscript a b s) =
      let p = start_bound a in let q = start_bound b in let r = step_bound s in omega arith

  start_bound : {d : ℕ} {o : Optional} {ts us : List Token} → IsBound d ts o us →
      optional_size 150 o + 201 * weight us ≤ suc (201 * weight ts)
  start_bound no_bound = omega arith
  start_bound (a_bound e) = let p = expression_bound e in omega arith

  step_bound : {d : ℕ} {o : Optional} {ts us : List Token} → IsStep d ts o us →
      optional_size 150 o + 201 * weight us ≤ suc (201 * weight ts)
  step_bound no_step = omega arith
  step_bound (a_step b) = let p = start_bound b in omega arith

  primary_bound : {d : ℕ} {ts us : List Token} {e : Expression} → IsPrimary d ts e us →
      expression_size 150 e + 201 * weight us ≤ 201 * weight ts
  primary_bound (name_primary e) = omega arith
  primary_bound (word_primary e) = omega arith
  primary_bound number_primary = omega arith
  primary_bound (text_primary t) = let p = texts_weigh t in omega arith
  primary_bound (paren_primary e) = let p = paren_bound e in omega arith
  primary_bound (list_primary i) = let p = items_bound i in omega arith
  primary_bound (map_primary i e) = let p = pairs_bound i in omega (arith, ap (expression_size 150) e)

  paren_bound : {d : ℕ} {ts us : List Token} {e : Expression} → IsParen d ts e us →
      expression_size 150 e + 201 * weight us ≤ 201 * weight ts
  paren_bound empty_tuple = omega arith
  paren_bound (in_parens e) = let p = expression_bound e in omega arith
  paren_bound (tuple e i) = let p = expression_bound e in let q = items_bound i in omega arith

  items_bound : {d : ℕ} {es fs : Expressions} {ts us : List Token} → IsItems d es ts fs us →
      expressions_size 150 fs + 201 * weight us ≤ expressions_size 150 es + 201 * weight ts
  items_bound items_end = omega arith
  items_bound (items_last {e = e} {es = es} h f) =
      let p = expression_bound h in omega (arith, and_expression_size 150 es e, ap (expressions_size 150) f)
  items_bound (items_more {e = e} {es = es} h i) =
      let p = expression_bound h in let q = items_bound i in omega (arith, and_expression_size 150 es e)

  pairs_bound : {d : ℕ} {p q : Paired} {ts us : List Token} → IsPairs d p ts q us →
      expressions_size 150 q.0 + expressions_size 150 q.1 + 201 * weight us ≤ expressions_size 150 p.0 + expressions_size 150 p.1 + 201 * weight ts
  pairs_bound pairs_end = omega arith
  pairs_bound (pairs_last {k = k} {v = v} {p = p} g h f) =
      let a = expression_bound g in let b = expression_bound h in
      omega (arith, and_expression_size 150 p.0 k, and_expression_size 150 p.1 v, ap (λ (r : Paired). expressions_size 150 r.0) f, ap (λ (r : Paired). expressions_size 150 r.1) f)
  pairs_bound (pairs_more {k = k} {v = v} {p = p} g h i) =
      let a = expression_bound g in let b = expression_bound h in let c = pairs_bound i in
      omega (arith, and_expression_size 150 p.0 k, and_expression_size 150 p.1 v)

  -- behind a filter or a test
  optional_arguments_bound : {d : ℕ} {args : Arguments} {ts us : List Token} → IsOptionalArguments d ts args us →
      arguments_size 150 args + 201 * weight us ≤ 201 * weight ts
  optional_arguments_bound (no_list e) = omega arith
  optional_arguments_bound (a_list l) = let p = argument_list_bound l in omega arith

  argument_list_bound : {d : ℕ} {args : Arguments} {ts us : List Token} → IsArgumentList d ts args us →
      arguments_size 150 args + 201 * weight us ≤ 201 * weight ts
  argument_list_bound (argument_list {w = w} l e f) =
      let p = arguments_bound l in omega (arith, followed_size 150 w.0 w.1, ap (arguments_size 150) e)

  arguments_bound : {d : ℕ} {w x : Written} {ts us : List Token} → IsArguments d w ts x us →
      written_size 150 x + 201 * weight us ≤ written_size 150 w + 201 * weight ts
  arguments_bound arguments_end = omega arith
  arguments_bound (arguments_last {a = a} {w = w} h f) =
      let p = argument_bound h in omega (arith, and_written_size 150 w a, ap (written_size 150) f)
  arguments_bound (arguments_next {a = a} {w = w} h i) =
      let p = argument_bound h in let q = arguments_bound i in omega (arith, and_written_size 150 w a)

  argument_bound : {d : ℕ} {a : Argument} {ts us : List Token} → IsArgument d ts a us →
      argument_size 150 a + 201 * weight us ≤ 201 * weight ts
  argument_bound (positional_argument e) = let p = expression_bound e in omega arith
  argument_bound (keyword_argument e) = let p = expression_bound e in omega arith
  argument_bound (spread_argument e) = let p = expression_bound e in omega arith
  argument_bound (keyword_spread_argument e) = let p = expression_bound e in omega arith
