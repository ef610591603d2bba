-- What stands behind a tree is shorter than the tokens from it on.
use Rattle.std.proofs.Common.{◌<◌, ◌≤◌, ℕ, Bool, List, length, arith}
use Rattle.template_compiler_tree.specs.Tree.{Expression, Optional, Expressions, Links, Arguments, Argument}
use Rattle.template_compiler_tokens.specs.Token.{Token}
use Rattle.template_compiler_grammar.specs.Words.{Level}
use Rattle.template_compiler_grammar.specs.Trees.{Paired, Written}
use Rattle.template_compiler_grammar.specs.Grammar.{IsNameTail, name_end, name_more, IsName, name, IsTexts, texts_end, texts_more, IsExpression, unconditional, if_alone, if_else, IsBinary, operands, IsOperands, operands_end, operands_more, IsOperand, factor, text_operand, term, conjunct, disjunct, IsNegation, negation, no_negation, IsComparison, comparison, IsLinks, links_end, links_operator, links_not_in, IsPower, no_power, power, IsFiltered, filtered_value, IsFilters, filters_end, filters_more, IsFilterParts, filter_parts, is_test, is_not_test, IsFilter, filter, IsTest, test, bare_test, IsOptionalArguments, no_list, a_list, IsUnary, minus_sign, primary, IsParts, parts_end, parts_more, IsPart, attribute_part, number_part, subscript_part, call_part, IsSubscript, item_subscript, slice_subscript, IsBound, no_bound, a_bound, IsStep, no_step, a_step, IsPrimary, name_primary, word_primary, number_primary, text_primary, paren_primary, list_primary, map_primary, IsParen, empty_tuple, in_parens, tuple, IsItems, items_end, items_last, items_more, IsPairs, pairs_end, pairs_last, pairs_more, IsArgumentList, argument_list, IsArguments, arguments_end, arguments_last, arguments_next, IsArgument, positional_argument, keyword_argument, spread_argument, keyword_spread_argument}

pub name_tail_within : {n m : List ℕ} {ts us : List Token} → IsNameTail n ts m us → length us ≤ length ts
name_tail_within (name_end e) = omega arith
name_tail_within (name_more t) = let p = name_tail_within t in omega arith

pub name_shrinks : {n : List ℕ} {ts us : List Token} → IsName ts n us → length us < length ts
name_shrinks (name t) = let p = name_tail_within t in omega arith

pub texts_within : {s all : List ℕ} {ts us : List Token} → IsTexts s ts all us → length us ≤ length ts
texts_within texts_end = omega arith
texts_within (texts_more t) = let p = texts_within t in omega arith

mutual
  pub expression_shrinks : {d : ℕ} {ts us : List Token} {e : Expression} → IsExpression d ts e us → length us < length ts
  expression_shrinks (unconditional b) = binary_shrinks b
  expression_shrinks (if_alone a c) = let p = binary_shrinks a in let q = binary_shrinks c in omega arith
  expression_shrinks (if_else a c b) =
      let p = binary_shrinks a in let q = binary_shrinks c in let r = expression_shrinks b in omega arith

  pub binary_shrinks : {d : ℕ} {k : Level} {ts us : List Token} {e : Expression} → IsBinary d k ts e us → length us < length ts
  binary_shrinks (operands o t) = let p = operand_shrinks o in let q = operands_within t in omega arith

  pub operands_within : {d : ℕ} {k : Level} {ts us : List Token} {a e : Expression} → IsOperands d k a ts e us → length us ≤ length ts
  operands_within operands_end = omega arith
  operands_within (operands_more o b t) = let p = operand_shrinks b in let q = operands_within t in omega arith

  pub operand_shrinks : {d : ℕ} {k : Level} {ts us : List Token} {e : Expression} → IsOperand d k ts e us → length us < length ts
  operand_shrinks (factor p) = power_shrinks p
  operand_shrinks (text_operand b) = binary_shrinks b
  operand_shrinks (term b) = binary_shrinks b
  operand_shrinks (conjunct n) = negation_shrinks n
  operand_shrinks (disjunct b) = binary_shrinks b

  pub negation_shrinks : {d : ℕ} {ts us : List Token} {e : Expression} → IsNegation d ts e us → length us < length ts
  negation_shrinks (negation n) = let p = negation_shrinks n in omega arith
  negation_shrinks (no_negation e c) = comparison_shrinks c

  pub comparison_shrinks : {d : ℕ} {ts us : List Token} {e : Expression} → IsComparison d ts e us → length us < length ts
  comparison_shrinks (comparison b t e) = let p = binary_shrinks b in let q = links_within t in omega arith

  pub links_within : {d : ℕ} {ls ms : Links} {ts us : List Token} → IsLinks d ls ts ms us → length us ≤ length ts
  links_within links_end = omega arith
  links_within (links_operator e b t) = let p = binary_shrinks b in let q = links_within t in omega arith
  links_within (links_not_in b t) = let p = binary_shrinks b in let q = links_within t in omega arith

  pub power_shrinks : {d : ℕ} {ts us : List Token} {e : Expression} → IsPower d ts e us → length us < length ts
  power_shrinks (no_power f) = filtered_shrinks f
  power_shrinks (power f p) = let q = filtered_shrinks f in let r = power_shrinks p in omega arith

  pub filtered_shrinks : {d : ℕ} {ts us : List Token} {e : Expression} → IsFiltered d ts e us → length us < length ts
  filtered_shrinks (filtered_value u f) = let p = unary_shrinks u in let q = filters_within f in omega arith

  pub filters_within : {d : ℕ} {a e : Expression} {ts us : List Token} → IsFilters d a ts e us → length us ≤ length ts
  filters_within filters_end = omega arith
  filters_within (filters_more f t) = let p = filter_parts_shrinks f in let q = filters_within t in omega arith

  pub filter_parts_shrinks : {d : ℕ} {a e : Expression} {ts us : List Token} → IsFilterParts d a ts e us → length us < length ts
  filter_parts_shrinks (filter_parts f p) = let q = filter_shrinks f in let r = parts_within p in omega arith
  filter_parts_shrinks (is_test e t) = let p = test_shrinks t in omega arith
  filter_parts_shrinks (is_not_test t) = let p = test_shrinks t in omega arith

  pub filter_shrinks : {d : ℕ} {value : Optional} {e : Expression} {ts us : List Token} → IsFilter d value ts e us → length us < length ts
  filter_shrinks (filter n l) = let p = name_shrinks n in let q = optional_arguments_within l in omega arith

  pub test_shrinks : {d : ℕ} {negated : Bool} {a e : Expression} {ts us : List Token} → IsTest d negated a ts e us → length us < length ts
  test_shrinks (test n e l p) =
      let q = name_shrinks n in let r = optional_arguments_within l in let s = parts_within p in omega arith
  test_shrinks (bare_test n e u f) = let q = name_shrinks n in let r = unary_shrinks u in omega arith

  pub optional_arguments_within : {d : ℕ} {args : Arguments} {ts us : List Token} → IsOptionalArguments d ts args us → length us ≤ length ts
  optional_arguments_within (no_list e) = omega arith
  optional_arguments_within (a_list l) = let p = argument_list_shrinks l in omega arith

  pub unary_shrinks : {d : ℕ} {ts us : List Token} {e : Expression} → IsUnary d ts e us → length us < length ts
  unary_shrinks (minus_sign u) = let p = unary_shrinks u in omega arith
  unary_shrinks (primary a p) = let q = primary_shrinks a in let r = parts_within p in omega arith

  pub parts_within : {d : ℕ} {a e : Expression} {ts us : List Token} → IsParts d a ts e us → length us ≤ length ts
  parts_within parts_end = omega arith
  parts_within (parts_more a p) = let q = part_shrinks a in let r = parts_within p in omega arith

  pub part_shrinks : {d : ℕ} {a e : Expression} {ts us : List Token} → IsPart d a ts e us → length us < length ts
  part_shrinks attribute_part = omega arith
  part_shrinks number_part = omega arith
  part_shrinks (subscript_part s) = let p = subscript_shrinks s in omega arith
  part_shrinks (call_part l) = let p = argument_list_shrinks l in omega arith

  pub subscript_shrinks : {d : ℕ} {a e : Expression} {ts us : List Token} → IsSubscript d a ts e us → length us < length ts
  subscript_shrinks (item_subscript e) = let p = expression_shrinks e in omega arith
  subscript_shrinks (slice_subscript a b s) =
      let p = bound_within a in let q = bound_within b in let r = step_within s in omega arith

  pub bound_within : {d : ℕ} {o : Optional} {ts us : List Token} → IsBound d ts o us → length us ≤ length ts
  bound_within no_bound = omega arith
  bound_within (a_bound e) = let p = expression_shrinks e in omega arith

  pub step_within : {d : ℕ} {o : Optional} {ts us : List Token} → IsStep d ts o us → length us ≤ length ts
  step_within no_step = omega arith
  step_within (a_step b) = let p = bound_within b in omega arith

  pub primary_shrinks : {d : ℕ} {ts us : List Token} {e : Expression} → IsPrimary d ts e us → length us < length ts
  primary_shrinks (name_primary e) = omega arith
  primary_shrinks (word_primary e) = omega arith
  primary_shrinks number_primary = omega arith
  primary_shrinks (text_primary t) = let p = texts_within t in omega arith
  primary_shrinks (paren_primary e) = let p = paren_shrinks e in omega arith
  primary_shrinks (list_primary i) = let p = items_within i in omega arith
  primary_shrinks (map_primary i e) = let p = pairs_within i in omega arith

  pub paren_shrinks : {d : ℕ} {ts us : List Token} {e : Expression} → IsParen d ts e us → length us < length ts
  paren_shrinks empty_tuple = omega arith
  paren_shrinks (in_parens e) = let p = expression_shrinks e in omega arith
  paren_shrinks (tuple e i) = let p = expression_shrinks e in let q = items_within i in omega arith

  pub items_within : {d : ℕ} {es fs : Expressions} {ts us : List Token} → IsItems d es ts fs us → length us ≤ length ts
  items_within items_end = omega arith
  items_within (items_last e f) = let p = expression_shrinks e in omega arith
  items_within (items_more e i) = let p = expression_shrinks e in let q = items_within i in omega arith

  pub pairs_within : {d : ℕ} {p q : Paired} {ts us : List Token} → IsPairs d p ts q us → length us ≤ length ts
  pairs_within pairs_end = omega arith
  pairs_within (pairs_last k v f) = let p = expression_shrinks k in let q = expression_shrinks v in omega arith
  pairs_within (pairs_more k v i) =
      let p = expression_shrinks k in let q = expression_shrinks v in let r = pairs_within i in omega arith

  pub argument_list_shrinks : {d : ℕ} {args : Arguments} {ts us : List Token} → IsArgumentList d ts args us → length us < length ts
  argument_list_shrinks (argument_list l e f) = let p = arguments_within l in omega arith

  pub arguments_within : {d : ℕ} {w x : Written} {ts us : List Token} → IsArguments d w ts x us → length us ≤ length ts
  arguments_within arguments_end = omega arith
  arguments_within (arguments_last a f) = let p = argument_shrinks a in omega arith
  arguments_within (arguments_next a i) = let p = argument_shrinks a in let q = arguments_within i in omega arith

  pub argument_shrinks : {d : ℕ} {a : Argument} {ts us : List Token} → IsArgument d ts a us → length us < length ts
  argument_shrinks (positional_argument e) = expression_shrinks e
  argument_shrinks (keyword_argument e) = let p = expression_shrinks e in omega arith
  argument_shrinks (spread_argument e) = let p = expression_shrinks e in omega arith
  argument_shrinks (keyword_spread_argument e) = let p = expression_shrinks e in omega arith
