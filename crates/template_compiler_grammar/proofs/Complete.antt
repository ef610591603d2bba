-- What the grammar reads is read with the places that the grammar has for it.
use Rattle.std.proofs.Common.{◌≡◌, ℕ, zero, suc, ◌≤◌, Bool, true, false, if◌then◌else◌, List, [], ◌∷◌, codes, Option, Some, Ok, Err, refl, sym, ◌∙◌, ap, arith, lit<, lit≤}
use Rattle.std.specs.Prelude.{nat_le}
use Rattle.std.proofs.lemmas.Bool.Decides.{nat_tests}
use Rattle.template_values_model.specs.Val.{Val}
use Rattle.template_compiler_tree.specs.declared.span.Span.{Span}
use Rattle.template_compiler_tree.specs.declared.operators.UnaryOpKind.TheVariants as unaries
use Rattle.template_compiler_tree.specs.declared.operators.BinOpKind.{BinOpKind}
use Rattle.template_compiler_tree.specs.declared.operators.CompareOpKind.{CompareOpKind}
use Rattle.template_compiler_tree.specs.declared.operators.CompareOpKind.TheVariants as comparisons
use Rattle.template_compiler_tree.specs.Tree.{Expression, unary, Optional, Expressions, Links, Arguments, Argument, positional}
use Rattle.template_compiler_tree.specs.NodePlaces.{Places, Parts, no_parts, one}
use Rattle.template_compiler_tokens.specs.Places.{stretch, next_span}
use Rattle.template_compiler_tokens.specs.Token.{Token, bad_syntax, identifier, symbol, assign, mul, pow, paren_open, pipe}
use Rattle.template_compiler_tokens.specs.Steps.{Read, goes, stops, and_then, under, goes_on, many, all}
use Rattle.template_compiler_tokens.proofs.Loops.{then_goes, then_fails, under_goes, Loops, loop_stops, loop_stops_at, loop_goes, all_of}
use Rattle.template_compiler_tokens.proofs.Readings.{ok_rest}
use Rattle.template_compiler_grammar.specs.Words.{is_word, word_not, word_in, begins_bare, literal_word, Level, disjunction, operator, comparison_operator}
use Rattle.template_compiler_grammar.specs.Trees.{Paired, Written, argument_count, in_order}
use Rattle.template_compiler_grammar.specs.Ends.{Behind}
use Rattle.template_compiler_grammar.specs.Grammar.{IsNameTail, name_end, name_more, IsName, name, IsTexts, texts_end, texts_more, IsExpression, unconditional, if_alone, if_else, IsBinary, operands, IsOperands, operands_end, operands_more, IsOperand, factor, text_operand, term, conjunct, disjunct, IsNegation, negation, no_negation, IsComparison, comparison, IsLinks, links_end, links_operator, links_not_in, IsPower, no_power, power, IsFiltered, filtered_value, IsFilters, filters_end, filters_more, IsFilterParts, filter_parts, is_test, is_not_test, IsFilter, filter, IsTest, test, bare_test, IsOptionalArguments, no_list, a_list, IsUnary, minus_sign, primary, IsParts, parts_end, parts_more, IsPart, attribute_part, number_part, subscript_part, call_part, IsSubscript, item_subscript, slice_subscript, IsBound, no_bound, a_bound, IsStep, no_step, a_step, IsPrimary, name_primary, word_primary, number_primary, text_primary, paren_primary, list_primary, map_primary, IsParen, empty_tuple, in_parens, tuple, IsItems, items_end, items_last, items_more, IsPairs, pairs_end, pairs_last, pairs_more, IsArgumentList, argument_list, IsArguments, arguments_end, arguments_last, arguments_next, IsArgument, positional_argument, keyword_argument, spread_argument, keyword_spread_argument, IsFilterChain, chain_end, chain_more}
use Rattle.template_compiler_grammar.specs.ReaderParts.{dotted_step, name_of, text_step, paren_end, bracket_end, brace_end, colon_end, separated, word_tree, begins_closing, begins_bound_end}
use Rattle.template_compiler_grammar.proofs.Ranks.{weaker, level_rank, operand_rank, operand-le, operator_rank, comparison_rank}
use Rattle.template_compiler_grammar.proofs.Opens.{begins_opener, expression_opens}
use Rattle.template_compiler_grammar.proofs.Shrinks as shrinks
use Rattle.template_compiler_grammar.specs.DerivedNodes.{and_place, PairedPlaces, and_pair_place, WrittenPlaces, and_written_place, compared_at}
use Rattle.template_compiler_grammar.specs.DerivedExpressions.{expression_places, binary_places, operands_places, operand_places, negation_places, comparison_places, links_places, power_places, filtered_places, filters_places, filter_parts_places, filter_places, test_places, optional_places, unary_places, parts_places, part_places, subscript_places, bound_places, step_places, primary_places, paren_places, items_places, pairs_places, argument_list_places, arguments_places, argument_places}
use Rattle.template_compiler_grammar.specs.DerivedParts.{chain_places}
use Rattle.template_compiler_grammar.specs.Nodes.{placed, Node, node, OptionalNode, PlacedLinks, and_placed_link, PlacedArguments, PlacedWritten, placed_in_order, bare_argument, binary_node, tested_node}
use Rattle.template_compiler_grammar.specs.Reader.{Deeper, deeper, up_to, expression_by, primary_by, dot_part, part_step, parts_by, unary_by, optional_arguments_by, filter_by, test_arguments_by, test_by, is_by, filter_step, filtered_by, power_behind, power_by, operand_behind, operand_step, binary_of, terms_by, not_in_link, link_behind, link_step, comparison_by, negation_by, operand_by, binary_by, else_behind, if_behind, items_by, items_step, pairs_step, arguments_step, pairs_by, paren_behind, paren_by, list_by, map_by, bound_by, step_by, slice_by, item_by, subscript_behind, subscript_by, named_argument, argument_by, few_arguments, arguments_by, chain_step, filter_chain_by, expression_at, condition_at, filter_at, filter_chain_at}
use Rattle.template_compiler_grammar.proofs.Stops.{dotted_stops, texts_stop, begins_closing_behind, opener_closing, argument_closing, closing_bound, bound_end_behind, separated_last, unless_closed, unless_open, parts_stop, filters_stop, powers_stop, operands_stop, links_stop, if_stops, else_stops, no_negation_by, no_negated_test, no_arguments_by, paren_open_by, bound_left_out, bound_read_by, step_left_out}

name_tail_read : {n m : List ℕ} {ts us : List Token} → IsNameTail n ts m us → Loops dotted_step n ts (Ok (m, us))
unfolding dotted_step
name_tail_read (name_end {n = n} {ts = ts} e) = loop_stops (dotted_stops n ts e)
name_tail_read (name_more t) = loop_goes refl (omega arith) (name_tail_read t)

name_read : {n : List ℕ} {ts us : List Token} → IsName ts n us → name_of ts ≡ Ok (n, us)
unfolding name_of
name_read (name t) = all_of (name_tail_read t)

texts_read : {s all : List ℕ} {ts us : List Token} → IsTexts s ts all us → Behind 0 us → Loops text_step s ts (Ok (all, us))
unfolding text_step
texts_read (texts_end {s = s} {ts = ts}) h = loop_stops (texts_stop s ts h)
texts_read (texts_more t) h = loop_goes refl (omega arith) (texts_read t h)

abbrev begins_assign : List Token → Bool
begins_assign (symbol assign ∷ ts) = true
begins_assign _ = false

closing_assign : (ts : List Token) → begins_closing ts ≡ true → begins_assign ts ≡ false
closing_assign (symbol assign ∷ ts) h = cc
closing_assign _ h = refl

-- what repetitions begin with
operands_front : {d : ℕ} {k : Level} {ts us : List Token} {a e : Expression} → IsOperands d k a ts e us → Behind (level_rank k) us →
    Behind (operand_rank k) ts
operands_front (operands_end {k = k} {ts = ts}) h = let l = operand-le k in weaker (operand_rank k) (level_rank k) ts (omega arith) h
operands_front (operands_more {k = k} {t = t} {op = op} o b f) h =
    let same = operator_rank k t op o in let l = operand-le k in omega arith

links_front : {d : ℕ} {ls ms : Links} {ts us : List Token} → IsLinks d ls ts ms us → Behind 7 us → Behind 6 ts
links_front (links_end {ts = ts}) h = weaker 6 7 ts (lit≤ tt) h
links_front (links_operator {t = t} {op = op} o b f) h = let same = comparison_rank t op o in omega arith
links_front (links_not_in b f) h = lit< tt

filters_front : {d : ℕ} {a e : Expression} {ts us : List Token} → IsFilters d a ts e us → Behind 2 us → Behind 1 ts
filters_front (filters_end {ts = ts}) h = weaker 1 2 ts (lit≤ tt) h
filters_front (filters_more (filter_parts f p) t) h = lit< tt
filters_front (filters_more (is_test f p) t) h = lit< tt
filters_front (filters_more (is_not_test f) t) h = lit< tt

parts_front : {d : ℕ} {a e : Expression} {ts us : List Token} → IsParts d a ts e us → Behind 1 us → Behind 0 ts
parts_front (parts_end {ts = ts}) h = weaker 0 1 ts (lit≤ tt) h
parts_front (parts_more attribute_part p) h = lit< tt
parts_front (parts_more number_part p) h = lit< tt
parts_front (parts_more (subscript_part s) p) h = lit< tt
parts_front (parts_more (call_part l) p) h = lit< tt

step_front : {d : ℕ} {o : Optional} {ts us : List Token} → IsStep d ts o us → begins_closing us ≡ true → begins_bound_end ts ≡ true
step_front (no_step {ts = ts}) h = closing_bound ts h
step_front (a_step b) h = refl

module _ (spans : List Span) where
  -- a word or an operator in front
  word_literal : (n : List ℕ) (o : Option Val) → literal_word n ≡ o → (r : Deeper) (ts : List Token) →
      primary_by spans r (identifier n ∷ ts) ≡ Ok (node (word_tree o n) (next_span spans (identifier n ∷ ts)) no_parts, ts)
  unfolding primary_by
  word_literal n o e r ts = ap (λ v. Ok (node (word_tree v n) (next_span spans (identifier n ∷ ts)) no_parts, ts)) e

  operator_goes : (k : Level) (t : Token) (op : BinOpKind) (read : List Token → Read Node) (start : Span) (a b : Node)
      (ts us : List Token) →
      operator k t ≡ Some op → read ts ≡ Ok (b, us) → operand_step spans k read start a (t ∷ ts) ≡
      goes (binary_node op a b (up_to spans start us)) us
  unfolding operand_step operand_behind
  operator_goes k t op read start a b ts us e f = ap (λ o. operand_behind spans o read start a ts) e ∙ under_goes _ f refl

  comparison_goes : (t : Token) (op : CompareOpKind) (read : List Token → Read Node) (ls : PlacedLinks) (b : Node) (ts us : List Token) →
      comparison_operator t ≡ Some op → read ts ≡ Ok (b, us) → link_step spans read ls (t ∷ ts) ≡ goes (and_placed_link ls op b) us
  unfolding link_step link_behind
  comparison_goes t op read ls b ts us e f =
      ap (λ o. link_behind spans o (is_word (codes "not") t) read ls ts) e ∙ under_goes _ f refl

  not_in_goes : (read : List Token → Read Node) (ls : PlacedLinks) (b : Node) (ts us : List Token) →
      read ts ≡ Ok (b, us) → link_step spans read ls (word_not ∷ word_in ∷ ts) ≡ goes (and_placed_link ls comparisons.NotIn b) us
  unfolding link_step link_behind not_in_link
  not_in_goes read ls b ts us f = under_goes _ f refl

  -- what a test makes of its name and what stands behind it
  bare_goes : (r : Deeper) (negated : Bool) (start : Span) (a b : Node) (n : List ℕ) (ts us vs : List Token) →
      name_of ts ≡ Ok (n, us) → begins_bare us ≡ true → unary_by spans r us ≡ Ok (b, vs) →
      test_by spans r negated start a ts ≡ Ok (tested_node negated n a (bare_argument b) (up_to spans start vs), vs)
  unfolding test_by test_arguments_by
  bare_goes r negated start a b n ts us vs e f g =
      then_goes _ e (ap (λ t. test_arguments_by spans r t negated start a n us) f ∙ then_goes _ g refl)

  test_goes : (r : Deeper) (negated : Bool) (start : Span) (a e : Node) (n : List ℕ) (args : PlacedArguments) (ts us vs ws : List Token) →
      name_of ts ≡ Ok (n, us) → begins_bare us ≡ false → optional_arguments_by spans r us ≡ Ok (args, vs) →
      parts_by spans r start (tested_node negated n a args (up_to spans start vs)) vs ≡ Ok (e, ws) →
      test_by spans r negated start a ts ≡ Ok (e, ws)
  unfolding test_by test_arguments_by
  test_goes r negated start a e n args ts us vs ws x f g h =
      then_goes _ x (ap (λ t. test_arguments_by spans r t negated start a n us) f ∙ then_goes _ g h)

  -- a primary begins no minus
  primary_unary : {d : ℕ} {ts us : List Token} {a : Expression} (r : Deeper) → IsPrimary d ts a us →
      unary_by spans r ts ≡ and_then (primary_by spans r ts) (parts_by spans r (next_span spans ts))
  unfolding unary_by
  primary_unary r (name_primary e) = refl
  primary_unary r (word_primary e) = refl
  primary_unary r number_primary = refl
  primary_unary r (text_primary t) = refl
  primary_unary r (paren_primary e) = refl
  primary_unary r (list_primary i) = refl
  primary_unary r (map_primary i e) = refl

  -- arguments
  few_by : (w : PlacedWritten) (ts : List Token) (b : Bool) → b ≡ true →
      ◌≡◌ {A = Read PlacedArguments} (if b then Ok (placed_in_order w, ts) else Err bad_syntax) (Ok (placed_in_order w, ts))
  few_by w ts true e = refl
  few_by w ts false e = cc

  few_goes : (w : PlacedWritten) (ts : List Token) {args : Arguments} → args ≡ in_order w.tree → argument_count args ≤ 2000 →
      few_arguments spans w ts ≡ Ok (placed args (placed_in_order w).places, ts)
  unfolding few_arguments
  few_goes w ts {args = args} e l =
      let within : argument_count (in_order w.tree) ≤ 2000 = rw e at l in
      let few : nat_le (argument_count (in_order w.tree)) 2000 ≡ true = grind (arith, nat_tests) in
      few_by w ts (nat_le (argument_count (in_order w.tree)) 2000) few ∙ ap (λ a. Ok (placed a (placed_in_order w).places, ts)) (sym e)

  -- before `=` an identifier is read alone
  identifier_alone : (r : Deeper) (n : List ℕ) (vs : List Token) → is_word (codes "not") (identifier n) ≡ false →
      expression_by spans r (identifier n ∷ symbol assign ∷ vs) ≡
      Ok (
        node (word_tree (literal_word n) n) (next_span spans (identifier n ∷ symbol assign ∷ vs)) no_parts,
        symbol assign ∷ vs,
      )
  unfolding and_then under goes_on many all expression_by binary_by operand_by binary_of operand_step operand_behind if_behind comparison_by terms_by link_step link_behind power_by power_behind filtered_by filter_step parts_by part_step primary_by unary_by
  identifier_alone r n vs h =
      then_goes _ (then_goes _ (then_goes _ (no_negation_by spans r (identifier n ∷ symbol assign ∷ vs) h ∙ refl) refl) refl) refl

  no_sign_read : (d : ℕ) (vs : List Token) → (deeper spans d).negation (symbol assign ∷ vs) ≡ Err bad_syntax
  unfolding deeper and_then negation_by binary_of comparison_by terms_by power_by filtered_by primary_by unary_by
  no_sign_read zero vs = refl
  no_sign_read (suc d) vs = refl

  negation_alone : (d : ℕ) (n : List ℕ) (vs : List Token) → is_word (codes "not") (identifier n) ≡ true →
      expression_by spans (deeper spans d) (identifier n ∷ symbol assign ∷ vs) ≡ Err bad_syntax
  unfolding expression_by binary_by operand_by binary_of negation_by
  negation_alone d n vs h =
      then_fails _ (then_fails _ (then_fails _ (
      ap (λ b. if b then and_then ((deeper spans d).negation (symbol assign ∷ vs))
      (λ e us. Ok (node (unary unaries.Not e.tree) (stretch spans (identifier n ∷ symbol assign ∷ vs) us) (one e.places), us))
      else comparison_by spans (deeper spans d) (identifier n ∷ symbol assign ∷ vs)) h ∙
      then_fails _ (no_sign_read d vs))))

  named_alone_by : (d : ℕ) (n : List ℕ) (vs us : List Token) (e : Node) (b : Bool) → is_word (codes "not") (identifier n) ≡ b →
      expression_by spans (deeper spans d) (identifier n ∷ symbol assign ∷ vs) ≡ Ok (e, us) → begins_assign us ≡ true
  named_alone_by d n vs us e true h f = let g = negation_alone d n vs h in cc
  named_alone_by d n vs us e false h f =
      let g = sym (identifier_alone (deeper spans d) n vs h) ∙ f in sym (ap begins_assign (ok_rest g))

  named_alone : (d : ℕ) (n : List ℕ) (vs us : List Token) (e : Node) →
      expression_by spans (deeper spans d) (identifier n ∷ symbol assign ∷ vs) ≡ Ok (e, us) → begins_assign us ≡ true
  named_alone d n vs us e f = named_alone_by d n vs us e (is_word (codes "not") (identifier n)) refl f

  positional_goes : (d : ℕ) (e : Node) (ts us : List Token) → begins_opener ts ≡ true →
      expression_by spans (deeper spans d) ts ≡ Ok (e, us) → begins_assign us ≡ false →
      argument_by spans (expression_by spans (deeper spans d)) ts ≡ Ok (placed (positional e.tree) e.places, us)
  unfolding argument_by named_argument
  positional_goes d e [] us o f g = cc
  positional_goes d e (identifier n ∷ symbol assign ∷ vs) us o f g = let h = named_alone d n vs us e f in cc
  positional_goes d e (symbol mul ∷ ts) us o f g = cc
  positional_goes d e (symbol pow ∷ ts) us o f g = cc
  positional_goes d e _ us o f g = then_goes _ f refl

  mutual
    unfolding deeper expression_by binary_by operand_by binary_of if_behind else_behind negation_by comparison_by terms_by power_by power_behind filtered_by filter_step is_by filter_by parts_by part_step dot_part subscript_by subscript_behind item_by slice_by step_by paren_by paren_behind list_by map_by pairs_by items_by paren_end bracket_end brace_end colon_end separated argument_by named_argument arguments_by optional_arguments_by few_arguments primary_by unary_by

    pub expression_read : {d : ℕ} {ts us : List Token} {e : Expression} → (read : IsExpression d ts e us) → Behind 10 us →
        expression_by spans (deeper spans d) ts ≡ Ok (placed e (expression_places spans read), us)
    expression_read (unconditional {d = d} {ts = ts} {us = us} b) h =
        then_goes _ (binary_read b (weaker 9 10 us (lit≤ tt) h)) (if_stops spans (deeper spans d) (next_span spans ts) _ us h)
    expression_read (if_alone {d = d} {ts = ts} {vs = vs} b t) h =
        then_goes _ (binary_read b (lit< tt))
        (then_goes _ (binary_read t (weaker 9 10 vs (lit≤ tt) h)) (else_stops spans (deeper spans (suc d)) (next_span spans ts) _ _ vs h))
    expression_read (if_else b t f) h =
        then_goes _ (binary_read b (lit< tt)) (then_goes _ (binary_read t (lit< tt)) (then_goes _ (expression_read f h) refl))

    pub binary_read : {d : ℕ} {k : Level} {ts us : List Token} {e : Expression} → (read : IsBinary d k ts e us) → Behind (level_rank k) us →
        binary_by spans (deeper spans d) k ts ≡ Ok (placed e (binary_places spans read), us)
    binary_read (operands {ts = ts} o t) h = then_goes _ (operand_read o (operands_front t h))
        (all_of (operands_read ts (operand_places spans o) t h))

    operands_read : {d : ℕ} {k : Level} {ts us : List Token} {a e : Expression} (from : List Token) (places : Places) →
        (read : IsOperands d k a ts e us) → Behind (level_rank k) us →
        Loops (operand_step spans k (operand_by spans (deeper spans d) k) (next_span spans from)) (placed a places) ts
        (Ok (placed e (operands_places spans from places read), us))
    operands_read from places (operands_end {d = d} {k = k} {ts = ts}) h =
        loop_stops (operands_stop spans k (operand_by spans (deeper spans d) k) (next_span spans from) _ ts h)
    operands_read from places (operands_more {d = d} {k = k} {t = t} {op = op} {ts = ts} {us = us} o p f) h =
        let l = shrinks.operand_shrinks p in
        loop_goes
        (operator_goes k t op (operand_by spans (deeper spans d) k) (next_span spans from) _ _ ts us o
        (operand_read p (operands_front f h)))
        (omega arith) (operands_read from _ f h)

    operand_read : {d : ℕ} {k : Level} {ts us : List Token} {e : Expression} → (read : IsOperand d k ts e us) → Behind (operand_rank k) us →
        operand_by spans (deeper spans d) k ts ≡ Ok (placed e (operand_places spans read), us)
    operand_read (factor p) h = power_read p h
    operand_read (text_operand b) h = binary_read b h
    operand_read (term b) h = binary_read b h
    operand_read (conjunct n) h = negation_read n h
    operand_read (disjunct b) h = binary_read b h

    negation_read : {d : ℕ} {ts us : List Token} {e : Expression} → (read : IsNegation d ts e us) → Behind 7 us →
        negation_by spans (deeper spans d) ts ≡ Ok (placed e (negation_places spans read), us)
    negation_read (negation n) h = then_goes _ (negation_read n h) refl
    negation_read (no_negation {d = d} {ts = ts} e c) h = no_negation_by spans (deeper spans d) ts e ∙ comparison_read c h

    comparison_read : {d : ℕ} {ts us : List Token} {e : Expression} → (read : IsComparison d ts e us) → Behind 7 us →
        comparison_by spans (deeper spans d) ts ≡ Ok (placed e (comparison_places spans read), us)
    comparison_read (comparison {ts = ts} {vs = vs} {ls = ls} b t e) h =
        then_goes _ (binary_read b (links_front t h)) (then_goes _ (all_of (links_read no_parts t h))
        (ap (λ x. Ok (placed x (compared_at (stretch spans ts vs) (binary_places spans b) ls (links_places spans no_parts t)), vs))
        (sym e)))

    links_read : {d : ℕ} {ls ms : Links} {ts us : List Token} (places : Parts) → (read : IsLinks d ls ts ms us) → Behind 7 us →
        Loops (link_step spans (terms_by spans (deeper spans d))) (placed ls places) ts
        (Ok (placed ms (links_places spans places read), us))
    links_read places (links_end {d = d} {ts = ts}) h = loop_stops (links_stop spans (terms_by spans (deeper spans d)) _ ts h)
    links_read places (links_operator {d = d} {t = t} {op = op} {ts = ts} {us = us} o p f) h =
        let l = shrinks.binary_shrinks p in
        loop_goes (comparison_goes t op (terms_by spans (deeper spans d)) _ _ ts us o (binary_read p (links_front f h))) (omega arith)
        (links_read _ f h)
    links_read places (links_not_in {d = d} {ts = ts} {us = us} p f) h =
        let l = shrinks.binary_shrinks p in
        loop_goes (not_in_goes (terms_by spans (deeper spans d)) _ _ ts us (binary_read p (links_front f h))) (omega arith)
        (links_read _ f h)

    power_read : {d : ℕ} {ts us : List Token} {e : Expression} → (read : IsPower d ts e us) → Behind 3 us →
        power_by spans (deeper spans d) ts ≡ Ok (placed e (power_places spans read), us)
    power_read (no_power {d = d} {ts = ts} {us = us} f) h =
        then_goes _ (filtered_read f (weaker 2 3 us (lit≤ tt) h)) (powers_stop spans (deeper spans d) (next_span spans ts) _ us h)
    power_read (power f p) h = then_goes _ (filtered_read f (lit< tt)) (then_goes _ (power_read p h) refl)

    filtered_read : {d : ℕ} {ts us : List Token} {e : Expression} → (read : IsFiltered d ts e us) → Behind 2 us →
        filtered_by spans (deeper spans d) ts ≡ Ok (placed e (filtered_places spans read), us)
    filtered_read (filtered_value {ts = ts} u f) h =
        then_goes _ (unary_read u (filters_front f h)) (all_of (filters_read ts (unary_places spans u) f h))

    filters_read : {d : ℕ} {a e : Expression} {ts us : List Token} (from : List Token) (places : Places) →
        (read : IsFilters d a ts e us) → Behind 2 us →
        Loops (filter_step spans (deeper spans d) (next_span spans from)) (placed a places) ts
        (Ok (placed e (filters_places spans from places read), us))
    filters_read from places (filters_end {d = d} {ts = ts}) h =
        loop_stops (filters_stop spans (deeper spans d) (next_span spans from) _ ts h)
    filters_read from places (filters_more f t) h =
        loop_goes (filter_parts_read from places f (filters_front t h)) (shrinks.filter_parts_shrinks f) (filters_read from _ t h)

    filter_parts_read : {d : ℕ} {a e : Expression} {ts us : List Token} (from : List Token) (places : Places) →
        (read : IsFilterParts d a ts e us) → Behind 1 us →
        filter_step spans (deeper spans d) (next_span spans from) (placed a places) ts ≡
        goes (placed e (filter_parts_places spans from places read)) us
    filter_parts_read from places (filter_parts f p) h =
        under_goes _ (then_goes _ (filter_read from (one places) f) (all_of (parts_read from _ p h))) refl
    filter_parts_read from places (is_test {d = d} {ts = ts} e t) h =
        under_goes _ (no_negated_test spans (deeper spans d) (next_span spans from) _ ts e ∙ test_read from places t h) refl
    filter_parts_read from places (is_not_test t) h = under_goes _ (test_read from places t h) refl

    pub filter_read : {d : ℕ} {value : Optional} {e : Expression} {ts us : List Token} (from : List Token) (places : Parts) →
        (read : IsFilter d value ts e us) →
        filter_by spans (deeper spans d) (next_span spans from) (placed value places) ts ≡
        Ok (placed e (filter_places spans from places read), us)
    filter_read from places (filter n l) = then_goes _ (name_read n) (then_goes _ (optional_arguments_read l) refl)

    test_read : {d : ℕ} {negated : Bool} {a e : Expression} {ts us : List Token} (from : List Token) (places : Places) →
        (read : IsTest d negated a ts e us) → Behind 1 us →
        test_by spans (deeper spans d) negated (next_span spans from) (placed a places) ts ≡
        Ok (placed e (test_places spans from places read), us)
    test_read from places (test {d = d} {negated = g} {n = n} {ts = ts} {us = us} {vs = vs} {ws = ws} x f l p) h =
        test_goes (deeper spans d) g (next_span spans from) _ _ n _ ts us vs ws (name_read x) f (optional_arguments_read l)
        (all_of (parts_read from _ p h))
    test_read from places (bare_test {d = d} {negated = g} {n = n} {ts = ts} {us = us} {vs = vs} x f u e) h =
        bare_goes (deeper spans d) g (next_span spans from) _ _ n ts us vs (name_read x) f (unary_read u h) ∙
        ap (λ t. Ok (placed t (test_places spans from places (bare_test x f u e)), vs)) (sym e)

    pub optional_arguments_read : {d : ℕ} {args : Arguments} {ts us : List Token} → (read : IsOptionalArguments d ts args us) →
        optional_arguments_by spans (deeper spans d) ts ≡ Ok (placed args (optional_places spans read), us)
    optional_arguments_read (no_list {d = d} {ts = ts} e) = no_arguments_by spans (deeper spans d) ts e
    optional_arguments_read (a_list l) = argument_list_read l

    unary_read : {d : ℕ} {ts us : List Token} {e : Expression} → (read : IsUnary d ts e us) → Behind 1 us →
        unary_by spans (deeper spans d) ts ≡ Ok (placed e (unary_places spans read), us)
    unary_read (minus_sign u) h = then_goes _ (unary_read u h) refl
    unary_read (primary {d = d} {ts = ts} a p) h =
        primary_unary (deeper spans d) a ∙ then_goes _ (primary_read a (parts_front p h))
        (all_of (parts_read ts (primary_places spans a) p h))

    parts_read : {d : ℕ} {a e : Expression} {ts us : List Token} (from : List Token) (places : Places) →
        (read : IsParts d a ts e us) → Behind 1 us →
        Loops (part_step spans (deeper spans d) (next_span spans from)) (placed a places) ts
        (Ok (placed e (parts_places spans from places read), us))
    parts_read from places (parts_end {d = d} {ts = ts}) h = loop_stops (parts_stop spans (deeper spans d) (next_span spans from) _ ts h)
    parts_read from places (parts_more a p) h = loop_goes (part_read from places a) (shrinks.part_shrinks a) (parts_read from _ p h)

    part_read : {d : ℕ} {a e : Expression} {ts us : List Token} (from : List Token) (places : Places) → (read : IsPart d a ts e us) →
        part_step spans (deeper spans d) (next_span spans from) (placed a places) ts ≡
        goes (placed e (part_places spans from places read)) us
    part_read from places attribute_part = refl
    part_read from places number_part = refl
    part_read from places (subscript_part s) = under_goes _ (subscript_read from places s) refl
    part_read from places (call_part l) = under_goes _ (argument_list_read l) refl

    subscript_read : {d : ℕ} {a e : Expression} {ts us : List Token} (from : List Token) (places : Places) →
        (read : IsSubscript d a ts e us) →
        subscript_by spans (expression_by spans (deeper spans d)) (next_span spans from) (placed a places) ts ≡
        Ok (placed e (subscript_places spans from places read), us)
    subscript_read from places (item_subscript {d = d} {ts = ts} e) =
        then_goes _ (bound_read_by spans (expression_by spans (deeper spans d)) ts (expression_opens e) ∙
        then_goes _ (expression_read e (lit< tt)) refl) refl
    subscript_read from places (slice_subscript b c s) =
        then_goes _ (bound_read b refl)
        (then_goes _ (bound_read c (step_front s refl)) (then_goes _ (step_read s refl) refl))

    bound_read : {d : ℕ} {o : Optional} {ts us : List Token} → (read : IsBound d ts o us) → begins_bound_end us ≡ true →
        bound_by spans (expression_by spans (deeper spans d)) ts ≡ Ok (placed o (bound_places spans read), us)
    bound_read (no_bound {d = d} {ts = ts}) h = bound_left_out spans (expression_by spans (deeper spans d)) ts h
    bound_read (a_bound {d = d} {ts = ts} {us = us} e) h =
        bound_read_by spans (expression_by spans (deeper spans d)) ts (expression_opens e) ∙
        then_goes _ (expression_read e (bound_end_behind us h)) refl

    step_read : {d : ℕ} {o : Optional} {ts us : List Token} → (read : IsStep d ts o us) → begins_closing us ≡ true →
        step_by spans (expression_by spans (deeper spans d)) ts ≡ Ok (placed o (step_places spans read), us)
    step_read (no_step {d = d} {ts = ts}) h = step_left_out spans (expression_by spans (deeper spans d)) ts h
    step_read (a_step {us = us} b) h = bound_read b (closing_bound us h)

    primary_read : {d : ℕ} {ts us : List Token} {e : Expression} → (read : IsPrimary d ts e us) → Behind 0 us →
        primary_by spans (deeper spans d) ts ≡ Ok (placed e (primary_places spans read), us)
    primary_read (name_primary {d = d} {n = n} {ts = ts} e) h = word_literal n _ e (deeper spans d) ts
    primary_read (word_primary {d = d} {n = n} {ts = ts} e) h = word_literal n _ e (deeper spans d) ts
    primary_read number_primary h = refl
    primary_read (text_primary t) h = then_goes _ (all_of (texts_read t h)) refl
    primary_read (paren_primary {ts = ts} e) h = paren_read (symbol paren_open ∷ ts) e
    primary_read (list_primary i) h = then_goes _ (all_of (items_read no_parts i refl)) refl
    primary_read (map_primary {us = us} i e) h =
        then_goes _ (all_of (pairs_read (no_parts, no_parts) i refl))
        (ap (λ x. Ok (placed x (primary_places spans (map_primary i e)), us)) (sym e))

    paren_read : {d : ℕ} {ts us : List Token} {e : Expression} (from : List Token) → (read : IsParen d ts e us) →
        paren_by spans (expression_by spans (deeper spans d)) (next_span spans from) ts ≡ Ok (placed e (paren_places spans from read), us)
    paren_read from empty_tuple = refl
    paren_read from (in_parens {d = d} {ts = ts} e) =
        paren_open_by spans (expression_by spans (deeper spans d)) (next_span spans from) ts (expression_opens e) ∙
        then_goes _ (expression_read e (lit< tt)) refl
    paren_read from (tuple {d = d} {ts = ts} e i) =
        paren_open_by spans (expression_by spans (deeper spans d)) (next_span spans from) ts (expression_opens e) ∙
        then_goes _ (expression_read e (lit< tt)) (then_goes _ (all_of (items_read (one (expression_places spans e)) i refl)) refl)

    items_read : {d : ℕ} {es fs : Expressions} {ts us : List Token} (places : Parts) → (read : IsItems d es ts fs us) →
        begins_closing us ≡ true →
        Loops (items_step spans (expression_by spans (deeper spans d))) (placed es places) ts
        (Ok (placed fs (items_places spans places read), us))
    items_read places (items_end {d = d} {ts = ts}) h = loop_stops (unless_closed _ ts h)
    items_read places (items_last {ts = ts} {us = us} e f) h =
        loop_goes
        (unless_open _ ts (opener_closing ts (expression_opens e)) ∙
        under_goes _ (expression_read e (begins_closing_behind 10 us h (lit< tt))) (separated_last _ us h))
        (shrinks.expression_shrinks e)
        (loop_stops_at (ap (λ x. placed x (and_place places (expression_places spans e))) (sym f)) (unless_closed _ us h))
    items_read places (items_more {ts = ts} e i) h =
        let l = shrinks.expression_shrinks e in
        loop_goes
        (unless_open _ ts (opener_closing ts (expression_opens e)) ∙ under_goes _ (expression_read e (lit< tt)) refl)
        (omega arith) (items_read _ i h)

    pairs_read : {d : ℕ} {p q : Paired} {ts us : List Token} (places : PairedPlaces) → (read : IsPairs d p ts q us) →
        begins_closing us ≡ true →
        Loops (pairs_step spans (expression_by spans (deeper spans d))) (placed p places) ts
        (Ok (placed q (pairs_places spans places read), us))
    pairs_read places (pairs_end {ts = ts}) h = loop_stops (unless_closed _ ts h)
    pairs_read places (pairs_last {ts = ts} {vs = vs} k v f) h =
        let l = shrinks.expression_shrinks k in let m = shrinks.expression_shrinks v in
        loop_goes
        (unless_open _ ts (opener_closing ts (expression_opens k)) ∙
        under_goes _ (then_goes _ (expression_read k (lit< tt)) refl)
        (under_goes _ (expression_read v (begins_closing_behind 10 vs h (lit< tt))) (separated_last _ vs h)))
        (omega arith)
        (loop_stops_at (ap (λ x. placed x (and_pair_place places (expression_places spans k) (expression_places spans v))) (sym f))
        (unless_closed _ vs h))
    pairs_read places (pairs_more {ts = ts} k v i) h =
        let l = shrinks.expression_shrinks k in let m = shrinks.expression_shrinks v in
        loop_goes
        (unless_open _ ts (opener_closing ts (expression_opens k)) ∙
        under_goes _ (then_goes _ (expression_read k (lit< tt)) refl)
        (under_goes _ (expression_read v (lit< tt)) refl))
        (omega arith) (pairs_read _ i h)

    argument_list_read : {d : ℕ} {args : Arguments} {ts us : List Token} → (read : IsArgumentList d ts args us) →
        arguments_by spans (expression_by spans (deeper spans d)) ts ≡ Ok (placed args (argument_list_places spans read), us)
    argument_list_read (argument_list {w = w} {us = us} l e f) =
        then_goes _ (all_of (arguments_read (no_parts, no_parts) l refl))
        (then_goes _ refl (few_goes (placed w (arguments_places spans (no_parts, no_parts) l)) us e f))

    arguments_read : {d : ℕ} {w x : Written} {ts us : List Token} (places : WrittenPlaces) → (read : IsArguments d w ts x us) →
        begins_closing us ≡ true →
        Loops (arguments_step spans (expression_by spans (deeper spans d))) (placed w places) ts
        (Ok (placed x (arguments_places spans places read), us))
    arguments_read places (arguments_end {ts = ts}) h = loop_stops (unless_closed _ ts h)
    arguments_read places (arguments_last {a = a} {ts = ts} {us = us} y f) h =
        loop_goes
        (unless_open _ ts (argument_closing y) ∙
        under_goes _ (argument_read y (begins_closing_behind 10 us h (lit< tt)) (closing_assign us h)) (separated_last _ us h))
        (shrinks.argument_shrinks y)
        (loop_stops_at (ap (λ x. placed x (and_written_place places a (argument_places spans y))) (sym f)) (unless_closed _ us h))
    arguments_read places (arguments_next {ts = ts} y i) h =
        let l = shrinks.argument_shrinks y in
        loop_goes
        (unless_open _ ts (argument_closing y) ∙ under_goes _ (argument_read y (lit< tt) refl) refl)
        (omega arith) (arguments_read _ i h)

    argument_read : {d : ℕ} {a : Argument} {ts us : List Token} → (read : IsArgument d ts a us) → Behind 10 us → begins_assign us ≡ false →
        argument_by spans (expression_by spans (deeper spans d)) ts ≡ Ok (placed a (argument_places spans read), us)
    argument_read (positional_argument {d = d} {ts = ts} {us = us} x) h g =
        positional_goes d _ ts us (expression_opens x) (expression_read x h) g
    argument_read (keyword_argument e) h g = then_goes _ (expression_read e h) refl
    argument_read (spread_argument e) h g = then_goes _ (expression_read e h) refl
    argument_read (keyword_spread_argument e) h g = then_goes _ (expression_read e h) refl

  -- the readings that statements use
  pub expression_complete : (d : ℕ) (ts us : List Token) (e : Expression) → (read : IsExpression d ts e us) → Behind 10 us →
      expression_at spans d ts ≡ Ok (placed e (expression_places spans read), us)
  unfolding expression_at
  expression_complete d ts us e x h = expression_read x h

  pub condition_complete : (d : ℕ) (ts us : List Token) (e : Expression) → (read : IsBinary d disjunction ts e us) → Behind 9 us →
      condition_at spans d ts ≡ Ok (placed e (binary_places spans read), us)
  unfolding condition_at
  condition_complete d ts us e x h = binary_read x h

  pub filter_complete : (d : ℕ) (value : Optional) (places : Parts) (ts us : List Token) (e : Expression) →
      (read : IsFilter d value ts e us) →
      filter_at spans d (placed value places) ts ≡ Ok (placed e (filter_places spans ts places read), us)
  unfolding filter_at
  filter_complete d value places ts us e x = filter_read ts places x

  chain_stops : (r : Deeper) (value : OptionalNode) (ts : List Token) → Behind 2 ts → chain_step spans r value ts ≡ stops
  unfolding chain_step
  chain_stops r value (symbol pipe ∷ ts) h = absurd (omega arith)
  chain_stops r value _ h = refl

  chain_read : {d : ℕ} {value all : Optional} {ts us : List Token} (places : Parts) → (read : IsFilterChain d value ts all us) →
      Behind 2 us →
      Loops (chain_step spans (deeper spans d)) (placed value places) ts (Ok (placed all (chain_places spans places read), us))
  unfolding chain_step
  chain_read places (chain_end {d = d} {ts = ts}) h = loop_stops (chain_stops (deeper spans d) _ ts h)
  chain_read places (chain_more {ts = ts} x p) h =
      let l = shrinks.filter_shrinks x in loop_goes (under_goes _ (filter_read ts places x) refl) (omega arith) (chain_read _ p h)

  pub filter_chain_complete : (d : ℕ) (value all : Optional) (places : Parts) (ts us : List Token) →
      (read : IsFilterChain d value ts all us) → Behind 2 us →
      filter_chain_at spans d (placed value places) ts ≡ Ok (placed all (chain_places spans places read), us)
  unfolding filter_chain_at filter_chain_by
  filter_chain_complete d value all places ts us x h = all_of (chain_read places x h)
