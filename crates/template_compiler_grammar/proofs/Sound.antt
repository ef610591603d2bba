-- What is read has that tree, a refusal's reason stands among the tokens, and both are the same over any table of spans.
use Rattle.std.proofs.Common.{◌≡◌, ℕ, zero, suc, ◌<◌, ◌≤◌, Bool, true, false, if◌then◌else◌, List, [], ◌∷◌, codes, length, Option, None, Some, Ok, refl, sym, ap, subst, arith, inl, inr}
use Rattle.std.specs.Prelude.{nat_le}
use Rattle.std.proofs.lemmas.Bool.Decides.{nat_tests}
use Rattle.template_values_model.specs.Val.{Val}
use Rattle.template_compiler_tree.specs.declared.span.Span.{Span}
use Rattle.template_compiler_tree.specs.declared.operators.UnaryOpKind.TheVariants as unaries
use Rattle.template_compiler_tree.specs.declared.operators.BinOpKind.{BinOpKind}
use Rattle.template_compiler_tree.specs.declared.operators.BinOpKind.TheVariants as operators
use Rattle.template_compiler_tree.specs.declared.operators.CompareOpKind.{CompareOpKind}
use Rattle.template_compiler_tree.specs.NodePlaces.{Places, Parts, no_parts}
use Rattle.template_compiler_tree.specs.Tree.{Expression, unary, binary, call, item, slice, list_literal, tuple_literal, map_literal, conditional, Optional, absent, given, Expressions, no_expressions, expressions_more, Links, no_links}
use Rattle.template_compiler_tokens.specs.Places.{next_span}
use Rattle.template_compiler_tokens.specs.Token.{Token, bad_syntax, identifier, string, number, symbol, minus, mul, pow, dot, comma, colon, assign, pipe, bracket_open, bracket_close, paren_open, paren_close, brace_open, brace_close}
use Rattle.template_compiler_tokens.specs.Steps.{Read, Step, goes, fails, fault, and_then, goes_on, many, all}
use Rattle.template_compiler_tokens.proofs.Loops.{Shrinks}
use Rattle.template_compiler_tokens.proofs.Readings as alone
use Rattle.template_compiler_tokens.proofs.Readings.{Kept, fault_blamed}
use Rattle.template_compiler_grammar.specs.Words.{is_word, word_if, word_else, word_not, word_is, begins_bare, literal_word, Level, factors, texts, terms, conjunction, disjunction, operator, comparison_operator}
use Rattle.template_compiler_grammar.specs.Trees.{dotted, and_expression, tested_as, Paired, nothing_paired, and_pair, Written, nothing_written, and_written, argument_count, in_order}
use Rattle.template_compiler_grammar.specs.Grammar.{IsNameTail, name_end, name_more, IsName, name, IsTexts, texts_end, texts_more, IsExpression, unconditional, if_alone, if_else, IsBinary, operands, IsOperands, operands_end, operands_more, IsOperand, factor, text_operand, term, conjunct, disjunct, IsNegation, negation, no_negation, IsComparison, comparison, IsLinks, links_end, links_operator, links_not_in, IsPower, no_power, power, IsFiltered, filtered_value, IsFilters, filters_end, filters_more, IsFilterParts, filter_parts, is_test, is_not_test, IsFilter, filter, IsTest, test, bare_test, IsOptionalArguments, no_list, a_list, IsUnary, minus_sign, primary, IsParts, parts_end, parts_more, IsPart, attribute_part, number_part, subscript_part, call_part, IsSubscript, item_subscript, slice_subscript, IsBound, no_bound, a_bound, IsStep, no_step, a_step, IsPrimary, name_primary, word_primary, number_primary, text_primary, paren_primary, list_primary, map_primary, IsParen, empty_tuple, in_parens, tuple, IsItems, items_end, items_last, items_more, IsPairs, pairs_end, pairs_last, pairs_more, IsArgumentList, argument_list, IsArguments, arguments_end, arguments_last, arguments_next, IsArgument, positional_argument, keyword_argument, spread_argument, keyword_spread_argument, IsFilterChain, chain_end, chain_more}
use Rattle.template_compiler_grammar.specs.ReaderParts.{dotted_step, name_of, text_step, paren_end, bracket_end, brace_end, colon_end, separated, unless_closing, word_tree, begins_closing, begins_bound_end}
use Rattle.template_compiler_grammar.proofs.Ranks.{same_name}
use Rattle.template_compiler_grammar.proofs.Shrinks as shrinks
use Rattle.template_compiler_grammar.proofs.Opens.{expression_opens}
use Rattle.template_compiler_grammar.specs.DerivedNodes.{PairedPlaces, WrittenPlaces}
use Rattle.template_compiler_grammar.specs.Nodes.{Placed, placed, bare, Node, OptionalNode}
use Rattle.template_compiler_grammar.specs.Reader.{deeper, expression_by, primary_by, dot_part, part_step, parts_by, unary_by, optional_arguments_by, filter_by, test_arguments_by, test_by, is_by, filter_step, filtered_by, power_behind, power_by, operand_behind, operand_step, binary_of, terms_by, not_in_link, link_behind, link_step, comparison_by, negation_by, operand_by, binary_by, else_behind, if_behind, items_step, items_by, pairs_step, pairs_by, paren_behind, paren_by, list_by, map_by, bound_by, step_by, slice_by, item_by, subscript_behind, subscript_by, named_argument, argument_by, few_arguments, arguments_step, arguments_by, chain_step, filter_chain_by, expression_at, condition_at, filter_at, filter_chain_at}
use Rattle.template_compiler_grammar.specs.TreeReader as tree
use Rattle.template_compiler_grammar.proofs.Stops.{opener_closing, argument_closing}
use Rattle.template_compiler_grammar.proofs.Readings.{Reads, StepReads, reads_ok, reads_end, reads_none, reads_syntax, reads_behind, reads_as, reads_then, reads_after, reads_if, step_goes, step_stops, step_fails, step_behind, step_under, step_if, step_as, reads_all, tree_of, step_tree}

-- of the level below, where there is one
unfoldable pub Below : ℕ → (ℕ → Type 0) → Type 0
Below zero P = ⊥
Below (suc d) P = P d

pub below : (d : ℕ) (P Q : ℕ → Type 0) → ((n : ℕ) → P n → Q (suc n)) → Below d P → Q d
unfolding Below
below zero P Q f h = absurd h
below (suc d) P Q f h = f d h

below_two : (d : ℕ) (P R Q : ℕ → Type 0) → ((n : ℕ) → P n → R n → Q (suc n)) → Below d P → Below d R → Q d
unfolding Below
below_two zero P R Q f h k = absurd h
below_two (suc d) P R Q f h k = f d h k

-- the right side of a power
right_side : (d : ℕ) (a b : Expression) (ts us vs : List Token) → IsFiltered d ts a (symbol pow ∷ us) →
    Below d (λ n. IsPower n us b vs) → IsPower d ts (binary operators.Pow a b) vs
unfolding Below
right_side zero a b ts us vs x y = absurd y
right_side (suc d) a b ts us vs x y = power x y

-- if-expressions, whose branches are one level deeper
no_else : (d : ℕ) (a c : Expression) (ts us vs : List Token) → IsBinary d disjunction ts a (word_if ∷ us) →
    Below d (λ n. IsBinary n disjunction us c vs) → IsExpression d ts (conditional c a absent) vs
unfolding Below
no_else zero a c ts us vs x y = absurd y
no_else (suc d) a c ts us vs x y = if_alone x y

an_else : (d : ℕ) (a b c : Expression) (ts us vs ws : List Token) → IsBinary d disjunction ts a (word_if ∷ us) →
    Below d (λ n. IsBinary n disjunction us c (word_else ∷ vs)) → Below d (λ n. IsExpression n vs b ws) →
    IsExpression d ts (conditional c a (given b)) ws
unfolding Below
an_else zero a b c ts us vs ws x y z = absurd y
an_else (suc d) a b c ts us vs ws x y z = if_else x y z

word_same : (w : List ℕ) (t : Token) → is_word w t ≡ true → t ≡ identifier w
word_same w (identifier n) e = ap (λ n. identifier n) (sym (same_name w n e))
word_same w _ e = cc

pub same : (ts : List Token) → Kept ts ts
same ts = ((λ f k. k), omega arith)

pub one : (t : Token) (ts : List Token) → Kept ts (t ∷ ts)
one t ts = ((λ f k. inr k), omega arith)

-- names and texts
name_tail_reads : (n : ℕ) (m : List ℕ) (ts : List Token) → length ts < n → alone.Reads (IsNameTail m ts) ts (many n dotted_step m ts)
unfolding many goes_on dotted_step
name_tail_reads zero m ts h = absurd (omega arith)
name_tail_reads (suc n) m (symbol dot ∷ identifier p ∷ ts) h =
    alone.reads_behind (alone.reads_behind (alone.reads_as (λ a us t. name_more t) (name_tail_reads n (dotted m p) ts (omega arith))))
name_tail_reads (suc n) m _ h = alone.reads_end (name_end refl)

name_reads : (ts : List Token) → alone.Reads (IsName ts) ts (name_of ts)
unfolding name_of all
name_reads (identifier n ∷ ts) = alone.reads_behind
    (alone.reads_as (λ a us t. name t) (name_tail_reads (suc (length ts)) n ts (omega arith)))
name_reads ts = alone.reads_none ts

text_reads : (s : List ℕ) (ts : List Token) → alone.StepReads
    (λ t us. (c : List ℕ) (vs : List Token) → IsTexts t us c vs → IsTexts s ts c vs) ts (text_step s ts)
unfolding text_step
text_reads s (string t ∷ ts) = alone.step_goes (λ c vs p. texts_more p) (one (string t) ts)
text_reads s _ = alone.step_stops

texts_reads : (s : List ℕ) (ts : List Token) → alone.Reads (IsTexts s ts) ts (all text_step s ts)
texts_reads s ts = alone.reads_all text_step IsTexts (λ s ts. texts_end) text_reads s ts

-- what must stand behind something
paren_end_reads : {A R : Type 0} (P : A → List Token → Type 0) (a : A) (p q : R) (ts : List Token) →
    ((us : List Token) → ts ≡ symbol paren_close ∷ us → P a us) → Reads P ts (paren_end (placed a p) ts) (paren_end (placed a q) ts)
unfolding paren_end
paren_end_reads P a p q (symbol paren_close ∷ ts) f = reads_ok (f ts refl) (one (symbol paren_close) ts)
paren_end_reads P a p q ts f = reads_none ts

bracket_end_reads : {A R : Type 0} (P : A → List Token → Type 0) (a : A) (p q : R) (ts : List Token) →
    ((us : List Token) → ts ≡ symbol bracket_close ∷ us → P a us) → Reads P ts (bracket_end (placed a p) ts) (bracket_end (placed a q) ts)
unfolding bracket_end
bracket_end_reads P a p q (symbol bracket_close ∷ ts) f = reads_ok (f ts refl) (one (symbol bracket_close) ts)
bracket_end_reads P a p q ts f = reads_none ts

brace_end_reads : {A R : Type 0} (P : A → List Token → Type 0) (a : A) (p q : R) (ts : List Token) →
    ((us : List Token) → ts ≡ symbol brace_close ∷ us → P a us) → Reads P ts (brace_end (placed a p) ts) (brace_end (placed a q) ts)
unfolding brace_end
brace_end_reads P a p q (symbol brace_close ∷ ts) f = reads_ok (f ts refl) (one (symbol brace_close) ts)
brace_end_reads P a p q ts f = reads_none ts

colon_reads : {A R : Type 0} (P : A → List Token → Type 0) (a : A) (p q : R) (ts : List Token) →
    ((us : List Token) → ts ≡ symbol colon ∷ us → P a us) → Reads P ts (colon_end (placed a p) ts) (colon_end (placed a q) ts)
unfolding colon_end
colon_reads P a p q (symbol colon ∷ ts) f = reads_ok (f ts refl) (one (symbol colon) ts)
colon_reads P a p q ts f = reads_none ts

separated_last_reads : {A R : Type 0} (P : A → List Token → Type 0) (a : A) (p q : R) (ts : List Token) (b : Bool) → begins_closing ts ≡ b →
    (begins_closing ts ≡ true → P a ts) →
    StepReads P ts (if b then goes (placed a p) ts else fails (fault ts)) (if b then goes (placed a q) ts else fails (fault ts))
separated_last_reads P a p q ts true e f = step_goes (f e) (same ts)
separated_last_reads P a p q ts false e f = step_fails (fault ts) (fault_blamed ts)

separated_reads : {A R : Type 0} (P : A → List Token → Type 0) (a : A) (p q : R) (ts : List Token) →
    ((us : List Token) → ts ≡ symbol comma ∷ us → P a us) → (begins_closing ts ≡ true → P a ts) →
    StepReads P ts (separated (placed a p) ts) (separated (placed a q) ts)
unfolding separated
separated_reads P a p q (symbol comma ∷ ts) f g = step_goes (f ts refl) (one (symbol comma) ts)
separated_reads P a p q ts f g = separated_last_reads P a p q ts (begins_closing ts) refl g

unless_reads : {A R : Type 0} {P : A → List Token → Type 0} {s t : Step (Placed A R)} (ts : List Token) → StepReads P ts s t →
    StepReads P ts (unless_closing s ts) (unless_closing t ts)
unfolding unless_closing
unless_reads ts x = step_if (begins_closing ts) (λ e. step_stops) (λ e. x)

-- lists that begin with a closing bracket are over
items_closed : {d : ℕ} {es fs : Expressions} {ts us : List Token} → IsItems d es ts fs us → begins_closing ts ≡ true → (es ≡ fs) × (ts ≡ us)
items_closed items_end h = (refl, refl)
items_closed (items_last {ts = ts} e f) h = let no = opener_closing ts (expression_opens e) in cc
items_closed (items_more {ts = ts} e i) h = let no = opener_closing ts (expression_opens e) in cc

pairs_closed : {d : ℕ} {p q : Paired} {ts us : List Token} → IsPairs d p ts q us → begins_closing ts ≡ true → (p ≡ q) × (ts ≡ us)
pairs_closed pairs_end h = (refl, refl)
pairs_closed (pairs_last {ts = ts} k v f) h = let no = opener_closing ts (expression_opens k) in cc
pairs_closed (pairs_more {ts = ts} k v i) h = let no = opener_closing ts (expression_opens k) in cc

arguments_closed : {d : ℕ} {w x : Written} {ts us : List Token} → IsArguments d w ts x us → begins_closing ts ≡ true → (w ≡ x) × (ts ≡ us)
arguments_closed arguments_end h = (refl, refl)
arguments_closed (arguments_last {ts = ts} a f) h = let no = argument_closing a in cc
arguments_closed (arguments_next {ts = ts} a i) h = let no = argument_closing a in cc

bound_given : {d : ℕ} {key : Expression} {ts us : List Token} → IsBound d ts (given key) us → IsExpression d ts key us
bound_given (a_bound e) = e

few_of : (n : ℕ) → nat_le n 2000 ≡ true → n ≤ 2000
few_of n e = grind (arith, nat_tests)

-- what is known one level deeper
record DeeperReads (spans others : List Span) (d : ℕ) : Type 0 where
  expression : (ts : List Token) → Reads (λ e us. Below d (λ n. IsExpression n ts e us)) ts ((deeper spans d).expression ts)
      ((deeper others d).expression ts)
  condition : (ts : List Token) → Reads (λ e us. Below d (λ n. IsBinary n disjunction ts e us)) ts ((deeper spans d).condition ts)
      ((deeper others d).condition ts)
  negation : (ts : List Token) → Reads (λ e us. Below d (λ n. IsNegation n ts e us)) ts ((deeper spans d).negation ts)
      ((deeper others d).negation ts)
  power : (ts : List Token) → Reads (λ e us. Below d (λ n. IsPower n ts e us)) ts ((deeper spans d).power ts) ((deeper others d).power ts)
  unary_sign : (ts : List Token) → Reads (λ e us. Below d (λ n. IsUnary n ts e us)) ts ((deeper spans d).unary_sign ts)
      ((deeper others d).unary_sign ts)
  paren : (s t : Span) (ts : List Token) → Reads (λ e us. Below d (λ n. IsParen n ts e us)) ts ((deeper spans d).paren s ts)
      ((deeper others d).paren t ts)
  list : (s t : Span) (ts : List Token) →
      Reads (λ e us. Below d (λ n. IsPrimary (suc n) (symbol bracket_open ∷ ts) e us)) ts ((deeper spans d).list s ts)
      ((deeper others d).list t ts)
  pairs : (s t : Span) (ts : List Token) →
      Reads (λ e us. Below d (λ n. IsPrimary (suc n) (symbol brace_open ∷ ts) e us)) ts ((deeper spans d).pairs s ts)
      ((deeper others d).pairs t ts)
  subscript : (s t : Span) (a : Expression) (p q : Places) (ts : List Token) →
      Reads (λ e us. Below d (λ n. IsSubscript n a ts e us)) ts ((deeper spans d).subscript s (placed a p) ts)
      ((deeper others d).subscript t (placed a q) ts)
  arguments : (ts : List Token) → Reads (λ args us. Below d (λ n. IsArgumentList n ts args us)) ts ((deeper spans d).arguments ts)
      ((deeper others d).arguments ts)

module _ (spans others : List Span) (d : ℕ) (r : DeeperReads spans others d) where
  word_reads : (n : List ℕ) (p q : Places) (ts : List Token) (o : Option Val) → literal_word n ≡ o →
      Reads (IsPrimary d (identifier n ∷ ts)) (identifier n ∷ ts) (Ok (placed (word_tree o n) p, ts)) (Ok (placed (word_tree o n) q, ts))
  word_reads n p q ts None e = reads_ok (name_primary e) (one (identifier n) ts)
  word_reads n p q ts (Some v) e = reads_ok (word_primary e) (one (identifier n) ts)

  primary_reads : (ts : List Token) → Reads (IsPrimary d ts) ts (primary_by spans (deeper spans d) ts)
      (primary_by others (deeper others d) ts)
  unfolding primary_by
  primary_reads (identifier n ∷ ts) = word_reads n _ _ ts (literal_word n) refl
  primary_reads (number n ∷ ts) = reads_ok number_primary (one (number n) ts)
  primary_reads (string s ∷ ts) = reads_behind (reads_after _ _ (texts_reads s ts) (λ t us x. reads_end (text_primary x)))
  primary_reads (symbol paren_open ∷ ts) =
      reads_behind (reads_as (λ e us x. below d _ (λ n. IsPrimary n (symbol paren_open ∷ ts) e us) (λ n y. paren_primary y) x)
      (r.paren _ _ ts))
  primary_reads (symbol bracket_open ∷ ts) =
      reads_behind (reads_as (λ e us x. below d _ (λ n. IsPrimary n (symbol bracket_open ∷ ts) e us) (λ n y. y) x) (r.list _ _ ts))
  primary_reads (symbol brace_open ∷ ts) =
      reads_behind (reads_as (λ e us x. below d _ (λ n. IsPrimary n (symbol brace_open ∷ ts) e us) (λ n y. y) x) (r.pairs _ _ ts))
  primary_reads ts = reads_none ts

  dot_reads : (s t : Span) (a : Expression) (p q : Places) (ts : List Token) →
      StepReads (IsPart d a (symbol dot ∷ ts)) ts (dot_part spans s (placed a p) ts) (dot_part others t (placed a q) ts)
  unfolding dot_part
  dot_reads s t a p q (identifier n ∷ ts) = step_goes attribute_part (one (identifier n) ts)
  dot_reads s t a p q (number n ∷ ts) = step_goes number_part (one (number n) ts)
  dot_reads s t a p q ts = step_fails (fault ts) (fault_blamed ts)

  part_reads : (s t : Span) (a : Expression) (p q : Places) (ts : List Token) →
      StepReads (IsPart d a ts) ts (part_step spans (deeper spans d) s (placed a p) ts)
      (part_step others (deeper others d) t (placed a q) ts)
  unfolding part_step
  part_reads s t a p q (symbol dot ∷ ts) = step_behind (dot_reads s t a p q ts)
  part_reads s t a p q (symbol bracket_open ∷ ts) =
      step_behind (step_under _ _ (r.subscript s t a p q ts) (λ e _ _ us x.
      step_goes (below d _ (λ n. IsPart n a (symbol bracket_open ∷ ts) e us) (λ n y. subscript_part y) x) (same us)))
  part_reads s t a p q (symbol paren_open ∷ ts) =
      step_behind (step_under _ _ (r.arguments ts) (λ args _ _ us x.
      step_goes (below d _ (λ n. IsPart n a (symbol paren_open ∷ ts) (call a args) us) (λ n y. call_part y) x) (same us)))
  part_reads s t a p q _ = step_stops

  parts_reads : (s t : Span) (a : Expression) (p q : Places) (ts : List Token) →
      Reads (IsParts d a ts) ts (parts_by spans (deeper spans d) s (placed a p) ts) (parts_by others (deeper others d) t (placed a q) ts)
  unfolding parts_by
  parts_reads s t a p q ts =
      reads_all (part_step spans (deeper spans d) s) (part_step others (deeper others d) t) (IsParts d) (λ a ts. parts_end)
      (λ a p q ts. step_as (λ b us x c vs y. parts_more x y) (part_reads s t a p q ts)) a p q ts

  unary_reads : (ts : List Token) → Reads (IsUnary d ts) ts (unary_by spans (deeper spans d) ts) (unary_by others (deeper others d) ts)
  unfolding unary_by
  unary_reads (symbol minus ∷ ts) =
      reads_behind (reads_then _ _ (r.unary_sign ts) (λ e _ _ us x.
      reads_end (below d _ (λ n. IsUnary n (symbol minus ∷ ts) (unary unaries.Neg e) us) (λ n y. minus_sign y) x)))
  unary_reads ts = reads_then _ _ (primary_reads ts) (λ a p q us x. reads_as (λ e vs y. primary x y) (parts_reads _ _ a p q us))

  -- filters and tests
  optional_reads : (ts : List Token) →
      Reads (IsOptionalArguments d ts) ts (optional_arguments_by spans (deeper spans d) ts)
      (optional_arguments_by others (deeper others d) ts)
  unfolding optional_arguments_by
  optional_reads (symbol paren_open ∷ ts) =
      reads_behind (reads_as (λ args us x. below d _ (λ n. IsOptionalArguments n (symbol paren_open ∷ ts) args us) (λ n y. a_list y) x)
      (r.arguments ts))
  optional_reads _ = reads_end (no_list refl)

  filter_reads : (s t : Span) (value : Optional) (p q : Parts) (ts : List Token) → Reads (IsFilter d value ts) ts
      (filter_by spans (deeper spans d) s (placed value p) ts) (filter_by others (deeper others d) t (placed value q) ts)
  unfolding filter_by
  filter_reads s t value p q ts =
      reads_after _ _ (name_reads ts) (λ n us x. reads_then _ _ (optional_reads us) (λ args _ _ vs y. reads_end (filter x y)))

  test_arguments_reads : (negated : Bool) (s t : Span) (a : Expression) (p q : Places) (n : List ℕ) (ts us : List Token) (b : Bool) →
      begins_bare us ≡ b → IsName ts n us → Reads (IsTest d negated a ts) us
      (test_arguments_by spans (deeper spans d) b negated s (placed a p) n us)
      (test_arguments_by others (deeper others d) b negated t (placed a q) n us)
  unfolding test_arguments_by
  test_arguments_reads g s t a p q n ts us true e x = reads_then _ _ (unary_reads us) (λ b _ _ vs y. reads_end (bare_test x e y refl))
  test_arguments_reads g s t a p q n ts us false e x = reads_then _ _ (optional_reads us)
      (λ args _ _ vs y. reads_as (λ f ws z. test x e y z) (parts_reads s t (tested_as g n a args) _ _ vs))

  test_reads : (negated : Bool) (s t : Span) (a : Expression) (p q : Places) (ts : List Token) → Reads (IsTest d negated a ts) ts
      (test_by spans (deeper spans d) negated s (placed a p) ts) (test_by others (deeper others d) negated t (placed a q) ts)
  unfolding test_by
  test_reads g s t a p q ts = reads_after _ _ (name_reads ts) (λ n us x. test_arguments_reads g s t a p q n ts us (begins_bare us) refl x)

  is_reads : (s t : Span) (a : Expression) (p q : Places) (ts : List Token) → Reads (IsFilterParts d a (word_is ∷ ts)) ts
      (is_by spans (deeper spans d) s (placed a p) ts) (is_by others (deeper others d) t (placed a q) ts)
  unfolding is_by
  is_reads s t a p q [] = reads_syntax
  is_reads s t a p q (u ∷ ts) = reads_if (is_word (codes "not") u)
      (λ e. reads_behind (reads_as
      (λ f us x. subst (λ t. IsFilterParts d a (word_is ∷ t ∷ ts) f us) (sym (word_same (codes "not") u e)) (is_not_test x))
      (test_reads true s t a p q ts)))
      (λ e. reads_as (λ f us x. is_test e x) (test_reads false s t a p q (u ∷ ts)))

  filter_step_reads : (s t : Span) (a : Expression) (p q : Places) (ts : List Token) → StepReads (IsFilterParts d a ts) ts
      (filter_step spans (deeper spans d) s (placed a p) ts) (filter_step others (deeper others d) t (placed a q) ts)
  unfolding filter_step
  filter_step_reads s t a p q (symbol pipe ∷ ts) =
      step_behind (step_under _ _
      (reads_then _ _ (filter_reads s t (given a) _ _ ts) (λ b p q us x. reads_as (λ e vs y. filter_parts x y) (parts_reads s t b p q us)))
      (λ e _ _ us x. step_goes x (same us)))
  filter_step_reads s t a p q (identifier n ∷ ts) = step_if (is_word (codes "is") (identifier n))
      (λ e. step_behind (step_under _ _ (is_reads s t a p q ts) (λ f _ _ us x.
      step_goes (subst (λ t. IsFilterParts d a (t ∷ ts) f us) (sym (word_same (codes "is") (identifier n) e)) x) (same us))))
      (λ e. step_stops)
  filter_step_reads s t a p q _ = step_stops

  filtered_reads : (ts : List Token) → Reads (IsFiltered d ts) ts (filtered_by spans (deeper spans d) ts)
      (filtered_by others (deeper others d) ts)
  unfolding filtered_by
  filtered_reads ts = reads_then _ _ (unary_reads ts) (λ a p q us x. reads_as (λ e vs y. filtered_value x y)
      (reads_all (filter_step spans (deeper spans d) (next_span spans ts)) (filter_step others (deeper others d) (next_span others ts))
      (IsFilters d)
      (λ a ts. filters_end) (λ a p q ts. step_as (λ b us x c vs y. filters_more x y) (filter_step_reads _ _ a p q ts)) a p q us))

  -- operators
  power_behind_reads : (s t : Span) (a : Expression) (p q : Places) (ts us : List Token) → IsFiltered d ts a us → Reads (IsPower d ts) us
      (power_behind spans (deeper spans d) s (placed a p) us) (power_behind others (deeper others d) t (placed a q) us)
  unfolding power_behind
  power_behind_reads s t a p q ts (symbol pow ∷ us) x =
      reads_behind (reads_then _ _ (r.power us) (λ b _ _ vs y. reads_end (right_side d a b ts us vs x y)))
  power_behind_reads s t a p q ts _ x = reads_end (no_power x)

  power_reads : (ts : List Token) → Reads (IsPower d ts) ts (power_by spans (deeper spans d) ts) (power_by others (deeper others d) ts)
  unfolding power_by
  power_reads ts = reads_then _ _ (filtered_reads ts) (λ a p q us x. power_behind_reads _ _ a p q ts us x)

  -- levels of operators, by the reading of their operands
  module _ (k : Level) (read on : List Token → Read Node) (x : (ts : List Token) → Reads (IsOperand d k ts) ts (read ts) (on ts)) where
    operand_behind_reads : (s t : Span) (u : Token) (a : Expression) (p q : Places) (ts : List Token) (o : Option BinOpKind) →
        operator k u ≡ o →
        StepReads (λ b us. (c : Expression) (vs : List Token) → IsOperands d k b us c vs → IsOperands d k a (u ∷ ts) c vs) ts
        (operand_behind spans o read s (placed a p) ts) (operand_behind others o on t (placed a q) ts)
    unfolding operand_behind
    operand_behind_reads s t u a p q ts (Some op) e =
        step_under _ _ (x ts) (λ b _ _ us y. step_goes (λ c vs z. operands_more e y z) (same us))
    operand_behind_reads s t u a p q ts None e = step_stops

    operand_step_reads : (s t : Span) (a : Expression) (p q : Places) (ts : List Token) →
        StepReads (λ b us. (c : Expression) (vs : List Token) → IsOperands d k b us c vs → IsOperands d k a ts c vs) ts
        (operand_step spans k read s (placed a p) ts) (operand_step others k on t (placed a q) ts)
    unfolding operand_step
    operand_step_reads s t a p q [] = step_stops
    operand_step_reads s t a p q (u ∷ ts) = step_behind (operand_behind_reads s t u a p q ts (operator k u) refl)

    binary_of_reads : (ts : List Token) → Reads (IsBinary d k ts) ts (binary_of spans k read ts) (binary_of others k on ts)
    unfolding binary_of
    binary_of_reads ts = reads_then _ _ (x ts) (λ a p q us y. reads_as (λ e vs z. operands y z)
        (reads_all (operand_step spans k read (next_span spans ts)) (operand_step others k on (next_span others ts)) (IsOperands d k)
        (λ a ts. operands_end) (operand_step_reads _ _) a p q us))

  factors_reads : (ts : List Token) →
      Reads (IsBinary d factors ts) ts (binary_of spans factors (power_by spans (deeper spans d)) ts)
      (binary_of others factors (power_by others (deeper others d)) ts)
  factors_reads ts = binary_of_reads factors _ _ (λ ts. reads_as (λ e us x. factor x) (power_reads ts)) ts

  texts_level_reads : (ts : List Token) → Reads (IsBinary d texts ts) ts
      (binary_of spans texts (binary_of spans factors (power_by spans (deeper spans d))) ts)
      (binary_of others texts (binary_of others factors (power_by others (deeper others d))) ts)
  texts_level_reads ts = binary_of_reads texts _ _ (λ ts. reads_as (λ e us x. text_operand x) (factors_reads ts)) ts

  terms_reads : (ts : List Token) → Reads (IsBinary d terms ts) ts (terms_by spans (deeper spans d) ts)
      (terms_by others (deeper others d) ts)
  unfolding terms_by
  terms_reads ts = binary_of_reads terms _ _ (λ ts. reads_as (λ e us x. term x) (texts_level_reads ts)) ts

  -- comparisons
  not_in_reads : (ls : Links) (p q : Parts) (t : Token) (ts : List Token) → is_word (codes "not") t ≡ true →
      StepReads (λ ms us. (c : Links) (vs : List Token) → IsLinks d ms us c vs → IsLinks d ls (t ∷ ts) c vs) ts
      (not_in_link spans (terms_by spans (deeper spans d)) (placed ls p) ts)
      (not_in_link others (terms_by others (deeper others d)) (placed ls q) ts)
  unfolding not_in_link
  not_in_reads ls p q t [] e = step_fails bad_syntax (inl refl)
  not_in_reads ls p q t (u ∷ ts) e = step_if (is_word (codes "in") u)
      (λ f. step_behind (step_under _ _ (terms_reads ts) (λ b _ _ us y. step_goes
      (λ c vs z. subst (λ t. IsLinks d ls (t ∷ u ∷ ts) c vs) (sym (word_same (codes "not") t e))
      (subst (λ u. IsLinks d ls (word_not ∷ u ∷ ts) c vs) (sym (word_same (codes "in") u f)) (links_not_in y z)))
      (same us))))
      (λ f. step_fails (fault (u ∷ ts)) (fault_blamed (u ∷ ts)))

  link_behind_reads : (ls : Links) (p q : Parts) (t : Token) (ts : List Token) (o : Option CompareOpKind) (b : Bool) →
      comparison_operator t ≡ o →
      is_word (codes "not") t ≡ b →
      StepReads (λ ms us. (c : Links) (vs : List Token) → IsLinks d ms us c vs → IsLinks d ls (t ∷ ts) c vs) ts
      (link_behind spans o b (terms_by spans (deeper spans d)) (placed ls p) ts)
      (link_behind others o b (terms_by others (deeper others d)) (placed ls q) ts)
  unfolding link_behind
  link_behind_reads ls p q t ts (Some op) b e f =
      step_under _ _ (terms_reads ts) (λ g _ _ us y. step_goes (λ c vs z. links_operator e y z) (same us))
  link_behind_reads ls p q t ts None true e f = not_in_reads ls p q t ts f
  link_behind_reads ls p q t ts None false e f = step_stops

  link_reads : (ls : Links) (p q : Parts) (ts : List Token) →
      StepReads (λ ms us. (c : Links) (vs : List Token) → IsLinks d ms us c vs → IsLinks d ls ts c vs) ts
      (link_step spans (terms_by spans (deeper spans d)) (placed ls p) ts)
      (link_step others (terms_by others (deeper others d)) (placed ls q) ts)
  unfolding link_step
  link_reads ls p q [] = step_stops
  link_reads ls p q (t ∷ ts) = step_behind (link_behind_reads ls p q t ts (comparison_operator t) (is_word (codes "not") t) refl refl)

  comparison_reads : (ts : List Token) → Reads (IsComparison d ts) ts (comparison_by spans (deeper spans d) ts)
      (comparison_by others (deeper others d) ts)
  unfolding comparison_by
  comparison_reads ts = reads_then _ _ (terms_reads ts) (λ a _ _ us x. reads_then _ _
      (reads_all (link_step spans (terms_by spans (deeper spans d))) (link_step others (terms_by others (deeper others d))) (IsLinks d)
      (λ ls ts. links_end) link_reads no_links _ _ us)
      (λ ls _ _ vs y. reads_end (comparison x y refl)))

  negation_reads : (ts : List Token) → Reads (IsNegation d ts) ts (negation_by spans (deeper spans d) ts)
      (negation_by others (deeper others d) ts)
  unfolding negation_by
  negation_reads [] = reads_as (λ e us x. no_negation refl x) (comparison_reads [])
  negation_reads (t ∷ ts) = reads_if (is_word (codes "not") t)
      (λ f. reads_behind (reads_then _ _ (r.negation ts) (λ e _ _ us x. reads_end
      (subst (λ t. IsNegation d (t ∷ ts) (unary unaries.Not e) us) (sym (word_same (codes "not") t f))
      (below d _ (λ n. IsNegation n (word_not ∷ ts) (unary unaries.Not e) us) (λ n y. negation y) x)))))
      (λ f. reads_as (λ e us x. no_negation f x) (comparison_reads (t ∷ ts)))

  conjunction_reads : (ts : List Token) → Reads (IsBinary d conjunction ts) ts
      (binary_of spans conjunction (negation_by spans (deeper spans d)) ts)
      (binary_of others conjunction (negation_by others (deeper others d)) ts)
  conjunction_reads ts = binary_of_reads conjunction _ _ (λ ts. reads_as (λ e us x. conjunct x) (negation_reads ts)) ts

  condition_reads : (ts : List Token) →
      Reads (IsBinary d disjunction ts) ts (binary_by spans (deeper spans d) disjunction ts)
      (binary_by others (deeper others d) disjunction ts)
  unfolding binary_by operand_by
  condition_reads ts = binary_of_reads disjunction _ _ (λ ts. reads_as (λ e us x. disjunct x) (conjunction_reads ts)) ts

  -- if-expressions
  else_reads : (s t : Span) (a c : Expression) (p q p' q' : Places) (ts us vs : List Token) → IsBinary d disjunction ts a (word_if ∷ us) →
      Below d (λ n. IsBinary n disjunction us c vs) → Reads (IsExpression d ts) vs
      (else_behind spans (deeper spans d) s (placed a p) (placed c p') vs)
      (else_behind others (deeper others d) t (placed a q) (placed c q') vs)
  unfolding else_behind
  else_reads s t a c p q p' q' ts us [] x y = reads_end (no_else d a c ts us [] x y)
  else_reads s t a c p q p' q' ts us (v ∷ vs) x y = reads_if (is_word (codes "else") v)
      (λ f. reads_behind (reads_then _ _ (r.expression vs) (λ b _ _ ws z. reads_end
      (an_else d a b c ts us vs ws x
      (subst (λ t. Below d (λ n. IsBinary n disjunction us c (t ∷ vs))) (word_same (codes "else") v f) y) z))))
      (λ f. reads_end (no_else d a c ts us (v ∷ vs) x y))

  if_reads : (s t : Span) (a : Expression) (p q : Places) (ts us : List Token) → IsBinary d disjunction ts a us →
      Reads (IsExpression d ts) us
      (if_behind spans (deeper spans d) s (placed a p) us) (if_behind others (deeper others d) t (placed a q) us)
  unfolding if_behind
  if_reads s t a p q ts [] x = reads_end (unconditional x)
  if_reads s t a p q ts (u ∷ us) x = reads_if (is_word (codes "if") u)
      (λ f. reads_behind (reads_then _ _ (r.condition us) (λ c p' q' vs y.
      else_reads s t a c p q p' q' ts us vs (subst (λ t. IsBinary d disjunction ts a (t ∷ us)) (word_same (codes "if") u f) x) y)))
      (λ f. reads_end (unconditional x))

  expression_reads : (ts : List Token) → Reads (IsExpression d ts) ts (expression_by spans (deeper spans d) ts)
      (expression_by others (deeper others d) ts)
  unfolding expression_by
  expression_reads ts = reads_then _ _ (condition_reads ts) (λ a p q us x. if_reads _ _ a p q ts us x)

  -- lists in brackets
  item_reads : (es : Expressions) (p q : Parts) (ts : List Token) →
      StepReads (λ fs us. (c : Expressions) (vs : List Token) → IsItems d fs us c vs → IsItems d es ts c vs) ts
      (items_step spans (expression_by spans (deeper spans d)) (placed es p) ts)
      (items_step others (expression_by others (deeper others d)) (placed es q) ts)
  item_reads es p q ts = unless_reads ts (step_under _ _ (expression_reads ts) (λ e _ _ us x. separated_reads _ (and_expression es e) _ _ us
      (λ vs f c ws y. items_more (subst (λ us. IsExpression d ts e us) f x) y)
      (λ f c vs y. let z = items_closed y f in items_last (subst (λ us. IsExpression d ts e us) z.1 x) (sym z.0))))

  items_reads : (es : Expressions) (p q : Parts) (ts : List Token) → Reads (IsItems d es ts) ts
      (items_by spans (expression_by spans (deeper spans d)) (placed es p) ts)
      (items_by others (expression_by others (deeper others d)) (placed es q) ts)
  unfolding items_by
  items_reads es p q ts =
      reads_all (items_step spans (expression_by spans (deeper spans d))) (items_step others (expression_by others (deeper others d)))
      (IsItems d)
      (λ es ts. items_end) item_reads es p q ts

  key_reads : (ts : List Token) → Reads (λ k us. IsExpression d ts k (symbol colon ∷ us)) ts
      (and_then (expression_by spans (deeper spans d) ts) colon_end) (and_then (expression_by others (deeper others d) ts) colon_end)
  key_reads ts = reads_then _ _ (expression_reads ts)
      (λ k p q us x. colon_reads _ k p q us (λ vs f. subst (λ us. IsExpression d ts k us) f x))

  pair_reads : (ps : Paired) (p q : PairedPlaces) (ts : List Token) →
      StepReads (λ qs us. (c : Paired) (vs : List Token) → IsPairs d qs us c vs → IsPairs d ps ts c vs) ts
      (pairs_step spans (expression_by spans (deeper spans d)) (placed ps p) ts)
      (pairs_step others (expression_by others (deeper others d)) (placed ps q) ts)
  pair_reads ps p q ts = unless_reads ts (step_under _ _ (key_reads ts) (λ k _ _ us x. step_under _ _ (expression_reads us) (λ v _ _ vs y.
      separated_reads _ (and_pair ps k v) _ _ vs
      (λ ws f c zs z. pairs_more x (subst (λ vs. IsExpression d us v vs) f y) z)
      (λ f c ws z. let w = pairs_closed z f in pairs_last x (subst (λ vs. IsExpression d us v vs) w.1 y) (sym w.0)))))

  pairs_reads : (ts : List Token) → Reads (IsPairs d nothing_paired ts) ts
      (pairs_by spans (expression_by spans (deeper spans d)) ts) (pairs_by others (expression_by others (deeper others d)) ts)
  unfolding pairs_by
  pairs_reads ts =
      reads_all (pairs_step spans (expression_by spans (deeper spans d))) (pairs_step others (expression_by others (deeper others d)))
      (IsPairs d)
      (λ ps ts. pairs_end) pair_reads nothing_paired _ _ ts

  paren_behind_reads : (s t : Span) (e : Expression) (p q : Places) (ts us : List Token) → IsExpression d ts e us → Reads (IsParen d ts) us
      (paren_behind spans (expression_by spans (deeper spans d)) s (placed e p) us)
      (paren_behind others (expression_by others (deeper others d)) t (placed e q) us)
  unfolding paren_behind
  paren_behind_reads s t e p q ts (symbol comma ∷ us) x =
      reads_behind (reads_then _ _ (items_reads (expressions_more e no_expressions) _ _ us) (λ es _ _ vs y.
      paren_end_reads _ (tuple_literal es) _ _ vs
      (λ ws f. tuple x (subst (λ vs. IsItems d (expressions_more e no_expressions) us es vs) f y))))
  paren_behind_reads s t e p q ts us x = paren_end_reads _ e p q us (λ vs f. in_parens (subst (λ us. IsExpression d ts e us) f x))

  paren_reads : (s t : Span) (ts : List Token) → Reads (IsParen d ts) ts
      (paren_by spans (expression_by spans (deeper spans d)) s ts) (paren_by others (expression_by others (deeper others d)) t ts)
  unfolding paren_by
  paren_reads s t (symbol paren_close ∷ ts) = reads_ok empty_tuple (one (symbol paren_close) ts)
  paren_reads s t ts = reads_then _ _ (expression_reads ts) (λ e p q us x. paren_behind_reads s t e p q ts us x)

  list_reads : (s t : Span) (ts : List Token) → Reads (IsPrimary (suc d) (symbol bracket_open ∷ ts)) ts
      (list_by spans (expression_by spans (deeper spans d)) s ts) (list_by others (expression_by others (deeper others d)) t ts)
  unfolding list_by
  list_reads s t ts = reads_then _ _ (items_reads no_expressions _ _ ts) (λ es _ _ us x.
      bracket_end_reads _ (list_literal es) _ _ us (λ vs f. list_primary (subst (λ us. IsItems d no_expressions ts es us) f x)))

  map_reads : (s t : Span) (ts : List Token) → Reads (IsPrimary (suc d) (symbol brace_open ∷ ts)) ts
      (map_by spans (expression_by spans (deeper spans d)) s ts) (map_by others (expression_by others (deeper others d)) t ts)
  unfolding map_by
  map_reads s t ts = reads_then _ _ (pairs_reads ts) (λ ps _ _ us x.
      brace_end_reads _ (map_literal ps.0 ps.1) _ _ us (λ vs f. map_primary (subst (λ us. IsPairs d nothing_paired ts ps us) f x) refl))

  bound_reads : (ts : List Token) → Reads (IsBound d ts) ts
      (bound_by spans (expression_by spans (deeper spans d)) ts) (bound_by others (expression_by others (deeper others d)) ts)
  unfolding bound_by
  bound_reads ts = reads_if (begins_bound_end ts) (λ f. reads_end no_bound)
      (λ f. reads_then _ _ (expression_reads ts) (λ e _ _ us x. reads_end (a_bound x)))

  step_reads : (ts : List Token) → Reads (IsStep d ts) ts
      (step_by spans (expression_by spans (deeper spans d)) ts) (step_by others (expression_by others (deeper others d)) ts)
  unfolding step_by
  step_reads (symbol colon ∷ ts) = reads_behind (reads_as (λ o us x. a_step x) (bound_reads ts))
  step_reads _ = reads_end no_step

  slice_reads : (s t : Span) (a : Expression) (p q : Places) (start : Optional) (p' q' : Parts) (ts us : List Token) →
      IsBound d ts start (symbol colon ∷ us) → Reads (IsSubscript d a ts) us
      (slice_by spans (expression_by spans (deeper spans d)) s (placed a p) (placed start p') us)
      (slice_by others (expression_by others (deeper others d)) t (placed a q) (placed start q') us)
  unfolding slice_by
  slice_reads s t a p q start p' q' ts us x =
      reads_then _ _ (bound_reads us) (λ stop _ _ vs y. reads_then _ _ (step_reads vs) (λ step _ _ ws z.
      bracket_end_reads _ (slice a start stop step) _ _ ws (λ zs f. slice_subscript x y (subst (λ ws. IsStep d vs step ws) f z))))

  subscript_behind_reads : (s t : Span) (a : Expression) (p q : Places) (start : Optional) (p' q' : Parts) (ts us : List Token) →
      IsBound d ts start us → Reads (IsSubscript d a ts) us
      (subscript_behind spans (expression_by spans (deeper spans d)) s (placed a p) (placed start p') us)
      (subscript_behind others (expression_by others (deeper others d)) t (placed a q) (placed start q') us)
  unfolding subscript_behind item_by
  subscript_behind_reads s t a p q start p' q' ts (symbol colon ∷ us) x = reads_behind (slice_reads s t a p q start p' q' ts us x)
  subscript_behind_reads s t a p q (given key) p' q' ts us x =
      bracket_end_reads _ (item a key) _ _ us (λ vs f. item_subscript (subst (λ us. IsExpression d ts key us) f (bound_given x)))
  subscript_behind_reads s t a p q absent p' q' ts us x = reads_none us

  subscript_reads : (s t : Span) (a : Expression) (p q : Places) (ts : List Token) → Reads (IsSubscript d a ts) ts
      (subscript_by spans (expression_by spans (deeper spans d)) s (placed a p) ts)
      (subscript_by others (expression_by others (deeper others d)) t (placed a q) ts)
  unfolding subscript_by
  subscript_reads s t a p q ts = reads_then _ _ (bound_reads ts) (λ o p' q' us x. subscript_behind_reads s t a p q o p' q' ts us x)

  -- arguments
  argument_reads : (ts : List Token) → Reads (IsArgument d ts) ts
      (argument_by spans (expression_by spans (deeper spans d)) ts) (argument_by others (expression_by others (deeper others d)) ts)
  unfolding argument_by named_argument
  argument_reads (identifier n ∷ symbol assign ∷ ts) =
      reads_behind (reads_behind (reads_then _ _ (expression_reads ts) (λ e _ _ us x. reads_end (keyword_argument x))))
  argument_reads (symbol mul ∷ ts) = reads_behind (reads_then _ _ (expression_reads ts) (λ e _ _ us x. reads_end (spread_argument x)))
  argument_reads (symbol pow ∷ ts) = reads_behind
      (reads_then _ _ (expression_reads ts) (λ e _ _ us x. reads_end (keyword_spread_argument x)))
  argument_reads ts = reads_then _ _ (expression_reads ts) (λ e _ _ us x. reads_end (positional_argument x))

  next_argument_reads : (w : Written) (p q : WrittenPlaces) (ts : List Token) →
      StepReads (λ x us. (c : Written) (vs : List Token) → IsArguments d x us c vs → IsArguments d w ts c vs) ts
      (arguments_step spans (expression_by spans (deeper spans d)) (placed w p) ts)
      (arguments_step others (expression_by others (deeper others d)) (placed w q) ts)
  next_argument_reads w p q ts = unless_reads ts
      (step_under _ _ (argument_reads ts) (λ a _ _ us x. separated_reads _ (and_written w a) _ _ us
      (λ vs f c ws y. arguments_next (subst (λ us. IsArgument d ts a us) f x) y)
      (λ f c vs y. let z = arguments_closed y f in arguments_last (subst (λ us. IsArgument d ts a us) z.1 x) (sym z.0))))

  few_reads : (w : Written) (p q : WrittenPlaces) (ts us : List Token) → IsArguments d nothing_written ts w (symbol paren_close ∷ us) →
      Reads (IsArgumentList d ts) us (few_arguments spans (placed w p) us) (few_arguments others (placed w q) us)
  unfolding few_arguments
  few_reads w p q ts us x = reads_if (nat_le (argument_count (in_order w)) 2000)
      (λ f. reads_end (argument_list x refl (few_of (argument_count (in_order w)) f))) (λ f. reads_syntax)

  argument_list_reads : (ts : List Token) → Reads (IsArgumentList d ts) ts
      (arguments_by spans (expression_by spans (deeper spans d)) ts) (arguments_by others (expression_by others (deeper others d)) ts)
  unfolding arguments_by
  argument_list_reads ts =
      reads_then _ _
      (reads_all (arguments_step spans (expression_by spans (deeper spans d)))
      (arguments_step others (expression_by others (deeper others d)))
      (IsArguments d) (λ w ts. arguments_end) next_argument_reads nothing_written _ _ ts)
      (λ w p q us x. reads_then _ _ (paren_end_reads (λ w vs. IsArguments d nothing_written ts w (symbol paren_close ∷ vs)) w p q us
      (λ vs f. subst (λ us. IsArguments d nothing_written ts w us) f x))
      (λ w p q vs y. few_reads w p q ts vs y))

module _ (spans others : List Span) where
  -- what can be read one level deeper
  nothing_deeper_reads : DeeperReads spans others zero
  unfolding deeper
  nothing_deeper_reads = record {
    expression = λ ts. reads_syntax;
    condition = λ ts. reads_syntax;
    negation = λ ts. reads_syntax;
    power = λ ts. reads_syntax;
    unary_sign = λ ts. reads_syntax;
    paren = λ s t ts. reads_syntax;
    list = λ s t ts. reads_syntax;
    pairs = λ s t ts. reads_syntax;
    subscript = λ s t a p q ts. reads_syntax;
    arguments = λ ts. reads_syntax;
  }

  deeper_reads : (d : ℕ) → DeeperReads spans others d
  unfolding deeper Below
  deeper_reads zero = nothing_deeper_reads
  deeper_reads (suc d) = let r = deeper_reads d in record {
    expression = expression_reads spans others d r;
    condition = condition_reads spans others d r;
    negation = negation_reads spans others d r;
    power = power_reads spans others d r;
    unary_sign = unary_reads spans others d r;
    paren = paren_reads spans others d r;
    list = list_reads spans others d r;
    pairs = map_reads spans others d r;
    subscript = subscript_reads spans others d r;
    arguments = argument_list_reads spans others d r;
  }

  operand_reads : (d : ℕ) (k : Level) (ts : List Token) → Reads (IsOperand d k ts) ts
      (operand_by spans (deeper spans d) k ts) (operand_by others (deeper others d) k ts)
  unfolding operand_by
  operand_reads d factors ts = reads_as (λ e us x. factor x) (power_reads spans others d (deeper_reads d) ts)
  operand_reads d texts ts = reads_as (λ e us x. text_operand x) (factors_reads spans others d (deeper_reads d) ts)
  operand_reads d terms ts = reads_as (λ e us x. term x) (texts_level_reads spans others d (deeper_reads d) ts)
  operand_reads d conjunction ts = reads_as (λ e us x. conjunct x) (negation_reads spans others d (deeper_reads d) ts)
  operand_reads d disjunction ts = reads_as (λ e us x. disjunct x) (conjunction_reads spans others d (deeper_reads d) ts)

  chain_reads : (d : ℕ) (value : Optional) (p q : Parts) (ts : List Token) →
      StepReads (λ o us. (c : Optional) (vs : List Token) → IsFilterChain d o us c vs → IsFilterChain d value ts c vs) ts
      (chain_step spans (deeper spans d) (placed value p) ts) (chain_step others (deeper others d) (placed value q) ts)
  unfolding chain_step
  chain_reads d value p q (symbol pipe ∷ ts) =
      step_behind (step_under _ _ (filter_reads spans others d (deeper_reads d) _ _ value p q ts)
      (λ e _ _ us x. step_goes (λ c vs y. chain_more x y) (same us)))
  chain_reads d value p q _ = step_stops

  -- what is read has its tree, and is the same over both
  pub expression_both : (d : ℕ) (ts : List Token) → Reads (IsExpression d ts) ts (expression_at spans d ts) (expression_at others d ts)
  unfolding expression_at
  expression_both d ts = expression_reads spans others d (deeper_reads d) ts

  pub condition_both : (d : ℕ) (ts : List Token) → Reads (IsBinary d disjunction ts) ts (condition_at spans d ts) (condition_at others d ts)
  unfolding condition_at
  condition_both d ts = condition_reads spans others d (deeper_reads d) ts

  pub filter_both : (d : ℕ) (value : Optional) (p q : Parts) (ts : List Token) →
      Reads (IsFilter d value ts) ts (filter_at spans d (placed value p) ts) (filter_at others d (placed value q) ts)
  unfolding filter_at
  filter_both d value p q ts = filter_reads spans others d (deeper_reads d) _ _ value p q ts

  pub filter_chain_both : (d : ℕ) (value : Optional) (p q : Parts) (ts : List Token) →
      Reads (IsFilterChain d value ts) ts (filter_chain_at spans d (placed value p) ts) (filter_chain_at others d (placed value q) ts)
  unfolding filter_chain_at filter_chain_by
  filter_chain_both d value p q ts =
      reads_all (chain_step spans (deeper spans d)) (chain_step others (deeper others d)) (IsFilterChain d) (λ o ts. chain_end)
      (chain_reads d)
      value p q ts

-- each round of a repetition takes a token at least
module _ (spans : List Span) (d : ℕ) where
  pub parts_fall : (start : Span) → Shrinks (part_step spans (deeper spans d) start)
  parts_fall start a b ts us e =
      shrinks.part_shrinks (step_tree (part_reads spans spans d (deeper_reads spans spans d) start start a.tree a.places a.places ts) e).0

  pub filters_fall : (start : Span) → Shrinks (filter_step spans (deeper spans d) start)
  filters_fall start a b ts us e =
      shrinks.filter_parts_shrinks (step_tree
      (filter_step_reads spans spans d (deeper_reads spans spans d) start start a.tree a.places a.places ts) e).0

  pub operands_fall : (k : Level) (start : Span) → Shrinks (operand_step spans k (operand_by spans (deeper spans d) k) start)
  unfolding operand_step
  operands_fall k start a b [] us e = cc
  operands_fall k start a b (t ∷ ts) us e =
      let kept = (step_tree (operand_behind_reads spans spans d (deeper_reads spans spans d) k _ _
      (operand_reads spans spans d k) start start
      t a.tree a.places a.places ts (operator k t) refl) e).1.1 in omega arith

  pub links_fall : Shrinks (link_step spans (terms_by spans (deeper spans d)))
  unfolding link_step
  links_fall ls ms [] us e = cc
  links_fall ls ms (t ∷ ts) us e =
      let kept = (step_tree (link_behind_reads spans spans d (deeper_reads spans spans d) ls.tree ls.places ls.places t ts
      (comparison_operator t) (is_word (codes "not") t) refl refl) e).1.1 in omega arith

  -- what is read, and what a reading takes
  pub expression_takes : (e : Node) (ts us : List Token) → expression_by spans (deeper spans d) ts ≡ Ok (e, us) → length us < length ts
  expression_takes e ts us h = shrinks.expression_shrinks (tree_of (expression_reads spans spans d (deeper_reads spans spans d) ts) h).0

  pub filter_takes : (start : Span) (value : OptionalNode) (e : Node) (ts us : List Token) →
      filter_by spans (deeper spans d) start value ts ≡ Ok (e, us) → length us < length ts
  filter_takes start value e ts us h =
      shrinks.filter_shrinks (tree_of
      (filter_reads spans spans d (deeper_reads spans spans d) start start value.tree value.places value.places ts) h).0

-- without its places, the reading is the one over no table
module _ (spans : List Span) (d : ℕ) where
  pub expression_erased : (ts : List Token) → bare (expression_at spans d ts) ≡ tree.expression_at d ts
  unfolding tree.expression_at
  expression_erased ts = (expression_both spans [] d ts).same

  pub condition_erased : (ts : List Token) → bare (condition_at spans d ts) ≡ tree.condition_at d ts
  unfolding tree.condition_at
  condition_erased ts = (condition_both spans [] d ts).same

  pub filter_erased : (value : OptionalNode) (ts : List Token) → bare (filter_at spans d value ts) ≡ tree.filter_at d value.tree ts
  unfolding tree.filter_at
  filter_erased value ts = (filter_both spans [] d value.tree value.places no_parts ts).same

  pub filter_chain_erased : (value : OptionalNode) (ts : List Token) →
      bare (filter_chain_at spans d value ts) ≡ tree.filter_chain_at d value.tree ts
  unfolding tree.filter_chain_at
  filter_chain_erased value ts = (filter_chain_both spans [] d value.tree value.places no_parts ts).same

-- what is read has its tree
pub expression_sound : (d : ℕ) (ts : List Token) → alone.Reads (IsExpression d ts) ts (tree.expression_at d ts)
unfolding tree.expression_at
expression_sound d ts = (expression_both [] [] d ts).reads

pub filter_chain_sound : (d : ℕ) (value : Optional) (ts : List Token) →
    alone.Reads (IsFilterChain d value ts) ts (tree.filter_chain_at d value ts)
unfolding tree.filter_chain_at
filter_chain_sound d value ts = (filter_chain_both [] [] d value no_parts no_parts ts).reads
