-- An operand that is alone: no level goes on with it.
use Rattle.std.proofs.Common.{◌≡◌, codes, bytes_eq, Bool, true, false, ◌&&◌, not, if◌then◌else◌, pos, Result, Ok, List, [], ◌∷◌, None, refl, sym, ap, subst, ◌∙◌}
use Rattle.template_values_model.specs.Val.{int, none}
use Rattle.template_compiler_tree.specs.Tree.{Expression, constant, unary}
use Rattle.template_compiler_tree.specs.declared.expressions.Expr.{Expr}
use Rattle.template_compiler_tree.specs.declared.operators.UnaryOpKind.TheVariants as unaries
use Rattle.template_compiler_tree.specs.declared.span.Span.{Span}
use Rattle.template_compiler_tree.specs.NodePlaces.{no_parts, one}
use Rattle.template_compiler_tokens.specs.Places.{next_span, stretch}
use Rattle.template_compiler_tokens.specs.Token.{Token, identifier, number, symbol, variable_end, block_end, comma, colon, paren_close, bracket_close, brace_close}
use Rattle.template_compiler_grammar.specs.Words.{is_word, literal_word, Level, factors, texts, terms, conjunction, disjunction, operator}
use Rattle.template_compiler_grammar.specs.ReaderParts.{word_tree}
use Rattle.template_compiler_tokens.specs.Steps.{Read, and_then, stops, all}
use Rattle.template_compiler_tokens.proofs.Loops.{then_goes, all_stops}
use Rattle.template_compiler_grammar.specs.Nodes.{Node, node, PlacedLinks, no_placed_links, compared_node}
use Rattle.template_compiler_grammar.specs.Reader.{Deeper, nothing_deeper, primary_by, part_step, parts_by, unary_by, filter_step, filtered_by, power_behind, power_by, operand_step, binary_of, terms_by, link_behind, link_step, comparison_by, negation_by, operand_by, binary_by, if_behind, expression_by}
use Rattle.template_compiler_stream.specs.Signs.{is_plain, is_end, begins_alone}
use Rattle.template_compiler_stream.specs.declared.refusal.Refusal.{Refusal}
use Rattle.template_compiler_expression_parts.specs.Parsed.{Parsed}
use Rattle.template_compiler_expression_parts.proofs.Rounds.{operand_none}

-- what an end leaves as it is
record Ends (spans : List Span) (r : Deeper) (e : Token) (us : List Token) : Type 0 where
  part : (start : Span) (a : Node) → part_step spans r start a (e ∷ us) ≡ stops
  filter : (start : Span) (a : Node) → filter_step spans r start a (e ∷ us) ≡ stops
  power : (start : Span) (a : Node) → power_behind spans r start a (e ∷ us) ≡ Ok (a, e ∷ us)
  link : (read : List Token → Read Node) (ls : PlacedLinks) → link_step spans read ls (e ∷ us) ≡ stops

ends : (spans : List Span) (r : Deeper) (e : Token) (us : List Token) → is_end e ≡ true → Ends spans r e us
unfolding part_step filter_step power_behind link_step link_behind
ends spans r variable_end us h = record { part = λ s a. refl; filter = λ s a. refl; power = λ s a. refl; link = λ read ls. refl }
ends spans r block_end us h = record { part = λ s a. refl; filter = λ s a. refl; power = λ s a. refl; link = λ read ls. refl }
ends spans r (symbol comma) us h = record { part = λ s a. refl; filter = λ s a. refl; power = λ s a. refl; link = λ read ls. refl }
ends spans r (symbol colon) us h = record { part = λ s a. refl; filter = λ s a. refl; power = λ s a. refl; link = λ read ls. refl }
ends spans r (symbol paren_close) us h = record { part = λ s a. refl; filter = λ s a. refl; power = λ s a. refl; link = λ read ls. refl }
ends spans r (symbol bracket_close) us h = record { part = λ s a. refl; filter = λ s a. refl; power = λ s a. refl; link = λ read ls. refl }
ends spans r (symbol brace_close) us h = record { part = λ s a. refl; filter = λ s a. refl; power = λ s a. refl; link = λ read ls. refl }
ends spans r _ us h = cc

no_operator : (k : Level) (e : Token) → is_end e ≡ true → operator k e ≡ None
no_operator factors (symbol comma) h = refl
no_operator factors _ h = cc
no_operator texts (symbol comma) h = refl
no_operator texts _ h = cc
no_operator terms (symbol comma) h = refl
no_operator terms _ h = cc
no_operator conjunction (identifier n) h = cc
no_operator conjunction _ h = refl
no_operator disjunction (identifier n) h = cc
no_operator disjunction _ h = refl

-- the operand
abbrev value_of : Token → Expression
value_of (identifier n) = word_tree (literal_word n) n
value_of (number n) = constant (int (pos n))
value_of _ = constant none

abbrev node_at : List Span → Token → List Token → Node
node_at spans t us = node (value_of t) (next_span spans (t ∷ us)) no_parts

plain_primary : (spans : List Span) (r : Deeper) (t : Token) (us : List Token) → is_plain t ≡ true →
    primary_by spans r (t ∷ us) ≡ Ok (node_at spans t us, us)
unfolding primary_by
plain_primary spans r (identifier n) us h = refl
plain_primary spans r (number n) us h = refl
plain_primary spans r _ us h = cc

plain_unary : (spans : List Span) (r : Deeper) (t : Token) (us : List Token) → is_plain t ≡ true →
    unary_by spans r (t ∷ us) ≡ and_then (primary_by spans r (t ∷ us)) (parts_by spans r (next_span spans (t ∷ us)))
unfolding unary_by
plain_unary spans r (identifier n) us h = refl
plain_unary spans r (number n) us h = refl
plain_unary spans r _ us h = cc

not_true : (b : Bool) → not b ≡ true → b ≡ false
not_true true h = cc
not_true false h = refl

plain_word : (t : Token) → is_plain t ≡ true → is_word (codes "not") t ≡ false
plain_word (identifier n) h = not_true (bytes_eq (codes "not") n) h
plain_word (number n) h = refl
plain_word _ h = cc

-- from the tightest level on
module _ (spans : List Span) (r : Deeper) (t e : Token) (us : List Token) (plain : is_plain t ≡ true) (end : is_end e ≡ true) where
  abbrev start : Span
  start = next_span spans (t ∷ e ∷ us)

  abbrev alone : Node
  alone = node_at spans t (e ∷ us)

  unary_alone : unary_by spans r (t ∷ e ∷ us) ≡ Ok (alone, e ∷ us)
  unfolding parts_by
  unary_alone =
      plain_unary spans r t (e ∷ us) plain ∙
      then_goes (parts_by spans r start) (plain_primary spans r t (e ∷ us) plain)
      (all_stops (part_step spans r start) alone (e ∷ us) ((ends spans r e us end).part start alone))

  power_alone : power_by spans r (t ∷ e ∷ us) ≡ Ok (alone, e ∷ us)
  unfolding power_by filtered_by
  power_alone =
      then_goes (power_behind spans r start)
      (then_goes (all (filter_step spans r start)) unary_alone
      (all_stops (filter_step spans r start) alone (e ∷ us) ((ends spans r e us end).filter start alone)))
      ((ends spans r e us end).power start alone)

  level_alone : (k : Level) (read : List Token → Read Node) → read (t ∷ e ∷ us) ≡ Ok (alone, e ∷ us) →
      binary_of spans k read (t ∷ e ∷ us) ≡ Ok (alone, e ∷ us)
  unfolding binary_of
  level_alone k read h =
      then_goes (all (operand_step spans k read start)) h
      (all_stops (operand_step spans k read start) alone (e ∷ us) (operand_none spans k read start alone (e ∷ us) (no_operator k e end)))

  texts_alone : binary_of spans texts (binary_of spans factors (power_by spans r)) (t ∷ e ∷ us) ≡ Ok (alone, e ∷ us)
  texts_alone = level_alone texts (binary_of spans factors (power_by spans r)) (level_alone factors (power_by spans r) power_alone)

  comparison_alone : comparison_by spans r (t ∷ e ∷ us) ≡ Ok (alone, e ∷ us)
  unfolding comparison_by terms_by
  comparison_alone =
      then_goes
      (λ a ws. and_then (all (link_step spans (terms_by spans r)) no_placed_links ws)
      (λ ls vs. Ok (compared_node a ls (stretch spans (t ∷ e ∷ us) vs), vs)))
      (level_alone terms (binary_of spans texts (binary_of spans factors (power_by spans r))) texts_alone)
      (then_goes (λ ls vs. Ok (compared_node alone ls (stretch spans (t ∷ e ∷ us) vs), vs))
      (all_stops (link_step spans (terms_by spans r)) no_placed_links (e ∷ us)
      ((ends spans r e us end).link (terms_by spans r) no_placed_links)) refl)

  negation_alone : negation_by spans r (t ∷ e ∷ us) ≡ Ok (alone, e ∷ us)
  unfolding negation_by
  negation_alone =
      ap
      (λ (b : Bool). if b
      then and_then (r.negation (e ∷ us)) (λ n vs. Ok (node (unary unaries.Not n.tree) (stretch spans (t ∷ e ∷ us) vs) (one n.places), vs))
      else comparison_by spans r (t ∷ e ∷ us))
      (plain_word t plain) ∙ comparison_alone

  operand_alone : (k : Level) → operand_by spans r k (t ∷ e ∷ us) ≡ Ok (alone, e ∷ us)
  unfolding operand_by
  operand_alone factors = power_alone
  operand_alone texts = level_alone factors (power_by spans r) power_alone
  operand_alone terms = texts_alone
  operand_alone conjunction = negation_alone
  operand_alone disjunction = level_alone conjunction (negation_by spans r) negation_alone

both_true : (x y : Bool) → x && y ≡ true → (x ≡ true) × (y ≡ true)
both_true true true h = (refl, refl)
both_true true false h = cc
both_true false y h = cc

-- an operand that is alone is read at any level
alone_read : (spans : List Span) (r : Deeper) (k : Level) (ts : List Token) → begins_alone ts ≡ true →
    binary_by spans r k ts ≡ primary_by spans nothing_deeper ts
unfolding binary_by
alone_read spans r k [] h = cc
alone_read spans r k (t ∷ []) h = cc
alone_read spans r k (t ∷ e ∷ us) h =
    let parts = both_true (is_end e) (is_plain t) h in
    level_alone spans r t e us parts.1 parts.0 k (operand_by spans r k) (operand_alone spans r t e us parts.1 parts.0 k) ∙
    sym (plain_primary spans nothing_deeper t (e ∷ us) parts.1)

pub parsed_alone : (spans : List Span) (r : Deeper) (k : Level) (ts new : List Token) (x : Result Expr Refusal) → begins_alone ts ≡ true →
    Parsed (primary_by spans nothing_deeper ts) new x → Parsed (binary_by spans r k ts) new x
parsed_alone spans r k ts new x h parsed = subst (λ (m : Read Node). Parsed m new x) (sym (alone_read spans r k ts h)) parsed

-- no condition stands behind it
no_if : (spans : List Span) (r : Deeper) (start : Span) (a : Node) (e : Token) (us : List Token) → is_end e ≡ true →
    if_behind spans r start a (e ∷ us) ≡ Ok (a, e ∷ us)
unfolding if_behind
no_if spans r start a (identifier n) us h = cc
no_if spans r start a e us h = refl

expression_read : (spans : List Span) (r : Deeper) (ts : List Token) → begins_alone ts ≡ true →
    expression_by spans r ts ≡ primary_by spans nothing_deeper ts
unfolding expression_by
expression_read spans r [] h = cc
expression_read spans r (t ∷ []) h = cc
expression_read spans r (t ∷ e ∷ us) h =
    let parts = both_true (is_end e) (is_plain t) h in
    let start = next_span spans (t ∷ e ∷ us) in
    let read = alone_read spans r disjunction (t ∷ e ∷ us) h ∙ plain_primary spans nothing_deeper t (e ∷ us) parts.1 in
    then_goes (if_behind spans r start) read (no_if spans r start (node_at spans t (e ∷ us)) e us parts.0) ∙
    sym (plain_primary spans nothing_deeper t (e ∷ us) parts.1)

pub parsed_expression_alone : (spans : List Span) (r : Deeper) (ts new : List Token) (x : Result Expr Refusal) → begins_alone ts ≡ true →
    Parsed (primary_by spans nothing_deeper ts) new x → Parsed (expression_by spans r ts) new x
parsed_expression_alone spans r ts new x h parsed = subst (λ (m : Read Node). Parsed m new x) (sym (expression_read spans r ts h)) parsed

-- a sum
pub parsed_sum_alone : (spans : List Span) (r : Deeper) (ts new : List Token) (x : Result Expr Refusal) → begins_alone ts ≡ true →
    Parsed (primary_by spans nothing_deeper ts) new x → Parsed (terms_by spans r ts) new x
unfolding terms_by binary_by operand_by
parsed_sum_alone spans r ts new x h parsed = parsed_alone spans r terms ts new x h parsed
