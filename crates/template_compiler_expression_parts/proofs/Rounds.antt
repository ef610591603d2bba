-- Rounds of repetitions, by what stands next.
use Rattle.std.proofs.Common.{◌≡◌, codes, true, false, if◌then◌else◌, ℕ, Result, Ok, Err, List, [], ◌∷◌, None, Some, refl, sym, ap, subst, ◌∙◌}
use Rattle.template_compiler_tree.specs.Tree.{Expression, attribute, binary}
use Rattle.template_compiler_tree.specs.declared.operators.BinOpKind.{BinOpKind}
use Rattle.template_compiler_tree.specs.declared.expressions.Expr.{Expr}
use Rattle.template_compiler_tokens.specs.Token.{Token, TokenFault, bad, symbol, identifier, number, dot, pipe, bracket_open, paren_open}
use Rattle.template_compiler_grammar.specs.Words.{begins_dotted, begins_word, word_not, Level, factors, texts, terms, conjunction, disjunction, operator}
use Rattle.template_compiler_grammar.specs.Trees.{dotted}
use Rattle.template_compiler_tokens.specs.Steps.{Read, and_then, Step, goes, stops, fails, under, all}
use Rattle.template_compiler_grammar.specs.ReaderParts.{dotted_step, name_of}
use Rattle.template_compiler_tokens.proofs.Loops.{Shrinks, all_goes, all_stops, all_fails}
use Rattle.template_compiler_stream.specs.declared.refusal.Refusal.{Refusal}
use Rattle.template_compiler_stream.specs.declared.refusal.Refusal.TheVariants as refusals
use Rattle.template_compiler_stream.specs.Refusals.{Refused, fault_of}
use Rattle.template_compiler_tree.specs.declared.span.Span.{Span}
use Rattle.template_compiler_tokens.specs.Places.{next_span}
use Rattle.template_compiler_grammar.specs.Nodes.{placed, Node, node, OptionalNode, given_node, binary_node}
use Rattle.template_compiler_grammar.specs.Reader.{Deeper, dot_part, operand_behind, operand_step, part_step, is_by, test_by, filter_by, filter_step, chain_step, up_to}
use Rattle.template_compiler_grammar.specs.Views.{node_of}
use Rattle.template_compiler_tree.specs.View.{expression_of}
use Rattle.template_compiler_tree.specs.ExpressionPlaces.{places_of}
use Rattle.template_compiler_tree.specs.NodePlaces.{Places, at, parts_more, one}
use Rattle.template_compiler_expression_parts.specs.Parsed.{RefusedStep, WentOn, dotted_by}
use Rattle.template_compiler_stream.specs.Left.{passed}
use Rattle.template_compiler_stream.specs.Signs.{next_operator, next_word, begins_symbol}
use Rattle.template_compiler_expression_parts.proofs.Takes.{dotted_takes}

bad_operator : (k : Level) (f : TokenFault) → operator k (bad f) ≡ None
bad_operator factors f = refl
bad_operator texts f = refl
bad_operator terms f = refl
bad_operator conjunction f = refl
bad_operator disjunction f = refl

operator_passed : (k : Level) (t : Token) (ts : List Token) (op : BinOpKind) → operator k t ≡ Some op → passed (t ∷ ts) ≡ ts
operator_passed k (bad f) ts op e = let none = bad_operator k f in cc
operator_passed k _ ts op e = refl

-- a node by its tree and its places
pub node_is : (e : Expr) (tree : Expression) (places : Places) → expression_of e ≡ tree → places_of e ≡ places → node_of e ≡ placed tree places
node_is e tree places p q = ap (λ t. placed t (places_of e)) p ∙ ap (λ q. placed tree q) q

module _ (spans : List Span) (k : Level) (read : List Token → Read Node) (start : Span) (a : Node) where
  pub operand_found : (ts : List Token) (op : BinOpKind) → next_operator k ts ≡ Some op →
      operand_step spans k read start a ts ≡ under (read (passed ts)) (λ b us. goes (binary_node op a b (up_to spans start us)) us)
  unfolding operand_step operand_behind
  operand_found [] op e = cc
  operand_found (t ∷ ts) op e =
      ap (λ o. operand_behind spans o read start a ts) e ∙
      ap (λ us. under (read us) (λ b us. goes (binary_node op a b (up_to spans start us)) us)) (sym (operator_passed k t ts op e))

  pub operand_none : (ts : List Token) → next_operator k ts ≡ None → operand_step spans k read start a ts ≡ stops
  unfolding operand_step operand_behind
  operand_none [] e = refl
  operand_none (t ∷ ts) e = ap (λ o. operand_behind spans o read start a ts) e

  pub operand_goes : (b : Node) (ts us : List Token) (op : BinOpKind) → next_operator k ts ≡ Some op → read (passed ts) ≡ Ok (b, us) →
      operand_step spans k read start a ts ≡ goes (binary_node op a b (up_to spans start us)) us
  unfolding under
  operand_goes b ts us op e f =
      operand_found ts op e ∙ ap (λ m. under m (λ b us. goes (binary_node op a b (up_to spans start us)) us)) f

  pub operand_fails : (ts : List Token) (op : BinOpKind) (f : TokenFault) → next_operator k ts ≡ Some op → read (passed ts) ≡ Err f →
      operand_step spans k read start a ts ≡ fails f
  unfolding under
  operand_fails ts op f e g =
      operand_found ts op e ∙ ap (λ m. under m (λ b us. goes (binary_node op a b (up_to spans start us)) us)) g

-- a refusal, from one reading to the one around it
pub refused_under : {A B : Type 0} (m : Read A) (s : Step B) (e : Refusal) →
    ((f : TokenFault) → m ≡ Err f → s ≡ fails f) → Refused m e → RefusedStep s e
refused_under m s (refusals.Token f) go h = go (fault_of f) h
refused_under m s refusals.OutOfMemory go h = tt

pub operand_refused : (spans : List Span) (k : Level) (read : List Token → Read Node) (start : Span) (a : Node) (ts : List Token)
    (op : BinOpKind) (e : Refusal) → next_operator k ts ≡ Some op → Refused (read (passed ts)) e →
    RefusedStep (operand_step spans k read start a ts) e
operand_refused spans k read start a ts op e h =
    refused_under (read (passed ts)) (operand_step spans k read start a ts) e (λ f g. operand_fails spans k read start a ts op f h g)

-- rounds, as a loop takes them off
module _ {A : Type 0} (step : A → List Token → Step A) where
  pub rounds_end : (a b e : A) (ts us new : List Token) → all step a ts ≡ all step b us →
      (step a ts ≡ stops) × (new ≡ ts) × (e ≡ a) → all step b us ≡ Ok (e, new)
  rounds_end a b e ts us new same h =
      sym same ∙ all_stops step a ts h.0 ∙ ap (λ x. Ok (x, ts)) (sym h.2) ∙ ap (λ vs. Ok (e, vs)) (sym h.1)

  pub rounds_go : Shrinks step → (a b c : A) (ts us vs : List Token) → all step a ts ≡ all step c vs →
      step a ts ≡ goes b us → all step b us ≡ all step c vs
  rounds_go falls a b c ts us vs same e = sym (all_goes step falls a b ts us e) ∙ same

  pub rounds_refused : (a c : A) (ts vs : List Token) (e : Refusal) → all step a ts ≡ all step c vs →
      RefusedStep (step a ts) e → Refused (all step c vs) e
  rounds_refused a c ts vs (refusals.Token f) same h = sym same ∙ all_fails step a ts (fault_of f) h
  rounds_refused a c ts vs refusals.OutOfMemory same h = tt

-- the same, as the parser's function has them
pub next_operand_goes : (spans : List Span) (k : Level) (read : List Token → Read Node) (start whole : Span) (a b : Node) (e : Expr)
    (ts mid us : List Token) (op : BinOpKind) → Some op ≡ next_operator k ts → mid ≡ passed ts → read mid ≡ Ok (b, us) →
    expression_of e ≡ binary op a.tree b.tree → places_of e ≡ at whole (parts_more a.places (one b.places)) →
    whole ≡ up_to spans start us → operand_step spans k read start a ts ≡ goes (node_of e) us
next_operand_goes spans k read start whole a b e ts mid us op f g h i j l =
    operand_goes spans k read start a b ts us op (sym f) (ap read (sym g) ∙ h) ∙
    ap (λ e. goes e us) (sym (node_is e _ _ i j ∙ ap (λ s. binary_node op a b s) l))

pub next_operand_refused : (spans : List Span) (k : Level) (read : List Token → Read Node) (start : Span) (a : Node) (ts mid : List Token)
    (op : BinOpKind) (e : Refusal) → Some op ≡ next_operator k ts → mid ≡ passed ts → Refused (read mid) e →
    RefusedStep (operand_step spans k read start a ts) e
next_operand_refused spans k read start a ts mid op e f g h =
    operand_refused spans k read start a ts op e (sym f) (subst (λ us. Refused (read us) e) g h)

-- what stands behind a dot
dotted_same : (spans : List Span) (start : Span) (a : Node) (t : Token) (ts : List Token) →
    dot_part spans start a (t ∷ ts) ≡ dotted_by (next_span spans (t ∷ ts)) (up_to spans start ts) a t ts
unfolding dot_part dotted_by
dotted_same spans start a (identifier n) ts = refl
dotted_same spans start a (number n) ts = refl
dotted_same spans start a t ts = refl

pub dot_at : (spans all : List Span) (start place whole : Span) (a : Node) (t : Token) (old new : List Token) (r : Result Expr Refusal) →
    old ≡ t ∷ new → place ≡ next_span spans old → all ≡ spans → whole ≡ up_to all start new → WentOn (dotted_by place whole a t new) new r →
    WentOn (dot_part spans start a old) new r
dot_at spans all start place whole a t old new r e f g i h =
    let here = subst (λ s. WentOn (dotted_by place s a t new) new r) (i ∙ ap (λ spans. up_to spans start new) g) h in
    let there = subst (λ s. WentOn (dotted_by s (up_to spans start new) a t new) new r) (f ∙ ap (next_span spans) e) here in
    subst (λ m. WentOn m new r) (sym (ap (dot_part spans start a) e ∙ dotted_same spans start a t new)) there

dot_word : (spans : List Span) (start : Span) (a : Node) (n : List ℕ) (ts : List Token) → Some n ≡ next_word ts →
    dot_part spans start a ts ≡ goes (node (attribute a.tree n) (up_to spans start (passed ts)) (one a.places)) (passed ts)
unfolding dot_part
dot_word spans start a n [] e = cc
dot_word spans start a n (identifier m ∷ ts) e =
    (let same : m ≡ n = cc in
    ap (λ k. goes (node (attribute a.tree k) (up_to spans start ts) (one a.places)) ts) same)
dot_word spans start a n (t ∷ ts) e = cc

pub dot_named : (spans all : List Span) (start whole : Span) (a : Node) (n : List ℕ) (e : Expr) (old new : List Token) →
    Some n ≡ next_word old → new ≡ passed old → all ≡ spans → whole ≡ up_to all start new → expression_of e ≡ attribute a.tree n →
    places_of e ≡ at whole (one a.places) → dot_part spans start a old ≡ goes (node_of e) new
dot_named spans all start whole a n e old new word behind table stands tree places =
    let span : up_to spans start (passed old) ≡ whole =
    sym (stands ∙ ap (λ spans. up_to spans start new) table ∙ ap (up_to spans start) behind) in
    dot_word spans start a n old word ∙ ap (λ s. goes (node (attribute a.tree n) s (one a.places)) (passed old)) span ∙
    ap (λ us. goes (node (attribute a.tree n) whole (one a.places)) us) (sym behind) ∙
    ap (λ b. goes b new) (sym (node_is e (attribute a.tree n) (at whole (one a.places)) tree places))

-- what stands next goes on with no filter, and with no part
pub filter_none : (spans : List Span) (r : Deeper) (start : Span) (a : Node) (ts : List Token) → begins_symbol pipe ts ≡ false →
    begins_word (codes "is") ts ≡ false → filter_step spans r start a ts ≡ stops
unfolding filter_step
filter_none spans r start a [] e f = refl
filter_none spans r start a (symbol pipe ∷ ts) e f = cc
filter_none spans r start a (identifier n ∷ ts) e f = ap (λ b. if b then under (is_by spans r start a ts) goes else stops) f
filter_none spans r start a (t ∷ ts) e f = refl

pub part_none : (spans : List Span) (r : Deeper) (start : Span) (a : Node) (ts : List Token) → begins_symbol dot ts ≡ false →
    begins_symbol bracket_open ts ≡ false → begins_symbol paren_open ts ≡ false → part_step spans r start a ts ≡ stops
unfolding part_step
part_none spans r start a [] e f g = refl
part_none spans r start a (symbol dot ∷ ts) e f g = cc
part_none spans r start a (symbol bracket_open ∷ ts) e f g = cc
part_none spans r start a (symbol paren_open ∷ ts) e f g = cc
part_none spans r start a (t ∷ ts) e f g = refl

-- behind `is`
pub is_plain : (spans : List Span) (r : Deeper) (start : Span) (a : Node) (ts : List Token) → begins_word (codes "not") ts ≡ false →
    is_by spans r start a ts ≡ test_by spans r false start a ts
unfolding is_by test_by name_of and_then
is_plain spans r start a [] e = refl
is_plain spans r start a (t ∷ ts) e = ap (λ b. if b then test_by spans r true start a ts else test_by spans r false start a (t ∷ ts)) e

pub is_not : (spans : List Span) (r : Deeper) (start : Span) (a : Node) (ts : List Token) →
    is_by spans r start a (word_not ∷ ts) ≡ test_by spans r true start a ts
unfolding is_by
is_not spans r start a ts = refl

-- filters behind one another
module _ (spans : List Span) (r : Deeper) (value : OptionalNode) where
  pub chain_goes : (e : Node) (old ts us : List Token) → old ≡ symbol pipe ∷ ts →
      filter_by spans r (next_span spans ts) value ts ≡ Ok (e, us) → chain_step spans r value old ≡ goes (given_node e) us
  unfolding chain_step under
  chain_goes e old ts us h i = ap (λ ts. chain_step spans r value ts) h ∙ ap (λ m. under m (λ e us. goes (given_node e) us)) i

  pub chain_fails : (f : TokenFault) (old ts : List Token) → old ≡ symbol pipe ∷ ts →
      filter_by spans r (next_span spans ts) value ts ≡ Err f → chain_step spans r value old ≡ fails f
  unfolding chain_step under
  chain_fails f old ts h i = ap (λ ts. chain_step spans r value ts) h ∙ ap (λ m. under m (λ e us. goes (given_node e) us)) i

  pub chain_refused : (e : Refusal) (old ts : List Token) → old ≡ symbol pipe ∷ ts →
      Refused (filter_by spans r (next_span spans ts) value ts) e → RefusedStep (chain_step spans r value old) e
  chain_refused e old ts h i =
      refused_under (filter_by spans r (next_span spans ts) value ts) (chain_step spans r value old) e (λ f g. chain_fails f old ts h g) i

  pub chain_none : (ts : List Token) → begins_symbol pipe ts ≡ false → chain_step spans r value ts ≡ stops
  unfolding chain_step
  chain_none [] e = refl
  chain_none (symbol pipe ∷ ts) e = cc
  chain_none (t ∷ ts) e = refl

-- parts of a name
pub dotted_goes : (n m part : List ℕ) (ts us : List Token) → ts ≡ symbol dot ∷ identifier part ∷ us → m ≡ dotted n part → dotted_step n ts ≡ goes m us
unfolding dotted_step
dotted_goes n m part ts us e f = ap (λ ts. dotted_step n ts) e ∙ ap (λ m. goes m us) (sym f)

pub dotted_none : (n : List ℕ) (ts : List Token) → begins_dotted ts ≡ false → dotted_step n ts ≡ stops
unfolding dotted_step
dotted_none n [] e = refl
dotted_none n (symbol dot ∷ []) e = refl
dotted_none n (symbol dot ∷ identifier part ∷ ts) e = cc
dotted_none n (symbol dot ∷ t ∷ ts) e = refl
dotted_none n (t ∷ ts) e = refl

-- names
name_at : (n : List ℕ) (old : List Token) → Some n ≡ next_word old → name_of old ≡ all dotted_step n (passed old)
unfolding name_of
name_at n [] e = cc
name_at n (identifier m ∷ ts) e = let same : n ≡ m = cc in ap (λ n. all dotted_step n ts) (sym same)
name_at n (t ∷ ts) e = cc

pub name_more : (n part m s : List ℕ) (old mid us new : List Token) → Some n ≡ next_word old → mid ≡ passed old →
    mid ≡ symbol dot ∷ identifier part ∷ us → m ≡ dotted n part → all dotted_step m us ≡ Ok (s, new) → name_of old ≡ Ok (s, new)
name_more n part m s old mid us new e f g h i =
    name_at n old e ∙ ap (λ ts. all dotted_step n ts) (sym f) ∙ all_goes dotted_step dotted_takes n m mid us (dotted_goes n m part mid us g h) ∙ i

pub name_alone : (n : List ℕ) (old mid new : List Token) → Some n ≡ next_word old → mid ≡ passed old → new ≡ mid → begins_dotted mid ≡ false →
    name_of old ≡ Ok (n, new)
name_alone n old mid new e f g h =
    name_at n old e ∙ ap (λ ts. all dotted_step n ts) (sym f) ∙ all_stops dotted_step n mid (dotted_none n mid h) ∙ ap (λ ts. Ok (n, ts)) (sym g)
