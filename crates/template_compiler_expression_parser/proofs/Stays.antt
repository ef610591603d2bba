-- An operand stays what it is where what stands next goes on with nothing; and what is read behind it else.
use Rattle.std.proofs.Common.{◌≡◌, codes, bytes_eq, ℕ, Bool, true, false, ◌||◌, not, if◌then◌else◌, Result, Ok, Err, Option, option_map, is_some, List, [], ◌∷◌, None, Some, refl, sym, ap, subst, ◌∙◌}
use Rattle.template_compiler_tree.specs.declared.expressions.Expr.{Expr}
use Rattle.template_compiler_tree.specs.declared.span.Span.{Span}
use Rattle.template_compiler_tree.specs.declared.operators.CompareOpKind.TheVariants as comparisons
use Rattle.template_compiler_tree.specs.declared.operators.UnaryOpKind.TheVariants as unaries
use Rattle.template_compiler_tree.specs.NodePlaces.{one}
use Rattle.template_compiler_tree.specs.Tree.{unary}
use Rattle.template_compiler_tokens.specs.Places.{next_span, stretch}
use Rattle.template_compiler_tokens.specs.Token.{Token, Symbol, identifier, symbol, plus, minus, mul, div, floor_div, modulo, tilde, eq, ne, gt, gte, lt, lte, dot, bracket_open, paren_open, pipe, pow}
use Rattle.template_compiler_tokens.specs.Steps.{Read, and_then, stops, all}
use Rattle.template_compiler_tokens.proofs.Loops.{then_goes, then_fails, all_stops}
use Rattle.template_compiler_grammar.specs.Words.{begins_word, is_word, Level, factors, texts, terms, conjunction, disjunction}
use Rattle.template_compiler_grammar.specs.Nodes.{Node, node, PlacedLinks, no_placed_links, compared_node}
use Rattle.template_compiler_grammar.specs.Reader.{Deeper, primary_by, part_step, parts_by, up_to, unary_by, filter_step, filtered_by, power_behind, power_by, operand_step, binary_of, terms_by, link_behind, link_step, comparison_by, negation_by, operand_by, binary_by, if_behind, expression_by}
use Rattle.template_compiler_grammar.specs.Views.{node_of}
use Rattle.template_compiler_stream.specs.Refusals.{Refused}
use Rattle.template_compiler_stream.specs.Signs.{next_symbol, next_word, next_operator, begins_symbol}
use Rattle.template_compiler_stream.specs.declared.refusal.Refusal.{Refusal}
use Rattle.template_compiler_stream.specs.declared.refusal.Refusal.TheVariants as refusals
use Rattle.template_compiler_expression_parts.specs.Parsed.{Parsed}
use Rattle.template_compiler_expression_parts.proofs.Rounds.{operand_none, filter_none}
use Rattle.template_compiler_expression_parser.specs.Ahead.{is_sum_sign, is_part_sign, is_link_sign, is_link_word, is_filter_sign, begins_sign, HasNoLink, HasNoFilter, HasNoOperator, sum_from, comparison_from, operators_from, choices_from}

-- by the token that stands next
sum_ends : (ts : List Token) → begins_sign is_sum_sign ts ≡ false →
    (next_operator factors ts ≡ None) × (next_operator texts ts ≡ None) × (next_operator terms ts ≡ None)
sum_ends [] h = (refl, refl, refl)
sum_ends (symbol plus ∷ ts) h = cc
sum_ends (symbol minus ∷ ts) h = cc
sum_ends (symbol mul ∷ ts) h = cc
sum_ends (symbol div ∷ ts) h = cc
sum_ends (symbol floor_div ∷ ts) h = cc
sum_ends (symbol modulo ∷ ts) h = cc
sum_ends (symbol tilde ∷ ts) h = cc
sum_ends (t ∷ ts) h = (refl, refl, refl)

part_ends : (spans : List Span) (r : Deeper) (start : Span) (a : Node) (ts : List Token) → begins_sign is_part_sign ts ≡ false →
    part_step spans r start a ts ≡ stops
unfolding part_step
part_ends spans r start a [] h = refl
part_ends spans r start a (symbol dot ∷ ts) h = cc
part_ends spans r start a (symbol bracket_open ∷ ts) h = cc
part_ends spans r start a (symbol paren_open ∷ ts) h = cc
part_ends spans r start a (t ∷ ts) h = refl

choice_ends : (ts : List Token) → next_word ts ≡ None → (next_operator conjunction ts ≡ None) × (next_operator disjunction ts ≡ None)
choice_ends [] h = (refl, refl)
choice_ends (identifier n ∷ ts) h = cc
choice_ends (t ∷ ts) h = (refl, refl)

if_ends : (spans : List Span) (r : Deeper) (start : Span) (a : Node) (ts : List Token) → next_word ts ≡ None →
    if_behind spans r start a ts ≡ Ok (a, ts)
unfolding if_behind
if_ends spans r start a [] h = refl
if_ends spans r start a (identifier n ∷ ts) h = cc
if_ends spans r start a (t ∷ ts) h = refl

neither : (x y : Bool) → x || y ≡ false → (x ≡ false) × (y ≡ false)
neither true y h = cc
neither false true h = cc
neither false false h = (refl, refl)

pub no_word : {A B : Type 0} (f : A → B) (o : Option A) (n : Option B) (b : Bool) → option_map f o ≡ n → is_some o ≡ not b → b ≡ true → n ≡ None
no_word f None n b e g h = sym e
no_word f (Some x) n b e g h = let no : true ≡ false = g ∙ ap not h in cc

some_is : {A : Type 0} (x y : A) → Some x ≡ Some y → x ≡ y
some_is x y h = cc

pub sign_links : (s : Symbol) (ts : List Token) → Some s ≡ next_symbol ts → is_link_sign s ≡ false → HasNoLink ts
sign_links s [] e h = cc
sign_links s (symbol eq ∷ ts) e h = cc
sign_links s (symbol ne ∷ ts) e h = cc
sign_links s (symbol gt ∷ ts) e h = cc
sign_links s (symbol gte ∷ ts) e h = cc
sign_links s (symbol lt ∷ ts) e h = cc
sign_links s (symbol lte ∷ ts) e h = cc
sign_links s (symbol t ∷ ts) e h = (refl, refl)
sign_links s (t ∷ ts) e h = cc

pub word_links : (w : List ℕ) (ts : List Token) → Some w ≡ next_word ts → is_link_word w ≡ false → HasNoLink ts
word_links w [] e h = cc
word_links w (identifier n ∷ ts) e h =
    let same = some_is w n e in
    let both = neither (bytes_eq (codes "in") n) (bytes_eq (codes "not") n) (sym (ap is_link_word same) ∙ h) in
    (ap (λ (b : Bool). if b then Some comparisons.In else None) both.0, both.1)
word_links w (t ∷ ts) e h = cc

pub nothing_links : (ts : List Token) → None ≡ next_symbol ts → None ≡ next_word ts → HasNoLink ts
nothing_links [] e f = (refl, refl)
nothing_links (symbol s ∷ ts) e f = cc
nothing_links (identifier n ∷ ts) e f = cc
nothing_links (t ∷ ts) e f = (refl, refl)

pub sign_filters : (s : Symbol) (ts : List Token) → Some s ≡ next_symbol ts → is_filter_sign s ≡ false → HasNoFilter ts
sign_filters s [] e h = cc
sign_filters s (symbol pipe ∷ ts) e h = cc
sign_filters s (symbol pow ∷ ts) e h = cc
sign_filters s (symbol t ∷ ts) e h = (refl, refl, refl)
sign_filters s (t ∷ ts) e h = cc

pub word_filters : (w : List ℕ) (ts : List Token) → Some w ≡ next_word ts → bytes_eq (codes "is") w ≡ false → HasNoFilter ts
word_filters w [] e h = cc
word_filters w (identifier n ∷ ts) e h = (refl, sym (ap (λ x. bytes_eq (codes "is") x) (some_is w n e)) ∙ h, refl)
word_filters w (t ∷ ts) e h = cc

pub nothing_filters : (ts : List Token) → None ≡ next_symbol ts → None ≡ next_word ts → HasNoFilter ts
nothing_filters [] e f = (refl, refl, refl)
nothing_filters (symbol s ∷ ts) e f = cc
nothing_filters (identifier n ∷ ts) e f = cc
nothing_filters (t ∷ ts) e f = (refl, refl, refl)

link_ends : (spans : List Span) (read : List Token → Read Node) (ls : PlacedLinks) (ts : List Token) → HasNoLink ts →
    link_step spans read ls ts ≡ stops
unfolding link_step link_behind
link_ends spans read ls [] h = refl
link_ends spans read ls (t ∷ ts) h =
    ap (λ o. link_behind spans o (is_word (codes "not") t) read ls ts) h.0 ∙ ap (λ b. link_behind spans None b read ls ts) h.1

power_ends : (spans : List Span) (r : Deeper) (start : Span) (a : Node) (ts : List Token) → begins_symbol pow ts ≡ false →
    power_behind spans r start a ts ≡ Ok (a, ts)
unfolding power_behind
power_ends spans r start a [] h = refl
power_ends spans r start a (symbol pow ∷ ts) h = cc
power_ends spans r start a (t ∷ ts) h = refl

negation_plain : (spans : List Span) (r : Deeper) (ts : List Token) → begins_word (codes "not") ts ≡ false →
    negation_by spans r ts ≡ comparison_by spans r ts
unfolding negation_by
negation_plain spans r [] h = refl
negation_plain spans r (t ∷ ts) h =
    ap (λ b. if b
    then and_then (r.negation ts)
    (λ e us. Ok (node (unary unaries.Not e.tree) (stretch spans (t ∷ ts) us) (one e.places), us))
    else comparison_by spans r (t ∷ ts)) h

unary_plain : (spans : List Span) (r : Deeper) (ts : List Token) → begins_symbol minus ts ≡ false →
    unary_by spans r ts ≡ and_then (primary_by spans r ts) (all (part_step spans r (next_span spans ts)))
unfolding unary_by parts_by
unary_plain spans r [] h = refl
unary_plain spans r (symbol minus ∷ ts) h = cc
unary_plain spans r (t ∷ ts) h = refl

-- one reading behind another
behind_all : (m : Read Node) (f g h k : Node → List Token → Read Node) →
    and_then (and_then (and_then (and_then m f) g) h) k ≡ and_then (and_then m (λ b us. and_then (and_then (f b us) g) h)) k
unfolding and_then
behind_all (Ok x) f g h k = refl
behind_all (Err e) f g h k = refl

parsed_stays : (m : Read Node) (go : Node → List Token → Read Node) (new : List Token) (x : Result Expr Refusal) →
    ((a : Node) → go a new ≡ Ok (a, new)) → Parsed m new x → Parsed (and_then m go) new x
parsed_stays m go new (Ok e) h p = then_goes go p (h (node_of e))
parsed_stays m go new (Err (refusals.Token f)) h p = then_fails go p
parsed_stays m go new (Err refusals.OutOfMemory) h p = tt

parsed_behind : {m : Read Node} (go : Node → List Token → Read Node) (a : Node) (mid new : List Token) (x : Result Expr Refusal) →
    m ≡ Ok (a, mid) → Parsed (go a mid) new x → Parsed (and_then m go) new x
parsed_behind go a mid new x e p = subst (λ q. Parsed q new x) (sym (then_goes go e refl)) p

refused_then : {A B : Type 0} (m : Read A) (go : A → List Token → Read B) (e : Refusal) → Refused m e → Refused (and_then m go) e
refused_then m go (refusals.Token f) h = then_fails go h
refused_then m go refusals.OutOfMemory h = tt

module _ (spans : List Span) (r : Deeper) (ts : List Token) where
  abbrev start : Span
  start = next_span spans ts

  abbrev level : Level → (List Token → Read Node) → Node → List Token → Read Node
  level k read = all (operand_step spans k read start)

  level_stays : (k : Level) (read : List Token → Read Node) (new : List Token) → next_operator k new ≡ None → (a : Node) →
      level k read a new ≡ Ok (a, new)
  level_stays k read new h a = all_stops (operand_step spans k read start) a new (operand_none spans k read start a new h)

  pub sum_stays : (new : List Token) (x : Result Expr Refusal) → begins_sign is_sum_sign new ≡ false → Parsed (power_by spans r ts) new x →
      Parsed (terms_by spans r ts) new x
  unfolding terms_by binary_of operand_by
  sum_stays new x h p =
      let none = sum_ends new h in
      parsed_stays _ (level terms (operand_by spans r terms)) new x (level_stays terms (operand_by spans r terms) new none.2)
      (parsed_stays _ (level texts (operand_by spans r texts)) new x (level_stays texts (operand_by spans r texts) new none.1)
      (parsed_stays _ (level factors (operand_by spans r factors)) new x (level_stays factors (operand_by spans r factors) new none.0) p))

  pub sum_goes : (a : Node) (mid new : List Token) (x : Result Expr Refusal) → power_by spans r ts ≡ Ok (a, mid) →
      Parsed (sum_from spans r start a mid) new x → Parsed (terms_by spans r ts) new x
  unfolding terms_by binary_of operand_by
  sum_goes a mid new x e p =
      subst (λ q. Parsed q new x)
      (sym (ap (λ m. and_then (and_then m (level texts (operand_by spans r texts))) (level terms (operand_by spans r terms)))
      (then_goes (level factors (operand_by spans r factors)) e refl)))
      p

  pub sum_refused : (e : Refusal) → Refused (power_by spans r ts) e → Refused (terms_by spans r ts) e
  unfolding terms_by binary_of operand_by
  sum_refused e h =
      refused_then _ (level terms (operand_by spans r terms)) e
      (refused_then _ (level texts (operand_by spans r texts)) e (refused_then _ (level factors (operand_by spans r factors)) e h))

  abbrev compare : Node → List Token → Read Node
  compare a us =
      and_then (all (link_step spans (terms_by spans r)) no_placed_links us) (λ ls vs. Ok (compared_node a ls (stretch spans ts vs), vs))

  comparison_stays : (new : List Token) (x : Result Expr Refusal) → HasNoLink new → Parsed (terms_by spans r ts) new x →
      Parsed (comparison_by spans r ts) new x
  unfolding comparison_by
  comparison_stays new x h p =
      parsed_stays _ compare new x
      (λ a. then_goes (λ ls vs. Ok (compared_node a ls (stretch spans ts vs), vs))
      (all_stops (link_step spans (terms_by spans r)) no_placed_links new (link_ends spans (terms_by spans r) no_placed_links new h)) refl) p

  comparison_refused : (e : Refusal) → Refused (terms_by spans r ts) e → Refused (comparison_by spans r ts) e
  unfolding comparison_by
  comparison_refused e h = refused_then _ compare e h

  pub power_stays : (new : List Token) (x : Result Expr Refusal) → HasNoFilter new → Parsed (unary_by spans r ts) new x →
      Parsed (power_by spans r ts) new x
  unfolding power_by filtered_by
  power_stays new x h p =
      parsed_stays _ (power_behind spans r start) new x (λ a. power_ends spans r start a new h.2)
      (parsed_stays _ (all (filter_step spans r start)) new x
      (λ a. all_stops (filter_step spans r start) a new (filter_none spans r start a new h.0 h.1)) p)

  pub power_goes : (a : Node) (mid new : List Token) (x : Result Expr Refusal) → unary_by spans r ts ≡ Ok (a, mid) →
      Parsed (and_then (all (filter_step spans r start) a mid) (power_behind spans r start)) new x → Parsed (power_by spans r ts) new x
  unfolding power_by filtered_by
  power_goes a mid new x e p =
      subst (λ q. Parsed q new x)
      (sym (ap (λ m. and_then m (power_behind spans r start)) (then_goes (all (filter_step spans r start)) e refl))) p

  pub power_refused : (e : Refusal) → Refused (unary_by spans r ts) e → Refused (power_by spans r ts) e
  unfolding power_by filtered_by
  power_refused e h = refused_then _ (power_behind spans r start) e (refused_then _ (all (filter_step spans r start)) e h)

  operators_stay : (new : List Token) (x : Result Expr Refusal) → HasNoOperator new → Parsed (unary_by spans r ts) new x →
      Parsed (comparison_by spans r ts) new x
  operators_stay new x h p = comparison_stays new x h.1 (sum_stays new x h.2 (power_stays new x h.0 p))

  power_is : (a : Node) (mid : List Token) → unary_by spans r ts ≡ Ok (a, mid) →
      power_by spans r ts ≡ and_then (all (filter_step spans r start) a mid) (power_behind spans r start)
  unfolding power_by filtered_by
  power_is a mid e = ap (λ m. and_then m (power_behind spans r start)) (then_goes (all (filter_step spans r start)) e refl)

  operators_are : (a : Node) (mid : List Token) → unary_by spans r ts ≡ Ok (a, mid) →
      comparison_by spans r ts ≡ operators_from spans r start a mid
  unfolding comparison_by terms_by binary_of operand_by
  operators_are a mid e =
      ap (λ m. and_then (and_then (and_then (and_then m (level factors (operand_by spans r factors))) (level texts (operand_by spans r texts)))
      (level terms (operand_by spans r terms))) compare) (power_is a mid e) ∙
      behind_all (and_then (all (filter_step spans r start) a mid) (power_behind spans r start)) (level factors (operand_by spans r factors))
      (level texts (operand_by spans r texts)) (level terms (operand_by spans r terms)) compare

  operators_go : (a : Node) (mid new : List Token) (x : Result Expr Refusal) → unary_by spans r ts ≡ Ok (a, mid) →
      Parsed (operators_from spans r start a mid) new x → Parsed (comparison_by spans r ts) new x
  operators_go a mid new x e p = subst (λ q. Parsed q new x) (sym (operators_are a mid e)) p

  operators_refused : (e : Refusal) → Refused (unary_by spans r ts) e → Refused (comparison_by spans r ts) e
  operators_refused e h = comparison_refused e (sum_refused e (power_refused e h))

  parts_stay : (from : Span) (new : List Token) (x : Result Expr Refusal) → begins_sign is_part_sign new ≡ false →
      Parsed (primary_by spans r ts) new x → Parsed (and_then (primary_by spans r ts) (all (part_step spans r from))) new x
  parts_stay from new x h p =
      parsed_stays _ (all (part_step spans r from)) new x
      (λ a. all_stops (part_step spans r from) a new (part_ends spans r from a new h)) p

  parts_go : (from : Span) (a : Node) (mid new : List Token) (x : Result Expr Refusal) → primary_by spans r ts ≡ Ok (a, mid) →
      Parsed (all (part_step spans r from) a mid) new x → Parsed (and_then (primary_by spans r ts) (all (part_step spans r from))) new x
  parts_go from a mid new x e p = parsed_behind (all (part_step spans r from)) a mid new x e p

  parts_refused : (from : Span) (e : Refusal) → Refused (primary_by spans r ts) e →
      Refused (and_then (primary_by spans r ts) (all (part_step spans r from))) e
  parts_refused from e h = refused_then _ (all (part_step spans r from)) e h

  pub expression_stays : (new : List Token) (x : Result Expr Refusal) → next_word new ≡ None → Parsed (negation_by spans r ts) new x →
      Parsed (expression_by spans r ts) new x
  unfolding expression_by binary_by binary_of operand_by
  expression_stays new x h p =
      let none = choice_ends new h in
      parsed_stays _ (if_behind spans r start) new x (λ a. if_ends spans r start a new h)
      (parsed_stays _ (level disjunction (operand_by spans r disjunction)) new x
      (level_stays disjunction (operand_by spans r disjunction) new none.1)
      (parsed_stays _ (level conjunction (operand_by spans r conjunction)) new x
      (level_stays conjunction (operand_by spans r conjunction) new none.0) p))

  pub expression_goes : (a : Node) (mid new : List Token) (x : Result Expr Refusal) → negation_by spans r ts ≡ Ok (a, mid) →
      Parsed (and_then (choices_from spans r start a mid) (if_behind spans r start)) new x → Parsed (expression_by spans r ts) new x
  unfolding expression_by binary_by binary_of operand_by
  expression_goes a mid new x e p =
      subst (λ q. Parsed q new x)
      (sym (ap (λ m. and_then (and_then m (level disjunction (operand_by spans r disjunction))) (if_behind spans r start))
      (then_goes (level conjunction (operand_by spans r conjunction)) e refl)))
      p

  pub expression_refused : (e : Refusal) → Refused (negation_by spans r ts) e → Refused (expression_by spans r ts) e
  unfolding expression_by binary_by binary_of operand_by
  expression_refused e h =
      refused_then _ (if_behind spans r start) e
      (refused_then _ (level disjunction (operand_by spans r disjunction)) e (refused_then _ (level conjunction (operand_by spans r conjunction)) e h))

-- the operators behind a first operand, where no comparison ends them
pub operators_end : (spans : List Span) (r : Deeper) (start : Span) (a b c : Node) (ts mid new : List Token) →
    and_then (all (filter_step spans r start) a ts) (power_behind spans r start) ≡ Ok (b, mid) →
    sum_from spans r start b mid ≡ Ok (c, new) → HasNoLink new → operators_from spans r start a ts ≡ Ok (c, new)
operators_end spans r start a b c ts mid new e f h =
    then_goes (λ b us. comparison_from spans r start b us) (then_goes (λ b us. sum_from spans r start b us) e f)
    (then_goes (λ ls vs. Ok (compared_node c ls (up_to spans start vs), vs))
    (all_stops (link_step spans (terms_by spans r)) no_placed_links new (link_ends spans (terms_by spans r) no_placed_links new h)) refl)

-- a first token that is no `not`, and no minus
module _ (spans : List Span) (r : Deeper) (ts mid : List Token) (same : mid ≡ ts) where
  pub negation_stays : (new : List Token) (x : Result Expr Refusal) → begins_word (codes "not") ts ≡ false → HasNoOperator new →
      Parsed (unary_by spans r mid) new x → Parsed (negation_by spans r ts) new x
  negation_stays new x bare h p =
      subst (λ q. Parsed q new x) (sym (negation_plain spans r ts bare))
      (operators_stay spans r ts new x h (subst (λ us. Parsed (unary_by spans r us) new x) same p))

  pub negation_goes : (a : Node) (next new : List Token) (x : Result Expr Refusal) → begins_word (codes "not") ts ≡ false →
      unary_by spans r mid ≡ Ok (a, next) → Parsed (operators_from spans r (next_span spans ts) a next) new x →
      Parsed (negation_by spans r ts) new x
  negation_goes a next new x bare e p =
      subst (λ q. Parsed q new x) (sym (negation_plain spans r ts bare))
      (operators_go spans r ts a next new x (ap (unary_by spans r) (sym same) ∙ e) p)

  pub negation_refused : (e : Refusal) → begins_word (codes "not") ts ≡ false → Refused (unary_by spans r mid) e →
      Refused (negation_by spans r ts) e
  negation_refused e bare h =
      subst (λ q. Refused q e) (sym (negation_plain spans r ts bare))
      (operators_refused spans r ts e (subst (λ us. Refused (unary_by spans r us) e) same h))

  pub unary_stays : (new : List Token) (x : Result Expr Refusal) → begins_symbol minus ts ≡ false → begins_sign is_part_sign new ≡ false →
      Parsed (primary_by spans r mid) new x → Parsed (unary_by spans r ts) new x
  unary_stays new x bare h p =
      subst (λ q. Parsed q new x) (sym (unary_plain spans r ts bare))
      (parts_stay spans r ts (next_span spans ts) new x h (subst (λ us. Parsed (primary_by spans r us) new x) same p))

  pub unary_goes : (a : Node) (next new : List Token) (x : Result Expr Refusal) → begins_symbol minus ts ≡ false →
      primary_by spans r mid ≡ Ok (a, next) → Parsed (all (part_step spans r (next_span spans ts)) a next) new x →
      Parsed (unary_by spans r ts) new x
  unary_goes a next new x bare e p =
      subst (λ q. Parsed q new x) (sym (unary_plain spans r ts bare))
      (parts_go spans r ts (next_span spans ts) a next new x (ap (primary_by spans r) (sym same) ∙ e) p)

  pub unary_refused : (e : Refusal) → begins_symbol minus ts ≡ false → Refused (primary_by spans r mid) e →
      Refused (unary_by spans r ts) e
  unary_refused e bare h =
      subst (λ q. Refused q e) (sym (unary_plain spans r ts bare))
      (parts_refused spans r ts (next_span spans ts) e (subst (λ us. Refused (primary_by spans r us) e) same h))
