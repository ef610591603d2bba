-- Code that counts nothing: no macro is made in it, and no loop is opened that may be called again. So it is of all that no
-- statement stands in.
use Rattle.std.proofs.Common.{◌≡◌, ℕ, ◌+◌, zero, suc, Bool, true, false, List, [], ◌∷◌, ◌++◌, length, Option, None, Some, refl, sym, ap, ◌∙◌, arith}
use Rattle.template_values_model.specs.Val.{Val}
use Rattle.template_compiler_tree.specs.declared.operators.UnaryOpKind.{UnaryOpKind}
use Rattle.template_compiler_tree.specs.declared.operators.UnaryOpKind.TheVariants.{Not, Neg}
use Rattle.template_compiler_tree.specs.Tree.{Expression, Optional, Expressions, Links, Arguments, Assignments, Imports, variable, constant, unary, binary, chain, conditional, attribute, item, call, filtered, tested, list_literal, tuple_literal, map_literal, absent, given, no_expressions, expressions_more, no_links, links_more, no_arguments, arguments_more, positional, keyword, positional_spread, keyword_spread, no_assignments, assignments_more, no_imports, imports_more}
use Rattle.template_compiler_tree.specs.Tree as tree
use Rattle.template_compiler_process.specs.Process.{Counts, no_counts, counted_together}
use Rattle.template_compiler_walk.specs.Expressions.{Passing, alone, spreads, has_spread, Callee, by_name, by_method, by_block, by_value, callee_of}
use Rattle.template_compiler_walk.specs.Statements.{stored_as, first_of, rest_of}
use Rattle.template_compiler_code.specs.Code.{Code, jump}
use Rattle.template_compiler_code.specs.Counting.{counts_of, counts_in}
use Rattle.template_compiler_codegen.specs.Core.{Coded, then_code, Core, empty, straight, both, leaping, either, rounds, sealed, loading, chosen, Ways, own_ways, no_ways, flat}
use Rattle.template_compiler_codegen.specs.Expressions.{unary_code, listed_core, mapped_core, stretches_core, entries_stretches_core, list_count, rest_count, map_count, merged_core, keyword_count, run_core, keywords_core, passed_core, called_core, expression_core, object_core, positional_cores, keyword_cores, optional_core, expressions_core, codes_of, entries_core, chain_core, linked_core, filter_core, filters_core}
use Rattle.template_compiler_codegen.specs.Statements.{target_core, targets_core, assignments_core, iterable_core, imports_core, parameter_core, parameters_core}

-- so many macros and loops
abbrev so_many : ℕ → ℕ → Counts
so_many m r = record { macros = m; rounds = r }

counts_same : (a b : Counts) → a.macros ≡ b.macros → a.rounds ≡ b.rounds → a ≡ b
counts_same a b e f = ap (λ (m : ℕ). so_many m a.rounds) e ∙ ap (λ (r : ℕ). so_many b.macros r) f

together_assoc : (a b c : Counts) → counted_together (counted_together a b) c ≡ counted_together a (counted_together b c)
together_assoc a b c = counts_same (counted_together (counted_together a b) c) (counted_together a (counted_together b c)) (omega arith) (omega arith)

pub with_none : (a : Counts) → counted_together a no_counts ≡ a
with_none a = counts_same (counted_together a no_counts) a (omega arith) (omega arith)

pub none_with : (a : Counts) → counted_together no_counts a ≡ a
none_with a = counts_same (counted_together no_counts a) a (omega arith) (omega arith)

pub counts_append : (xs ys : List Code) → counts_in (xs ++ ys) ≡ counted_together (counts_in xs) (counts_in ys)
counts_append [] ys = sym (none_with (counts_in ys))
counts_append (x ∷ xs) ys = ap (counted_together (counts_of x)) (counts_append xs ys) ∙ sym (together_assoc (counts_of x) (counts_in xs) (counts_in ys))

pub none_together : (a b : Counts) → a ≡ no_counts → b ≡ no_counts → counted_together a b ≡ no_counts
none_together a b e f = ap (λ (x : Counts). counted_together x b) e ∙ ap (counted_together no_counts) f

-- a core that counts nothing
pub data Plain : Core → Type 0 where
  plain_empty : Plain empty
  plain_straight : {c : Code} → counts_of c ≡ no_counts → Plain (straight c)
  plain_both : {a b : Core} → Plain a → Plain b → Plain (both a b)
  plain_leaping : {leap : ℕ → Code} {c : Core} → ((to : ℕ) → counts_of (leap to) ≡ no_counts) → Plain c → Plain (leaping leap c)
  plain_either : {a b : Core} → Plain a → Plain b → Plain (either a b)
  plain_rounds : {a b : Core} → Plain a → Plain b → Plain (rounds a b)
  plain_sealed : {c : Core} → Plain c → Plain (sealed c)
  plain_loading : {o : Option Val} {c : Core} → Plain c → Plain (loading o c)
  plain_chosen : {holds : Bool} {a b : Core} → Plain a → Plain b → Plain (chosen holds a b)

counts_then : (a b : Coded) → ((place : ℕ) → counts_in (a place) ≡ no_counts) → ((place : ℕ) → counts_in (b place) ≡ no_counts) → (place : ℕ) → counts_in (then_code a b place) ≡ no_counts
counts_then a b f g place =
    counts_append (a place) (b (place + length (a place))) ∙ none_together (counts_in (a place)) (counts_in (b (place + length (a place)))) (f place) (g (place + length (a place)))

-- the code counts nothing either
pub plain_counts : {c : Core} → Plain c → (ways : Ways) (place : ℕ) → counts_in (flat ways c place) ≡ no_counts
plain_counts plain_empty ways place = refl
plain_counts (plain_straight {c = c} e) ways place = none_together (counts_of c) no_counts e refl
plain_counts (plain_both {a = a} {b = b} p q) ways place = counts_then (flat ways a) (flat ways b) (plain_counts p ways) (plain_counts q ways) place
plain_counts (plain_leaping {leap = leap} {c = c} e p) ways place =
    none_together (counts_of (leap (suc place + length (flat ways c (suc place))))) (counts_in (flat ways c (suc place))) (e (suc place + length (flat ways c (suc place)))) (plain_counts p ways (suc place))
plain_counts (plain_either {a = a} {b = b} p q) ways place =
    let yes = flat ways a (suc place) in
    let begins = suc (suc place + length yes) in
    let other = flat ways b begins in
    let leap = jump (begins + length other) in
    none_together no_counts (counts_in (yes ++ (leap ∷ other))) refl
    (counts_append yes (leap ∷ other)
    ∙ none_together (counts_in yes) (counts_in (leap ∷ other)) (plain_counts p ways (suc place)) (none_together no_counts (counts_in other) refl (plain_counts q ways begins)))
plain_counts (plain_rounds {a = a} {b = b} p q) ways place =
    let stored = flat no_ways a (suc place) in
    let begins = suc place + length stored in
    let ends_at = suc (begins + length (flat (own_ways 0 0) b begins)) in
    let body = flat (own_ways ends_at place) b begins in
    none_together no_counts (counts_in (stored ++ (body ++ (jump place ∷ [])))) refl
    (counts_append stored (body ++ (jump place ∷ []))
    ∙ none_together (counts_in stored) (counts_in (body ++ (jump place ∷ []))) (plain_counts p no_ways (suc place))
    (counts_append body (jump place ∷ []) ∙ none_together (counts_in body) no_counts (plain_counts q (own_ways ends_at place) begins) refl))
plain_counts (plain_sealed p) ways place = plain_counts p no_ways place
plain_counts (plain_loading {o = None} p) ways place = plain_counts p no_ways place
plain_counts (plain_loading {o = Some v} p) ways place = refl
plain_counts (plain_chosen {holds = true} p q) ways place = plain_counts p ways place
plain_counts (plain_chosen {holds = false} p q) ways place = plain_counts q ways place

-- arguments that count nothing
pub data EachPlain : List (Passing Core Core) → Type 0 where
  none_plain : EachPlain []
  alone_plain : {c : Core} {args : List (Passing Core Core)} → Plain c → EachPlain args → EachPlain (alone c ∷ args)
  spread_plain : {c : Core} {args : List (Passing Core Core)} → Plain c → EachPlain args → EachPlain (spreads c ∷ args)

pub data NamedPlain : List (Passing (List ℕ × Core) Core) → Type 0 where
  none_named_plain : NamedPlain []
  named_plain : {name : List ℕ} {c : Core} {args : List (Passing (List ℕ × Core) Core)} → Plain c → NamedPlain args → NamedPlain (alone (name, c) ∷ args)
  merged_plain : {c : Core} {args : List (Passing (List ℕ × Core) Core)} → Plain c → NamedPlain args → NamedPlain (spreads c ∷ args)

pub plain_listed : (n : ℕ) → Plain (listed_core n)
plain_listed zero = plain_empty
plain_listed (suc n) = plain_straight refl

pub plain_mapped : (n : ℕ) → Plain (mapped_core n)
plain_mapped zero = plain_empty
plain_mapped (suc n) = plain_straight refl

pub plain_stretches : (n : ℕ) {args : List (Passing Core Core)} → EachPlain args → Plain (stretches_core n args)
plain_stretches n none_plain = plain_empty
plain_stretches n (alone_plain p each) = plain_both p (plain_stretches (suc n) each)
plain_stretches n (spread_plain p each) = plain_both (plain_listed n) (plain_both p (plain_stretches 0 each))

pub plain_entries : (n : ℕ) {args : List (Passing (List ℕ × Core) Core)} → NamedPlain args → Plain (entries_stretches_core n args)
plain_entries n none_named_plain = plain_empty
plain_entries n (named_plain p each) = plain_both (plain_straight refl) (plain_both p (plain_entries (suc n) each))
plain_entries n (merged_plain p each) = plain_both (plain_mapped n) (plain_both p (plain_entries 0 each))

pub plain_merged : (several : Bool) (n : ℕ) → Plain (merged_core several n)
plain_merged several n = plain_chosen (plain_straight refl) plain_empty

pub plain_run : (spread_one : Bool) (lists n : ℕ) → Plain (run_core spread_one lists n)
plain_run spread_one lists n = plain_chosen (plain_both (plain_listed n) (plain_straight refl)) plain_empty

plain_keywords : {args : List (Passing (List ℕ × Core) Core)} → NamedPlain args → Plain (keywords_core args)
plain_keywords {args = args} each = plain_both (plain_entries 0 each) (plain_both (plain_mapped (rest_count 0 args)) (plain_merged (has_spread args) (map_count args)))

pub plain_passed : (front : ℕ) {args : List (Passing Core Core)} {named : List (Passing (List ℕ × Core) Core)} → EachPlain args → NamedPlain named → Plain (passed_core front args named)
plain_passed front {args = args} {named = named} each others =
    plain_both (plain_stretches front each) (plain_both (plain_keywords others) (plain_run (has_spread args) (list_count front args) (rest_count front args + keyword_count named)))

plain_called : (callee : Callee) {whole object : Core} {args : List (Passing Core Core)} {named : List (Passing (List ℕ × Core) Core)} → Plain whole → Plain object → EachPlain args → NamedPlain named
    → Plain (called_core callee whole object args named)
plain_called (by_name name) p q each others = plain_both (plain_passed 0 each others) (plain_straight refl)
plain_called (by_method name) p q each others = plain_both q (plain_both (plain_passed 1 each others) (plain_straight refl))
plain_called (by_block name) p q each others = plain_both (plain_straight refl) (plain_both (plain_straight refl) (plain_straight refl))
plain_called by_value p q each others = plain_both p (plain_both (plain_passed 1 each others) (plain_straight refl))

plain_unary : (op : UnaryOpKind) → Plain (straight (unary_code op))
plain_unary Not = plain_straight refl
plain_unary Neg = plain_straight refl

data CodesPlain : List Core → Type 0 where
  no_codes : CodesPlain []
  more_codes : {c : Core} {cs : List Core} → Plain c → CodesPlain cs → CodesPlain (c ∷ cs)

mutual
  pub plain_expression : (e : Expression) → Plain (expression_core e)
  plain_expression (variable name) = plain_straight refl
  plain_expression (constant v) = plain_straight refl
  plain_expression (unary op e) = plain_loading (plain_both (plain_expression e) (plain_unary op))
  plain_expression (binary op left right) =
      plain_loading (plain_both (plain_expression left) (plain_chosen (plain_leaping (λ to. refl) (plain_expression right))
      (plain_chosen (plain_leaping (λ to. refl) (plain_expression right)) (plain_both (plain_expression right) (plain_straight refl)))))
  plain_expression (chain first links) = plain_loading (plain_both (plain_expression first) (plain_chain links))
  plain_expression (conditional test branch otherwise) = plain_both (plain_expression test) (plain_either (plain_expression branch) (plain_optional _ otherwise))
  plain_expression (attribute e name) = plain_both (plain_expression e) (plain_straight refl)
  plain_expression (item e key) = plain_both (plain_expression e) (plain_both (plain_expression key) (plain_straight refl))
  plain_expression (tree.slice e start stop by) =
      plain_both (plain_expression e) (plain_both (plain_optional _ start) (plain_both (plain_optional _ stop) (plain_both (plain_optional _ by) (plain_straight refl))))
  plain_expression (list_literal es) = plain_loading (plain_both (plain_expressions es) (plain_straight refl))
  plain_expression (tuple_literal es) = plain_loading (plain_both (plain_expressions es) (plain_straight refl))
  plain_expression (map_literal ks vs) = plain_loading (plain_both (plain_all_entries ks (plain_codes vs)) (plain_straight refl))
  plain_expression (call callee args) = plain_called (callee_of callee args) (plain_expression callee) (plain_object callee) (plain_positional args) (plain_keyword args)
  plain_expression (filtered name (given e) args) = plain_both (plain_expression e) (plain_both (plain_passed 1 (plain_positional args) (plain_keyword args)) (plain_straight refl))
  plain_expression (filtered name absent args) = plain_empty
  plain_expression (tested name e args) = plain_both (plain_expression e) (plain_both (plain_passed 1 (plain_positional args) (plain_keyword args)) (plain_straight refl))

  pub plain_object : (e : Expression) → Plain (object_core e)
  plain_object (attribute e name) = plain_expression e
  plain_object _ = plain_empty

  pub plain_positional : (args : Arguments) → EachPlain (positional_cores args)
  plain_positional no_arguments = none_plain
  plain_positional (arguments_more (positional e) args) = alone_plain (plain_expression e) (plain_positional args)
  plain_positional (arguments_more (positional_spread e) args) = spread_plain (plain_expression e) (plain_positional args)
  plain_positional (arguments_more _ args) = plain_positional args

  pub plain_keyword : (args : Arguments) → NamedPlain (keyword_cores args)
  plain_keyword no_arguments = none_named_plain
  plain_keyword (arguments_more (keyword name e) args) = named_plain (plain_expression e) (plain_keyword args)
  plain_keyword (arguments_more (keyword_spread e) args) = merged_plain (plain_expression e) (plain_keyword args)
  plain_keyword (arguments_more _ args) = plain_keyword args

  plain_optional : (missing : Val) (o : Optional) → Plain (optional_core missing o)
  plain_optional missing absent = plain_straight refl
  plain_optional missing (given e) = plain_expression e

  pub plain_expressions : (es : Expressions) → Plain (expressions_core es)
  plain_expressions no_expressions = plain_empty
  plain_expressions (expressions_more e es) = plain_both (plain_expression e) (plain_expressions es)

  plain_codes : (es : Expressions) → CodesPlain (codes_of es)
  plain_codes no_expressions = no_codes
  plain_codes (expressions_more e es) = more_codes (plain_expression e) (plain_codes es)

  plain_all_entries : (ks : Expressions) {pieces : List Core} → CodesPlain pieces → Plain (entries_core ks pieces)
  plain_all_entries no_expressions each = plain_empty
  plain_all_entries (expressions_more k ks) no_codes = plain_empty
  plain_all_entries (expressions_more k ks) (more_codes p each) = plain_both (plain_expression k) (plain_both p (plain_all_entries ks each))

  plain_chain : (links : Links) → Plain (chain_core links)
  plain_chain no_links = plain_empty
  plain_chain (links_more op e links) =
      plain_both (plain_both (plain_expression e) (plain_straight refl)) (plain_both (plain_linked links) (plain_both (plain_straight refl) (plain_straight refl)))

  plain_linked : (links : Links) → Plain (linked_core links)
  plain_linked no_links = plain_empty
  plain_linked (links_more op e links) = plain_leaping (λ to. refl) (plain_both (plain_both (plain_expression e) (plain_straight refl)) (plain_linked links))

plain_filter : (name : List ℕ) (args : Arguments) → Plain (filter_core name args)
plain_filter name args = plain_both (plain_passed 1 (plain_positional args) (plain_keyword args)) (plain_straight refl)

pub plain_filters : (e : Expression) → Plain (filters_core e)
plain_filters (filtered name absent args) = plain_filter name args
plain_filters (filtered name (given e) args) = plain_both (plain_filters e) (plain_filter name args)
plain_filters _ = plain_empty

mutual
  pub plain_target : (target : Expression) → Plain (target_core target)
  plain_target (variable name) = plain_straight refl
  plain_target (attribute e name) = plain_both (plain_expression e) (plain_straight refl)
  plain_target (list_literal targets) = plain_both (plain_straight refl) (plain_targets targets)
  plain_target _ = plain_empty

  plain_targets : (targets : Expressions) → Plain (targets_core targets)
  plain_targets no_expressions = plain_empty
  plain_targets (expressions_more target targets) = plain_both (plain_target target) (plain_targets targets)

pub plain_assignments : (assignments : Assignments) → Plain (assignments_core assignments)
plain_assignments no_assignments = plain_empty
plain_assignments (assignments_more target e more) = plain_both (plain_expression e) (plain_both (plain_target target) (plain_assignments more))

-- the loop that finds what another goes over is not called again
pub plain_iterable : (target e : Expression) (condition : Optional) → Plain (iterable_core target e condition)
plain_iterable target e absent = plain_expression e
plain_iterable target e (given condition) =
    plain_both (plain_straight refl) (plain_both (plain_expression e) (plain_both (plain_straight refl)
    (plain_both (plain_rounds (plain_both (plain_straight refl) (plain_target target)) (plain_sealed (plain_both (plain_expression condition)
    (plain_either (plain_both (plain_straight refl) (plain_both (plain_straight refl) (plain_straight refl))) (plain_straight refl)))))
    (plain_both (plain_straight refl) (plain_straight refl)))))

pub plain_imports : (names : Imports) → Plain (imports_core names)
plain_imports no_imports = plain_empty
plain_imports (imports_more e alias more) = plain_both (plain_imports more) (plain_target (stored_as e alias))

plain_parameter : (target : Expression) (default : Optional) → Plain (parameter_core target default)
plain_parameter target absent = plain_target target
plain_parameter target (given default) =
    plain_both (plain_straight refl) (plain_both (plain_straight refl) (plain_both (plain_leaping (λ to. refl) (plain_both (plain_straight refl) (plain_expression default))) (plain_target target)))

pub plain_parameters : (targets defaults : Expressions) → Plain (parameters_core targets defaults)
plain_parameters no_expressions defaults = plain_empty
plain_parameters (expressions_more target targets) defaults = plain_both (plain_parameter target (first_of defaults)) (plain_parameters targets (rest_of defaults))
