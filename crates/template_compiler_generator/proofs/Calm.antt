-- No instruction of the code of an expression, a target or what a loop goes over leans on the one before it.
use Rattle.std.proofs.Common.{◌≡◌, ℕ, zero, suc, ◌+◌, Bool, true, ◌&&◌, if◌then◌else◌, List, [], ◌∷◌, Option, None, Some, refl}
use Rattle.std.specs.Prelude.{not, is_some}
use Rattle.template_values_model.specs.Val.{Val, silent_undefined, none}
use Rattle.template_compiler_tree.specs.declared.operators.UnaryOpKind.{UnaryOpKind}
use Rattle.template_compiler_tree.specs.declared.operators.UnaryOpKind.TheVariants.{Not, Neg}
use Rattle.template_compiler_tree.specs.Tree.{Expression, Optional, Expressions, Links, Arguments, Assignments, variable, constant, unary, binary, chain, conditional, attribute, item, call, filtered, tested, list_literal, tuple_literal, map_literal, absent, given, no_expressions, expressions_more, no_links, links_more, no_arguments, arguments_more, positional, keyword, positional_spread, keyword_spread, no_assignments, assignments_more}
use Rattle.template_compiler_tree.specs.Tree as tree
use Rattle.template_compiler_walk.specs.Expressions.{Passing, alone, spreads, Callee, by_name, by_method, by_block, by_value, callee_of}
use Rattle.template_compiler_walk.specs.Statements.{first_of, rest_of}
use Rattle.template_compiler_code.specs.Code.{Code}
use Rattle.template_compiler_code_shapes.specs.Effects.{aim_of, leans}
use Rattle.template_compiler_codegen.specs.Core.{Core, empty, straight, both, leaping, either, rounds, within, leave, sealed, loading, chosen, aside}
use Rattle.template_compiler_codegen.specs.Expressions.{unary_code, listed_core, mapped_core, stretches_core, entries_stretches_core, rest_count, keywords_core, keyword_count, passed_core, called_core, filters_core, object_core, positional_cores, keyword_cores, expression_core, optional_core, expressions_core, codes_of, entries_core, chain_core, linked_core}
use Rattle.template_compiler_codegen.specs.Statements.{target_core, targets_core, assignments_core, iterable_core, parameter_core, parameters_core}

-- an instruction that leads to the next one alone, and does not lean on the one before it
abbrev pub is_steady : Code → Bool
is_steady c = not (leans (Some c)) && not (is_some (aim_of c))

-- where an instruction leads that does not lean
abbrev pub leads_of : Code → Option ℕ
leads_of c = if leans (Some c) then None else aim_of c

-- the instructions of a core are such ones, or lead where they lead without leaning
abbrev pub IsCalmCore : Core → Type 0
IsCalmCore empty = Unit {0}
IsCalmCore (straight c) = is_steady c ≡ true
IsCalmCore (both a b) = IsCalmCore a × IsCalmCore b
IsCalmCore (leaping leap c) = ((to : ℕ) → leads_of (leap to) ≡ Some to) × IsCalmCore c
IsCalmCore (either a b) = IsCalmCore a × IsCalmCore b
IsCalmCore (rounds target body) = IsCalmCore target × IsCalmCore body
IsCalmCore (within close c) = (is_steady close ≡ true) × IsCalmCore c
IsCalmCore (leave stays) = Unit {0}
IsCalmCore (sealed c) = IsCalmCore c
IsCalmCore (loading o c) = IsCalmCore c
IsCalmCore (chosen holds a b) = IsCalmCore a × IsCalmCore b
IsCalmCore (aside body rest make) = ⊥

abbrev EachCalm : List Core → Type 0
EachCalm [] = Unit {0}
EachCalm (c ∷ cores) = IsCalmCore c × EachCalm cores

-- so has each argument none
abbrev pub PassedCalm : List (Passing Core Core) → Type 0
PassedCalm [] = Unit {0}
PassedCalm (alone c ∷ args) = IsCalmCore c × PassedCalm args
PassedCalm (spreads c ∷ args) = IsCalmCore c × PassedCalm args

abbrev pub NamedCalm : List (Passing (List ℕ × Core) Core) → Type 0
NamedCalm [] = Unit {0}
NamedCalm (alone c ∷ named) = IsCalmCore c.1 × NamedCalm named
NamedCalm (spreads c ∷ named) = IsCalmCore c × NamedCalm named

pub listed_calm : (n : ℕ) → IsCalmCore (listed_core n)
listed_calm zero = tt
listed_calm (suc n) = refl

pub mapped_calm : (n : ℕ) → IsCalmCore (mapped_core n)
mapped_calm zero = tt
mapped_calm (suc n) = refl

pub stretches_calm : (n : ℕ) (args : List (Passing Core Core)) → PassedCalm args → IsCalmCore (stretches_core n args)
stretches_calm n [] h = tt
stretches_calm n (alone c ∷ args) h = (h.0, stretches_calm (suc n) args h.1)
stretches_calm n (spreads c ∷ args) h = (listed_calm n, (h.0, stretches_calm 0 args h.1))

named_calm : (n : ℕ) (named : List (Passing (List ℕ × Core) Core)) → NamedCalm named → IsCalmCore (entries_stretches_core n named)
named_calm n [] h = tt
named_calm n (alone c ∷ named) h = (refl, (h.0, named_calm (suc n) named h.1))
named_calm n (spreads c ∷ named) h = (mapped_calm n, (h.0, named_calm 0 named h.1))

keywords_calm : (named : List (Passing (List ℕ × Core) Core)) → NamedCalm named → IsCalmCore (keywords_core named)
keywords_calm named h = (named_calm 0 named h, (mapped_calm (rest_count 0 named), (refl, tt)))

passed_calm : (front : ℕ) (args : List (Passing Core Core)) (named : List (Passing (List ℕ × Core) Core)) → PassedCalm args → NamedCalm named → IsCalmCore (passed_core front args named)
passed_calm front args named h k =
    (stretches_calm front args h, (keywords_calm named k, ((listed_calm (rest_count front args + keyword_count named), refl), tt)))

called_calm : (callee : Callee) (whole object : Core) (args : List (Passing Core Core)) (named : List (Passing (List ℕ × Core) Core)) → IsCalmCore whole → IsCalmCore object → PassedCalm args → NamedCalm named
    → IsCalmCore (called_core callee whole object args named)
called_calm (by_name name) whole object args named f g h k = (passed_calm 0 args named h k, refl)
called_calm (by_method name) whole object args named f g h k = (g, (passed_calm 1 args named h k, refl))
called_calm (by_block name) whole object args named f g h k = (refl, (refl, refl))
called_calm by_value whole object args named f g h k = (f, (passed_calm 1 args named h k, refl))

unary_calm : (op : UnaryOpKind) → is_steady (unary_code op) ≡ true
unary_calm Not = refl
unary_calm Neg = refl

mutual
  pub expression_calm : (e : Expression) → IsCalmCore (expression_core e)
  expression_calm (variable name) = refl
  expression_calm (constant v) = refl
  expression_calm (unary op e) = (expression_calm e, unary_calm op)
  expression_calm (binary op left right) = (expression_calm left, (((λ to. refl), expression_calm right), (((λ to. refl), expression_calm right), (expression_calm right, refl))))
  expression_calm (chain first links) = (expression_calm first, chain_calm links)
  expression_calm (conditional test branch otherwise) = (expression_calm test, (expression_calm branch, optional_calm silent_undefined otherwise))
  expression_calm (attribute e name) = (expression_calm e, refl)
  expression_calm (item e key) = (expression_calm e, (expression_calm key, refl))
  expression_calm (tree.slice e start stop by) = (expression_calm e, (optional_calm none start, (optional_calm none stop, (optional_calm none by, refl))))
  expression_calm (list_literal es) = (expressions_calm es, refl)
  expression_calm (tuple_literal es) = (expressions_calm es, refl)
  expression_calm (map_literal ks vs) = (entries_calm ks (codes_of vs) (each_calm vs), refl)
  expression_calm (call callee args) =
      called_calm (callee_of callee args) (expression_core callee) (object_core callee) (positional_cores args) (keyword_cores args)
      (expression_calm callee) (object_calm callee) (positional_calm args) (keyword_calm args)
  expression_calm (filtered name (given e) args) = (expression_calm e, (passed_calm 1 (positional_cores args) (keyword_cores args) (positional_calm args) (keyword_calm args), refl))
  expression_calm (tested name e args) = (expression_calm e, (passed_calm 1 (positional_cores args) (keyword_cores args) (positional_calm args) (keyword_calm args), refl))
  expression_calm _ = tt

  pub object_calm : (e : Expression) → IsCalmCore (object_core e)
  object_calm (attribute e name) = expression_calm e
  object_calm _ = tt

  pub positional_calm : (args : Arguments) → PassedCalm (positional_cores args)
  positional_calm no_arguments = tt
  positional_calm (arguments_more (positional e) args) = (expression_calm e, positional_calm args)
  positional_calm (arguments_more (positional_spread e) args) = (expression_calm e, positional_calm args)
  positional_calm (arguments_more _ args) = positional_calm args

  pub keyword_calm : (args : Arguments) → NamedCalm (keyword_cores args)
  keyword_calm no_arguments = tt
  keyword_calm (arguments_more (keyword name e) args) = (expression_calm e, keyword_calm args)
  keyword_calm (arguments_more (keyword_spread e) args) = (expression_calm e, keyword_calm args)
  keyword_calm (arguments_more _ args) = keyword_calm args

  optional_calm : (missing : Val) (o : Optional) → IsCalmCore (optional_core missing o)
  optional_calm missing absent = refl
  optional_calm missing (given e) = expression_calm e

  pub expressions_calm : (es : Expressions) → IsCalmCore (expressions_core es)
  expressions_calm no_expressions = tt
  expressions_calm (expressions_more e es) = (expression_calm e, expressions_calm es)

  each_calm : (es : Expressions) → EachCalm (codes_of es)
  each_calm no_expressions = tt
  each_calm (expressions_more e es) = (expression_calm e, each_calm es)

  entries_calm : (ks : Expressions) (pieces : List Core) → EachCalm pieces → IsCalmCore (entries_core ks pieces)
  entries_calm no_expressions pieces h = tt
  entries_calm (expressions_more k ks) [] h = tt
  entries_calm (expressions_more k ks) (piece ∷ pieces) h = (expression_calm k, (h.0, entries_calm ks pieces h.1))

  chain_calm : (links : Links) → IsCalmCore (chain_core links)
  chain_calm no_links = tt
  chain_calm (links_more op e links) = ((expression_calm e, refl), (linked_calm links, (refl, refl)))

  linked_calm : (links : Links) → IsCalmCore (linked_core links)
  linked_calm no_links = tt
  linked_calm (links_more op e links) = ((λ to. refl), ((expression_calm e, refl), linked_calm links))

pub filters_calm : (e : Expression) → IsCalmCore (filters_core e)
filters_calm (filtered name absent args) = (passed_calm 1 (positional_cores args) (keyword_cores args) (positional_calm args) (keyword_calm args), refl)
filters_calm (filtered name (given e) args) =
    (filters_calm e, (passed_calm 1 (positional_cores args) (keyword_cores args) (positional_calm args) (keyword_calm args), refl))
filters_calm _ = tt

mutual
  pub target_calm : (e : Expression) → IsCalmCore (target_core e)
  target_calm (variable name) = refl
  target_calm (attribute e name) = (expression_calm e, refl)
  target_calm (list_literal targets) = (refl, targets_calm targets)
  target_calm _ = tt

  targets_calm : (es : Expressions) → IsCalmCore (targets_core es)
  targets_calm no_expressions = tt
  targets_calm (expressions_more e es) = (target_calm e, targets_calm es)

pub assignments_calm : (a : Assignments) → IsCalmCore (assignments_core a)
assignments_calm no_assignments = tt
assignments_calm (assignments_more target e more) = (expression_calm e, (target_calm target, assignments_calm more))

pub iterable_calm : (target e : Expression) (condition : Optional) → IsCalmCore (iterable_core target e condition)
iterable_calm target e absent = expression_calm e
iterable_calm target e (given condition) =
    (refl, (expression_calm e, (refl, (((refl, target_calm target), (expression_calm condition, ((refl, (refl, refl)), refl))), (refl, refl)))))

parameter_calm : (target : Expression) (default : Optional) → IsCalmCore (parameter_core target default)
parameter_calm target absent = target_calm target
parameter_calm target (given e) = (refl, (refl, (((λ to. refl), (refl, expression_calm e)), target_calm target)))

pub parameters_calm : (targets defaults : Expressions) → IsCalmCore (parameters_core targets defaults)
parameters_calm no_expressions defaults = tt
parameters_calm (expressions_more target targets) defaults = (parameter_calm target (first_of defaults), parameters_calm targets (rest_of defaults))
