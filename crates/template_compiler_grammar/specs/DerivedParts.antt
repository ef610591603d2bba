-- Where the parts of statements stand: targets, values, names and parameters.
use Rattle.std.specs.Prelude.{ℕ, Bool, List, ◌∷◌}
use Rattle.template_compiler_tree.specs.declared.span.Span.{Span}
use Rattle.template_compiler_tree.specs.Tree.{Expression, Optional, Expressions, Assignments, Imports}
use Rattle.template_compiler_tree.specs.NodePlaces.{Places, at, Parts, no_parts, parts_more, one, and_parts}
use Rattle.template_compiler_tokens.specs.Places.{next_span, stretch}
use Rattle.template_compiler_tokens.specs.Token.{Token, identifier}
use Rattle.template_compiler_grammar.specs.Grammar.{IsFilterChain, chain_end, chain_more}
use Rattle.template_compiler_grammar.specs.DerivedNodes.{and_place, PairedPlaces}
use Rattle.template_compiler_grammar.specs.DerivedExpressions.{expression_places, filter_places}
use Rattle.template_compiler_grammar.specs.TemplateTrees.{Parameters}
use Rattle.template_compiler_grammar.specs.TemplateGrammar.{IsStored, stored, IsPath, path_end, path_more, IsMore, more_end, more_next, IsTarget, name_target, path_target, paren_target, IsTargets, targets, IsMoreTargets, targets_end, targets_next, IsValue, value, IsValues, values, IsAssignment, assignment, IsAssignments, none_assigned, some_assigned, IsLoopFilter, no_loop_filter, a_loop_filter, IsImport, same_name, other_name, IsParameter, plain_parameter, default_parameter, IsParameters, none_declared, some_declared, IsOptionalParameters, not_declared, declared}

-- one is itself, several are a node
abbrev pub alone_or : Span → Parts → Places
alone_or span (parts_more p no_parts) = p
alone_or span ps = at span ps

abbrev pub stored_places : {ts us : List Token} {e : Expression} → List Span → IsStored ts e us → Places
stored_places spans (stored {n = n} {ts = ts} free) = at (next_span spans (identifier n ∷ ts)) no_parts

abbrev pub path_places : {ts us : List Token} {a e : Expression} → List Span → List Token → Places → IsPath a ts e us → Places
path_places spans from a path_end = a
path_places spans from a (path_more {ts = ts} more) = path_places spans from (at (stretch spans from ts) (one a)) more

-- what stands behind the first of several, each item's places behind those before it
abbrev pub more_places : {A P : Type 0} {item : A → List Token → A → List Token → Type 0} {a b : A} {ts us : List Token} →
    ((a b : A) (ts us : List Token) → P → item a ts b us → P) → P → IsMore item a ts b us → P
more_places put ps more_end = ps
more_places put ps (more_next {a = a} {b = b} {ts = ts} {us = us} next more) = more_places put (put a b ts us ps next) more

abbrev mutual
  pub target_places : {dots : Bool} {d : ℕ} {ts us : List Token} {e : Expression} → List Span → IsTarget dots d ts e us → Places
  target_places spans (name_target none name) = stored_places spans name
  target_places spans (path_target {ts = ts} some name path) = path_places spans ts (stored_places spans name) path
  target_places spans (paren_target inner) = targets_places spans inner

  pub targets_places : {dots : Bool} {d : ℕ} {ts us : List Token} {e : Expression} → List Span → IsTargets dots d ts e us → Places
  targets_places spans (targets {ts = ts} {vs = vs} first more is) =
      alone_or (stretch spans ts vs) (more_targets_places spans (one (target_places spans first)) more)

  pub more_targets_places : {dots : Bool} {d : ℕ} {ts us : List Token} {es fs : Expressions} →
      List Span → Parts → IsMoreTargets dots d es ts fs us → Parts
  more_targets_places spans ps targets_end = ps
  more_targets_places spans ps (targets_next next more) = more_targets_places spans (and_place ps (target_places spans next)) more

abbrev pub value_places : {d : ℕ} {ts us : List Token} {es fs : Expressions} → List Span → Parts → IsValue d es ts fs us → Parts
value_places spans ps (value e is) = and_place ps (expression_places spans e)

abbrev pub values_places : {d : ℕ} {ts us : List Token} {e : Expression} → List Span → IsValues d ts e us → Places
values_places spans (values {ts = ts} {vs = vs} first more is) =
    alone_or (stretch spans ts vs) (more_places (λ a b ts us ps x. value_places spans ps x) (value_places spans no_parts first) more)

abbrev pub assignment_places : {d : ℕ} {ts us : List Token} {gs hs : Assignments} →
    List Span → Parts → IsAssignment d gs ts hs us → Parts
assignment_places spans ps (assignment target e is) =
    and_parts ps (parts_more (target_places spans target) (one (expression_places spans e)))

abbrev pub assignments_places : {d : ℕ} {ts us : List Token} {gs : Assignments} → List Span → IsAssignments d ts gs us → Parts
assignments_places spans none_assigned = no_parts
assignments_places spans (some_assigned first more) = more_places (λ a b ts us ps x. assignment_places spans ps x) (assignment_places spans no_parts first) more

abbrev pub loop_filter_places : {d : ℕ} {ts us : List Token} {f : Optional} → List Span → IsLoopFilter d ts f us → Parts
loop_filter_places spans no_loop_filter = no_parts
loop_filter_places spans (a_loop_filter e) = one (expression_places spans e)

-- each filter of a block begins at its name
abbrev pub chain_places : {d : ℕ} {ts us : List Token} {f g : Optional} → List Span → Parts → IsFilterChain d f ts g us → Parts
chain_places spans ps chain_end = ps
chain_places spans ps (chain_more {ts = ts} next more) = chain_places spans (one (filter_places spans ts ps next)) more

abbrev pub import_places : {ts us : List Token} {is js : Imports} → List Span → Parts → IsImport is ts js us → Parts
import_places spans ps (same_name name is) = and_place ps (stored_places spans name)
import_places spans ps (other_name name other is) = and_parts ps (parts_more (stored_places spans name) (one (stored_places spans other)))

-- the arguments, and the defaults
abbrev pub parameter_places : {d : ℕ} {ts us : List Token} {p q : Parameters} →
    List Span → PairedPlaces → IsParameter d p ts q us → PairedPlaces
parameter_places spans ps (plain_parameter name none is) = (and_place ps.0 (stored_places spans name), ps.1)
parameter_places spans ps (default_parameter name e is) =
    (and_place ps.0 (stored_places spans name), and_place ps.1 (expression_places spans e))

abbrev pub parameters_places : {d : ℕ} {ts us : List Token} {p : Parameters} → List Span → IsParameters d ts p us → Parts
parameters_places spans (none_declared is) = no_parts
parameters_places spans (some_declared first more) =
    let places = more_places (λ a b ts us ps x. parameter_places spans ps x) (parameter_places spans (no_parts, no_parts) first) more in and_parts places.0 places.1

abbrev pub optional_parameters_places : {d : ℕ} {ts us : List Token} {p : Parameters} →
    List Span → IsOptionalParameters d ts p us → Parts
optional_parameters_places spans (not_declared none is) = no_parts
optional_parameters_places spans (declared parameters) = parameters_places spans parameters
