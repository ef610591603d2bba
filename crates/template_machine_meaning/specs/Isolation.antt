-- What a template's render takes of its context, and an expression's evaluation.
use Rattle.std.specs.Prelude.{◌≡◌, ℕ, ◌⊎◌, Bool, false, not, ◌&&◌, ◌||◌, IsTrue, List, [], ◌∷◌, Option, None, Some, codes}
use Rattle.std.specs.Str.{bytes_eq}
use Rattle.template_values_model.specs.Val.{Val}
use Rattle.template_values_model.specs.Lookup.{value_at}
use Rattle.template_callables.specs.Callables.{View, Asked, lookup, call_macro, Stated, goes_on, Says, Callables}
use Rattle.template_compiler_tree.specs.Tree.{Expression, Expressions, Statement, Statements, Imports, variable, absent, given, for_loop, if_condition, with_block, set_block, auto_escape, filter_block, block, from_import, macro, call_block, no_statements, statements_more, no_imports, imports_more, no_expressions, expressions_more}
use Rattle.template_compiler_names.specs.Names.{is_used, is_used_in, is_used_by_target, is_stored_in, is_stored_everywhere, stands_in}
use Rattle.template_compiler_walk.specs.Blocks.{Block, blocks_in}
use Rattle.template_compiler_walk.specs.Imported.{is_imported}
use Rattle.template_compiler_process.specs.Fuel.{IsSameRun, under}
use Rattle.template_machine_meaning.specs.Functions.{Invoked}
use Rattle.template_machine_meaning.specs.Calls.{said}
use Rattle.template_machine_meaning.specs.Meaning.{Standing, Setting, rendered, evaluated}

-- the names that the engine gives, in places
abbrev pub is_given : List ℕ → Bool
is_given name = is_stored_everywhere name || bytes_eq name (codes "loop") || bytes_eq name (codes "caller")

-- a block uses the name by itself
abbrev pub is_used_by_block : List ℕ → List Block → Bool
is_used_by_block name [] = false
is_used_by_block name (b ∷ blocks) = is_used name b.body || is_used_by_block name blocks

-- the rounds of a loop use the name by themselves, whose body uses it or doesn't: the target is stored, and `loop` in the body
abbrev pub used_of_rounds : List ℕ → Expression → Bool → Bool
used_of_rounds name target body =
    is_used_by_target name target || not (is_stored_in name target) && (not (bytes_eq name (codes "loop")) && body)

abbrev mutual
  -- so do the rounds of one of the loops that may be called again
  pub is_used_by_rounds_of : List ℕ → Statement → Bool
  is_used_by_rounds_of name (for_loop target _ _ recursive body otherwise) =
      recursive && used_of_rounds name target (is_used_in name body)
      || is_used_by_rounds name body || is_used_by_rounds name otherwise
  is_used_by_rounds_of name (if_condition _ body otherwise) = is_used_by_rounds name body || is_used_by_rounds name otherwise
  is_used_by_rounds_of name (with_block _ body) = is_used_by_rounds name body
  is_used_by_rounds_of name (set_block _ _ body) = is_used_by_rounds name body
  is_used_by_rounds_of name (auto_escape _ body) = is_used_by_rounds name body
  is_used_by_rounds_of name (filter_block _ body) = is_used_by_rounds name body
  is_used_by_rounds_of name (block _ _ body) = is_used_by_rounds name body
  is_used_by_rounds_of name (macro _ _ _ body) = is_used_by_rounds name body
  is_used_by_rounds_of name (call_block _ _ _ _ body) = is_used_by_rounds name body
  is_used_by_rounds_of name _ = false

  pub is_used_by_rounds : List ℕ → Statements → Bool
  is_used_by_rounds name no_statements = false
  is_used_by_rounds name (statements_more s ss) = is_used_by_rounds_of name s || is_used_by_rounds name ss

-- a template uses the name, or one of its blocks or of its recursive loops does by itself, or it is imported
abbrev pub is_needed : List ℕ → Statements → Bool
is_needed name tree =
    (is_used name tree || is_used_by_block name (blocks_in tree))
    || (not (is_stored_everywhere name) && is_used_by_rounds name tree) || is_imported name tree

-- a template that stands needs the name
abbrev pub IsUsedByOne : Setting → List ℕ → Type 0
IsUsedByOne setting name = (other : List ℕ) × (t : Standing) × (setting.templates other ≡ Some t) × IsTrue (is_needed name t.tree)

-- the context names of a template: those that the engine gives, and those that it needs, or a template that stands
abbrev pub IsContextName : Setting → Statements → List ℕ → Type 0
IsContextName setting tree name = IsTrue (is_given name) ⊎ IsTrue (is_needed name tree) ⊎ IsUsedByOne setting name

-- the two contexts hold the same under the name, or neither holds anything
abbrev pub AgreesAt : Val → Val → List ℕ → Type 0
AgreesAt c d name = value_at name c ≡ value_at name d

-- what is asked of the machine is not what a name stands for, and does not call that
abbrev pub IsNoLookup : Asked → Type 0
IsNoLookup (lookup name) = ⊥
IsNoLookup (call_macro name vs) = ⊥
IsNoLookup _ = Unit {0}

-- an answer asks for no name
abbrev pub AsksNoName : Stated → Type 0
AsksNoName (goes_on temps asked) = IsNoLookup asked
AsksNoName _ = Unit {0}

-- whatever answers asks for none, whatever it sees and over whatever arguments
abbrev pub SaysNoName : Option Says → Type 0
SaysNoName None = Unit {0}
SaysNoName (Some says) = (view : View) (vs : List Val) → AsksNoName (says view vs)

-- so it is of all that a user brought
abbrev pub AskNoNames : Callables → Type 0
AskNoNames callables = (what : Invoked) → SaysNoName (said callables what)

-- what is imported is taken by its name, and stored under a name
abbrev pub IsName : Expression → Type 0
IsName (variable name) = Unit {0}
IsName _ = ⊥

abbrev pub AreNames : Imports → Type 0
AreNames no_imports = Unit {0}
AreNames (imports_more e absent more) = IsName e × AreNames more
AreNames (imports_more e (given alias) more) = IsName e × IsName alias × AreNames more

-- and the parameters of a macro are names
abbrev pub AreAllNames : Expressions → Type 0
AreAllNames no_expressions = Unit {0}
AreAllNames (expressions_more e es) = IsName e × AreAllNames es

abbrev mutual
  pub ImportsNamesAt : Statement → Type 0
  ImportsNamesAt (for_loop _ _ _ _ body otherwise) = ImportsNames body × ImportsNames otherwise
  ImportsNamesAt (if_condition _ body otherwise) = ImportsNames body × ImportsNames otherwise
  ImportsNamesAt (with_block _ body) = ImportsNames body
  ImportsNamesAt (set_block _ _ body) = ImportsNames body
  ImportsNamesAt (auto_escape _ body) = ImportsNames body
  ImportsNamesAt (filter_block _ body) = ImportsNames body
  ImportsNamesAt (block _ _ body) = ImportsNames body
  ImportsNamesAt (from_import _ names) = AreNames names
  ImportsNamesAt (macro _ arguments _ body) = AreAllNames arguments × ImportsNames body
  ImportsNamesAt (call_block _ _ arguments _ body) = AreAllNames arguments × ImportsNames body
  ImportsNamesAt _ = Unit {0}

  pub ImportsNames : Statements → Type 0
  ImportsNames no_statements = Unit {0}
  ImportsNames (statements_more s ss) = ImportsNamesAt s × ImportsNames ss

-- Where what a user brought asks for no names, over contexts that agree at the context names a render leaves the same
-- items and comes to the same end, under every bound and every fuel.
abbrev pub IsolatesNames : Type 0
IsolatesNames = (setting : Setting) → AskNoNames setting.callables
    → ((other : List ℕ) (t : Standing) → setting.templates other ≡ Some t → ImportsNames t.tree)
    → (id : ℕ) (t : Standing) → ImportsNames t.tree → (c d : Val)
    → ((name : List ℕ) → IsContextName setting t.tree name → AgreesAt c d name)
    → (n : ℕ) (fuel : Option ℕ) → IsSameRun (under fuel (rendered setting id n t c)) (under fuel (rendered setting id n t d))

-- So an expression's evaluation does over contexts that agree at the names that stand in it, with its value handed out, under
-- every fuel.
abbrev pub IsolatesExpressions : Type 0
IsolatesExpressions = (setting : Setting) → AskNoNames setting.callables → (id : ℕ) (e : Expression) (c d : Val)
    → ((name : List ℕ) → IsTrue (stands_in name e) → AgreesAt c d name)
    → (fuel : Option ℕ) → IsSameRun (under fuel (evaluated setting id e c)) (under fuel (evaluated setting id e d))
