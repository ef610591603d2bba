-- The trees that productions of statements put together.
use Rattle.std.specs.Prelude.{ℕ, Bool, true, false, ◌&&◌, not, if◌then◌else◌, List, [], ◌∷◌, ◌++◌, bytes_eq}
use Rattle.std.specs.List.{list_any}
use Rattle.std.specs.Str.{trim_start}
use Rattle.template_compiler_tree.specs.Tree.{Expression, list_literal, tuple_literal, Expressions, no_expressions, expressions_more, Optional, Statement, template, raw, for_loop, if_condition, with_block, set_block, auto_escape, filter_block, block, macro, call_block, Statements, no_statements, statements_more, Assignments, no_assignments, assignments_more, Imports, no_imports, imports_more}
use Rattle.template_compiler_grammar.specs.Trees.{and_expression}

-- lists with one more at the end
abbrev pub and_statement : Statements → Statement → Statements
and_statement no_statements s = statements_more s no_statements
and_statement (statements_more t rest) s = statements_more t (and_statement rest s)

abbrev pub and_assignment : Assignments → Expression → Expression → Assignments
and_assignment no_assignments t e = assignments_more t e no_assignments
and_assignment (assignments_more u f rest) t e = assignments_more u f (and_assignment rest t e)

abbrev pub and_import : Imports → Expression → Optional → Imports
and_import no_imports n a = imports_more n a no_imports
and_import (imports_more m b rest) n a = imports_more m b (and_import rest n a)

-- one target is itself, several are unpacked
abbrev pub unpacked : Expressions → Expression
unpacked (expressions_more e no_expressions) = e
unpacked es = list_literal es

-- one value is itself, several are a tuple
abbrev pub together : Expressions → Expression
together (expressions_more e no_expressions) = e
together es = tuple_literal es

-- conditions with their bodies
pub data Branches : Type 0 where
  no_branches : Branches
  branches_more : Expression → Statements → Branches → Branches

abbrev pub and_branch : Branches → Expression → Statements → Branches
and_branch no_branches c body = branches_more c body no_branches
and_branch (branches_more b other rest) c body = branches_more b other (and_branch rest c body)

-- each branch is the one statement of the part before it
abbrev pub branched : Branches → Statements → Statements
branched no_branches last = last
branched (branches_more c body rest) last = statements_more (if_condition c body (branched rest last)) no_statements

-- the arguments of a macro, and the defaults of the last of them
abbrev pub Parameters : Type 0
Parameters = Expressions × Expressions

abbrev pub no_parameters : Parameters
no_parameters = (no_expressions, no_expressions)

abbrev pub and_plain : Parameters → Expression → Parameters
and_plain p a = (and_expression p.0 a, p.1)

abbrev pub and_default : Parameters → Expression → Expression → Parameters
and_default p a e = (and_expression p.0 a, and_expression p.1 e)

-- only white space, Unicode's `White_Space`
abbrev pub is_blank_text : List ℕ → Bool
is_blank_text text = bytes_eq (trim_start text) []

abbrev pub is_blank : Statements → Bool
is_blank no_statements = true
is_blank (statements_more (raw text) rest) = is_blank_text text && is_blank rest
is_blank (statements_more _ rest) = false

-- a required block has a blank body
abbrev pub is_block_body : Bool → Statements → Bool
is_block_body required body = if required then is_blank body else true

-- the names of the blocks, in order
abbrev mutual
  pub blocks_in : Statement → List (List ℕ)
  blocks_in (template body) = blocks_among body
  blocks_in (for_loop target iter filter recursive body other) = blocks_among body ++ blocks_among other
  blocks_in (if_condition c body other) = blocks_among body ++ blocks_among other
  blocks_in (with_block pairs body) = blocks_among body
  blocks_in (set_block target filters body) = blocks_among body
  blocks_in (auto_escape enabled body) = blocks_among body
  blocks_in (filter_block filters body) = blocks_among body
  blocks_in (block name required body) = name ∷ blocks_among body
  blocks_in (macro name arguments defaults body) = blocks_among body
  blocks_in (call_block callee given arguments defaults body) = blocks_among body
  blocks_in _ = []

  pub blocks_among : Statements → List (List ℕ)
  blocks_among no_statements = []
  blocks_among (statements_more s rest) = blocks_in s ++ blocks_among rest

-- no name stands twice
abbrev pub are_distinct : List (List ℕ) → Bool
are_distinct [] = true
are_distinct (name ∷ rest) = not (list_any (λ other. bytes_eq other name) rest) && are_distinct rest
