-- Statements with their places, and what productions put together of them.
use Rattle.std.specs.Prelude.{ℕ, Bool, List, [], ◌∷◌, ◌++◌, Result, Ok, Err}
use Rattle.template_compiler_tree.specs.declared.span.Span.{Span}
use Rattle.template_compiler_tree.specs.Tree.{Expression, Arguments, Statement, for_loop, if_condition, with_block, set_block, auto_escape, block, macro, call_block, Statements, no_statements, Assignments, no_assignments, Imports, no_imports}
use Rattle.template_compiler_tree.specs.NodePlaces.{Places, at, Parts, no_parts, parts_more, one, and_parts}
use Rattle.template_compiler_tokens.specs.Places.{until}
use Rattle.template_compiler_tokens.specs.Token.{TokenFault}
use Rattle.template_compiler_grammar.specs.TemplateReaderParts.{filtered_body}
use Rattle.template_compiler_grammar.specs.DerivedNodes.{and_place, PairedPlaces}
use Rattle.template_compiler_grammar.specs.DerivedParts.{alone_or}
use Rattle.template_compiler_grammar.specs.Nodes.{Placed, placed, Node, Nodes, OptionalNode}
use Rattle.template_compiler_grammar.specs.TemplateTrees.{and_statement, and_assignment, and_import, unpacked, together, Branches, no_branches, and_branch, branched, Parameters, no_parameters, and_plain, and_default}

-- targets and values: one is itself, several are a node
abbrev pub unpacked_node : Nodes → Span → Node
unpacked_node es span = placed (unpacked es.tree) (alone_or span es.places)

abbrev pub together_node : Nodes → Span → Node
together_node es span = placed (together es.tree) (alone_or span es.places)

abbrev pub PlacedAssignments : Type 0
PlacedAssignments = Placed Assignments Parts

abbrev pub no_placed_assignments : PlacedAssignments
no_placed_assignments = placed no_assignments no_parts

abbrev pub and_placed_assignment : PlacedAssignments → Node → Node → PlacedAssignments
and_placed_assignment gs t e = placed (and_assignment gs.tree t.tree e.tree) (and_parts gs.places (parts_more t.places (one e.places)))

abbrev pub PlacedImports : Type 0
PlacedImports = Placed Imports Parts

abbrev pub no_placed_imports : PlacedImports
no_placed_imports = placed no_imports no_parts

abbrev pub and_placed_import : PlacedImports → Node → OptionalNode → PlacedImports
and_placed_import is n a = placed (and_import is.tree n.tree a.tree) (and_parts is.places (parts_more n.places a.places))

-- the arguments of a macro, and the defaults
abbrev pub PlacedParameters : Type 0
PlacedParameters = Placed Parameters PairedPlaces

abbrev pub no_placed_parameters : PlacedParameters
no_placed_parameters = placed no_parameters (no_parts, no_parts)

abbrev pub and_placed_plain : PlacedParameters → Node → PlacedParameters
and_placed_plain p a = placed (and_plain p.tree a.tree) (and_place p.places.0 a.places, p.places.1)

abbrev pub and_placed_default : PlacedParameters → Node → Node → PlacedParameters
and_placed_default p a e = placed (and_default p.tree a.tree e.tree) (and_place p.places.0 a.places, and_place p.places.1 e.places)

-- those in order
abbrev pub in_row : PairedPlaces → Parts
in_row places = and_parts places.0 places.1

-- a statement, and those behind one another
abbrev pub PlacedStatement : Type 0
PlacedStatement = Placed Statement Places

abbrev pub statement_node : Statement → Span → Parts → PlacedStatement
statement_node s span parts = placed s (at span parts)

abbrev pub PlacedStatements : Type 0
PlacedStatements = Placed Statements Parts

abbrev pub no_placed_statements : PlacedStatements
no_placed_statements = placed no_statements no_parts

abbrev pub and_placed_statement : PlacedStatements → PlacedStatement → PlacedStatements
and_placed_statement ss s = placed (and_statement ss.tree s.tree) (and_place ss.places s.places)

-- a loop: its target, what it goes over, the condition on its items, whether it is recursive, and its two bodies
abbrev pub for_node : Node → Node → OptionalNode → Bool → PlacedStatements → PlacedStatements → Span → PlacedStatement
for_node t i f b body other whole =
    statement_node (for_loop t.tree i.tree f.tree b body.tree other.tree) whole
    (parts_more t.places (parts_more i.places (and_parts f.places (and_parts body.places other.places))))

-- statements with one body
abbrev pub with_node : PlacedAssignments → PlacedStatements → Span → PlacedStatement
with_node gs body whole = statement_node (with_block gs.tree body.tree) whole (and_parts gs.places body.places)

abbrev pub set_block_node : Node → OptionalNode → PlacedStatements → Span → PlacedStatement
set_block_node t f body whole =
    statement_node (set_block t.tree f.tree body.tree) whole (parts_more t.places (and_parts f.places body.places))

abbrev pub auto_escape_node : Node → PlacedStatements → Span → PlacedStatement
auto_escape_node e body whole = statement_node (auto_escape e.tree body.tree) whole (parts_more e.places body.places)

abbrev pub filter_block_node : OptionalNode → PlacedStatements → Span → PlacedStatement
filter_block_node f body whole = statement_node (filtered_body f.tree body.tree) whole (and_parts f.places body.places)

abbrev pub block_node : List ℕ → Bool → PlacedStatements → Span → PlacedStatement
block_node n b body whole = statement_node (block n b body.tree) whole body.places

abbrev pub macro_node : List ℕ → PlacedParameters → PlacedStatements → Span → PlacedStatement
macro_node n q body whole = statement_node (macro n q.tree.0 q.tree.1 body.tree) whole (and_parts (in_row q.places) body.places)

-- a call and where it stands; the macro that the body is stands where the whole does
abbrev pub call_block_node : Expression → Arguments → Places → PlacedParameters → PlacedStatements → Span → PlacedStatement
call_block_node c args call q body whole =
    statement_node (call_block c args q.tree.0 q.tree.1 body.tree) whole
    (parts_more call (one (at whole (and_parts (in_row q.places) body.places))))

-- a condition and its body
abbrev pub PlacedBranch : Type 0
PlacedBranch = Placed (Expression × Statements) Parts

-- the branches behind the first one, each with where it starts
abbrev pub PlacedBranches : Type 0
PlacedBranches = Placed Branches (List (Span × Parts))

abbrev pub no_placed_branches : PlacedBranches
no_placed_branches = placed no_branches []

abbrev pub and_placed_branch : PlacedBranches → Span → PlacedBranch → PlacedBranches
and_placed_branch bs start b = placed (and_branch bs.tree b.tree.0 b.tree.1) (bs.places ++ (start, b.places) ∷ [])

-- each is the one statement of the part before it, up to the end of the whole
abbrev pub branched_at : Span → List (Span × Parts) → Parts → Parts
branched_at whole [] last = last
branched_at whole (b ∷ bs) last = one (at (until b.0 whole) (and_parts b.1 (branched_at whole bs last)))

-- what stands for the case that the first condition does not hold
abbrev pub branched_node : PlacedBranches → PlacedStatements → Span → PlacedStatements
branched_node bs other whole = placed (branched bs.tree other.tree) (branched_at whole bs.places other.places)

-- a condition with its body, and with what stands for the other case
abbrev pub condition_node : PlacedBranch → PlacedStatements → Span → PlacedStatement
condition_node b other whole = statement_node (if_condition b.tree.0 b.tree.1 other.tree) whole (and_parts b.places other.places)

abbrev pub if_node : PlacedBranch → PlacedBranches → PlacedStatements → Span → PlacedStatement
if_node b bs other whole = condition_node b (branched_node bs other whole) whole

-- a whole template
abbrev pub PlacedTemplate : Type 0
PlacedTemplate = Placed Statements Places

-- and without its places
unfoldable pub bare_template : Result PlacedTemplate TokenFault → Result Statements TokenFault
bare_template (Ok ss) = Ok ss.tree
bare_template (Err f) = Err f
