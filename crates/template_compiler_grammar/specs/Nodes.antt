-- Trees with their places, and what productions put together of them.
use Rattle.std.specs.Prelude.{ℕ, Bool, List, Ok, Err}
use Rattle.template_compiler_tree.specs.declared.span.Span.{Span}
use Rattle.template_compiler_tree.specs.declared.operators.BinOpKind.{BinOpKind}
use Rattle.template_compiler_tree.specs.declared.operators.CompareOpKind.{CompareOpKind}
use Rattle.template_compiler_tree.specs.Tree.{Expression, slice, binary, conditional, Optional, absent, given, Expressions, no_expressions, expressions_more, Links, no_links, Arguments, no_arguments, arguments_more, Argument, positional}
use Rattle.template_compiler_tree.specs.NodePlaces.{Places, at, Parts, no_parts, parts_more, one, and_parts}
use Rattle.template_compiler_tokens.specs.Steps.{Read, Step, goes, stops, fails}
use Rattle.template_compiler_grammar.specs.Trees.{and_expression, and_link, compared, tested_as, Paired, nothing_paired, and_pair, Written, nothing_written, and_written, in_order}
use Rattle.template_compiler_grammar.specs.DerivedNodes.{and_place, negated_at, compared_at, WrittenPlaces, and_written_place, PairedPlaces, and_pair_place}

-- what is read, and where its nodes stand
pub record Placed (A P : Type 0) : Type 0 where
  pub tree : A
  pub places : P

abbrev pub placed : {A P : Type 0} → A → P → Placed A P
placed a p = record { tree = a; places = p }

-- what is read, without its places
unfoldable pub bare : {A P : Type 0} → Read (Placed A P) → Read A
bare (Ok x) = Ok (x.0.tree, x.1)
bare (Err f) = Err f

unfoldable pub bare_step : {A P : Type 0} → Step (Placed A P) → Step A
bare_step (goes a ts) = goes a.tree ts
bare_step stops = stops
bare_step (fails f) = fails f

-- an expression
abbrev pub Node : Type 0
Node = Placed Expression Places

abbrev pub node : Expression → Span → Parts → Node
node e span parts = placed e (at span parts)

-- what may be left out
abbrev pub OptionalNode : Type 0
OptionalNode = Placed Optional Parts

abbrev pub no_node : OptionalNode
no_node = placed absent no_parts

abbrev pub given_node : Node → OptionalNode
given_node e = placed (given e.tree) (one e.places)

-- lists, and those with one more at the end
abbrev pub Nodes : Type 0
Nodes = Placed Expressions Parts

abbrev pub no_nodes : Nodes
no_nodes = placed no_expressions no_parts

abbrev pub first_node : Node → Nodes
first_node e = placed (expressions_more e.tree no_expressions) (one e.places)

abbrev pub and_node : Nodes → Node → Nodes
and_node es e = placed (and_expression es.tree e.tree) (and_place es.places e.places)

abbrev pub PlacedLinks : Type 0
PlacedLinks = Placed Links Parts

abbrev pub no_placed_links : PlacedLinks
no_placed_links = placed no_links no_parts

abbrev pub and_placed_link : PlacedLinks → CompareOpKind → Node → PlacedLinks
and_placed_link ls op b = placed (and_link ls.tree op b.tree) (and_place ls.places b.places)

abbrev pub PlacedPairs : Type 0
PlacedPairs = Placed Paired PairedPlaces

abbrev pub no_placed_pairs : PlacedPairs
no_placed_pairs = placed nothing_paired (no_parts, no_parts)

abbrev pub and_placed_pair : PlacedPairs → Node → Node → PlacedPairs
and_placed_pair p k v = placed (and_pair p.tree k.tree v.tree) (and_pair_place p.places k.places v.places)

-- arguments: one, those that are read so far, and all of them in order
abbrev pub PlacedArgument : Type 0
PlacedArgument = Placed Argument Places

abbrev pub PlacedWritten : Type 0
PlacedWritten = Placed Written WrittenPlaces

abbrev pub no_placed_written : PlacedWritten
no_placed_written = placed nothing_written (no_parts, no_parts)

abbrev pub and_placed_written : PlacedWritten → PlacedArgument → PlacedWritten
and_placed_written w a = placed (and_written w.tree a.tree) (and_written_place w.places a.tree a.places)

abbrev pub PlacedArguments : Type 0
PlacedArguments = Placed Arguments Parts

abbrev pub no_placed_arguments : PlacedArguments
no_placed_arguments = placed no_arguments no_parts

abbrev pub bare_argument : Node → PlacedArguments
bare_argument b = placed (arguments_more (positional b.tree) no_arguments) (one b.places)

abbrev pub placed_in_order : PlacedWritten → PlacedArguments
placed_in_order w = placed (in_order w.tree) (and_parts w.places.0 w.places.1)

-- the nodes of productions
abbrev pub binary_node : BinOpKind → Node → Node → Span → Node
binary_node op a b span = node (binary op a.tree b.tree) span (parts_more a.places (one b.places))

abbrev pub conditional_node : Node → Node → OptionalNode → Span → Node
conditional_node c a other span =
    node (conditional c.tree a.tree other.tree) span (parts_more c.places (parts_more a.places other.places))

abbrev pub slice_node : Node → OptionalNode → OptionalNode → OptionalNode → Span → Node
slice_node a start stop step span =
    node (slice a.tree start.tree stop.tree step.tree) span
    (parts_more a.places (and_parts start.places (and_parts stop.places step.places)))

abbrev pub compared_node : Node → PlacedLinks → Span → Node
compared_node a ls span = placed (compared a.tree ls.tree) (compared_at span a.places ls.tree ls.places)

abbrev pub tested_node : Bool → List ℕ → Node → PlacedArguments → Span → Node
tested_node negated n a args span =
    placed (tested_as negated n a.tree args.tree) (negated_at negated span (parts_more a.places args.places))
