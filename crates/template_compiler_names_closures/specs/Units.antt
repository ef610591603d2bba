-- What of a template is gone over by itself: its body, each block, and the rounds of each recursive loop. Where they run
-- is not told by where they stand, so each of them is walked alone too.
use Rattle.std.specs.Prelude.{ℕ, Bool, true, false, not, ◌&&◌, ◌||◌, List, [], ◌∷◌, ◌++◌, codes, map}
use Rattle.std.specs.Str.{bytes_eq}
use Rattle.template_compiler_tree.specs.Tree.{Expression, Statement, Statements, template, for_loop, if_condition, with_block, set_block, auto_escape, filter_block, block, macro, call_block, no_statements, statements_more}
use Rattle.template_compiler_tree.specs.View.{expression_of}
use Rattle.template_compiler_tree_parts.specs.Listed.{statements_in}
use Rattle.template_compiler_names.specs.Names.{Places, anywhere, is_stored_everywhere, is_stored_in, place_in_target, place_within}
use Rattle.template_compiler_names_closures.specs.declared.parts.Unit.{Unit}
use Rattle.template_compiler_names_closures.specs.declared.parts.Unit.TheVariants.{Template, Block, Loop}

pub data Part : Type 0 where
  whole : Statements → Part  -- the body of a template, its blocks where they stand
  block_body : Statements → Part
  rounds : Expression → Statements → Part  -- a recursive loop's target and body

-- one of the places is in it, and nothing before it there stores its name; in a loop's body `loop` is stored
abbrev pub place_in_part : Places → Part → Bool
place_in_part places (whole body) = place_within places body
place_in_part places (block_body body) = place_within places body
place_in_part places (rounds target body) =
    place_in_target places target
    || not (is_stored_in places.name target) && (not (bytes_eq places.name (codes "loop")) && place_within places body)

-- so it is where it is the rounds of a loop
abbrev pub place_in_rounds : Places → Part → Bool
place_in_rounds places (rounds target body) = place_in_part places (rounds target body)
place_in_rounds places _ = false

-- whether it uses the name
abbrev pub is_used_by_part : List ℕ → Part → Bool
is_used_by_part name part = not (is_stored_everywhere name) && place_in_part (anywhere name) part

-- the rounds of a loop are a part by themselves if it is recursive
abbrev pub rounds_of : Bool → Expression → Statements → List Part
rounds_of true target body = rounds target body ∷ []
rounds_of false target body = []

abbrev mutual
  -- the parts in a statement, in order of place: its own comes before those in its bodies
  pub units_of : Statement → List Part
  units_of (template body) = whole body ∷ units_among body
  units_of (for_loop target _ _ recursive body otherwise) = rounds_of recursive target body ++ (units_among body ++ units_among otherwise)
  units_of (if_condition _ body otherwise) = units_among body ++ units_among otherwise
  units_of (with_block _ body) = units_among body
  units_of (set_block _ _ body) = units_among body
  units_of (auto_escape _ body) = units_among body
  units_of (filter_block _ body) = units_among body
  units_of (block _ _ body) = block_body body ∷ units_among body
  units_of (macro _ _ _ body) = units_among body
  units_of (call_block _ _ _ _ body) = units_among body
  units_of _ = []

  pub units_among : Statements → List Part
  units_among no_statements = []
  units_among (statements_more statement rest) = units_of statement ++ units_among rest

-- the part that a reference to a node stands for
abbrev pub part_of : Unit → Part
part_of (Template n) = whole (statements_in n.now.children.items)
part_of (Block n) = block_body (statements_in n.now.body.items)
part_of (Loop n) = rounds (expression_of n.now.target) (statements_in n.now.body.items)

abbrev pub parts_in : List Unit → List Part
parts_in units = map part_of units
