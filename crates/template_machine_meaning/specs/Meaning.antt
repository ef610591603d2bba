-- What a template means for a context, under a bound; and what an expression does, without one.
use Rattle.std.specs.Prelude.{ℕ, suc, ◌==◌, List, [], ◌∷◌, length, map, Option, None, Some, option_map, Result, Ok, Err, codes, if◌then◌else◌}
use Rattle.std.specs.Option.{option_map_or, option_and_then}
use Rattle.template_values_errors.specs.declared.ErrorKind.{ErrorKind}
use Rattle.template_values_errors.specs.declared.modes.AutoEscape.{AutoEscape}
use Rattle.template_values_errors.specs.declared.modes.AutoEscape.TheVariants as escapes
use Rattle.template_values_errors.specs.declared.modes.UndefinedBehavior.{UndefinedBehavior}
use Rattle.template_values_model.specs.Val.{Val}
use Rattle.template_values_forms.specs.Frozen.{frozen}
use Rattle.template_callables.specs.Callables.{Callables}
use Rattle.template_callables.specs.Joins.{Joins}
use Rattle.template_compiler_tree.specs.Tree.{Expression, Statements}
use Rattle.template_compiler_process.specs.Process.{Process}
use Rattle.template_compiler_process.specs.Drive.{End, ends, faults}
use Rattle.template_compiler_process.specs.Trace.{Run, run}
use Rattle.template_compiler_walk.specs.Statements.{number_of, standalone_walk, template_walk, macro_walk, rounds_walk}
use Rattle.template_compiler_walk.specs.Blocks.{Block, blocks_in, block_named}
use Rattle.template_compiler_walk.specs.Counting.{MacroBody, macro_numbered, rounds_numbered}
use Rattle.template_machine_meaning.specs.World.{Globals, World, first_world}
use Rattle.template_machine_meaning.specs.Records.{known_of}
use Rattle.template_machine_meaning.specs.Replies.{kinded}
use Rattle.template_machine_meaning.specs.Keys as keys
use Rattle.template_machine_meaning.specs.Keys.{Home, standing, kept, Stream, own, block_of, Part, whole, rounds_of, Key, whole_of, Head, Around}
use Rattle.template_machine_meaning.specs.Plans.{ran}
use Rattle.template_machine_meaning.specs.Surroundings.{Programs, runners, answer}

-- a template that stands: its name, its tree, and the escape of its name when it was added
pub record Standing : Type 0 where
  pub name : List ℕ
  pub tree : Statements
  pub escape : AutoEscape

-- what no render changes: the templates that stand; which of them are meant by the names that stand in templates; what stands under
-- all frames; what the environment was given of its user's own; the limit of the depth; and what may be done with undefined values
pub record Setting : Type 0 where
  pub templates : List ℕ → Option Standing
  pub joins : Joins
  pub globals : Globals
  pub callables : Callables
  pub limit : ℕ
  pub undefined : UndefinedBehavior

-- the template at a home: the one that is rendered, if one is, or one that stands under a name; none was handed in
abbrev pub template_at : Setting → Option Standing → Home → Option Standing
template_at setting root keys.rendered = root
template_at setting root (standing name) = setting.templates name
template_at setting root (kept number) = None

-- the body of a block of a template
abbrev pub body_of : List ℕ → Standing → Option Statements
body_of name t = option_map (λ (b : Block). b.body) (block_named name t.tree)

-- the tree that a key runs whole
abbrev pub tree_in : Setting → Option Standing → Stream → Part → Option Statements
tree_in setting root (own home) whole = option_map (λ t. t.tree) (template_at setting root home)
tree_in setting root (block_of home name) whole = option_and_then (body_of name) (template_at setting root home)
tree_in setting root _ _ = None

abbrev pub tree_at : Setting → Option Standing → Key → Option Statements
tree_at setting root key = tree_in setting root key.stream key.part

-- the tree of a stream
abbrev pub tree_of : Setting → Option Standing → Stream → Option Statements
tree_of setting root s = tree_in setting root s whole

-- the walk of a macro's body, over one argument for each parameter
abbrev pub body_walk : ℕ → List Val → MacroBody → Option Process
body_walk n vs m = if number_of m.arguments == length vs then Some (macro_walk n m vs) else None

-- the walk of a part of a tree
abbrev pub part_walk : ℕ → Part → Statements → Option Process
part_walk n whole t = Some (template_walk n t)
part_walk n (keys.body_of number vs) t = option_and_then (body_walk n vs) (macro_numbered number t)
part_walk n (rounds_of number) t = option_map (rounds_walk n) (rounds_numbered number t)

-- what is around every run: the same for trees and codes
abbrev pub head_of : Standing → Head
head_of t = record { escape = t.escape; blocks = map (λ (b : Block). (b.name, b.required)) (blocks_in t.tree) }

abbrev pub no_head : Head
no_head = record { escape = escapes.None; blocks = [] }

abbrev pub around_of : Setting → Option Standing → Around
around_of setting root = record {
  name = option_map_or (λ (t : Standing). t.name) root (codes "<expression>");
  callables = setting.callables;
  head = λ home. option_map head_of (template_at setting root home);
  joins = setting.joins;
  limit = setting.limit;
  undefined = setting.undefined;
}

-- the walk of each key, where a template is rendered or none is
abbrev pub walks_of : Setting → Option Standing → Programs
walks_of setting root = record {
  process = λ n key. option_and_then (part_walk n key.part) (tree_of setting root key.stream);
  around = around_of setting root;
}

-- programs, where what is rendered or evaluated has a name
abbrev pub named_so : List ℕ → Programs → Programs
named_so name s = record s { around = record s.around { name = name } }

-- the key of the template that is rendered
abbrev pub top : Key
top = whole_of (own keys.rendered)

-- a template from a world on, under a bound on its rounds and on the runs within it
abbrev pub meaning : Setting → Standing → ℕ → World → Run World
meaning setting root n w = ran (runners (walks_of setting (Some root)) (suc n) top) w

-- a template that stands, over a context, in the state of a number
abbrev pub rendered : Setting → ℕ → ℕ → Standing → Val → Run World
rendered setting id n t context = meaning setting t n (first_world id setting.globals (head_of t) context)

-- an expression from a world on, to its value; it has no rounds and starts no run within, so the least bound will do
abbrev pub evaluation : Setting → Expression → World → Run World
evaluation setting e w = run (answer (walks_of setting None) 0) (standalone_walk e) w

-- one value, or a fault
abbrev pub alone : Result Val ErrorKind → End
alone (Ok v) = ends (v ∷ [])
alone (Err kind) = faults (kind ∷ [])

-- a value as it leaves its state: a map stands for each namespace in it; every other end stays
abbrev pub handed : World → End → End
handed w (ends (v ∷ [])) = alone (kinded (frozen (known_of w) v))
handed w e = e

-- a run that hands out its value, by what is known at its end
abbrev pub handed_out : Run World → Run World
handed_out r = record r { end = handed r.after r.end }

-- an expression over a context, under no escape, in the state of a number: its value is handed out
abbrev pub evaluated : Setting → ℕ → Expression → Val → Run World
evaluated setting id e context = handed_out (evaluation setting e (first_world id setting.globals no_head context))
