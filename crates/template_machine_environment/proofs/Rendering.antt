-- From the run of a template's code to what its render means.
use Rattle.std.proofs.Common.{◌≡◌, ℕ, Bool, false, true, cond, bytes_eq, List, [], ◌∷◌, map, Option, None, Some, Ok, Err, refl, sym, ap, subst, ◌∙◌, arith}
use Rattle.std.specs.Option.{option_map, option_and_then}
use Rattle.template_values_errors.specs.declared.modes.UndefinedBehavior.{UndefinedBehavior}
use Rattle.template_values_model.specs.Val.{Val}
use Rattle.template_compiler_tree.specs.Tree.{Statements}
use Rattle.template_compiler_process.specs.Approximants.{IsFinished}
use Rattle.template_compiler_process.specs.Fuel.{under}
use Rattle.template_compiler_walk.specs.Blocks.{Block, blocks_in, block_among, block_named}
use Rattle.template_compiler_walk.specs.Runnable.{IsRunnableTemplate}
use Rattle.template_compiler_code.specs.Streams.{BlockStream, heads_of, stream_among}
use Rattle.template_machine_going.specs.declared.stop.Stop.{Stop}
use Rattle.template_machine_meaning.specs.World.{World, first_world}
use Rattle.template_machine_meaning.specs.Surroundings.{Programs}
use Rattle.template_machine_meaning.specs.Keys as keys
use Rattle.template_machine_meaning.specs.Keys.{Home, Stream, own, block_of, Part}
use Rattle.template_machine_meaning.specs.Meaning as meanings
use Rattle.template_machine_meaning.specs.Meaning.{Standing, template_at, tree_of, head_of, named_so, top}
use Rattle.template_machine_meaning.specs.Laws.{AreAllRunnable, ListsAll}
use Rattle.template_machine_meaning.proofs.Ends.{every_run_ends}
use Rattle.template_machine_codes.specs.Codes.{codes_of, part_coded}
use Rattle.template_machine_renders.specs.Programs as units
use Rattle.template_machine_renders.specs.Programs.{programs_of}
use Rattle.template_machine_renders.specs.Runs.{KeyRuns}
use Rattle.template_machine_renders.specs.Renders.{IsDone, Renders}
use Rattle.template_machine_renders.proofs.Coming.{ends_render, stops_render}
use Rattle.template_compiled.specs.Compiled.{Compiled, standing_of}
use Rattle.template_compiled.specs.Sources as sources
use Rattle.template_compiled.specs.Standing.{compiled_at}
use Rattle.template_compiled.specs.Streams.{stream_of, streams_of}
use Rattle.template_compiled.proofs.Trees.{tree_runs}
use Rattle.template_machine_environment.specs.Extras.{UserAnswers, Brought, joins_by}
use Rattle.template_machine_environment.specs.Reading.{brought_of, callables_of, extras_of, registry_of, setting_in}
use Rattle.template_machine_environment.specs.Renderings.{rendering}
use Rattle.template_machine_environment.specs.Standing.{setting_of, unit_of, units_of}
use Rattle.template_machine_environment.specs.declared.environment.Environment.{Environment}
use Rattle.template_machine_environment.specs.declared.registry.Registry.{Registry}
use Rattle.template_machine_environment.proofs.Listed.{map_twice}
use Rattle.template_machine_environment.proofs.Parted.{parts_alike}

same_process : (n : ℕ) (part : Part) (o : Option Compiled) → option_and_then (units.part_in n part) (option_map (λ (u : units.Standing). u.code) (option_map unit_of o))
    ≡ option_and_then (part_coded n part) (option_map (λ (t : Standing). t.tree) (option_map standing_of o))
same_process n part None = refl
same_process n part (Some c) = parts_alike (sources.tree_in c.source) n part

-- the first block of a name has the first stream of that name
named_as : (b : Bool) (x : Block) (later : Option Block) → option_map stream_of (cond b (Some x) later) ≡ cond b (Some (stream_of x)) (option_map stream_of later)
named_as true x later = refl
named_as false x later = refl

first_named : (name : List ℕ) (blocks : List Block) → stream_among name (map stream_of blocks) ≡ option_map stream_of (block_among name blocks)
first_named name [] = refl
first_named name (b ∷ bs) =
    ap (λ (o : Option BlockStream). cond (bytes_eq b.name name) (Some (stream_of b)) o) (first_named name bs)
    ∙ sym (named_as (bytes_eq b.name name) b (block_among name bs))

-- that of a block
same_body : (n : ℕ) (part : Part) (b : Option Block) → option_and_then (units.part_in n part) (option_map (λ (s : BlockStream). s.code) (option_map stream_of b))
    ≡ option_and_then (part_coded n part) (option_map (λ (x : Block). x.body) b)
same_body n part None = refl
same_body n part (Some b) = parts_alike b.body n part

same_block : (n : ℕ) (part : Part) (name : List ℕ) (o : Option Compiled)
    → option_and_then (units.part_in n part) (option_map (λ (s : BlockStream). s.code) (option_and_then (units.stream_at name) (option_map unit_of o)))
    ≡ option_and_then (part_coded n part) (option_and_then (meanings.body_of name) (option_map standing_of o))
same_block n part name None = refl
same_block n part name (Some c) =
    ap (λ (s : Option BlockStream). option_and_then (units.part_in n part) (option_map (λ (s : BlockStream). s.code) s)) (first_named name (blocks_in (sources.tree_in c.source)))
    ∙ same_body n part (block_named name (sources.tree_in c.source))

-- the names of blocks
pub same_heads : (tree : Statements) → heads_of (streams_of tree) ≡ map (λ (b : Block). (b.name, b.required)) (blocks_in tree)
same_heads tree = map_twice stream_of (λ (s : BlockStream). (s.name, s.required)) (blocks_in tree)

same_head : (o : Option Compiled) → option_map units.head_of (option_map unit_of o) ≡ option_map head_of (option_map standing_of o)
same_head None = refl
same_head (Some c) = (λ i. Some (record { escape = c.escape; blocks = same_heads (sources.tree_in c.source) i }))

module _ (k : Brought) (e : Registry) (root : Option Compiled) where
  home_process : (n : ℕ) (part : Part) (home : Home)
      → option_and_then (units.part_in n part) (units.own_code (units_of e) (units.alone (option_map unit_of root)) home)
      ≡ option_and_then (part_coded n part) (option_map (λ (t : Standing). t.tree) (template_at (setting_of k e) (option_map standing_of root) home))
  home_process n part keys.rendered = same_process n part root
  home_process n part (keys.standing name) = same_process n part (compiled_at e.templates name)
  home_process n part (keys.kept number) = refl

  block_process : (n : ℕ) (part : Part) (name : List ℕ) (home : Home)
      → option_and_then (units.part_in n part) (option_map (λ (s : BlockStream). s.code) (units.block_at (units_of e) (units.alone (option_map unit_of root)) home name))
      ≡ option_and_then (part_coded n part) (option_and_then (meanings.body_of name) (template_at (setting_of k e) (option_map standing_of root) home))
  block_process n part name keys.rendered = same_block n part name root
  block_process n part name (keys.standing other) = same_block n part name (compiled_at e.templates other)
  block_process n part name (keys.kept number) = refl

  part_process : (n : ℕ) (part : Part) (stream : Stream) → option_and_then (units.part_in n part) (units.code_at (units_of e) (units.alone (option_map unit_of root)) stream)
      ≡ option_and_then (part_coded n part) (tree_of (setting_of k e) (option_map standing_of root) stream)
  part_process n part (own home) = home_process n part home
  part_process n part (block_of home name) = block_process n part name home

  home_head : (home : Home) → option_map units.head_of (units.template_at (units_of e) (units.alone (option_map unit_of root)) home) ≡ option_map head_of (template_at (setting_of k e) (option_map standing_of root) home)
  home_head keys.rendered = same_head root
  home_head (keys.standing name) = same_head (compiled_at e.templates name)
  home_head (keys.kept number) = refl

  -- the programs that a machine runs are the codes of the setting
  pub same_programs : (name : List ℕ) → programs_of (units_of e) k.joins k.callables (units.alone (option_map unit_of root)) name e.recursion_limit e.undefined_behavior
      ≡ named_so name (codes_of (setting_of k e) (option_map standing_of root))
  same_programs name = λ i. record {
    process = λ n key. part_process n key.part key.stream i;
    around = record {
      name = name;
      callables = k.callables;
      head = λ home. home_head home i;
      joins = k.joins;
      limit = e.recursion_limit;
      undefined = e.undefined_behavior;
    };
  }

module _ {E C M F J R : Type 0} where
  -- as an environment and its rules have them
  pub ruled_programs : (says : UserAnswers C M F J) (there e : Environment E C M F J R) (root : Option Compiled) (roots : units.Roots) (called name : List ℕ) (limit : ℕ)
      (mode : UndefinedBehavior) → there ≡ e → roots ≡ units.alone (option_map unit_of root) → called ≡ name → limit ≡ (registry_of e).recursion_limit
      → mode ≡ (registry_of e).undefined_behavior
      → programs_of (units_of (registry_of there)) (joins_by says.joins (extras_of there).join) (callables_of says there) roots called limit mode
      ≡ named_so name (codes_of (setting_in says e) (option_map standing_of root))
  ruled_programs says there e root roots called name limit mode t u n l m =
      (λ i. programs_of (units_of (registry_of (t i))) (joins_by says.joins (extras_of (t i)).join) (callables_of says (t i)) (u i) (n i) (l i) (m i))
      ∙ same_programs (record { callables = callables_of says e; joins = joins_by says.joins (extras_of e).join }) (registry_of e) root name

-- what a machine runs: the programs, and the world at its start, in the state of a number
pub record IsRunOf (k : Brought) (e : Registry) (id : ℕ) (c : Compiled) (context : Val) (s : Programs) (w : World) : Type 0 where
  pub programs : s ≡ codes_of (setting_of k e) (Some (standing_of c))
  pub start : w ≡ first_world id e.globals (head_of (standing_of c)) context

module _ {E C M F J R : Type 0} where
  -- as they are of an environment
  pub run_of : (says : UserAnswers C M F J) (there e : Environment E C M F J R) (c : Compiled) (roots : units.Roots) (called : List ℕ) (limit : ℕ) (mode : UndefinedBehavior)
      (id : ℕ) (context : Val) (w : World) → there ≡ e → roots ≡ units.alone (Some (unit_of c)) → called ≡ c.name → limit ≡ (registry_of e).recursion_limit
      → mode ≡ (registry_of e).undefined_behavior → w ≡ first_world id (registry_of e).globals (head_of (standing_of c)) context
      → IsRunOf (brought_of says e) (registry_of e) id c context
      (programs_of (units_of (registry_of there)) (joins_by says.joins (extras_of there).join) (callables_of says there) roots called limit mode) w
  run_of says there e c roots called limit mode id context w t u n l m start = record {
    programs = ruled_programs says there e (Some c) roots called c.name limit mode t u n l m;
    start = start;
  }

pub render_done : {X : Type 0} (v : X) (k : Brought) (e : Registry) (id : ℕ) (c : Compiled) (context : Val) (s : Programs) (w after : World) (set fuel left : Option ℕ)
    (before taken : Option (List ℕ)) → fuel ≡ set → IsRunOf k e id c context s w → KeyRuns s top w fuel before (Ok v) after left taken
    → (n : ℕ) → IsFinished (rendering k e id c n context).end → IsDone set (rendering k e id c n context) after left before taken
render_done {X = X} v k e id c context s w after set fuel left before taken same of runs n finished =
    subst (λ (f : Option ℕ). IsDone f (rendering k e id c n context) after left before taken) same
    (ends_render (setting_of k e) (standing_of c) (first_world id e.globals (head_of (standing_of c)) context) after fuel left before taken
    (subst (λ (x : World). KeyRuns {X = X} (codes_of (setting_of k e) (Some (standing_of c))) top x fuel before (Ok v) after left taken) of.start
    (subst (λ (p : Programs). KeyRuns {X = X} p top w fuel before (Ok v) after left taken) of.programs runs))
    n finished)

pub render_stopped : (X : Type 0) (k : Brought) (e : Registry) (id : ℕ) (c : Compiled) (context : Val) (s : Programs) (w after : World) (set fuel left : Option ℕ)
    (before taken : Option (List ℕ)) (stop : Stop) → fuel ≡ set → IsRunOf k e id c context s w → KeyRuns {X = X} s top w fuel before (Err stop) after left taken
    → (n : ℕ) → IsFinished (rendering k e id c n context).end → Renders {X = X} (Err stop) before taken (under set (rendering k e id c n context))
render_stopped X k e id c context s w after set fuel left before taken stop same of runs n finished =
    subst (λ (f : Option ℕ). Renders {X = X} (Err stop) before taken (under f (rendering k e id c n context))) same
    (stops_render X (setting_of k e) (standing_of c) (first_world id e.globals (head_of (standing_of c)) context) after fuel left before taken stop
    (subst (λ (x : World). KeyRuns {X = X} (codes_of (setting_of k e) (Some (standing_of c))) top x fuel before (Err stop) after left taken) of.start
    (subst (λ (p : Programs). KeyRuns {X = X} p top w fuel before (Err stop) after left taken) of.programs runs))
    n finished)

never : {t : Standing} → None ≡ Some t → ⊥
never at = cc

one : {t u : Standing} → Some t ≡ Some u → t ≡ u
one at = cc

runs_there : (o : Option Compiled) (t : Standing) → option_map standing_of o ≡ Some t → IsRunnableTemplate t.tree
runs_there None t at = absurd (never at)
runs_there (Some c) t at = subst (λ (u : Standing). IsRunnableTemplate u.tree) (one at) (tree_runs c.source)

-- all that stands runs
pub all_run : (k : Brought) (e : Registry) → AreAllRunnable (setting_of k e)
all_run k e name t at = runs_there (compiled_at e.templates name) t at

-- every render ends, where names list all that stands
pub render_ends : (k : Brought) (e : Registry) (names : List (List ℕ)) (id : ℕ) (c : Compiled) (context : Val) → ListsAll (setting_of k e) names
    → (n : ℕ) × IsFinished (rendering k e id c n context).end
render_ends k e names id c context lists =
    every_run_ends (setting_of k e) names lists (all_run k e) (standing_of c) (tree_runs c.source) (first_world id e.globals (head_of (standing_of c)) context)
    (record { framed = omega arith; floor = omega arith; alone = refl })
