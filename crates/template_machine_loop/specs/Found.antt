-- What is found before a run within is entered, or why it is refused.
use Rattle.std.specs.Prelude.{◌≡◌, ℕ, ◌+◌, ◌^◌, ◌<◌, ◌==◌, Bool, true, List, length, map, Option, None, Some}
use Rattle.std.specs.Cow.{cow_str_bytes}
use Rattle.template_values_errors.specs.declared.ErrorKind.{ErrorKind}
use Rattle.template_values_model.specs.Val.{Val}
use Rattle.template_compiler_process.specs.Process.{tells, fails, done}
use Rattle.template_compiler_code.specs.Streams.{stream_in}
use Rattle.template_machine_tables.specs.Streams.{home_of, stream_of}
use Rattle.template_machine_meaning.specs.World.{Loop, Macro, Rounds, World, has_room}
use Rattle.template_machine_meaning.specs.Macros.{Bound, macro_levels, macro_within}
use Rattle.template_machine_meaning.specs.Rounds.{rounds_plan, rounds_within}
use Rattle.template_compiler_code.specs.Code.{single}
use Rattle.template_compiler_code.specs.Counting.{MacroPlace, macro_at, rounds_at}
use Rattle.template_compiler_code.specs.Listing.{code_in}
use Rattle.template_machine_operands.specs.Operands.{operands_in}
use Rattle.template_machine_state.specs.Changes.{bound_to}
use Rattle.template_machine_meaning.specs.Replies.{told}
use Rattle.template_machine_meaning.specs.Records.{known_of}
use Rattle.template_machine_meaning.specs.Plans.{Within, Plan, replies, room_for, as_set}
use Rattle.template_machine_meaning.specs.Bodies.{bodies_at}
use Rattle.template_machine_meaning.specs.Blocks.{bodies_plan, super_within, super_plan}
use Rattle.template_machine_meaning.specs.Keys.{Home, block_of, whole_of}
use Rattle.template_machine_meaning.specs.Includes as includes
use Rattle.template_machine_meaning.specs.Includes.{include_levels, include_within, include_plan}
use Rattle.template_machine_meaning.specs.Surroundings.{Programs}
use Rattle.template_machine_loop.specs.declared.found.Found.{Found}
use Rattle.template_machine_loop.specs.declared.macros.Begun as body
use Rattle.template_machine_loop.specs.declared.rounds.Begun as rounds
use Rattle.template_machine_loop.specs.Plans.{replies_of}
use Rattle.template_machine_loop.specs.Programs.{Standing, block_at, code_at, head_of, Roots}

-- under every bound the plan is refused with the kinds
abbrev pub IsRefused : Programs → Plan → World → List ErrorKind → Type 0
IsRefused s p w kinds = (n : ℕ) → replies_of s p w n ≡ told w (fails kinds)

abbrev pub name_in : Found → List ℕ
name_in found = cow_str_bytes found.block.now.name

-- the block stands at its home
abbrev pub StandsThere : (List ℕ → Option Standing) → Roots → Found → Type 0
StandsThere standing roots found = block_at standing roots (home_of found.home) (name_in found) ≡ Some (stream_in found.block.now)

-- the plan of a call of a block, which runs so many levels deeper, and begins so
abbrev pub blocks_plan : Programs → World → List ℕ → ℕ → (List ℕ → Home → Within) → Plan
blocks_plan s w name levels begin =
    bodies_plan s.around w name (λ home. room_for s.around.limit levels w (begin name home)) (bodies_at name w.blocks)

-- whichever way a call of the block begins, it enters the body that was found, where there is room for it
pub record FindsBody (s : Programs) (standing : List ℕ → Option Standing) (roots : Roots) (w : World) (name : List ℕ) (found : Found)
    : Type 0 where
  pub planned : (levels : ℕ) (begin : List ℕ → Home → Within)
      → blocks_plan s w name levels begin ≡ room_for s.around.limit levels w (begin (name_in found) (home_of found.home))
  pub stands : StandsThere standing roots found

-- it is refused with the kinds
abbrev pub RefusesBody : Programs → World → List ℕ → List ErrorKind → Type 0
RefusesBody s w name kinds =
    (levels : ℕ) (begin : List ℕ → Home → Within)
    → ((called : List ℕ) (home : Home) → (begin called home).key ≡ whole_of (block_of home called))
    → ((called : List ℕ) (home : Home) → as_set w (begin called home) ≡ w) → IsRefused s (blocks_plan s w name levels begin) w kinds

-- `super()`, by its name or printed, enters the body that was found, where there is room for it
pub record FindsBehind (s : Programs) (standing : List ℕ → Option Standing) (roots : Roots) (w : World) (found : Found) : Type 0 where
  pub planned : (named : Bool)
      → super_plan s.around w named ≡ room_for s.around.limit 1 w (super_within w named (name_in found) found.place (home_of found.home))
  pub stands : StandsThere standing roots found
  pub fits : found.place + 1 < 2 ^ 64

-- a template as it is found
abbrev pub found_of : Standing → includes.Found
found_of t = record { name = t.name; head = head_of t }

-- the include enters the template that was found, where there is room for it; or there is none, and nothing is done
pub record FindsTemplate (s : Programs) (standing : List ℕ → Option Standing) (w : World) (ignore : Bool) (v : Val) (t : Standing)
    : Type 0 where
  pub planned : include_plan (known_of w) s.around w ignore v ≡ room_for s.around.limit include_levels w (include_within w (found_of t))
  pub stands : standing t.name ≡ Some t

abbrev pub FindsTemplateOrNone : Programs → (List ℕ → Option Standing) → World → Bool → Val → Option Standing → Type 0
FindsTemplateOrNone s standing w ignore v (Some t) = FindsTemplate s standing w ignore v t
FindsTemplateOrNone s standing w ignore v None = include_plan (known_of w) s.around w ignore v ≡ replies (told w (tells done))

-- the macro's body begins where it stands in its stream, over the arguments that were bound, where there is room for it
pub record FindsMacro (s : Programs) (standing : List ℕ → Option Standing) (roots : Roots) (w : World) (pending : ℕ) (p : Plan)
    (begun : body.Begun) : Type 0 where
  pub called : Macro
  pub over : Bound
  pub planned : p ≡ room_for s.around.limit (macro_levels + pending) w (macro_within w pending called over)
  pub room : has_room s.around.limit (macro_levels + pending) w ≡ true
  pub stream : stream_of begun.stream ≡ called.stream
  pub closure : begun.closure ≡ called.closure
  pub locals : (bound_to begun.given).locals ≡ over.locals
  pub there : code_at standing roots called.stream ≡ Some (code_in begun.code.now)
  pub place : MacroPlace
  pub stands : macro_at (code_in begun.code.now) called.number ≡ Some place
  pub begins : begun.place ≡ place.offset
  pub fits : (place.count == length over.arguments) ≡ true
  pub operands : operands_in begun.operands ≡ map single over.arguments

-- the rounds of a loop that is called again begin where they stand in its stream, over the items of a value, where there is room for them
pub record FindsRounds (s : Programs) (standing : List ℕ → Option Standing) (roots : Roots) (w : World) (named : Bool) (l : Loop)
    (home : Rounds) (v : Val) (begun : rounds.Begun) : Type 0 where
  pub planned : rounds_plan s.around w named v l ≡ room_for s.around.limit 1 w (rounds_within w named l home begun.items)
  pub room : has_room s.around.limit 1 w ≡ true
  pub there : code_at standing roots home.stream ≡ Some (code_in begun.code.now)
  pub stands : rounds_at (code_in begun.code.now) home.number ≡ Some begun.place
