-- Blocks: which body a call runs, what stands behind it, and which template is extended.
use Rattle.std.specs.Prelude.{ℕ, suc, ◌+◌, ◌==◌, Bool, true, false, ◌&&◌, ◌||◌, List, [], ◌∷◌, length, slice_get, Option, None, Some, is_some, Result, Ok, Err, if◌then◌else◌}
use Rattle.std.specs.Option.{option_map_or}
use Rattle.std.specs.Str.{bytes_eq}
use Rattle.template_values_errors.specs.declared.ErrorKind.{ErrorKind}
use Rattle.template_values_errors.specs.declared.ErrorKind.TheVariants.{InvalidOperation, TemplateNotFound, UnknownBlock, EvalBlock}
use Rattle.template_values_model.specs.Val.{Val}
use Rattle.template_values_core.specs.Answers.{text_in}
use Rattle.template_compiler_process.specs.Process.{tells, fails, done}
use Rattle.template_machine_meaning.specs.Keys.{Home, standing, Stream, block_of, whole_of, Head, Around}
use Rattle.template_machine_meaning.specs.Bodies.{Bodies, bodies_at, with_bodies, with_place}
use Rattle.template_machine_meaning.specs.World.{World, Capture, keeps, drops, empty_frame}
use Rattle.template_machine_meaning.specs.Captures.{is_dropping}
use Rattle.template_machine_meaning.specs.Names.{name_of}
use Rattle.template_machine_meaning.specs.Replies.{told, changed, refused}
use Rattle.template_machine_meaning.specs.Plans.{calls_block, takes_block, calls_super, Within, Plan, replies, room_for}

-- a stream of a block runs in a frame of its own, which extends no template yet
abbrev pub own_frame : Stream → List ℕ → World → World
own_frame s name w = record w {
  here = s;
  block = Some name;
  parent = None;
  frames = empty_frame ∷ w.frames;
  floor = suc (length w.frames);
  saved = [];
  first = w.escape;
}

abbrev pub block_within : World → List ℕ → Home → Within
block_within w name home = record {
  key = whole_of (block_of home name);
  begins = own_frame (block_of home name) name w;
  wraps = [];
  purpose = calls_block;
  behind = [];
}

-- the one body that there is only says that another has to be given
abbrev pub is_required : List ℕ → List (List ℕ × Bool) → Bool
is_required name [] = false
is_required name (b ∷ blocks) = if bytes_eq b.0 name then b.1 else is_required name blocks

abbrev pub lacks_body : Around → List ℕ → Home → List Home → Bool
lacks_body a name home homes = length homes == 1 && option_map_or (λ (h : Head). is_required name h.blocks) (a.head home) false

-- what runs is entered as `entered` says
abbrev pub body_plan : Around → World → List ℕ → (Home → Plan) → Bodies → Option Home → Plan
body_plan a w name entered b None = replies (refused w UnknownBlock)
body_plan a w name entered b (Some home) = if lacks_body a name home b.homes then replies (refused w InvalidOperation) else entered home

abbrev pub bodies_plan : Around → World → List ℕ → (Home → Plan) → Option Bodies → Plan
bodies_plan a w name entered None = replies (refused w UnknownBlock)
bodies_plan a w name entered (Some b) = body_plan a w name entered b (slice_get b.homes b.place)

-- a block runs, whatever the run has met
abbrev pub block_plan : Around → World → List ℕ → Plan
block_plan a w name = bodies_plan a w name (λ home. room_for a.limit 1 w (block_within w name home)) (bodies_at name w.blocks)

-- so it does where so many calls are pending, which count as levels too, for its text
abbrev pub text_within : World → ℕ → List ℕ → Home → Within
text_within w pending name home = record {
  key = whole_of (block_of home name);
  begins = record (own_frame (block_of home name) name w) { outer = w.outer + pending; captures = keeps [] ∷ w.captures };
  wraps = [];
  purpose = takes_block;
  behind = [];
}

abbrev pub text_plan : Around → ℕ → World → List ℕ → Plan
text_plan a pending w name =
    bodies_plan a w name (λ home. room_for a.limit (1 + pending) w (text_within w pending name home)) (bodies_at name w.blocks)

-- where the run extends a template, or what is written is dropped, the block isn't even looked for
abbrev pub block_called : Around → World → List ℕ → Plan
block_called a w name = if is_some w.parent || is_dropping w.captures then replies (told w (tells done)) else block_plan a w name

-- the body behind the one at a place, for a call by name or for a print
abbrev pub captured_if : Bool → List Capture → List Capture
captured_if named captures = if named then keeps [] ∷ captures else captures

abbrev pub super_within : World → Bool → List ℕ → ℕ → Home → Within
super_within w named name place home = record {
  key = whole_of (block_of home name);
  begins = record (own_frame (block_of home name) name w) { blocks = with_place name (suc place) w.blocks; captures = captured_if named w.captures };
  wraps = EvalBlock ∷ [];
  purpose = calls_super named name place;
  behind = [];
}

abbrev pub behind_plan : Around → World → Bool → List ℕ → ℕ → Option Home → Plan
behind_plan a w named name place None = replies (refused w InvalidOperation)
behind_plan a w named name place (Some home) = room_for a.limit 1 w (super_within w named name place home)

abbrev pub super_in : Around → World → Bool → List ℕ → Option Bodies → Plan
super_in a w named name None = replies (refused w InvalidOperation)
super_in a w named name (Some b) = behind_plan a w named name b.place (slice_get b.homes (suc b.place))

abbrev pub super_from : Around → World → Bool → Option (List ℕ) → Plan
super_from a w named None = replies (refused w InvalidOperation)
super_from a w named (Some name) = super_in a w named name (bodies_at name w.blocks)

abbrev pub super_plan : Around → World → Bool → Plan
super_plan a w named = super_from a w named w.block

-- by its name it takes no arguments
abbrev pub super_called : Around → World → List Val → Plan
super_called a w [] = super_plan a w true
super_called a w (v ∷ vs) = replies (refused w InvalidOperation)

-- one of the names
abbrev pub is_among : List ℕ → List (List ℕ) → Bool
is_among name [] = false
is_among name (n ∷ names) = bytes_eq n name || is_among name names

-- a template's blocks are loaded behind those that are there, and what is written from now on is dropped
abbrev pub loaded_head : World → List ℕ → Option Head → Plan
loaded_head w name None = replies (refused w TemplateNotFound)
loaded_head w name (Some h) = replies (changed (record w {
  parent = Some name;
  blocks = with_bodies (standing name) h.blocks w.blocks;
  loaded = name ∷ w.loaded;
  captures = drops ∷ w.captures;
}) done)

abbrev pub loaded_as : Around → World → Result (List ℕ) (List ErrorKind) → Plan
loaded_as a w (Ok name) = if is_among name w.loaded then replies (refused w InvalidOperation) else loaded_head w name (a.head (standing name))
loaded_as a w (Err kinds) = replies (told w (fails kinds))

abbrev pub loaded_named : Around → World → Option (List ℕ) → Plan
loaded_named a w None = replies (refused w InvalidOperation)
loaded_named a w (Some name) = loaded_as a w (a.joins name (name_of a w.here))

-- a run extends one template at most
abbrev pub load_plan : Around → World → Option (List ℕ) → Val → Plan
load_plan a w None v = loaded_named a w (text_in v)
load_plan a w (Some parent) v = replies (refused w InvalidOperation)
