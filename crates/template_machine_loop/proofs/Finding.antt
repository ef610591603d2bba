-- Which body of a block is found.
use Rattle.std.proofs.Common.{◌≡◌, ℕ, zero, suc, ◌==◌, Bool, true, false, ◌&&◌, ◌||◌, is_some, List, [], ◌∷◌, length, slice_get, Option, None, Some, option_map, if◌then◌else◌, refl, sym, ap, subst, ◌∙◌}
use Rattle.std.specs.Option.{option_map_or, option_and_then}
use Rattle.std.specs.Str.{bytes_eq}
use Rattle.std.proofs.lemmas.Option.{none-some, same_Some}
use Rattle.std.proofs.lemmas.Slice.Eq.{bytes_eq-Decides}
use Rattle.template_values_errors.specs.declared.ErrorKind.{ErrorKind}
use Rattle.template_values_errors.specs.declared.ErrorKind.TheVariants.{InvalidOperation, UnknownBlock}
use Rattle.template_callables.specs.Callables.{Callables}
use Rattle.template_callables.specs.Joins.{Joins}
use Rattle.template_compiler_process.specs.Process.{Process, tells, done}
use Rattle.template_machine_meaning.specs.Captures.{is_dropping}
use Rattle.template_compiler_process.specs.Drive.{breaks}
use Rattle.template_compiler_process.specs.Trace.{Reply, Run, run, ended}
use Rattle.template_compiler_code.specs.Streams.{BlockStream, stream_among, heads_of}
use Rattle.template_machine_meaning.specs.World.{World, has_room}
use Rattle.template_machine_meaning.specs.Keys.{Home, block_of, Key, whole, whole_of, Head}
use Rattle.template_machine_meaning.specs.Bodies.{Bodies, bodies_at}
use Rattle.template_machine_meaning.specs.Replies.{told, refused}
use Rattle.template_machine_meaning.specs.Plans.{Runners, Within, Plan, replies, enters, room_for, as_set, came_from, followed, settled}
use Rattle.template_machine_meaning.specs.Blocks.{is_required, lacks_body, body_plan, bodies_plan, block_plan, block_called, super_within, behind_plan, super_in, super_from, super_plan}
use Rattle.template_machine_meaning.specs.Surroundings.{Programs, runners, answer}
use Rattle.template_machine_calls.specs.declared.rules.Rules.{Rules}
use Rattle.template_machine_loop.specs.Found.{IsRefused, RefusesBody, blocks_plan}
use Rattle.template_machine_loop.specs.Programs.{Standing, programs_under, template_at, stream_at, block_at, head_of, part_in, Roots}

-- the block of a name has this name
name_step : (name : List ℕ) (c b : BlockStream) (later : Option BlockStream) (x : Bool) → bytes_eq c.name name ≡ x → (later ≡ Some b → b.name ≡ name)
    → (if x then Some c else later) ≡ Some b → b.name ≡ name
name_step name c b later true same on is = ap (λ (d : BlockStream). d.name) (sym (same_Some c b is)) ∙ (bytes_eq-Decides c.name name).0 same
name_step name c b later false same on is = on is

pub stream_name : (name : List ℕ) (blocks : List BlockStream) (b : BlockStream) → stream_among name blocks ≡ Some b → b.name ≡ name
stream_name name [] b is = absurd (none-some b is)
stream_name name (c ∷ blocks) b is = name_step name c b (stream_among name blocks) (bytes_eq c.name name) refl (stream_name name blocks b) is

-- whether a body of its own has to be given
required_step : (name : List ℕ) (c b : BlockStream) (later : Option BlockStream) (asked : Bool) (x : Bool) → (later ≡ Some b → asked ≡ b.required)
    → (if x then Some c else later) ≡ Some b → (if x then c.required else asked) ≡ b.required
required_step name c b later asked true on is = ap (λ (d : BlockStream). d.required) (same_Some c b is)
required_step name c b later asked false on is = on is

required_is : (name : List ℕ) (blocks : List BlockStream) (b : BlockStream) → stream_among name blocks ≡ Some b → is_required name (heads_of blocks) ≡ b.required
required_is name [] b is = absurd (none-some b is)
required_is name (c ∷ blocks) b is =
    required_step name c b (stream_among name blocks) (is_required name (heads_of blocks)) (bytes_eq c.name name) (required_is name blocks b) is

required_at : (name : List ℕ) (o : Option Standing) (b : BlockStream) → option_and_then (stream_at name) o ≡ Some b
    → option_map_or (λ (h : Head). is_required name h.blocks) (option_map head_of o) false ≡ b.required
required_at name None b is = absurd (none-some b is)
required_at name (Some t) b is = required_is name t.blocks b is

pub found_name : (name : List ℕ) (o : Option Standing) (b : BlockStream) → option_and_then (stream_at name) o ≡ Some b → b.name ≡ name
found_name name None b is = absurd (none-some b is)
found_name name (Some t) b is = stream_name name t.blocks b is

-- by how many bodies are told
pub counted : (b : Bodies) (count : ℕ) (asked : Bool) → length b.homes ≡ count → (length b.homes == 1 && asked) ≡ (count == 1 && asked)
counted b count asked is = ap (λ n. n == 1 && asked) is

-- the kinds that are told
pub refuses_body_as : (s : Programs) (w : World) (name : List ℕ) (kinds told : List ErrorKind) → told ≡ kinds → RefusesBody s w name kinds → RefusesBody s w name told
refuses_body_as s w name kinds told is h = subst (RefusesBody s w name) (sym is) h

-- what is refused whichever way it is planned
either : (f : Runners) (w : World) (r : Reply World) (b : Bool) (p q : Plan) → settled f w p ≡ r → settled f w q ≡ r → settled f w (if b then p else q) ≡ r
either f w r true p q first second = first
either f w r false p q first second = second

-- a key without a process
pub keyless : (s : Programs) (key : Key) → ((n : ℕ) → s.process n key ≡ None) → (n : ℕ) → runners s n key ≡ None
keyless s key none zero =
    let f : Process → World → Run World = λ p w. ended breaks w in
    ap (option_map f) (none 0)
keyless s key none (suc n) =
    let f : Process → World → Run World = λ p w. followed (runners s n) key.part (run (answer s n) p w) in
    ap (option_map f) (none n)

pub unroomy : (s : Programs) (n levels : ℕ) (w : World) (y : Within) → as_set w y ≡ w → runners s n y.key ≡ None
    → settled (runners s n) w (room_for s.around.limit levels w y) ≡ refused w InvalidOperation
unroomy s n levels w y same none =
    either (runners s n) w (refused w InvalidOperation) (has_room s.around.limit levels w) (enters y) (replies (refused w InvalidOperation))
    (ap (came_from w y) none ∙ ap (λ (v : World). refused v InvalidOperation) same) refl

-- a block's call that is passed over, or looks for the block
pub passed_over : (s : Programs) (w : World) (name : List ℕ) → (is_some w.parent || is_dropping w.captures) ≡ true → block_called s.around w name ≡ replies (told w (tells done))
passed_over s w name e = ap (λ b. if b then replies (told w (tells done)) else block_plan s.around w name) e

pub looked_for : (s : Programs) (w : World) (name : List ℕ) → (is_some w.parent || is_dropping w.captures) ≡ false → block_called s.around w name ≡ block_plan s.around w name
looked_for s w name e = ap (λ b. if b then replies (told w (tells done)) else block_plan s.around w name) e

-- no body is there
no_body : (s : Programs) (w : World) (name : List ℕ) (entered : Home → Plan) (o : Option Bodies) → option_and_then (λ (b : Bodies). slice_get b.homes b.place) o ≡ None
    → bodies_plan s.around w name entered o ≡ replies (refused w UnknownBlock)
no_body s w name entered None none = refl
no_body s w name entered (Some b) none = ap (body_plan s.around w name entered b) none

none_behind : (s : Programs) (w : World) (named : Bool) (name : List ℕ) (o : Option Bodies) → option_and_then (λ (b : Bodies). slice_get b.homes (suc b.place)) o ≡ None
    → super_in s.around w named name o ≡ replies (refused w InvalidOperation)
none_behind s w named name None none = refl
none_behind s w named name (Some b) none = ap (behind_plan s.around w named name b.place) none

pub block_unknown : (s : Programs) (w : World) (name : List ℕ) → option_and_then (λ (b : Bodies). slice_get b.homes b.place) (bodies_at name w.blocks) ≡ None
    → RefusesBody s w name (UnknownBlock ∷ [])
block_unknown s w name none levels begin keys sets n =
    ap (settled (runners s n) w) (no_body s w name (λ home. room_for s.around.limit levels w (begin name home)) (bodies_at name w.blocks) none)

pub no_block_runs : (s : Programs) (w : World) → w.block ≡ None → (named : Bool) → IsRefused s (super_plan s.around w named) w (InvalidOperation ∷ [])
no_block_runs s w none named n = ap (λ o. settled (runners s n) w (super_from s.around w named o)) none

pub nothing_behind : (s : Programs) (w : World) (name : List ℕ) → w.block ≡ Some name
    → option_and_then (λ (b : Bodies). slice_get b.homes (suc b.place)) (bodies_at name w.blocks) ≡ None
    → (named : Bool) → IsRefused s (super_plan s.around w named) w (InvalidOperation ∷ [])
nothing_behind s w name runs none named n =
    ap (λ o. settled (runners s n) w (super_from s.around w named o)) runs
    ∙ ap (settled (runners s n) w) (none_behind s w named name (bodies_at name w.blocks) none)

module _ (standing : List ℕ → Option Standing) (joins : Joins) (callables : Callables) (roots : Roots) (rules : Rules) where
  abbrev s : Programs
  s = programs_under standing joins callables roots rules

  unkeyed : (home : Home) (name : List ℕ) → block_at standing roots home name ≡ None → (n : ℕ) → runners s n (whole_of (block_of home name)) ≡ None
  unkeyed home name none n =
      keyless s (whole_of (block_of home name))
      (λ m. ap (λ (o : Option BlockStream). option_and_then (part_in m whole) (option_map (λ (b : BlockStream). b.code) o)) none) n

  module _ (w : World) (name : List ℕ) (b : Bodies) (at : bodies_at name w.blocks ≡ Some b) (home : Home) where
    module _ (runs : slice_get b.homes b.place ≡ Some home) where
      module _ (levels : ℕ) (begin : List ℕ → Home → Within) where
        planned_so : blocks_plan s w name levels begin
            ≡ (if lacks_body s.around name home b.homes then replies (refused w InvalidOperation) else room_for s.around.limit levels w (begin name home))
        planned_so =
            ap (bodies_plan s.around w name (λ there. room_for s.around.limit levels w (begin name there))) at
            ∙ ap (body_plan s.around w name (λ there. room_for s.around.limit levels w (begin name there)) b) runs

      -- its template has no such block
      pub block_absent : block_at standing roots home name ≡ None → RefusesBody s w name (InvalidOperation ∷ [])
      block_absent none levels begin keys sets n =
          ap (settled (runners s n) w) (planned_so levels begin)
          ∙ either (runners s n) w (refused w InvalidOperation) (lacks_body s.around name home b.homes) (replies (refused w InvalidOperation))
          (room_for s.around.limit levels w (begin name home)) refl
          (unroomy s n levels w (begin name home) (sets name home) (ap (runners s n) (keys name home) ∙ unkeyed home name none n))

      module _ (block : BlockStream) (there : block_at standing roots home name ≡ Some block) where
        lacks_is : lacks_body s.around name home b.homes ≡ (length b.homes == 1 && block.required)
        lacks_is = ap (λ asked. length b.homes == 1 && asked) (required_at name (template_at standing roots home) block there)

        -- another one has to be given
        pub block_required : (length b.homes == 1 && block.required) ≡ true → RefusesBody s w name (InvalidOperation ∷ [])
        block_required lacks levels begin keys sets n =
            ap (settled (runners s n) w) (planned_so levels begin)
            ∙ ap (λ x. settled (runners s n) w (if x then replies (refused w InvalidOperation) else room_for s.around.limit levels w (begin name home))) (lacks_is ∙ lacks)

        -- it is entered
        pub block_found : (length b.homes == 1 && block.required) ≡ false → (levels : ℕ) (begin : List ℕ → Home → Within)
            → blocks_plan s w name levels begin ≡ room_for s.around.limit levels w (begin block.name home)
        block_found has levels begin =
            planned_so levels begin
            ∙ ap (λ x. if x then replies (refused w InvalidOperation) else room_for s.around.limit levels w (begin name home)) (lacks_is ∙ has)
            ∙ ap (λ n. room_for s.around.limit levels w (begin n home)) (sym (found_name name (template_at standing roots home) block there))

    module _ (behind : slice_get b.homes (suc b.place) ≡ Some home) (in_it : w.block ≡ Some name) where
      super_so : (named : Bool) → super_plan s.around w named ≡ room_for s.around.limit 1 w (super_within w named name b.place home)
      super_so named =
          ap (super_from s.around w named) in_it ∙ ap (super_in s.around w named name) at ∙ ap (behind_plan s.around w named name b.place) behind

      pub behind_absent : block_at standing roots home name ≡ None → (named : Bool) → IsRefused s (super_plan s.around w named) w (InvalidOperation ∷ [])
      behind_absent none named n = ap (settled (runners s n) w) (super_so named) ∙ unroomy s n 1 w (super_within w named name b.place home) refl (unkeyed home name none n)

      pub behind_found : (place : ℕ) (block : BlockStream) → b.place ≡ place → block_at standing roots home name ≡ Some block → (named : Bool)
          → super_plan s.around w named ≡ room_for s.around.limit 1 w (super_within w named block.name place home)
      behind_found place block same there named =
          super_so named ∙ ap (λ k. room_for s.around.limit 1 w (super_within w named name k home)) same
          ∙ ap (λ n. room_for s.around.limit 1 w (super_within w named n place home)) (sym (found_name name (template_at standing roots home) block there))

  -- its code stands under its name
  pub block_stands : (home : Home) (name : List ℕ) (block : BlockStream) → block_at standing roots home name ≡ Some block → block_at standing roots home block.name ≡ Some block
  block_stands home name block there = ap (block_at standing roots home) (found_name name (template_at standing roots home) block there) ∙ there
