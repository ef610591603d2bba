-- Frames that go, with their loops.
use Rattle.std.specs.Prelude.{◌≡◌, ℕ, ◌-◌, List, [], ◌∷◌, ◌++◌, length, take, Option}
use Rattle.std.specs.Global.{Vec}
use Rattle.template_values_model.specs.Val.{Val}
use Rattle.template_machine_meaning.specs.Leaving.{given_behind, held_among}
use Rattle.template_machine_meaning.specs.Plans.{outermost}
use Rattle.template_machine_meaning.specs.Records.{loops_of}
use Rattle.template_machine_meaning.specs.World.{Frame, Loop}
use Rattle.template_machine_frames.specs.Frames.{Scopes, around_innermost, innermost_loop}
use Rattle.template_machine_state.specs.Room.{HasRoom}

-- the loops of the frames that go where so many stay, the outermost ones
abbrev pub loops_cut : ℕ → List Frame → List (Option Loop)
loops_cut count frames = take (length frames - count) (loops_of frames)

-- what `changed` was called with for loops, by their numbers
abbrev pub Calls : Type 0
Calls = List (ℕ × List Val)

-- The innermost frame goes: where it is a loop's, that stays known where it is one of so many that may be held, or what `changed`
-- was called with for it is forgotten.
pub record CutOne (held : ℕ) (before : Scopes) (given : Calls) (closed : Vec Loop) (after : Scopes) (left : Calls) (behind : Vec Loop) : Type 0 where
  pub rest : after ≡ record before { frames = around_innermost before.frames }
  pub forgotten : left ≡ given_behind held (innermost_loop before.frames ∷ []) given
  pub kept : behind.items ≡ closed.items ++ held_among held (innermost_loop before.frames ∷ [])
  pub room : HasRoom after.frames behind

-- Of the frames that are to go where so many stay, some are gone so.
pub record CutSome (held count : ℕ) (before : Scopes) (given : Calls) (closed : Vec Loop) (after : Scopes) (left : Calls) (behind : Vec Loop) : Type 0 where
  pub frames : outermost count after.frames ≡ outermost count before.frames
  pub closures : after.closures ≡ before.closures
  pub forgotten : given_behind held (loops_cut count after.frames) left ≡ given_behind held (loops_cut count before.frames) given
  pub kept : behind.items ++ held_among held (loops_cut count after.frames) ≡ closed.items ++ held_among held (loops_cut count before.frames)
  pub room : HasRoom after.frames behind
