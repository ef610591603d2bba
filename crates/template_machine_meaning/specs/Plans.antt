-- What an event comes to: a reply at once, or one run within the run.
use Rattle.std.specs.Prelude.{ℕ, suc, ◌-◌, Bool, List, [], ◌∷◌, ◌++◌, length, drop, map, Option, None, Some, if◌then◌else◌}
use Rattle.template_values_errors.specs.declared.ErrorKind.{ErrorKind}
use Rattle.template_values_errors.specs.declared.ErrorKind.TheVariants.{InvalidOperation, TemplateNotFound}
use Rattle.template_values_errors.specs.declared.modes.AutoEscape.{AutoEscape}
use Rattle.template_values_model.specs.Val.{Val}
use Rattle.template_compiler_process.specs.Process.{Answer, done, value, Told, tells, fails, breaks_off}
use Rattle.template_compiler_process.specs.Drive.{End, ends, faults, breaks}
use Rattle.template_compiler_process.specs.Trace.{Item, paid, written, Reply, Run, ended, behind}
use Rattle.template_machine_meaning.specs.World.{Frame, World, has_room}
use Rattle.template_machine_meaning.specs.Captures.{captured, innermost, around_innermost}
use Rattle.template_machine_meaning.specs.Bodies.{Bodies, with_place}
use Rattle.template_machine_meaning.specs.Closures.{writes_of}
use Rattle.template_machine_meaning.specs.Leaving.{loops_behind, held_among, given_behind}
use Rattle.template_machine_meaning.specs.Turnings.{Turning, turned_by, turned}
use Rattle.template_machine_meaning.specs.Replies.{refused}
use Rattle.template_machine_meaning.specs.Keys.{standing, Stream, own, Part, whole, Key, whole_of}

-- why a run is entered, which says what is told at its end, and what is put back: a template is included; a block is called, or
-- its text is wanted; the body behind the one of a block that runs, whose place is put back, by a name, or in the place of a
-- print; a macro is called; or the rounds of a loop, by a name, or in the place of a print
pub data Purpose : Type 0 where
  includes : Purpose
  calls_block : Purpose
  takes_block : Purpose
  calls_super : Bool → List ℕ → ℕ → Purpose
  calls_macro : Purpose
  runs_rounds : Bool → Purpose

-- a run within a run: what runs, where it begins, the kinds that wrap its faults, the outermost first, its purpose, and what is
-- made of the value that it comes to, in turn
pub record Within : Type 0 where
  pub key : Key
  pub begins : World
  pub wraps : List ErrorKind
  pub purpose : Purpose
  pub behind : List Turning

pub data Plan : Type 0 where
  replies : Reply World → Plan
  enters : Within → Plan

-- entered where there is room for so many levels
abbrev pub room_for : ℕ → ℕ → World → Within → Plan
room_for limit levels w x = if has_room limit levels w then enters x else replies (refused w InvalidOperation)

-- what is made of the value that a plan comes to
abbrev pub with_turning : Turning → Plan → Plan
with_turning t (replies r) = replies (record r { told = turned_by r.after t r.told })
with_turning t (enters x) = enters (record x { behind = x.behind ++ t ∷ [] })

-- what of a run's world is put back behind a run within it, whatever its end; the closure that the innermost frame writes; and
-- how many names were loaded, and frames and captures open
pub record Caller : Type 0 where
  pub here : Stream
  pub block : Option (List ℕ)
  pub parent : Option (List ℕ)
  pub blocks : List (List ℕ × Bodies)
  pub loaded : ℕ
  pub frames : ℕ
  pub writes : Option ℕ
  pub base : ℕ
  pub floor : ℕ
  pub outer : ℕ
  pub escape : AutoEscape
  pub saved : List AutoEscape
  pub first : AutoEscape
  pub captures : ℕ

abbrev pub caller_of : World → Caller
caller_of w = record {
  here = w.here;
  block = w.block;
  parent = w.parent;
  blocks = w.blocks;
  loaded = length w.loaded;
  frames = length w.frames;
  writes = writes_of w.frames;
  base = w.base;
  floor = w.floor;
  outer = w.outer;
  escape = w.escape;
  saved = w.saved;
  first = w.first;
  captures = length w.captures;
}

-- so many of them, the outermost ones
abbrev pub outermost : {X : Type 0} → ℕ → List X → List X
outermost n xs = drop (length xs - n) xs

-- all else stays as the run within left it: what stands under the names of blocks, and the names of what was loaded, too; and
-- loops whose frames go stay known where their values may be held
abbrev pub put_back : Caller → World → World
put_back c v = record v {
  here = c.here;
  block = c.block;
  parent = c.parent;
  frames = outermost c.frames v.frames;
  base = c.base;
  floor = c.floor;
  outer = c.outer;
  escape = c.escape;
  saved = c.saved;
  first = c.first;
  captures = outermost c.captures v.captures;
  given = given_behind v.held (loops_behind c.frames v) v.given;
  closed = v.closed ++ held_among v.held (loops_behind c.frames v);
}

-- the innermost frame writes this closure
abbrev pub with_writes : Option ℕ → List Frame → List Frame
with_writes number [] = []
with_writes number (f ∷ fs) = record f { writes = number } ∷ fs

-- behind an include and a macro these are put back as well, and behind an include the closure that the frame writes
abbrev pub blocks_back : Caller → World → World
blocks_back c v = record (put_back c v) { blocks = c.blocks; loaded = outermost c.loaded v.loaded }

-- rounds belong to the run that called them: what it extends, and what is captured, stay; by a name, the capture ends that is
-- the innermost one
abbrev pub rounds_back : Bool → Caller → World → World
rounds_back named c v =
    record (put_back c v) { parent = v.parent; captures = if named then around_innermost v.captures else v.captures }

-- behind `super()` the place among the block's bodies is put back
abbrev pub after_by : Purpose → Caller → World → World
after_by includes c v = record (blocks_back c v) { frames = with_writes c.writes (outermost c.frames v.frames) }
after_by calls_block c v = put_back c v
after_by takes_block c v = put_back c v
after_by (calls_super named name place) c v = record (put_back c v) { blocks = with_place name place v.blocks }
after_by calls_macro c v = blocks_back c v
after_by (runs_rounds named) c v = rounds_back named c v

-- the text of the capture that a run within began with
abbrev pub own_text : Caller → World → Answer
own_text c v = value (captured c.escape (innermost (outermost (suc c.captures) v.captures)))

-- what is answered where the run within ended in a world: what it wrote, where that is wanted
abbrev pub given : Purpose → Caller → World → Answer
given includes c v = done
given calls_block c v = done
given takes_block c v = own_text c v
given (calls_super named name place) c v = if named then own_text c v else done
given calls_macro c v = own_text c v
given (runs_rounds named) c v = if named then value (captured c.escape (innermost v.captures)) else done

-- a fault of a run within is wrapped
abbrev pub wrapped_by : List ErrorKind → Item → Item
wrapped_by wraps (paid kinds) = paid (wraps ++ kinds)
wrapped_by wraps (written bytes) = written bytes

abbrev pub told_by : List ErrorKind → Answer → End → Told
told_by wraps a (ends operands) = tells a
told_by wraps a (faults kinds) = fails (wraps ++ kinds)
told_by wraps a _ = breaks_off

-- what a run within comes to for the run that entered it
abbrev pub came : World → Within → Run World → Reply World
came w x r =
    let after = after_by x.purpose (caller_of w) r.after in
    record {
      told = turned after x.behind (told_by x.wraps (given x.purpose (caller_of w) r.after) r.end);
      items = map (wrapped_by x.wraps) r.items;
      after = after;
    }

-- how keys run; there is nothing under some of them, and to enter these is refused
abbrev pub Runners : Type 0
Runners = Key → Option (World → Run World)

-- what a key comes to from a world on
abbrev pub ran : Option (World → Run World) → World → Run World
ran None w = ended breaks w
ran (Some runs) w = runs w

-- a stream came to its end, and these operands are left; where it extends a template, that one runs in its place: in the same
-- frames, under the escape in force, and what is written is no longer dropped
abbrev pub restarted : List ℕ → World → World
restarted name w = record w { here = own (standing name); parent = None; captures = around_innermost w.captures }

abbrev pub beneath : List Val → End → End
beneath operands (ends more) = ends (more ++ operands)
beneath operands e = e

abbrev pub with_beneath : List Val → Run World → Run World
with_beneath operands r = record r { end = beneath operands r.end }

-- one that doesn't stand is refused
abbrev pub parent_run : Option (World → Run World) → World → Run World
parent_run None w = ended (faults (TemplateNotFound ∷ [])) w
parent_run (Some runs) w = runs w

abbrev pub went_on : Runners → List Val → Run World → Option (List ℕ) → Run World
went_on runners operands r None = r
went_on runners operands r (Some name) =
    behind r.items (with_beneath operands (parent_run (runners (whole_of (own (standing name)))) (restarted name r.after)))

abbrev pub followed_at : Runners → Run World → End → Run World
followed_at runners r (ends operands) = went_on runners operands r r.after.parent
followed_at runners r e = r

-- only what runs whole is so followed
abbrev pub followed : Runners → Part → Run World → Run World
followed runners whole r = followed_at runners r r.end
followed runners part r = r

-- with what callables have set where a run within begins
abbrev pub as_set : World → Within → World
as_set w x = record w { temps = x.begins.temps; held = x.begins.held }

abbrev pub came_from : World → Within → Option (World → Run World) → Reply World
came_from w x None = refused (as_set w x) InvalidOperation
came_from w x (Some runs) = came w x (runs x.begins)

abbrev pub nested : Runners → World → Within → Reply World
nested runners w x = came_from w x (runners x.key)

-- what a plan comes to, where keys run so
abbrev pub settled : Runners → World → Plan → Reply World
settled runners w (replies r) = r
settled runners w (enters x) = nested runners w x
