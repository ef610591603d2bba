-- What a run knows of records: of its own namespaces and macros, and of its own loops, as long as their frames are open, or where
-- they were closed and a namespace or a closure may hold their values, or what callables have set.
use Rattle.std.specs.Prelude.{ℕ, ◌-◌, ◌==◌, nat_le, List, [], ◌∷◌, ◌++◌, length, map, slice_get, Option, None, Some, option_map, if◌then◌else◌}
use Rattle.template_values_model.specs.Val.{Val}
use Rattle.template_values_forms.specs.Known.{LoopSeen, MacroSeen, Known}
use Rattle.template_machine_meaning.specs.World.{Loop, Frame, Macro, World}

-- the loop of each frame, if it has one
abbrev pub loops_of : List Frame → List (Option Loop)
loops_of = map (λ (f : Frame). f.loop)

abbrev pub loop_numbered : ℕ → List (Option Loop) → Option Loop
loop_numbered number [] = None
loop_numbered number (None ∷ loops) = loop_numbered number loops
loop_numbered number (Some l ∷ loops) = if l.number == number then Some l else loop_numbered number loops

-- the place of the item that a loop is at: none before the first one; behind the last one it is their number
abbrev pub place_in : Loop → Option ℕ
place_in l =
    if l.asked == 0 then None
    else (if nat_le l.asked (length l.items) then Some (l.asked - 1) else Some (length l.items))

abbrev pub seen_of : Loop → LoopSeen
seen_of l = record { items = l.items; place = place_in l; depth = l.depth }

abbrev pub macro_seen : Macro → MacroSeen
macro_seen m = record { name = m.name; arguments = m.arguments; caller = m.caller }

-- of another state nothing is known
abbrev pub known_by : ℕ → List (List (Val × Val)) → List Macro → List (Option Loop) → Known
known_by id namespaces macros loops = record {
  namespaces = λ other number. if other == id then slice_get namespaces number else None;
  loops = λ other number. if other == id then option_map seen_of (loop_numbered number loops) else None;
  macros = λ other number. if other == id then option_map macro_seen (slice_get macros number) else None;
}

-- the loops of the frames, and those that were closed
abbrev pub all_loops : World → List (Option Loop)
all_loops w = loops_of w.frames ++ map Some w.closed

abbrev pub known_of : World → Known
known_of w = known_by w.id w.namespaces w.macros (all_loops w)

-- the macro and the loop that a record stands for
abbrev pub macro_of : World → ℕ → ℕ → Option Macro
macro_of w other number = if other == w.id then slice_get w.macros number else None

abbrev pub loop_of : World → ℕ → ℕ → Option Loop
loop_of w other number = if other == w.id then loop_numbered number (all_loops w) else None
