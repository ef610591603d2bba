-- Texts broken into lines that are laid out in one way.
use Rattle.std.specs.Prelude.{ℕ, Bool, List, [], ◌++◌, if◌then◌else◌}
use Rattle.template_values_print.specs.Pieces.{encoded}
use Rattle.template_builtins_layout.specs.declared.wrapping.Layout.{Layout}
use Rattle.template_builtins_layout.specs.Wrapping as wrapping

abbrev pub wrapped : Layout → List ℕ → List ℕ
wrapped layout = wrapping.wrapped (encoded layout.markup) layout.wrap.now layout.width layout.cuts

abbrev pub wrapped_line : Layout → List ℕ → List ℕ
wrapped_line layout = wrapping.wrapped_line (encoded layout.markup) layout.wrap.now layout.width layout.cuts

-- a line, behind a break if lines stand before it
abbrev pub next_line : Layout → Bool → List ℕ → List ℕ
next_line layout begun line = (if begun then layout.wrap.now else []) ++ wrapped_line layout line

abbrev pub lead : Layout → ℕ → List ℕ × List ℕ → List ℕ
lead layout = wrapping.lead (encoded layout.markup) layout.wrap.now layout.width layout.cuts

abbrev pub room_before : Layout → ℕ → List ℕ × List ℕ → ℕ
room_before layout = wrapping.room_before (encoded layout.markup) layout.wrap.now layout.width layout.cuts

abbrev pub stays : Layout → ℕ → ℕ → ℕ → Bool
stays layout = wrapping.stays (encoded layout.markup) layout.wrap.now layout.width layout.cuts

abbrev pub typed : Layout → ℕ → List ℕ → List ℕ
typed layout = wrapping.typed (encoded layout.markup) layout.wrap.now layout.width layout.cuts

abbrev pub room_behind : Layout → ℕ → List ℕ → ℕ
room_behind layout = wrapping.room_behind (encoded layout.markup) layout.wrap.now layout.width layout.cuts

-- a character, behind a break if the line has no room for it
abbrev pub next_character : Layout → ℕ → List ℕ → List ℕ
next_character layout room s =
    wrapping.break_at (encoded layout.markup) layout.wrap.now layout.width layout.cuts room ++ encoded layout.markup s

abbrev pub room_after : Layout → ℕ → ℕ
room_after layout = wrapping.room_after (encoded layout.markup) layout.wrap.now layout.width layout.cuts
