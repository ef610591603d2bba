-- Texts broken into lines of a width.
use Rattle.std.specs.Prelude.{ℕ, ◌-◌, ◌==◌, ◌&&◌, ◌||◌, Bool, List, [], ◌∷◌, ◌++◌, length, chars, encode_utf8_all, nat_le, nat_lt, max, Option, if◌then◌else◌}
use Rattle.std.specs.Char.{encode_utf8}
use Rattle.std.specs.List.{join_by}
use Rattle.std.specs.Str.Lines.{lines}
use Rattle.template_values_model.specs.Val.{Val}
use Rattle.template_builtins_arguments.specs.Texts.{is_safe, text_made}
use Rattle.template_builtins_layout.specs.Pieces.{pieces}
use Rattle.template_builtins_layout.specs.Putting.{is_safe_argument, put_in}

-- how characters are put in, what stands between lines, how many characters a line has at most, and whether longer words are cut
module _ (f : List ℕ → List ℕ) (wrap : List ℕ) (width : ℕ) (cuts : Bool) where
  -- a word is cut where a line has no room for its next character
  abbrev pub break_at : ℕ → List ℕ
  break_at room = if cuts && room == 0 then wrap else []

  abbrev pub room_after : ℕ → ℕ
  room_after room = if cuts && room == 0 then width - 1 else room - 1

  -- the characters of a word on a line that has room for so many, and the room that they leave
  abbrev pub typed : ℕ → List ℕ → List ℕ
  typed room [] = []
  typed room (c ∷ cs) = break_at room ++ (f (encode_utf8 c) ++ typed (room_after room) cs)

  abbrev pub room_behind : ℕ → List ℕ → ℕ
  room_behind room [] = room
  room_behind room (c ∷ cs) = room_behind (room_after room) cs

  -- A word stays on a line that has room behind the white space for all of it, or for a part of it if it is cut.
  abbrev pub stays : ℕ → ℕ → ℕ → Bool
  stays room gap word = nat_lt gap room && (nat_le word (room - gap) || (cuts && nat_lt width word))

  -- What stands before it: the white space, or a break in its place; but an empty line is not broken. And the room that is left then.
  abbrev pub lead : ℕ → List ℕ × List ℕ → List ℕ
  lead room piece =
      if stays room (length piece.0) (length piece.1) then f (encode_utf8_all piece.0) else (if room == width then [] else wrap)

  abbrev pub room_before : ℕ → List ℕ × List ℕ → ℕ
  room_before room piece = if stays room (length piece.0) (length piece.1) then room - length piece.0 else width

  abbrev pub laid : ℕ → List (List ℕ × List ℕ) → List ℕ
  laid room [] = []
  laid room (piece ∷ more) =
      lead room piece ++ (typed (room_before room piece) piece.1 ++ laid (room_behind (room_before room piece) piece.1) more)

  -- a line of a text
  unfoldable pub wrapped_line : List ℕ → List ℕ
  wrapped_line line = laid width (pieces (chars line))

  abbrev pub wrapped : List ℕ → List ℕ
  wrapped s = join_by wrapped_line wrap (lines s)

-- the lines of a text put together with what stands between them, each as it is put in
abbrev pub wrapped_text : Bool → Val → Option Val → List ℕ → ℕ → Bool → List ℕ → Val
wrapped_text safe v by s width cuts wrap =
    text_made safe (wrapped (put_in safe (is_safe v)) (put_in safe (is_safe_argument by) wrap) (max width 1) cuts s)
