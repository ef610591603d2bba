-- What a step over data leaves.
use Rattle.std.proofs.Common.{◌≡◌, ℕ, ◌+◌, ◌-◌, ◌<◌, ◌≤◌, inl, inr, true, false, List, [], length, take, drop, Result, Ok, Err, refl, sym, ◌∙◌, ap, subst, arith}
use Rattle.std.proofs.lemmas.Bool.{cases_lt}
use Rattle.template_values_errors.specs.declared.ErrorKind.{ErrorKind}
use Rattle.template_compiler_syntax.specs.declared.StartMarker.{StartMarker}
use Rattle.template_compiler_syntax.specs.declared.StartMarker.TheVariants.{Comment}
use Rattle.template_compiler_syntax.specs.Syntax.{Syntax, IsUsable, IsSet}
use Rattle.std.specs.Str.{IsUtf8, IsCharBoundary}
use Rattle.template_compiler_syntax.specs.declared.edges.Edge.{Edge}
use Rattle.template_compiler_syntax.specs.declared.edges.Edge.TheVariants.{Nothing}
use Rattle.template_compiler_syntax.specs.Places.{stretch, StandsAt, IsFirst, IsNowhere, IsLineEnd, is_first_on_line}
use Rattle.std.specs.Prelude.{if◌then◌else◌}
use Rattle.template_compiler_syntax.specs.Segments.{HasNoStart, IsNextStart, IsCommentEnd, inside_from}
use Rattle.template_compiler_syntax.proofs.Some.{stands_below}
use Rattle.template_compiler_placed_tokens.specs.Left.{Placed, data_tokens}
use Rattle.template_compiler_placed_tokens.specs.Reads.{IsRefusedKind, IsStage, IsCut, ReadsPiece}
use Rattle.template_compiler_placed_tokens.specs.declared.stage.Stage.{Stage}
use Rattle.template_compiler_placed_tokens.specs.declared.stage.Stage.TheVariants as stage
use Rattle.template_compiler_placed_tokens.specs.declared.inside.Piece.{Piece}
use Rattle.template_compiler_placed_tokens.specs.Steps.{Steps}
use Rattle.template_compiler_placed_tokens.specs.declared.data.Step.{Step}
use Rattle.template_compiler_placed_tokens.specs.declared.data.Step.TheVariants.{Reads, Passes, Ends}
use Rattle.template_compiler_placed_tokens.proofs.Steps.{data_last}
use Rattle.template_compiler_placed_tokens.proofs.Cuts.{stands_start, stands_cut}

no_start_past : (x : Syntax) (s : List ℕ) → HasNoStart x s (length s)
no_start_past x s i low k here = (let within = stands_below s i _ (here.is_set) (here.stands) in omega arith)

pub data_at_end : (x : Syntax) (s : List ℕ) → IsUsable x → data_tokens x s Nothing (length s) ≡ []
data_at_end x s usable =
    let none : length s - length s ≡ 0 = omega arith in
    elim (data_last x s usable Nothing (length s) [] (no_start_past x s) (sym (ap (λ n. take n (drop (length s) s)) none))) [
      | inl empty ↦ empty.1
      | inr some ↦ absurd (let long = some.0 in omega arith)
    ]

pub stage_cut : (x : Syntax) (s : List ℕ) (at : Stage) (i : ℕ) → IsStage x s at i → IsCharBoundary s i
stage_cut x s (stage.Data left) i cut = cut
stage_cut x s (stage.Start k) i cut = cut.0
stage_cut x s (stage.Inside k d) i cut = cut.0

-- a start marker that is the next one is so at its own place too
pub start_here : (x : Syntax) (s : List ℕ) (from i : ℕ) (k : StartMarker) → IsNextStart x s from i k → IsNextStart x s i i k
start_here x s from i k start =
    record { ahead = omega arith; here = start.here; longest = start.longest; leftmost = λ j low high. absurd (omega arith) }

cut_from : (s : List ℕ) (from start : ℕ) (piece : Piece) → from ≤ start → IsCut s start piece → IsCut s from piece
cut_from s from start piece low cut = record {
  low = (let more = cut.low in omega arith);
  ordered = cut.ordered;
  high = cut.high;
  begin = cut.begin;
  end = cut.end;
  next = cut.next;
}

pub piece_from : (x : Syntax) (s : List ℕ) (from start : ℕ) (left behind : List Placed) (piece : Piece) → left ≡ behind → from ≤ start →
    ReadsPiece x s start behind piece → ReadsPiece x s from left piece
piece_from x s from start left behind piece e low read = record {
  first = e ∙ read.first;
  stage = read.stage;
  cut = cut_from s from start piece low (read.cut);
}

pub refused_from : (left behind : List Placed) (kind : ErrorKind) → left ≡ behind → IsRefusedKind behind kind → IsRefusedKind left kind
refused_from left behind kind e (inl memory) = inl memory
refused_from left behind kind e (inr fault) = inr (fault.0, fault.1, fault.2, e ∙ fault.3, fault.4)

pub steps_from : (x : Syntax) (s : List ℕ) (from start : ℕ) (left behind : List Placed) (r : Result Step ErrorKind) → left ≡ behind → from ≤ start →
    Steps x s start behind r → Steps x s from left r
steps_from x s from start left behind (Ok (Reads piece)) e low steps = piece_from x s from start left behind piece e low steps
steps_from x s from start left behind (Ok (Passes edge next)) e low steps = (e ∙ steps.0, steps.1, (let high = steps.2 in omega arith))
steps_from x s from start left behind (Ok Ends) e low steps = e ∙ steps
steps_from x s from start left behind (Err kind) e low steps = refused_from left behind kind e steps

-- data that is not empty stands between characters
pub data_cut : (s text : List ℕ) (begin to : ℕ) → IsUtf8 s → IsUtf8 text → 0 < length text → text ≡ stretch s begin to → to ≡ begin + length text →
    IsCharBoundary s begin × IsCharBoundary s (begin + length text)
data_cut s text begin to source utf8 some e high =
    let set : IsSet text = λ none. (let long = ap length none in omega arith) in
    let width : length text ≡ to - begin = omega arith in
    let stands : StandsAt s begin text = ap (λ n. take n (drop begin s)) width ∙ sym e in
    (stands_start s text begin utf8 set stands, stands_cut s text begin source utf8 set stands)

pub comment_first : (x : Syntax) (s bytes text : List ℕ) (start inside end : ℕ) → bytes ≡ s → text ≡ x.comment_end → inside ≡ inside_from x s Comment start →
    IsFirst (λ j. StandsAt bytes j text) inside end → IsFirst (IsCommentEnd x s) (inside_from x s Comment start) end
comment_first x s bytes text start inside end e f g first =
    subst (λ n. IsFirst (IsCommentEnd x s) n end) g
    (subst (λ t. IsFirst (λ j. StandsAt s j t) inside end) f (subst (λ b. IsFirst (λ j. StandsAt b j text) inside end) e first))

pub comment_nowhere : (x : Syntax) (s bytes text : List ℕ) (start inside : ℕ) → bytes ≡ s → text ≡ x.comment_end → inside ≡ inside_from x s Comment start →
    IsNowhere (λ j. StandsAt bytes j text) inside → IsNowhere (IsCommentEnd x s) (inside_from x s Comment start)
comment_nowhere x s bytes text start inside e f g none =
    subst (λ n. IsNowhere (IsCommentEnd x s) n) g
    (subst (λ t. IsNowhere (λ j. StandsAt s j t) inside) f (subst (λ b. IsNowhere (λ j. StandsAt b j text) inside) e none))

pub line_first : (s bytes : List ℕ) (inside from end : ℕ) → bytes ≡ s → inside ≡ from →
    IsFirst (λ j. IsLineEnd bytes j) inside end → IsFirst (IsLineEnd s) from end
line_first s bytes inside from end e g first =
    subst (λ n. IsFirst (IsLineEnd s) n end) g (subst (λ b. IsFirst (λ j. IsLineEnd b j) inside end) e first)

pub line_end_le : (s : List ℕ) (from end : ℕ) → from ≤ length s → IsFirst (λ j. IsLineEnd s j) from end → end ≤ length s
line_end_le s from end within first =
    elim (cases_lt (length s) end) [
      | inr low ↦ low
      | inl past ↦ absurd (first.before (length s) within past (inr (omega arith)))
    ]

pub line_picked : (x : Syntax) (s : List ℕ) (edge : Edge) (i a b : ℕ) → is_first_on_line s i ≡ true →
    data_tokens x s edge (if is_first_on_line s i then a else b) ≡ data_tokens x s edge a
line_picked x s edge i a b e = ap (λ n. data_tokens x s edge n) (rw e refl)

pub line_left : (x : Syntax) (s : List ℕ) (edge : Edge) (i a b : ℕ) → is_first_on_line s i ≡ false →
    data_tokens x s edge (if is_first_on_line s i then a else b) ≡ data_tokens x s edge b
line_left x s edge i a b e = ap (λ n. data_tokens x s edge n) (rw e refl)
