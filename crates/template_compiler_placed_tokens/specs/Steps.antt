-- What a step over data leaves.
use Rattle.std.specs.Prelude.{◌≡◌, ℕ, ◌+◌, ◌<◌, ◌≤◌, List, [], ◌∷◌, length, Option, None, Some, Result, Ok, Err}
use Rattle.std.specs.Str.{IsCharBoundary}
use Rattle.template_values_errors.specs.declared.ErrorKind.{ErrorKind}
use Rattle.template_compiler_syntax.specs.Syntax.{Syntax}
use Rattle.template_compiler_placed_tokens.specs.Left.{Placed, placed, data_tokens}
use Rattle.template_compiler_placed_tokens.specs.Reads.{IsRefusedKind, ReadsPiece}
use Rattle.template_compiler_syntax.specs.declared.StartMarker.TheVariants.{Block}
use Rattle.template_compiler_tokens.specs.Token.{template_data, bad, bad_syntax}
use Rattle.template_compiler_syntax.specs.declared.edges.Edge.TheVariants.{Nothing, Beside}
use Rattle.template_compiler_placed_tokens.specs.declared.data.RawData.{RawData}
use Rattle.template_compiler_placed_tokens.specs.declared.data.Step.{Step}
use Rattle.template_compiler_placed_tokens.specs.declared.data.Step.TheVariants.{Reads, Passes, Ends}

-- what is left of the data of a raw block that begins at the place is the first of the tokens, if any is, and what follows the block
pub record IsRawData (x : Syntax) (s : List ℕ) (i : ℕ) (raw : RawData) : Type 0 where
  pub none : length raw.text.now ≡ 0 → data_tokens x s Nothing i ≡ data_tokens x s (Beside Block raw.last) raw.next
  pub some : 0 < length raw.text.now →
      data_tokens x s Nothing i ≡
      placed (template_data raw.text.now) raw.begin (raw.begin + length raw.text.now) ∷ data_tokens x s (Beside Block raw.last) raw.next
  pub cut : 0 < length raw.text.now → IsCharBoundary s raw.begin × IsCharBoundary s (raw.begin + length raw.text.now)
  pub high : 0 < length raw.text.now → raw.begin + length raw.text.now ≤ raw.next
  pub low : i ≤ raw.begin
  pub ahead : i < raw.next
  pub next : IsCharBoundary s raw.next

-- the data of a raw block that begins at the place; or the block never ends
abbrev pub FindsRawData : Syntax → List ℕ → ℕ → Option RawData → Type 0
FindsRawData x s i (Some raw) = IsRawData x s i raw
FindsRawData x s i None = data_tokens x s Nothing i ≡ placed (bad bad_syntax) i i ∷ []

-- the first of the tokens that are left; or none of them yet, and where they begin; or none is left
abbrev pub Steps : Syntax → List ℕ → ℕ → List Placed → Result Step ErrorKind → Type 0
Steps x s from left (Ok (Reads piece)) = ReadsPiece x s from left piece
Steps x s from left (Ok (Passes edge next)) = (left ≡ data_tokens x s edge next) × IsCharBoundary s next × (from < next)
Steps x s from left (Ok Ends) = left ≡ []
Steps x s from left (Err kind) = IsRefusedKind left kind
