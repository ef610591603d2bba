-- What holds of the pieces and the tokens of every source.
use Rattle.std.proofs.Common.{◌≡◌, ℕ, ◌-◌, List, [], ◌∷◌, length, refl, sym, ◌∙◌, ap, arith}
use Rattle.std.specs.Prelude.{nat_lt, true}
use Rattle.std.proofs.lemmas.Bool.{lt-ltb}
use Rattle.std.proofs.lemmas.List.{take_all}
use Rattle.template_compiler_syntax.specs.Syntax.{Syntax, IsUsable}
use Rattle.template_compiler_tokens.specs.Token.{Token, template_data}
use Rattle.template_compiler_tokens.proofs.OneToken.{one_token, some_token}
use Rattle.template_compiler_syntax.specs.Places.{stretch}
use Rattle.template_compiler_syntax.specs.Segments.{HasNoStart, Piece, data_piece, HasPieces, no_start}
use Rattle.template_compiler_syntax.specs.Stripping.{stripped}
use Rattle.template_compiler_syntax.specs.declared.edges.Edge.TheVariants.{Nothing}
use Rattle.template_compiler_syntax.specs.Flat.{tokens_of, template_text, plain_tokens, IsTokens, source_tokens}
use Rattle.template_compiler_syntax.proofs.One.{one_list}
use Rattle.template_compiler_syntax.proofs.Pieces.{some_list}
use Rattle.template_compiler_syntax.proofs.Bytes.{takes_bytes}

pub one_pieces : (x : Syntax) (s : List ℕ) (ps qs : List Piece) → IsUsable x → HasPieces x s 0 ps → HasPieces x s 0 qs → ps ≡ qs
one_pieces x s ps qs usable first second = one_list one_token usable first second

pub some_pieces : (x : Syntax) (s : List ℕ) → (pieces : List Piece) × HasPieces x s 0 pieces
some_pieces x s = some_list one_token some_token takes_bytes x s 0

pub one_tokens : (x : Syntax) (source : List ℕ) (ts us : List Token) → IsUsable x → IsTokens x source ts → IsTokens x source us → ts ≡ us
one_tokens x source ts us usable (source_tokens {pieces = ps} has e) (source_tokens {pieces = qs} has' e') =
    let same = one_list one_token usable has has' in
    e ∙ (ap (λ pieces. tokens_of (template_text x source) (stripped x (template_text x source) Nothing pieces)) same ∙ sym e')

pub some_tokens : (x : Syntax) (source : List ℕ) → (tokens : List Token) × IsTokens x source tokens
some_tokens x source =
    let pieces = some_pieces x (template_text x source) in (_, source_tokens (pieces.1) refl)

stretch_all : (s : List ℕ) → stretch s 0 (length s) ≡ s
stretch_all s = take_all (length s - 0) s (omega arith)

whole : (x : Syntax) (s : List ℕ) → plain_tokens s ≡ tokens_of s (stripped x s Nothing (data_piece 0 (length s) ∷ []))
whole x [] = refl
whole x (b ∷ s) =
    let some : nat_lt 0 (length (b ∷ s)) ≡ true = lt-ltb 0 (length (b ∷ s)) (omega arith) in
    rw some (ap (λ t. template_data t ∷ []) (sym (stretch_all (b ∷ s))))

pub plain_text : (x : Syntax) (source : List ℕ) → HasNoStart x (template_text x source) 0 → IsTokens x source (plain_tokens (template_text x source))
plain_text x source none = source_tokens (no_start none) (whole x (template_text x source))
