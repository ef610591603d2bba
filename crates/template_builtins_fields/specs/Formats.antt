-- Texts with fields in braces.
use Rattle.std.specs.Prelude.{ℕ, zero, suc, ◌==◌, Bool, List, [], ◌∷◌, ◌++◌, length, string_bytes, codes, if◌then◌else◌, Option, None, Some, Result, Ok}
use Rattle.std.specs.Borrow.{Bor}
use Rattle.std.specs.List.{after_first, before_first, list_any, position_or_len}
use Rattle.template_values_errors.specs.declared.ErrorKind.{ErrorKind}
use Rattle.template_values_model.specs.Val.{Val, text}
use Rattle.template_values_core.specs.Answers.{text_in}
use Rattle.template_callables.specs.Callables.{View}
use Rattle.template_builtins_arguments.specs.Answers.{Made, then as after, refused}
use Rattle.template_builtins_texts.specs.Replacing.{replaced}
use Rattle.template_builtins_fields.specs.Choices.{argument_for, no_numbering}
use Rattle.template_builtins_fields.specs.Layouts.{layout_in}
use Rattle.template_builtins_fields.specs.Padding.{laid_out}
use Rattle.template_builtins_fields.specs.Shown.{shown}
use Rattle.template_builtins_fields.specs.declared.arguments.Numbering.{Numbering}
use Rattle.template_builtins_fields.specs.declared.formats as declared

abbrev pub text_found : Option (List ℕ) → Result (List ℕ) ErrorKind
text_found None = refused
text_found (Some s) = Ok s

-- the text of a value that is one, safe or plain
abbrev pub plain_text : Val → Result (List ℕ) ErrorKind
plain_text v = text_found (text_in v)

-- what is before the first of a byte, and what is behind it
unfoldable pub cut : ℕ → List ℕ → Option (List ℕ × List ℕ)
cut c s =
    if position_or_len (λ b. b == c) s == length s then None
    else Some (before_first (λ b. b == c) s, after_first (λ b. b == c) s)

-- two texts behind references
abbrev pub both_seen : Bor (List ℕ) × Bor (List ℕ) → List ℕ × List ℕ
both_seen parts = (parts.0.now, parts.1.now)

abbrev pub has : ℕ → List ℕ → Bool
has c s = list_any (λ b. b == c) s

-- each `old` by `new`
abbrev pub exchanged : List ℕ → List ℕ → List ℕ → List ℕ
exchanged old new s = replaced (λ t. t) old new (length s) s

-- text without opening braces: each two closing ones are one, and one alone is refused
unfoldable pub closed : List ℕ → Result (List ℕ) ErrorKind
closed s = if has 125 (exchanged (codes "}}") [] s) then refused else Ok (exchanged (codes "}}") (codes "}") s)

-- a field's name is before its first colon, and its layout behind it
unfoldable pub name_in : List ℕ → List ℕ
name_in field = before_first (λ b. b == 58) field

unfoldable pub layout_in_field : List ℕ → List ℕ
layout_in_field field = after_first (λ b. b == 58) field

-- a value in the layout that a text writes
unfoldable pub field_text : View → List ℕ → Val → Result (List ℕ) ErrorKind
field_text view s v =
    after (layout_in s) (λ layout.
    after (shown view layout.kind v) (λ form.
    laid_out layout form))

-- A text that stands at the start of another, how arguments are named from there on, and what is behind it.
abbrev pub Part : Type 0
Part = List ℕ × (Numbering × List ℕ)

abbrev pub seen : declared.Part.Part → Part
seen part = (string_bytes part.text, (part.numbering, part.rest.now))

abbrev pub without_brace : List ℕ → List ℕ → Result (List ℕ × List ℕ) ErrorKind
without_brace field rest = if has 123 field then refused else Ok (field, rest)

-- a field up to its closing brace, in which there is no other, and what is behind it
abbrev pub field_from : Option (List ℕ × List ℕ) → Result (List ℕ × List ℕ) ErrorKind
field_from None = refused
field_from (Some parts) = without_brace parts.0 parts.1

unfoldable pub field_in : List ℕ → Result (List ℕ × List ℕ) ErrorKind
field_in behind = field_from (cut 125 behind)

-- what stands for the field behind an opening brace
unfoldable pub field_part : View → List Val → Numbering → List ℕ → Result Part ErrorKind
field_part view vs numbering behind =
    after (field_in behind) (λ parts.
    after (argument_for vs numbering (name_in parts.0)) (λ found.
    after (field_text view (layout_in_field parts.0) found.0) (λ s.
    Ok (s, (found.1, parts.1)))))

-- what is behind a second opening brace
abbrev pub behind_second : List ℕ → Option (List ℕ)
behind_second [] = None
behind_second (b ∷ s) = if b == 123 then Some s else None

-- two opening braces are one, a single one opens a field
abbrev pub opened_by : View → List Val → Numbering → List ℕ → Option (List ℕ) → Result Part ErrorKind
opened_by view vs numbering behind None = field_part view vs numbering behind
opened_by view vs numbering behind (Some rest) = Ok (codes "{", (numbering, rest))

unfoldable pub opened : View → List Val → Numbering → List ℕ → Result Part ErrorKind
opened view vs numbering behind = opened_by view vs numbering behind (behind_second behind)

-- what is before an opening brace, and what stands at it
unfoldable pub part_at : View → List Val → Numbering → List ℕ → List ℕ → Result Part ErrorKind
part_at view vs numbering before behind =
    after (closed before) (λ front.
    after (opened view vs numbering behind) (λ part.
    Ok (front ++ part.0, part.1)))

-- a text behind another
abbrev pub put_behind : List ℕ → Result (List ℕ) ErrorKind → Result (List ℕ) ErrorKind
put_behind front rest = after rest (λ s. Ok (front ++ s))

-- the part at the first opening brace, and what is made of the rest behind it
abbrev pub filled_from : (Numbering → List ℕ → Result (List ℕ) ErrorKind) → View → List Val → Numbering → List ℕ → Option (List ℕ × List ℕ)
    → Result (List ℕ) ErrorKind
filled_from f view vs numbering s None = closed s
filled_from f view vs numbering s (Some parts) =
    after (part_at view vs numbering parts.0 parts.1) (λ part. put_behind part.0 (f part.1.0 part.1.1))

-- a text with arguments in the places of its fields, from the left, of so many at most
abbrev pub filled_up_to : ℕ → View → List Val → Numbering → List ℕ → Result (List ℕ) ErrorKind
filled_up_to zero view vs numbering s = closed s
filled_up_to (suc n) view vs numbering s = filled_from (filled_up_to n view vs) view vs numbering s (cut 123 s)

-- there are no more of these than bytes
unfoldable pub filled : View → List Val → List ℕ → Result (List ℕ) ErrorKind
filled view vs s = filled_up_to (length s) view vs no_numbering s

unfoldable pub format : View → Val → List Val → Made
format view v vs = after (plain_text v) (λ s. after (filled view vs s) (λ t. Ok (text t)))
