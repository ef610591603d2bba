use Rattle.std.proofs.Common.{◌≡◌, ℕ, ◌⊎◌, inl, inr, Bool, true, false, sym, ◌∙◌, ap, slice_index, Result, Ok}
use Rattle.std.specs.Char.{is_ascii_digit}
use Rattle.std.specs.List.{prefix_len}
use Rattle.std.proofs.lemmas.List.Folds.{length-prefix_len}
use Rattle.template_values_errors.specs.declared.ErrorKind.{ErrorKind}
use Rattle.template_compiler_tokens.specs.Token.{identifier}
use Rattle.template_compiler_tokens.specs.declared.token.Token.{Token}
use Rattle.template_compiler_tokens.specs.declared.token.Token.TheVariants.{Ident}
use Rattle.template_compiler_tokens.specs.Lexical.{is_name_start, is_name_part, name_class}
use Rattle.template_compiler_scanner.specs.Scans.{Scans}
use Rattle.template_compiler_scanner.proofs.Names.{name_cut}
use Rattle.template_compiler_scanner.proofs.Tokens.{class_name, class_number, class_text, class_sign, begins, number_scans, text_scans, sign_scans, scans_cut, scans_some}
use Rattle.template_compiler_scanner.proofs.scan.scan_token.Goals as goal
use Rattle.template_compiler_scanner.proofs.scan.scan_token.Goals.{After-is_name_start, After-is_ascii_digit}

first_byte : (c : After-is_name_start) → c.byte_at-first.result ≡ slice_index c.args.text.now 0
first_byte c = c.byte_at-first.ensures.byte ∙ ap (λ s. slice_index s 0) c.as_bytes.ensures.value

starts_as : (c : After-is_name_start) (x : Bool) → c.is_name_start.result ≡ x → is_name_start (slice_index c.args.text.now 0) ≡ x
starts_as c x e = rw (first_byte c) at (sym c.is_name_start.ensures ∙ e)

digit_as : (c : After-is_ascii_digit) (x : Bool) → c.is_ascii_digit.result ≡ x → is_ascii_digit (slice_index c.args.text.now 0) ≡ x
digit_as c x e =
    let first : c.byte_at-first.result ≡ slice_index c.args.text.now 0 = c.byte_at-first.ensures.byte ∙ ap (λ s. slice_index s 0) c.as_bytes.ensures.value in
    rw first at (sym c.is_ascii_digit.ensures.value ∙ e)

pub split_at-requires : goal.split_at-requires
split_at-requires c = rw (c.name_len-width.ensures, c.as_bytes-then-is_name_start.ensures.value) (name_cut c.args.text.now c.utf8.text)

pub returns-then-is_name_start : goal.returns-then-is_name_start
returns-then-is_name_start c =
    let s = c.args.text.now in
    let start : is_name_start (slice_index s 0) ≡ true = starts_as (goal.at.returns-then-is_name_start c).After-is_name_start true c.if-is_name_start.true in
    let width : c.name_len-width.result ≡ prefix_len is_name_part s = rw c.as_bytes-then-is_name_start.ensures.value at c.name_len-width.ensures in
    let token : Scans s (Ok (Ident c.split_at.result.0, c.name_len-width.result)) =
    begins name_class s (identifier c.split_at.result.0.now) c.name_len-width.result (class_name (slice_index s 0) start)
    (ap identifier (rw width at c.split_at.ensures.front), width ∙ sym (length-prefix_len is_name_part s)) in
    let r : Result (Token × ℕ) ErrorKind = Ok (Ident c.split_at.result.0, c.name_len-width.result) in
    record { token = token; cut = scans_cut s r c.utf8.text token; some = scans_some s r token }

pub returns-then-is_ascii_digit : goal.returns-then-is_ascii_digit
returns-then-is_ascii_digit c =
    let s = c.args.text.now in
    let no_name : is_name_start (slice_index s 0) ≡ false = starts_as (goal.at.returns-then-is_ascii_digit c).After-is_name_start false c.if-is_name_start.false in
    let digit : is_ascii_digit (slice_index s 0) ≡ true = digit_as (goal.at.returns-then-is_ascii_digit c).After-is_ascii_digit true c.if-is_ascii_digit.true in
    let token : Scans s c.scan_number.result =
    number_scans s c.scan_number.result (class_number (slice_index s 0) no_name digit) (rw c.as_bytes-then-is_ascii_digit.ensures.value at c.scan_number.ensures) in
    record { token = token; cut = scans_cut s c.scan_number.result c.utf8.text token; some = scans_some s c.scan_number.result token }

quote_as : {b d : ℕ} → b ≡ d → (b ≡ 34) ⊎ ((b ≡ 34 → ⊥) × (b ≡ 39)) → (d ≡ 34) ⊎ (d ≡ 39)
quote_as e (inl f) = inl (sym e ∙ f)
quote_as e (inr f) = inr (sym e ∙ f.1)

pub scan_text-requires : goal.scan_text-requires
scan_text-requires c = quote_as (first_byte (goal.at.scan_text-requires c).After-is_name_start) c.then-first-eq34.either

pub returns-then-first-eq34 : goal.returns-then-first-eq34
returns-then-first-eq34 c =
    let s = c.args.text.now in
    let no_name : is_name_start (slice_index s 0) ≡ false = starts_as (goal.at.returns-then-first-eq34 c).After-is_name_start false c.if-is_name_start.false in
    let no_digit : is_ascii_digit (slice_index s 0) ≡ false = digit_as (goal.at.returns-then-first-eq34 c).After-is_ascii_digit false c.if-is_ascii_digit.false in
    let quote = quote_as (first_byte (goal.at.returns-then-first-eq34 c).After-is_name_start) c.then-first-eq34.either in
    let token : Scans s c.scan_text.result =
    text_scans s c.scan_text.result (class_text (slice_index s 0) no_name no_digit quote) c.scan_text.ensures in
    record { token = token; cut = scans_cut s c.scan_text.result c.utf8.text token; some = scans_some s c.scan_text.result token }

pub returns : goal.returns
returns c =
    let s = c.args.text.now in
    let first = first_byte (goal.at.returns c).After-is_name_start in
    let no_name : is_name_start (slice_index s 0) ≡ false = starts_as (goal.at.returns c).After-is_name_start false c.if-is_name_start.false in
    let no_digit : is_ascii_digit (slice_index s 0) ≡ false = digit_as (goal.at.returns c).After-is_ascii_digit false c.if-is_ascii_digit.false in
    let token : Scans s c.scan_sign.result =
    sign_scans s c.scan_sign.result
    (class_sign (slice_index s 0) no_name no_digit (λ e. c.if-first-eq34.false (first ∙ e)) (λ e. c.if-first-eq39.false (first ∙ e)))
    (rw c.as_bytes-2.ensures.value at c.scan_sign.ensures) in
    record { token = token; cut = scans_cut s c.scan_sign.result c.utf8.text token; some = scans_some s c.scan_sign.result token }
