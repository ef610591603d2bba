use Rattle.std.proofs.Common.{◌≡◌, ℕ, true, sym, ◌∙◌, ap, length, slice_index, take_while, Result, Ok}
use Rattle.std.specs.List.{prefix_len}
use Rattle.template_values_errors.specs.declared.ErrorKind.{ErrorKind}
use Rattle.template_compiler_tokens.specs.Token.{identifier}
use Rattle.template_compiler_tokens.specs.declared.token.Token.{Token}
use Rattle.template_compiler_tokens.specs.declared.token.Token.TheVariants.{Ident}
use Rattle.template_compiler_tokens.specs.Lexical.{is_name_start, is_name_part, name_class}
use Rattle.template_compiler_scanner.specs.Scans.{Scans}
use Rattle.template_compiler_scanner.proofs.Names.{name_cut, start_part}
use Rattle.template_compiler_scanner.proofs.Tokens.{class_name, begins, scans_cut, scans_some}
use Rattle.template_compiler_scanner.proofs.scan.scan_name.Goals as goal

pub begun_name_len-requires : goal.begun_name_len-requires
begun_name_len-requires c =
    start_part (slice_index c.as_bytes-bytes.result.now 0) (rw c.byte_at.ensures.byte at (sym c.is_name_start.ensures ∙ c.if-is_name_start.true))

pub split_at-requires : goal.split_at-requires
split_at-requires c = rw (c.begun_name_len.ensures, c.as_bytes-bytes.ensures.value) (name_cut c.args.text.now c.utf8.text)

pub returns-then-is_name_start : goal.returns-then-is_name_start
returns-then-is_name_start c =
    let s = c.args.text.now in
    let name = c.split_at.result.0 in
    let start : is_name_start (slice_index s 0) ≡ true =
    rw (c.byte_at.ensures.byte, c.as_bytes-bytes.ensures.value) at (sym c.is_name_start.ensures ∙ c.if-is_name_start.true) in
    let width : c.begun_name_len.result ≡ prefix_len is_name_part s = rw c.as_bytes-bytes.ensures.value at c.begun_name_len.ensures in
    let whole : name.now ≡ take_while is_name_part s = rw width at c.split_at.ensures.front in
    let r : Result (Token × ℕ) ErrorKind = Ok (Ident name, length name.now) in
    let token : Scans s r =
    begins name_class s (identifier name.now) (length name.now) (class_name (slice_index s 0) start) (ap identifier whole, ap length whole) in
    record { token = token; cut = scans_cut s r c.utf8.text token; some = scans_some s r token; none = tt }
