use Rattle.std.proofs.Common.{◌≡◌, ℕ, true, false, sym, arith, slice_index, Result, Ok}
use Rattle.std.specs.Char.{is_ascii_digit}
use Rattle.std.proofs.lemmas.Bool.Decides.{nat_tests}
use Rattle.template_values_errors.specs.declared.ErrorKind.{ErrorKind}
use Rattle.template_compiler_tokens.specs.Lexical.{is_name_start}
use Rattle.template_compiler_tokens.specs.Numbers.{number_at, number_width}
use Rattle.template_compiler_tokens.specs.Token.{number}
use Rattle.template_compiler_tokens.specs.declared.token.Token.{Token}
use Rattle.template_compiler_tokens.specs.declared.token.Token.TheVariants.{Int}
use Rattle.template_compiler_scanner.specs.Scans.{Scans}
use Rattle.template_compiler_scanner.proofs.Tokens.{class_number, number_scans, scans_cut}
use Rattle.template_compiler_scanner.proofs.scan.scan_digit.Goals as goal

no_name : (b : ℕ) → is_ascii_digit b ≡ true → is_name_start b ≡ false
unfolding is_name_start
no_name b e = grind (arith, nat_tests)

pub returns-in-Some : goal.returns-in-Some
returns-in-Some c =
    let s = c.args.text.now in
    let found = c.in-Some.ensures in
    let value : number_at s ≡ number c.in-Some.digit = rw c.as_bytes.ensures.value at found.value in
    let width : number_width s ≡ 1 = rw c.as_bytes.ensures.value at found.width in
    let digit : is_ascii_digit (slice_index s 0) ≡ true = rw c.as_bytes.ensures.value at found.digit in
    let r : Result (Token × ℕ) ErrorKind = Ok (Int c.in-Some.digit, 1) in
    let token : Scans s r =
    number_scans s r (class_number (slice_index s 0) (no_name (slice_index s 0) digit) digit) (sym value, sym width) in
    record { token = token; cut = scans_cut s r c.utf8.text token; none = tt }
