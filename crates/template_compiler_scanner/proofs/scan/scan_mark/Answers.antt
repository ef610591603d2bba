use Rattle.std.proofs.Common.{ℕ, Result, Ok}
use Rattle.template_values_errors.specs.declared.ErrorKind.{ErrorKind}
use Rattle.template_compiler_tokens.specs.declared.token.Token.{Token}
use Rattle.template_compiler_scanner.specs.Scans.{Scans, ScansSign}
use Rattle.template_compiler_scanner.proofs.Tokens.{sign_stands, sign_scans, scans_cut, scans_some}
use Rattle.template_compiler_scanner.proofs.scan.scan_mark.Goals as goal

pub returns-in-Ok : goal.returns-in-Ok
returns-in-Ok c =
    let s = c.args.text.now in
    let found = c.in-Ok.found in
    let r : Result (Token × ℕ) ErrorKind = Ok found in
    let sign : ScansSign s r = rw c.as_bytes.ensures.value at c.in-Ok.ensures in
    let token : Scans s r = sign_scans s r (sign_stands s found.0 found.1 sign) sign in
    record { token = token; cut = scans_cut s r c.utf8.text token; some = scans_some s r token; none = tt }
