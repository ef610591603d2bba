-- The rounds of a loop that are told their end alone.
use Rattle.std.proofs.Common.{◌≡◌, ℕ, ◌+◌, suc, [], ◌∷◌, ◌++◌, List, length, ap, ap₂, ◌∙◌, append_assoc, length-append, arith}
use Rattle.std.proofs.Math.ListN.{set}
use Rattle.template_compiler_code.specs.Code.{Code, iterate, jump}
use Rattle.template_compiler_code.specs.Listing.{code_in}
use Rattle.template_compiler_code.specs.declared.listing.Instructions.{Instructions}
use Rattle.template_compiler_codegen.specs.Expressions.{Coded, one, skipped, then_code}
use Rattle.template_compiler_codegen.specs.Statements.{rounds_code}
use Rattle.template_compiler_emission.specs.declared.leaps.Leap.TheVariants.{Iterate}
use Rattle.template_compiler_emission.specs.Leaps.{leap_code}
use Rattle.template_compiler_emission.specs.Puts.{Keeps, Puts}
use Rattle.template_compiler_emission.proofs.Putting.{puts_skipped, puts_then}

-- the body and the way back, behind the asking
rounds_skipped : (target body : Coded) (place : ℕ)
    → skipped iterate (then_code (then_code target body) (one (jump place))) place ≡ rounds_code target (λ break_to continue_to. body) place
rounds_skipped target body place =
    let stored = target (suc place) in
    let inner = body (suc place + length stored) in
    ap₂ (λ to code. iterate to ∷ code) (omega (arith, length-append (stored ++ inner) (jump place ∷ []), length-append stored inner))
    (append_assoc stored inner (jump place ∷ []))

pub puts_kept : {target body : Coded} (asks : ℕ) {x a b c d e : Instructions} → asks ≡ length (code_in x) → Puts (one (leap_code Iterate 0)) x a
    → Puts target a b → Puts body b c → Puts (one (jump asks)) c d
    → code_in e ≡ set (code_in d) asks (leap_code Iterate (length (code_in d))) → Keeps d e
    → Puts (rounds_code target (λ break_to continue_to. body)) x e
puts_kept {target} {body} asks {x} {a} {b} {c} {d} {e} at first stored round back landed same =
    let n = length (code_in x) in
    let put = puts_skipped Iterate first (puts_then (puts_then stored round) back)
    (landed ∙ ap (λ (m : ℕ). set (code_in d) m (iterate (length (code_in d)))) at) same in
    record {
      code = put.code ∙ ap (λ (m : ℕ). code_in x ++ skipped iterate (then_code (then_code target body) (one (jump m))) n) at ∙
          ap (λ (l : List Code). code_in x ++ l) (rounds_skipped target body n);
      same = put.same;
    }
