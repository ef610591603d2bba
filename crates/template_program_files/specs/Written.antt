-- What is shown of a file that is written whole.
use Rattle.std.specs.Prelude.{◌≡◌, ◌⊎◌, ℕ, Option, IfSome}
use Rattle.template_program_output.specs.Shown.{Shown}

-- an output was opened, which showed what is told of a fresh one, if that is told, and it was written to; it took its
-- place where the status is 0
pub record IsWritten (fresh : Option Shown) (Placed : Shown → Type 0) (Writes : Shown → Shown → Type 0) (status : ℕ) : Type 0 where
  pub before : Shown
  pub after : Shown
  pub opened : IfSome fresh (λ shown. before ≡ shown)
  pub written : Writes before after
  pub placed : status ≡ 0 → Placed after

-- no output was opened, and then no fault was told, or it was written to, and could not take its place
abbrev pub IsRefused : Option Shown → Shown → Shown → (Shown → Shown → Type 0) → Type 0
IsRefused fresh fault_before fault_after Writes = (fault_after ≡ fault_before)
    ⊎ ((before : Shown) × (after : Shown) × IfSome fresh (λ shown. before ≡ shown) × Writes before after)
