-- Numbers that are listed are made one by one, and nest no deeper than a value may.
use Rattle.std.proofs.Common.{◌≡◌, ℕ, zero, suc, ◌+◌, ◌<◌, ℤ, pos, ◌+ℤ◌, ◌*ℤ◌, [], ◌∷◌, ◌++◌, Ok, refl, arith, add-one}
use Rattle.template_values_model.specs.declared.TheConstants.{DEPTH_LIMIT}
use Rattle.template_values_model.specs.Val.{int, list, vals_of}
use Rattle.template_values_core.specs.Depth.{vals_depth}
use Rattle.template_values_operators.specs.Kinds.{list_made}
use Rattle.template_values_operators.proofs.Shallow.{list_made-shallow, vals_depth-append}
use Rattle.template_machine_meaning.specs.Functions.{numbers_from}

-- one number more behind the others
pub numbers_next : (start step : ℤ) (k : ℕ) → numbers_from start step (k + 1) ≡ numbers_from start step k ++ int (start +ℤ pos k *ℤ step) ∷ []
numbers_next start step k = rw add-one refl

numbers-shallow : (start step : ℤ) (n : ℕ) → vals_depth (vals_of (numbers_from start step n)) < DEPTH_LIMIT
numbers-shallow start step zero = omega arith
numbers-shallow start step (suc k) =
    vals_depth-append (numbers_from start step k) (int (start +ℤ pos k *ℤ step) ∷ []) DEPTH_LIMIT (numbers-shallow start step k) (omega arith)

pub numbers_made : (start step : ℤ) (n : ℕ) → list_made (numbers_from start step n) ≡ Ok (list (vals_of (numbers_from start step n)))
numbers_made start step n = list_made-shallow (numbers_from start step n) (numbers-shallow start step n)

pub ruleset numbers = (numbers_next)
