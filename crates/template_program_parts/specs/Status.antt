-- The status of an outcome.
use Rattle.std.specs.Prelude.{◌≡◌, ◌≢◌, ℕ, List, [], ◌∷◌, ◌++◌, ◌⊎◌}
use Rattle.template_values_errors.specs.declared.ErrorKind.{ErrorKind}
use Rattle.template_values_errors.specs.declared.ErrorKind.TheVariants.{OutOfMemory}
use Rattle.template_program_parts.specs.declared.outcome.Outcome.{Outcome}
use Rattle.template_program_parts.specs.declared.outcome.Outcome.TheVariants.{Done, Render, Context, Template}

-- the innermost kind
abbrev pub EndsIn : List ErrorKind → ErrorKind → Type 0
EndsIn kinds kind = (outer : List ErrorKind) × (kinds ≡ outer ++ kind ∷ [])

-- 6 where the innermost kind is want of memory, else the status given
abbrev pub IsUnlessMemory : List ErrorKind → ℕ → ℕ → Type 0
IsUnlessMemory kinds status result =
    (kind : ErrorKind) × EndsIn kinds kind × (((kind ≡ OutOfMemory) × (result ≡ 6)) ⊎ ((kind ≢ OutOfMemory) × (result ≡ status)))

abbrev pub IsStatusOf : Outcome → ℕ → Type 0
IsStatusOf Done result = result ≡ 0
IsStatusOf (Render kinds) result = IsUnlessMemory kinds 1 result
IsStatusOf (Context kinds) result = IsUnlessMemory kinds 4 result
IsStatusOf (Template kinds) result = IsUnlessMemory kinds 5 result
