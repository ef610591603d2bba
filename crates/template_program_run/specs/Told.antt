-- What is told of what a run reads.
use Rattle.std.specs.Prelude.{ℕ, Bool, List, Option}
use Rattle.template_program_files.specs.Below.{Standing}

-- what stands in folders and in files, by their paths; whether a read of the input may fail, but for want of memory; and the
-- input's bytes
pub record Told : Type 0 where
  pub entries : List ℕ → Option (List Standing)
  pub content : List ℕ → Option (List ℕ)
  pub may_fail : Bool
  pub input : Option (List ℕ)

abbrev pub told_by : (List ℕ → Option (List Standing)) → (List ℕ → Option (List ℕ)) → Bool → Option (List ℕ) → Told
told_by entries content may_fail input =
    record { entries = entries; content = content; may_fail = may_fail; input = input }
