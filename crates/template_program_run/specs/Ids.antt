-- The state ids that a request takes.
use Rattle.std.specs.Prelude.{◌≡◌, ℕ, ◌+◌, ◌-◌, ◌^◌, ◌==◌, if◌then◌else◌}
use Rattle.template_program_parts.specs.declared.outcome.Outcome.{Outcome}
use Rattle.template_program_parts.specs.declared.outcome.Outcome.TheVariants.{Context, Template}
use Rattle.template_program_parts.specs.declared.command.Command.{Command}
use Rattle.template_program_parts.specs.declared.command.Command.TheVariants as asked

-- the id that is never given
abbrev pub last_id : ℕ
last_id = 2 ^ 64 - 1

-- no state id is left, which is next
abbrev pub IsLastId : ℕ → Type 0
IsLastId next = next ≡ last_id

-- what is next once one is taken, if there is one
abbrev pub behind_one : ℕ → ℕ
behind_one next = if next == last_id then next else next + 1

-- what is next after a request that ends so: the environment takes one, a render one more
abbrev pub behind_request : Command → Outcome → ℕ → ℕ
behind_request command (Context kinds) next = next
behind_request command (Template kinds) next = behind_one next
behind_request asked.Render outcome next = behind_one (behind_one next)
behind_request asked.Names outcome next = behind_one next
