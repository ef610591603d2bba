-- Where states begin.
use Rattle.std.proofs.Common.{◌≡◌, ◌∙◌, ℕ, Bool, List, Result, Ok, Err, IfOk}
use Rattle.template_values_errors.specs.declared.ErrorKind.{ErrorKind}
use Rattle.template_values_errors.specs.declared.modes.AutoEscape.{AutoEscape}
use Rattle.template_values_model.specs.Val.{Val}
use Rattle.template_machine_meaning.specs.Keys.{Head}
use Rattle.template_machine_meaning.specs.World.{Globals, World, first_world}
use Rattle.template_machine_state.specs.Changes.{head_as}

-- under an escape and with the names of blocks, which are those of a head
pub begins_so : (result : Result World (List ErrorKind)) (id : ℕ) (globals : Globals) (escape : AutoEscape) (blocks : List (List ℕ × Bool)) (context : Val) (head : Head)
    → escape ≡ head.escape → blocks ≡ head.blocks → IfOk result (λ w. w ≡ first_world id globals (head_as escape blocks) context)
    → IfOk result (λ w. w ≡ first_world id globals head context)
begins_so (Ok w) id globals escape blocks context head first named made =
    made ∙ λ i. first_world id globals (record { escape = first i; blocks = named i }) context
begins_so (Err kinds) id globals escape blocks context head first named made = tt
