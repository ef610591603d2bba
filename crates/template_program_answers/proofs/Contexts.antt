-- Contexts that are refused, and those that are had.
use Rattle.std.proofs.Common.{◌≡◌, ◌∙◌, ℕ, List, [], ◌∷◌, inl, inr, sym, ap}
use Rattle.std.proofs.lemmas.Option.{none-some, same_Some}
use Rattle.template_values_errors.specs.declared.ErrorKind.{ErrorKind}
use Rattle.template_values_errors.specs.Memory.{NoMemory}
use Rattle.template_values_model.specs.Val.{Val}
use Rattle.template_machine_environment_settings.specs.Isolation.{AgreesAt}
use Rattle.template_program_parts.specs.declared.command.Command.{Command}
use Rattle.template_program_parts.specs.declared.command.Command.TheVariants as asked
use Rattle.template_program_run.specs.Given.{Given, HasGiven, IsContextFrom, IsRefusedGiven}

-- a context that is refused is not had
pub refused_or_had : (command : Command) (given : Given) (definitions : List (List ℕ × List ℕ)) (kinds : List ErrorKind) (context : Val)
    → IsRefusedGiven command given kinds → ¬ NoMemory kinds → HasGiven command given definitions context → ⊥
refused_or_had asked.Render given definitions kinds context (inl want) room has = room want
refused_or_had asked.Render given definitions kinds context (inr (kind, fault, alone)) room has = none-some _ (sym has.0 ∙ fault)
refused_or_had asked.Names given definitions kinds context refused room has = refused

-- it is refused with one kind
pub one_refusal : (command : Command) (given : Given) (kinds others : List ErrorKind)
    → IsRefusedGiven command given kinds → IsRefusedGiven command given others → ¬ NoMemory kinds → ¬ NoMemory others → kinds ≡ others
one_refusal asked.Render given kinds others (inl want) other room more = absurd (room want)
one_refusal asked.Render given kinds others (inr refused) (inl want) room more = absurd (more want)
one_refusal asked.Render given kinds others (inr (kind, fault, alone)) (inr (found, same, lone)) room more =
    alone ∙ ap (λ (k : ErrorKind). k ∷ []) (same_Some _ _ (sym fault ∙ same)) ∙ sym lone
one_refusal asked.Names given kinds others refused other room more = absurd refused

-- contexts that are made of the same, with the same definitions, agree at each name
pub agree_everywhere : (given : Given) (definitions : List (List ℕ × List ℕ)) (c d : Val)
    → IsContextFrom given definitions c → IsContextFrom given definitions d → (name : List ℕ) → AgreesAt c d name
agree_everywhere given definitions c d is other name = is.1 name ∙ sym (other.1 name)
