use Rattle.std.proofs.Common.{◌≡◌, ◌++◌, ℕ, List, Result, Ok, Err, OnOk, inr, refl}
use Rattle.template_values_errors.specs.Memory.{NoMemory}
use Rattle.template_values_errors.specs.declared.ErrorKind.{ErrorKind}
use Rattle.template_compiled.specs.Compiled.{Compiled}
use Rattle.template_compiled.specs.Sources.{IsRefusedWith, Source, read_by}
use Rattle.template_program_check.specs.Checked.{ChecksOne}
use Rattle.template_program_check.specs.Lines.{IsRefusalLine}
use Rattle.template_program_check.proofs.refusals.check_one.Goals as goal

-- a line is added for what is refused, and nothing is compiled
refuses_one : {A : Type 0} (r : Result A (List ErrorKind)) (name : List ℕ) (source : Source) (kinds : List ErrorKind) (lines after : List ℕ)
    (accepted : List Compiled) → IsRefusedWith source kinds → OnOk r (¬ NoMemory kinds) →
    OnOk r ((line : List ℕ) × IsRefusalLine kinds line × (after ≡ lines ++ line)) → OnOk r (ChecksOne name source lines accepted after accepted)
refuses_one (Ok done) name source kinds lines after accepted refused own added = inr ((kinds, refused, own, added), refl)
refuses_one (Err e) name source kinds lines after accepted refused own added = own

pub returns-in-Err-clause-checked : goal.returns-in-Err-clause-checked
returns-in-Err-clause-checked c =
    refuses_one c.add_refusal.result c.args.name.now (read_by c.args.config.now c.args.source.now) c.in-Err.error _ _ c.args.found.now.accepted.items
    c.in-Err.ensures.refused c.add_refusal.ensures.own c.add_refusal.ensures.added
