-- Files and inputs that are refused.
use Rattle.std.proofs.Common.{◌≡◌, refl}
use Rattle.template_program_parts.specs.declared.faults.FileFault.{FileFault}
use Rattle.template_program_parts.specs.declared.faults.FileFault.TheVariants.{File, Memory}
use Rattle.template_program_words.specs.declared.words.Words.{Words}
use Rattle.template_program_run.specs.Inputs.{LacksOne, RefusesInputs}
use Rattle.template_program_run.specs.Told.{Told}

pub refuses_inputs : (told : Told) (words : Words) (fault : FileFault) → (fault ≡ File → LacksOne told words) → RefusesInputs told words fault
refuses_inputs told words File lacks = lacks refl
refuses_inputs told words Memory lacks = tt
