use Rattle.std.proofs.Common.{◌∙◌, ap, sym}
use Rattle.clap.specs.Words.{found_of, rows_of}
use Rattle.template_program_words.specs.Floats.{floats_of}
use Rattle.template_program_words.specs.Refusals.{NamesNoFloats}
use Rattle.template_program_words.proofs.Matches.{RefusesFor-usage}
use Rattle.template_program_words.proofs.choices.floats_in.Goals as goal

pub returns-in_default-clause-reads : goal.returns-in_default-clause-reads
returns-in_default-clause-reads c = ap floats_of (sym c.in_default.ensures)

pub returns-in-Some-floats_named-clause-reads : goal.returns-in-Some-floats_named-clause-reads
returns-in-Some-floats_named-clause-reads c = ap floats_of (sym c.in-Some.ensures) ∙ sym c.in-Some-floats_named.ensures

pub returns-in-None-clause-refuses : goal.returns-in-None-clause-refuses
returns-in-None-clause-refuses c =
    let none : NamesNoFloats (rows_of (found_of c.args.matches.now)) = ap floats_of (sym c.in-Some.ensures) ∙ sym c.in-None.ensures in
    RefusesFor-usage _ c.unknown_value.result c.unknown_value.ensures none
