use Rattle.template_values_json.proofs.Documented.{read_faultless, read_is, read_plain, read_says}
use Rattle.template_values_json.proofs.members.whole_entries.Goals as goal

pub returns-in-Ok-entries_of_text-clause-faultless : goal.returns-in-Ok-entries_of_text-clause-faultless
returns-in-Ok-entries_of_text-clause-faultless c =
    read_faultless c.args.bytes.now c.in-Ok.text.now c.in-Ok-entries_of_text.entries.items c.in-Ok.ensures.cases.0 c.in-Ok.ensures.cases.1 c.in-Ok-entries_of_text.ensures

pub returns-in-Ok-entries_of_text-clause-is : goal.returns-in-Ok-entries_of_text-clause-is
returns-in-Ok-entries_of_text-clause-is c =
    read_is c.args.bytes.now c.in-Ok.text.now c.in-Ok-entries_of_text.entries.items c.in-Ok.ensures.cases.0 c.in-Ok.ensures.cases.1 c.in-Ok-entries_of_text.ensures

pub returns-in-Ok-entries_of_text-clause-says : goal.returns-in-Ok-entries_of_text-clause-says
returns-in-Ok-entries_of_text-clause-says c =
    read_says c.args.bytes.now c.in-Ok.text.now c.in-Ok-entries_of_text.entries.items c.in-Ok.ensures.cases.0 c.in-Ok.ensures.cases.1 c.in-Ok-entries_of_text.ensures

pub returns-in-Ok-entries_of_text-clause-plain : goal.returns-in-Ok-entries_of_text-clause-plain
returns-in-Ok-entries_of_text-clause-plain c =
    read_plain c.args.bytes.now c.in-Ok.text.now c.in-Ok-entries_of_text.entries.items c.in-Ok.ensures.cases.0 c.in-Ok.ensures.cases.1 c.in-Ok-entries_of_text.ensures
