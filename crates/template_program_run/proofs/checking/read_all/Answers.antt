use Rattle.std.proofs.Common.{Bor, List, Option, ℕ, option_map, subst, sym}
use Rattle.template_program_run.specs.Inputs.{LacksTemplateOf}
use Rattle.template_program_run.specs.Naming.{naming_in}
use Rattle.template_program_run.specs.Told.{told_by}
use Rattle.template_program_run.proofs.checking.read_all.Goals as goal

pub returns-in-Some-clause-refused : goal.returns-in-Some-clause-refused
returns-in-Some-clause-refused g c is =
    let told = told_by (g.R.Folders.entries c.args.rt.now) (g.R.FileSystem.content c.args.rt.now) (g.I.Reader.may_fail c.args.input.now)
    (g.I.Reader.remaining c.args.input.now) in
    subst (λ (folder : Option (Bor (List ℕ))). LacksTemplateOf told (option_map (λ path. path.now) folder) (naming_in c.args.naming)) (sym c.in-Some.is)
    (c.read_below.ensures.refused is)
