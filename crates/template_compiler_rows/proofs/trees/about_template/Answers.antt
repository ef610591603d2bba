use Rattle.template_compiler_rows.proofs.Running.{read_runs}
use Rattle.template_compiler_rows.proofs.trees.about_template.Goals as goal

pub about_read-requires : goal.about_read-requires
about_read-requires c = read_runs _ _ c.parse-read.result c.parse-read.ensures.found
