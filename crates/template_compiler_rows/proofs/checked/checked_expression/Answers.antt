use Rattle.template_compiler_rows.proofs.Running.{read_alone_runs}
use Rattle.template_compiler_rows.proofs.checked.checked_expression.Goals as goal

pub checked_read-requires : goal.checked_read-requires
checked_read-requires c = read_alone_runs _ c.parse_expr-read.result c.parse_expr-read.ensures.found
