use Rattle.template_compiler_statement_codegen.proofs.Leading as laws
use Rattle.template_compiler_statement_codegen.proofs.breaks.breaks_lead.Goals as goal

pub returns : goal.returns
returns c = laws.leads_statements
