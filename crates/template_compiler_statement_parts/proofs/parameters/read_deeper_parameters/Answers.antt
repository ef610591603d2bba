use Rattle.std.proofs.Common.{◌-◌, sym, subst, arith}
use Rattle.template_compiler_statement_parts.specs.Parsed.{ParsedAs}
use Rattle.template_compiler_statement_parts.specs.Written.{placed_parameters_of}
use Rattle.template_compiler_statement_parts.proofs.ValuesPlaced.{parameters_less}
use Rattle.template_compiler_statement_parts.proofs.parameters.read_deeper_parameters.Goals as goal

pub returns-else-left-eq0-clause-parsed : goal.returns-else-left-eq0-clause-parsed
returns-else-left-eq0-clause-parsed g c =
    subst (λ m. ParsedAs placed_parameters_of m c.read_parameters.new.tokens.left c.read_parameters.result)
    (sym (parameters_less c.args.tokens.now.spans c.args.left (c.args.left - 1) c.args.tokens.now.left (omega arith))) c.read_parameters.ensures.parsed
