use Rattle.std.proofs.Common.{◌≡◌, drop}
use Rattle.template_compiler_grammar.specs.TemplateTrees.{is_blank}
use Rattle.template_compiler_statement_makers.specs.Listed.{statements_in}
use Rattle.template_compiler_statement_makers.proofs.blocks.is_blank.Given as goal

abbrev pub invariant-loop-statement : goal.invariant-loop-statement
invariant-loop-statement l = is_blank (statements_in (drop l.statement-index l.body)) ≡ is_blank (statements_in l.body)
