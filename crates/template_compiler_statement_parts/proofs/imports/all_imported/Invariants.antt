use Rattle.std.proofs.Common.{◌≡◌, length}
use Rattle.template_compiler_tokens.specs.Steps.{all}
use Rattle.template_compiler_grammar.specs.TemplateReaderParts.{more_step}
use Rattle.template_compiler_grammar.specs.TemplateReader.{import_by}
use Rattle.template_compiler_grammar.specs.Views.{placed_imports_in}
use Rattle.template_compiler_statement_parts.proofs.imports.all_imported.Given as goal

abbrev pub invariant-loop-refusal : goal.invariant-loop-refusal
invariant-loop-refusal l =
    (l.tokens.spans ≡ l.initial.tokens.spans) ×
    (all (more_step (import_by l.initial.tokens.spans)) (placed_imports_in l.names.items) l.tokens.left ≡
    all (more_step (import_by l.initial.tokens.spans)) (placed_imports_in l.initial.names.items) l.initial.tokens.left)

abbrev pub decreases-loop-refusal : goal.decreases-loop-refusal
decreases-loop-refusal l = length l.tokens.left
