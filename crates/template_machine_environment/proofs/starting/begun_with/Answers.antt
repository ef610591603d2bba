use Rattle.std.proofs.Common.{ap, ◌∙◌}
use Rattle.template_compiler_code.specs.Streams.{heads_of}
use Rattle.template_compiled.specs.Sources.{tree_in}
use Rattle.template_machine_environment.proofs.Beginning.{begins_so}
use Rattle.template_machine_environment.proofs.Rendering.{same_heads}
use Rattle.template_machine_environment.proofs.starting.begun_with.Goals as goal

pub returns-clause-made : goal.returns-clause-made
returns-clause-made g c =
    begins_so c.new.result _ _ _ _ _ _ c.initial_auto_escape.ensures.escape
    (ap heads_of c.blocks-2.ensures ∙ same_heads (tree_in c.args.template.now.source)) c.new.ensures.made
