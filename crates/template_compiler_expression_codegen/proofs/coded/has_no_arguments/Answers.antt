use Rattle.std.proofs.Common.{List, sym, ap, ◌∙◌}
use Rattle.template_compiler_tree.specs.Kinds.{is_empty}
use Rattle.template_compiler_tree.specs.View.{arguments_in}
use Rattle.template_compiler_tree.specs.declared.calls.CallArg.{CallArg}
use Rattle.template_compiler_tree.proofs.Arms.{emptiness}
use Rattle.template_compiler_expression_codegen.proofs.coded.has_no_arguments.Goals as goal

pub returns : goal.returns
returns c =
    c.is_empty.ensures ∙ sym (emptiness c.as_slice.result.now) ∙ ap (λ (xs : List CallArg). is_empty (arguments_in xs)) c.as_slice.ensures.value
