use Rattle.std.proofs.Common.{if◌then◌else◌, sym, ap, ◌∙◌}
use Rattle.template_compiler_walk.specs.Statements.{is_super_name}
use Rattle.template_compiler_code.specs.View.{code_of}
use Rattle.template_machine_loop.specs.declared.tasks.Task.TheVariants.{Calls, Enters}
use Rattle.template_machine_loop.specs.Programs.{task_of}
use Rattle.template_machine_loop.proofs.tasks.task_of.Goals as goal

pub returns-in-CallFunction : goal.returns-in-CallFunction
returns-in-CallFunction c =
    c.named_task.ensures ∙ ap (λ n. if is_super_name n then Enters else Calls) c.as_str.ensures.value ∙ sym (ap task_of (ap code_of c.in-CallFunction.is))
