use Rattle.std.proofs.Common.{◌≡◌, map, All}
use Rattle.std.specs.Map.Iter.{deref}
use Rattle.template_machine_environment.specs.Views.{compiled_in, environment_of}
use Rattle.template_machine_environment.specs.declared.template.Template.{Template}
use Rattle.template_machine_environment.proofs.environment.Environment.templates.Given as goal

-- the templates so far are listed
abbrev pub invariant-loop-compiled : goal.invariant-loop-compiled
invariant-loop-compiled g l = record {
  same : map (λ (t : Template _ _ _ _ _ _). compiled_in t.compiled) l.listed.items ≡ map deref l.yielded;
  here : All (λ (t : Template _ _ _ _ _ _). environment_of t ≡ l.self) l.listed.items;
}
