use Rattle.std.proofs.Common.{Option, None, Some, IsSome, refl, sym, subst}
use Rattle.std.specs.Option.{option_map}
use Rattle.template_compiled.specs.Compiled.{Compiled, standing_of}
use Rattle.template_compiled.specs.Standing.{all_in, compiled_at}
use Rattle.template_machine_environment.specs.Reading.{registry_of}
use Rattle.template_machine_environment.proofs.Ending.{found_listed}
use Rattle.template_machine_environment.proofs.laws.names_list_all.Goals as goal

stands : (o : Option Compiled) → IsSome (option_map (λ (c : Compiled). c.source) o) → IsSome (option_map standing_of o)
stands None some = absurd (cc)
stands (Some c) some = refl

pub returns : goal.returns
returns g c = λ name some.
    let e = registry_of c.args.environment.now in
    found_listed name (all_in e.templates)
    (subst (λ (o : Option Compiled). IsSome (option_map standing_of o)) (sym (c.values-standing.ensures.found name)) (stands (compiled_at e.templates name) some))
