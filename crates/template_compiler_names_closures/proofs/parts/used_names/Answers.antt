use Rattle.template_compiler_names_closures.specs.Units.{is_used_by_part, part_of}
use Rattle.template_compiler_names_closures.proofs.Alone.{in_set, told_alone}
use Rattle.template_compiler_names_closures.proofs.parts.used_names.Goals as goal

pub returns : goal.returns
returns c =
    in_set (λ name. is_used_by_part name (part_of c.args.unit.now)) c.use_unit.new.names c.into_found.result
    (told_alone c.in_ok-names.names c.use_unit.new.names c.in_ok-names.ensures.alone c.in_ok-names.ensures.found c.in_ok-names.ensures.known
    c.in_ok-use_unit.ensures) c.into_found.ensures
