-- What the proofs open of the reader, each for the part that it names.
use Rattle.template_compiler_tokens.specs.Steps.{and_then, under}
use Rattle.template_compiler_grammar.specs.TemplateReaderParts.{more_step}
use Rattle.template_compiler_grammar.specs.TemplateReader.{assignment_by, assignments_by, default_by, here, here_by, loop_filter_by, optional_parameters_by, parameter_by, parameters_by, value_by}

unfoldable pub optional_read : Unit {0}
unfolding here here_by optional_parameters_by
optional_read = tt

unfoldable pub parameters_read : Unit {0}
unfolding and_then parameters_by
parameters_read = tt

unfoldable pub parameter_read : Unit {0}
unfolding and_then parameter_by default_by
parameter_read = tt

unfoldable pub more_read : Unit {0}
unfolding under more_step
more_read = tt

unfoldable pub value_read : Unit {0}
unfolding and_then value_by
value_read = tt

unfoldable pub assignments_read : Unit {0}
unfolding and_then assignments_by
assignments_read = tt

unfoldable pub assignment_read : Unit {0}
unfolding and_then here here_by assignment_by
assignment_read = tt

unfoldable pub filter_read : Unit {0}
unfolding and_then loop_filter_by
filter_read = tt
