-- The arguments of a macro, as contracts see them.
use Rattle.template_compiler_tree.specs.View.{expressions_in}
use Rattle.template_compiler_tree.specs.ExpressionPlaces.{places_in}
use Rattle.template_compiler_grammar.specs.TemplateTrees.{Parameters as Declared}
use Rattle.template_compiler_grammar.specs.Nodes.{placed}
use Rattle.template_compiler_grammar.specs.TemplateNodes.{PlacedParameters}
use Rattle.template_compiler_statement_parts.specs.declared.parameters.Parameters.{Parameters}

abbrev pub parameters_of : Parameters → Declared
parameters_of p = (expressions_in p.args.items, expressions_in p.defaults.items)

-- with where they stand
abbrev pub placed_parameters_of : Parameters → PlacedParameters
placed_parameters_of p = placed (parameters_of p) (places_in p.args.items, places_in p.defaults.items)
