-- What the filter on formats makes of a value and the arguments after it.
use Rattle.std.specs.Prelude.{List, Ok}
use Rattle.template_values_model.specs.Val.{Val, text}
use Rattle.template_callables.specs.Callables.{View}
use Rattle.template_builtins_arguments.specs.Answers.{Made, then as after}
use Rattle.template_builtins_arguments.specs.Parts.{text_of}
use Rattle.template_builtins_formats.specs.Arguments.{all_by_place}
use Rattle.template_builtins_formats.specs.Formats.{formatted}
use Rattle.template_builtins_formats.specs.declared.filter.FormatFilter.{FormatFilter}
use Rattle.template_builtins_formats.specs.declared.filter.FormatFilter.TheVariants as filters

-- a plain text in which the arguments, all by place, stand in the places of the directives
unfoldable pub format : View → Val → List Val → Made
format view v vs =
    after (all_by_place vs) (λ given.
    after (text_of view v) (λ s.
    after (formatted view s given) (λ t.
    Ok (text t))))

abbrev pub format_filtered : FormatFilter → View → Val → List Val → Made
format_filtered filters.Format = format
