use Rattle.std.proofs.Common.{None, string_bytes}
use Rattle.template_builtins_arguments.specs.Given.{given_by}
use Rattle.template_builtins_web.specs.Filters.{json_value, layout_from}
use Rattle.template_builtins_web.specs.Json.{data_of, text_by}
use Rattle.template_callables.specs.Views.{seen_in}
use Rattle.template_builtins_web.proofs.Refusals.{refused_later}
use Rattle.template_builtins_web.proofs.json_text.json_given.Goals as goal

pub returns-in-Ok : goal.returns-in-Ok
returns-in-Ok c = rw c.in-Ok.ensures c.json_laid_out.ensures

pub returns-in_ok-json_text-in-Err : goal.returns-in_ok-json_text-in-Err
returns-in_ok-json_text-in-Err c =
    refused_later (data_of (seen_in c.args.view.now) c.args.value.now) (layout_from (given_by c.args.given 0)) (λ d. text_by None d) (string_bytes c.in_ok-json_text-in-Err.field-0) (λ d layout. json_value layout d) c.in-Err.error c.in_ok-json_text-in-Err.ensures c.in-Err.ensures
