use Rattle.std.proofs.Common.{string_bytes}
use Rattle.template_values_forms.specs.Printed.{printed}
use Rattle.template_values_print.proofs.PieceLemmas.{Writes-html}
use Rattle.template_values_print.proofs.escape.print_html.Goals as goal

pub returns : goal.returns
returns g c = Writes-html (string_bytes c.args.out.now) (string_bytes c.print_outer.new.out) (printed (g.R.Records.known c.args.records.now) c.args.value.now) c.print_outer.result c.print_outer.ensures
