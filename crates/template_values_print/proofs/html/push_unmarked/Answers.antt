use Rattle.std.proofs.Common.{string_bytes}
use Rattle.template_values_print.proofs.PieceLemmas.{Writes-unmarked}
use Rattle.template_values_print.proofs.html.push_unmarked.Goals as goal

pub returns : goal.returns
returns c = Writes-unmarked (string_bytes c.args.out.now) (string_bytes c.push_plain.new.out) c.args.piece.now c.push_plain.result c.requires c.push_plain.ensures
