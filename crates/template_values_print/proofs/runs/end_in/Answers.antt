use Rattle.std.proofs.Common.{sym, ap, ◌∙◌, arith}
use lib.Count.{count_trailing_zeros}
use Rattle.template_values_print.proofs.LaneLemmas.{run_through, run_stops}
use Rattle.template_values_print.proofs.RunLemmas.{run_bound}
use Rattle.template_values_print.specs.Runs.{is_stop, stands}
use Rattle.template_values_print.proofs.runs.end_in.Goals as goal

pub returns-then-found-ne0-clause-value : goal.returns-then-found-ne0-clause-value
returns-then-found-ne0-clause-value c =
    let found = c.stops_16-found in
    let run = run_stops (is_stop c.args.stops) c.args.text.now c.loop-i.i 16 (omega arith) (omega arith) (omega (arith, found.ensures)) ∙ ap (count_trailing_zeros 64) (sym found.ensures) in
    omega (arith, run, c.loop-i.invariant.0)

pub returns-then-found-ne0-clause-bound : goal.returns-then-found-ne0-clause-bound
returns-then-found-ne0-clause-bound c =
    let found = c.stops_16-found in
    let run = run_stops (is_stop c.args.stops) c.args.text.now c.loop-i.i 16 (omega arith) (omega arith) (omega (arith, found.ensures)) ∙ ap (count_trailing_zeros 64) (sym found.ensures) in
    omega (arith, run, run_bound (stands c.args.stops) c.args.text.now c.loop-i.i c.loop-i.invariant.1)

pub loop-i-preserved : goal.loop-i-preserved
loop-i-preserved c =
    let run = run_through (is_stop c.args.stops) c.args.text.now c.loop-i.i 16 (omega arith) (omega (arith, c.stops_16-found.ensures)) in
    (omega (arith, run, c.loop-i.invariant.0), omega arith)

pub returns-clause-bound : goal.returns-clause-bound
returns-clause-bound c = omega (arith, run_bound (stands c.args.stops) c.args.text.now c.loop-i.i c.loop-i.invariant.1)
