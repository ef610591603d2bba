use Rattle.std.proofs.Common.{◌<◌, length, arith}
use Rattle.std.proofs.lemmas.Result.{IfOk-at_ok}
use Rattle.template_compiler_tree.specs.View.{expression_of}
use Rattle.template_compiler_expression_codegen.proofs.Filtering.{filter_runnable, puts_all_filters, puts_filter_more}
use Rattle.template_compiler_expression_codegen.proofs.filters.put_filters.Goals as goal

pub put_filter-requires : goal.put_filter-requires
put_filter-requires c =
    let ns = c.in_ok-nodes.nodes.items in
    let within : c.loop-i.i < length ns = omega arith in
    filter_runnable (expression_of c.args.filters.now) ns c.loop-i.i c.index.result.now c.requires
    (IfOk-at_ok _ c.in_ok-nodes.ensures.given c.coded_spine.ensures.nodes) within c.index.ensures

pub loop-i-preserved : goal.loop-i-preserved
loop-i-preserved c =
    let ns = c.in_ok-nodes.nodes.items in
    let within : c.loop-i.i < length ns = omega arith in
    puts_filter_more ns c.loop-i.i c.index.result.now within c.index.ensures c.loop-i.invariant c.in_ok-put_filter.ensures.put

pub returns-clause-put : goal.returns-clause-put
returns-clause-put c =
    puts_all_filters (expression_of c.args.filters.now) c.in_ok-nodes.nodes.items c.loop-i.i c.requires
    (IfOk-at_ok _ c.in_ok-nodes.ensures.given c.coded_spine.ensures.nodes) (omega arith) c.loop-i.invariant
