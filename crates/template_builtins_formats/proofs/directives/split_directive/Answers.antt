use Rattle.std.proofs.Common.{arith, length, ap, ◌∙◌}
use Rattle.template_builtins_formats.proofs.Cuts.{boundary, ends_read, rest_is, shorter}
use Rattle.template_builtins_formats.proofs.directives.split_directive.Goals as goal

pub overflow_sub-text : goal.overflow_sub-text
overflow_sub-text c =
    let ends = ends_read c.args.text.now c.as_bytes.result.now c.in_ok-directive.rest.now c.in_ok-directive.directive c.as_bytes.ensures.value c.in_ok-directive.ensures in
    omega (arith, shorter c.args.text.now c.in_ok-directive.rest.now ends)

pub range_from-requires : goal.range_from-requires
range_from-requires c =
    let ends = ends_read c.args.text.now c.as_bytes.result.now c.in_ok-directive.rest.now c.in_ok-directive.directive c.as_bytes.ensures.value c.in_ok-directive.ensures in
    λ some. boundary c.args.text.now c.in_ok-directive.rest.now c.utf8.text ends

pub returns-clause-parts : goal.returns-clause-parts
returns-clause-parts c =
    let ends = ends_read c.args.text.now c.as_bytes.result.now c.in_ok-directive.rest.now c.in_ok-directive.directive c.as_bytes.ensures.value c.in_ok-directive.ensures in
    let rest = c.range_from.ensures.value ∙ rest_is c.args.text.now c.in_ok-directive.rest.now ends in
    rw rest (rw c.as_bytes.ensures.value at c.in_ok-directive.ensures)

pub returns-clause-less : goal.returns-clause-less
returns-clause-less c =
    let ends = ends_read c.args.text.now c.as_bytes.result.now c.in_ok-directive.rest.now c.in_ok-directive.directive c.as_bytes.ensures.value c.in_ok-directive.ensures in
    let rest = c.range_from.ensures.value ∙ rest_is c.args.text.now c.in_ok-directive.rest.now ends in
    omega (arith, shorter c.args.text.now c.in_ok-directive.rest.now ends, ap length rest)
