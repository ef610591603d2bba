use Rattle.std.proofs.Common.{string_bytes, subst}
use Rattle.template_compiled.specs.Sources.{read_by}
use Rattle.template_program_check.specs.Checked.{ChecksOne}
use Rattle.template_program_check.proofs.Walking.{checks_next, checks_none}
use Rattle.template_program_check.proofs.refusals.check.Goals as goal

pub loop-name-preserved : goal.loop-name-preserved
loop-name-preserved c = λ after all rest.
    let read = read_by c.args.config.now in
    let item = c.loop-name-item.result in
    let lines = string_bytes c.loop-name.found.lines in
    let told = string_bytes c.check_one.new.found.lines in
    let accepted = c.loop-name.found.accepted.items in
    let compiled = c.check_one.new.found.accepted.items in
    let one = subst (λ n. ChecksOne n (read (string_bytes item.1)) lines accepted told compiled) c.as_str.ensures.value
    (subst (λ t. ChecksOne c.as_str.result.now (read t) lines accepted told compiled) c.as_str-in-loop-name.ensures.value c.in_ok-check_one.ensures.checked) in
    c.loop-name.invariant after all
    (checks_next read c.args.templates.now c.loop-name.name-index item c.loop-name-test.true c.loop-name-item.is lines told accepted compiled one after all rest)

pub returns-clause-checks : goal.returns-clause-checks
returns-clause-checks c =
    c.loop-name.invariant (string_bytes c.loop-name.found.lines) c.loop-name.found.accepted.items
    (checks_none (read_by c.args.config.now) c.args.templates.now c.loop-name.name-index c.loop-name-test.false
    (string_bytes c.loop-name.found.lines) c.loop-name.found.accepted.items)
