use Rattle.std.proofs.Common.{◌≡◌, ◌≤◌, inl, inr, length, ap, arith}
use Rattle.template_compiler_tokens.specs.Places.{token_count}
use Rattle.template_compiler_sources.proofs.Reached.{first_count, first_taken}
use Rattle.template_compiler_sources.proofs.prefixes.take_first.Goals as goal

pub returns-in-End-clause-count : goal.returns-in-End-clause-count
returns-in-End-clause-count c =
    let none : token_count c.loop-tokens.tokens.left ≡ 0 = ap token_count c.in-End.ensures.taken in
    first_count c.args.tokens.now.left c.loop-tokens.tokens.left c.loop-tokens.first.items c.args.count c.loop-tokens.invariant.every
    c.loop-tokens.invariant.within (inr none)

pub returns-in-Bad-clause-count : goal.returns-in-Bad-clause-count
returns-in-Bad-clause-count c =
    let none : token_count c.loop-tokens.tokens.left ≡ 0 = ap token_count c.in-Bad.ensures.taken in
    first_count c.args.tokens.now.left c.loop-tokens.tokens.left c.loop-tokens.first.items c.args.count c.loop-tokens.invariant.every
    c.loop-tokens.invariant.within (inr none)

pub returns-in-Bad-clause-tokens : goal.returns-in-Bad-clause-tokens
returns-in-Bad-clause-tokens c =
    let none : token_count c.loop-tokens.tokens.left ≡ 0 = ap token_count c.in-Bad.ensures.taken in
    first_taken c.args.tokens.now.left c.loop-tokens.tokens.left c.loop-tokens.first.items c.args.count c.loop-tokens.invariant.every
    c.loop-tokens.invariant.within (inr none)

pub returns-clause-count : goal.returns-clause-count
returns-clause-count c =
    let full : c.args.count ≤ length c.loop-tokens.first.items = omega (arith, c.len.ensures, c.loop-tokens-test.false) in
    first_count c.args.tokens.now.left c.loop-tokens.tokens.left c.loop-tokens.first.items c.args.count c.loop-tokens.invariant.every
    c.loop-tokens.invariant.within (inl full)
