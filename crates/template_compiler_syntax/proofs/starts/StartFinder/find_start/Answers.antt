use Rattle.std.proofs.Common.{rules, ◌≡◌, ◌+◌, ◌≤◌, length, sym, ap}
use Rattle.std.proofs.lemmas.Bool.{OnTrue_at}
use Rattle.template_compiler_syntax.specs.Syntax.{start_text}
use Rattle.template_compiler_syntax.proofs.NextStart.{default_len, default_within}
use Rattle.template_compiler_syntax.proofs.starts.StartFinder.find_start.Goals as goal

pub overflow_add-place : goal.overflow_add-place
overflow_add-place c =
    let x = c.args.syntax.now in
    let default = OnTrue_at c.if-self.true c.requires.knows.default_starts in
    let high : c.in-Some.place + 2 ≤ length c.args.bytes.now =
    default_within x c.args.bytes.now c.args.from c.in-Some.place c.in-Some.kind default (c.in-Some.ensures x default) in
    search rules

pub start_at-requires : goal.start_at-requires
start_at-requires c =
    let x = c.args.syntax.now in
    let default = OnTrue_at c.if-self.true c.requires.knows.default_starts in
    default_within x c.args.bytes.now c.args.from c.in-Some.place c.in-Some.kind default (c.in-Some.ensures x default)

pub returns-in-Some-clause-found : goal.returns-in-Some-clause-found
returns-in-Some-clause-found c =
    let x = c.args.syntax.now in
    let s = c.args.bytes.now in
    let place = c.in-Some.place in
    let kind = c.in-Some.kind in
    let default = OnTrue_at c.if-self.true c.requires.knows.default_starts in
    let start = c.in-Some.ensures x default in
    let two = default_len x kind default start.here.is_set in
    let behind : place + 2 ≡ place + length (start_text x kind) = ap (λ n. place + n) (sym two) in
    let at = c.start_at.ensures in
    rw (at.kind, at.place) (start, at.sign x behind, at.inside x behind)
