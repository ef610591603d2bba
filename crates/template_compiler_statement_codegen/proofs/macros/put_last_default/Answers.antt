use Rattle.std.proofs.Common.{◌≡◌, ◌+◌, ◌-◌, ◌<◌, length, arith}
use Rattle.std.proofs.lemmas.Result.{on_ok_weaker}
use Rattle.template_compiler_statement_codegen.proofs.Declaring.{no_default, one_default, runnable_at}
use Rattle.template_compiler_statement_codegen.proofs.macros.put_last_default.Goals as goal

pub put_default-requires : goal.put_default-requires
put_default-requires c =
    let ds = c.args.defaults.now in
    let i = c.args.given - 1 in
    let within : i < length ds = omega (arith, c.requires.given) in
    runnable_at ds i c.index-defaults-last.result c.requires.run within c.index-defaults-last.is

pub returns-then-given-eq0-clause-put : goal.returns-then-given-eq0-clause-put
returns-then-given-eq0-clause-put c = no_default c.args.defaults.now c.args.given c.args.code.now c.if-given-eq0.true

pub returns-clause-put : goal.returns-clause-put
returns-clause-put c =
    let ds = c.args.defaults.now in
    let i = c.args.given - 1 in
    let last : c.args.given ≡ i + 1 = omega arith in
    let within : i < length ds = omega (arith, c.requires.given) in
    on_ok_weaker c.put_default.result (λ put.
    one_default ds c.args.given i c.index-defaults-last.result last within c.index-defaults-last.is put) c.put_default.ensures.put
