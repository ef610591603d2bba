use Rattle.std.proofs.Common.{◌≡◌, true, false, Option, None, Some, option_copied, is_some, is_none, Bor, arith, rules, sym, ap}
use Rattle.template_values_model.specs.Val.{Val}
use Rattle.template_builtins_arguments.proofs.Giving.{lacks}
use Rattle.template_builtins_arguments.specs.Given.{given_by}
use Rattle.template_builtins_arguments.proofs.arguments.Arguments.are_given.Goals as goal

missing : (found : Option (Bor Val)) (given : Option Val) → option_copied found ≡ given → is_none found ≡ true → is_some given ≡ false
missing None given e h = ap is_some (sym e)
missing (Some x) given e h = cc

pub returns-then-is_none : goal.returns-then-is_none
returns-then-is_none c =
    let h = c.is_none.ensures in
    let i = c.if-is_none.true in
    let k = c.at.ensures in
    let m : is_some (given_by c.args.self.now c.loop-number.number) ≡ false = missing c.at.result _ c.at.ensures (search rules) in
    sym (lacks (given_by c.args.self.now) c.args.n c.loop-number.number (omega arith) m)
