use Rattle.std.proofs.Common.{arith, ◌≡◌, ℕ, ◌+◌, ◌-◌, ◌^◌, List, cond, length, take, drop, ap, ◌∙◌}
use Rattle.std.proofs.lemmas.List.{take_at, take_rest}
use Rattle.std.specs.Str.Parse.{AllDigits, digits_value}
use Rattle.template_builtins_decimals.specs.Rounding.{adds_unit}
use Rattle.template_builtins_decimals.proofs.Carries.{round_value}
use Rattle.template_builtins_decimals.proofs.Digits.{digits_drop, digits_take}
use Rattle.template_builtins_decimals.proofs.carrying.round.Goals as goal

pub adds_unit-adds-requires : goal.adds_unit-adds-requires
adds_unit-adds-requires c =
    let kept : ℕ = c.len.result - c.args.cut in
    let digits : AllDigits 10 c.as_slice.result.now = rw c.as_slice.ensures.value c.requires.digits in
    digits_take (length c.as_slice.result.now - kept) (drop kept c.as_slice.result.now) (digits_drop kept c.as_slice.result.now digits)

pub carry-requires-clause-digits : goal.carry-requires-clause-digits
carry-requires-clause-digits c =
    rw (c.as_mut_slice.ensures.value, c.truncate.ensures.items) (digits_take (c.len.result - c.args.cut) c.args.digits.now.items c.requires.digits)

pub returns-clause-value : goal.returns-clause-value
returns-clause-value c =
    let items : List ℕ = c.args.digits.now.items in
    let kept : ℕ = c.len.result - c.args.cut in
    let size : length c.carry.new.digits ≡ c.truncate.new.self.len = omega (arith, c.carry.auto.digits, c.as_mut_slice.ensures.len) in
    let all : kept + c.args.cut ≡ length items = omega (arith, c.requires.cut, c.len.ensures, c.as_slice.ensures.len, ap length c.as_slice.ensures.value) in
    let rest : take (length c.as_slice.result.now - kept) (drop kept c.as_slice.result.now) ≡ drop kept items =
    take_rest c.as_slice.result.now kept ∙ ap (drop kept) c.as_slice.ensures.value in
    ap (digits_value 10) (take_at c.carry.new.digits (drop (length c.carry.new.digits) c.truncate.new.self.items) c.truncate.new.self.len size)
    ∙ round_value c.args.method c.args.negative items kept c.args.cut c.adds_unit-adds.result (digits_value 10 c.carry.new.digits) c.requires.digits all
    (c.adds_unit-adds.ensures ∙ ap (λ (s : List ℕ). adds_unit c.args.method c.args.negative (digits_value 10 s) (10 ^ length s)) rest)
    (c.carry.ensures.value ∙ ap (λ (s : List ℕ). digits_value 10 s + cond c.adds_unit-adds.result 1 0) (c.as_mut_slice.ensures.value ∙ c.truncate.ensures.items))
