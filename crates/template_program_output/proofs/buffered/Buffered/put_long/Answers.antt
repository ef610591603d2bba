use Rattle.std.proofs.Common.{arith, ◌≡◌, ◌+◌, ◌==◌, ◌&&◌, not, ◌∙◌, ap, ℕ, Bool, true, false, Ok, Err, refl, length, rules, if◌then◌else◌}
use Rattle.template_machine_surroundings.proofs.Beginnings.{beginning_whole}
use Rattle.template_program_output.specs.Answer.{failures_of}
use Rattle.template_program_output.specs.Buffer.{failure_count}
use Rattle.template_program_output.proofs.Told.{counts}
use Rattle.template_program_output.proofs.buffered.Buffered.put_long.Goals as goal

not_both : (b : Bool) → ◌≡◌ {A = ℕ} 0 (if b && not b then 1 else 0)
not_both true = refl
not_both false = refl

pub returns-in-Ok-clause-beginning : goal.returns-in-Ok-clause-beginning
returns-in-Ok-clause-beginning g c = beginning_whole _ _ _ c.in-Ok.ensures.written

pub returns-in-Ok-clause-counted : goal.returns-in-Ok-clause-counted
returns-in-Ok-clause-counted g c =
    counts _ _ c.args.self.now.failed _ (Ok tt) c.in-Ok.ensures.told (omega (arith, c.in-Ok.ensures.counted))
    ∙ ap (λ n. failure_count g.O.Output.shown c.args.self.now + n) (not_both (length c.args.bytes.now == 0))

pub returns-in-OutOfMemory-clause-counted : goal.returns-in-OutOfMemory-clause-counted
returns-in-OutOfMemory-clause-counted g c =
    let none : failures_of (Err c.in-Err.error) ≡ 0 = search rules in
    counts _ _ _ _ (Err c.in-Err.error) c.in-Err.ensures.told (omega (arith, c.in-Err.ensures.counted, none))
    ∙ ap (λ n. failure_count g.O.Output.shown c.args.self.now + n) none

pub returns-in_default : goal.returns-in_default
returns-in_default g c =
    let one : failures_of (Err c.in-Err.error) ≡ 1 = search rules in
    record {
      bound = tt;
      bytes = tt;
      beginning = c.in-Err.ensures.written;
      counted = counts _ _ _ _ (Err c.in-Err.error) c.in-Err.ensures.told (omega (arith, c.in-Err.ensures.counted, one))
          ∙ ap (λ n. failure_count g.O.Output.shown c.args.self.now + n) one;
    }
