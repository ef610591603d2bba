-- Whole processes come to proper ends.
use Rattle.std.proofs.Common.{[], ◌∷◌}
use Rattle.template_compiler_process.specs.Process.{Answer, Told, tells, fails, breaks_off, leaves, over, step, asks, amiss, cut_short, stuck}
use Rattle.template_compiler_process.specs.Trace.{Run, run, go_on}
use Rattle.template_compiler_process.specs.Whole.{IsProper}
use Rattle.template_compiler_process.specs.Laws.{DrivenWhole, RunWhole}

pub driven_whole : DrivenWhole
driven_whole (over operands) told whole = record { uncut = tt; unstuck = λ e. cc }
driven_whole (step p) told whole = driven_whole p told whole
driven_whole (asks e k) [] whole = record { uncut = tt; unstuck = λ e. cc }
driven_whole (asks e k) (tells a ∷ told) whole = driven_whole (k a) told (whole a)
driven_whole (asks e k) (fails kinds ∷ told) whole = record { uncut = tt; unstuck = λ e. cc }
driven_whole (asks e k) (breaks_off ∷ told) whole = record { uncut = tt; unstuck = λ e. cc }
driven_whole (asks e k) (leaves ∷ told) whole = record { uncut = tt; unstuck = λ e. cc }
driven_whole amiss told whole = record { uncut = tt; unstuck = λ e. cc }
driven_whole cut_short told whole = absurd whole
driven_whole stuck told whole = absurd whole

-- what is told leads to a proper end, where each answer does
told_whole : {S : Type 0} → (k : Answer → S → Run S) (s : S) (told : Told) → ((a : Answer) → IsProper (k a s).end) → IsProper (go_on k s told).end
told_whole k s (tells a) proper = proper a
told_whole k s (fails kinds) proper = record { uncut = tt; unstuck = λ e. cc }
told_whole k s breaks_off proper = record { uncut = tt; unstuck = λ e. cc }
told_whole k s leaves proper = record { uncut = tt; unstuck = λ e. cc }

pub run_whole : (S : Type 0) → RunWhole S
run_whole S answer (over operands) s whole = record { uncut = tt; unstuck = λ e. cc }
run_whole S answer (step p) s whole = run_whole S answer p s whole
run_whole S answer (asks e k) s whole =
    let r = answer s e in
    told_whole (λ a t. run answer (k a) t) r.after r.told (λ a. run_whole S answer (k a) r.after (whole a))
run_whole S answer amiss s whole = record { uncut = tt; unstuck = λ e. cc }
run_whole S answer cut_short s whole = absurd whole
run_whole S answer stuck s whole = absurd whole
