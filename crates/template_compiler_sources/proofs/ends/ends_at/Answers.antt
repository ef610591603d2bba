use Rattle.std.proofs.Common.{inl, arith}
use Rattle.template_compiler_sources.proofs.Reached.{reads_none}
use Rattle.template_compiler_sources.proofs.ends.ends_at.Goals as goal

pub loop-low-init : goal.loop-low-init
loop-low-init c = record {
  ordered = omega arith;
  within = omega arith;
  reached = λ ts spelled. inl (reads_none c.args.text.now ts);
  above = λ ts spelled more reached. absurd (omega (arith, more));
}
