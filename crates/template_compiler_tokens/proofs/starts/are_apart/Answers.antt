use Rattle.std.proofs.Common.{sym, ◌∙◌}
use Rattle.template_compiler_tokens.proofs.Tests.{hold, held}
use Rattle.template_compiler_tokens.proofs.starts.are_apart.Goals as goal

pub returns : goal.returns
returns c = (
  λ all.
      let tests = held c.differ.result c.differ-2.result c.differ-3.result c.differ-4.result c.differ-5.result c.differ-6.result c.differ-7.result c.differ-8.result c.differ-9.result c.differ-10.result (sym c.all_hold.ensures ∙ all) in
      record {
        vb = c.differ.ensures.0 tests.0;
        vc = c.differ-2.ensures.0 tests.1;
        vs = c.differ-3.ensures.0 tests.2;
        vd = c.differ-4.ensures.0 tests.3;
        bc = c.differ-5.ensures.0 tests.4;
        bs = c.differ-6.ensures.0 tests.5;
        bd = c.differ-7.ensures.0 tests.6;
        cs = c.differ-8.ensures.0 tests.7;
        cd = c.differ-9.ensures.0 tests.8;
        sd = c.differ-10.ensures.0 tests.9;
      },
  λ apart.
      c.all_hold.ensures ∙
      hold c.differ.result c.differ-2.result c.differ-3.result c.differ-4.result c.differ-5.result c.differ-6.result c.differ-7.result c.differ-8.result c.differ-9.result c.differ-10.result
      (c.differ.ensures.1 apart.vb) (c.differ-2.ensures.1 apart.vc) (c.differ-3.ensures.1 apart.vs) (c.differ-4.ensures.1 apart.vd)
      (c.differ-5.ensures.1 apart.bc) (c.differ-6.ensures.1 apart.bs) (c.differ-7.ensures.1 apart.bd)
      (c.differ-8.ensures.1 apart.cs) (c.differ-9.ensures.1 apart.cd) (c.differ-10.ensures.1 apart.sd),
)
