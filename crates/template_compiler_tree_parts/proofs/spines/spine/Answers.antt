use Rattle.std.proofs.Common.{rules, refl}
use Rattle.template_compiler_tree_parts.proofs.Chains.{passed_more, passed_within, chain_spine, filter_spine}
use Rattle.template_compiler_tree.specs.declared.expressions.Expr.{the_lemmas}
use Rattle.template_compiler_tree.specs.declared.expressions.Compare.{out-Compare}
use Rattle.template_compiler_tree.specs.declared.span.Spanned.{Spanned}
use Rattle.template_compiler_tree_parts.proofs.spines.spine.Goals as goal

pub loop-passed-preserved-in-Test : goal.loop-passed-preserved-in-Test
loop-passed-preserved-in-Test c = record {
  nodes = passed_more c.loop-passed.at.now c.deref-in-Test.result.now.node.expr c.loop-passed.passed.items c.push.new.self.items _ _
      refl c.in_ok-push.ensures.items (rw (c.in-Test.is, c.deref-in-Test.ensures) refl) c.loop-passed.invariant.nodes;
  depth = passed_within _ c.loop-passed.passed.items c.push.new.self.items _ c.in_ok-push.ensures.items c.loop-passed.invariant.here c.loop-passed.invariant.depth;
  here = search (rules, the_lemmas);
}

pub loop-passed-preserved-in-GetAttr : goal.loop-passed-preserved-in-GetAttr
loop-passed-preserved-in-GetAttr c = record {
  nodes = passed_more c.loop-passed.at.now c.deref-in-GetAttr.result.now.node.expr c.loop-passed.passed.items c.push.new.self.items _ _
      refl c.in_ok-push.ensures.items (rw (c.in-GetAttr.is, c.deref-in-GetAttr.ensures) refl) c.loop-passed.invariant.nodes;
  depth = passed_within _ c.loop-passed.passed.items c.push.new.self.items _ c.in_ok-push.ensures.items c.loop-passed.invariant.here c.loop-passed.invariant.depth;
  here = search (rules, the_lemmas);
}

pub loop-passed-preserved-in-GetItem : goal.loop-passed-preserved-in-GetItem
loop-passed-preserved-in-GetItem c = record {
  nodes = passed_more c.loop-passed.at.now c.deref-in-GetItem.result.now.node.expr c.loop-passed.passed.items c.push.new.self.items _ _
      refl c.in_ok-push.ensures.items (rw (c.in-GetItem.is, c.deref-in-GetItem.ensures) refl) c.loop-passed.invariant.nodes;
  depth = passed_within _ c.loop-passed.passed.items c.push.new.self.items _ c.in_ok-push.ensures.items c.loop-passed.invariant.here c.loop-passed.invariant.depth;
  here = search (rules, the_lemmas);
}

pub loop-passed-preserved : goal.loop-passed-preserved
loop-passed-preserved c = record {
  nodes = passed_more c.loop-passed.at.now c.deref-in-Call.result.now.node.expr c.loop-passed.passed.items c.push.new.self.items _ _
      refl c.in_ok-push.ensures.items (rw (c.in-Call.is, c.deref-in-Call.ensures) refl) c.loop-passed.invariant.nodes;
  depth = passed_within _ c.loop-passed.passed.items c.push.new.self.items _ c.in_ok-push.ensures.items c.loop-passed.invariant.here c.loop-passed.invariant.depth;
  here = search (rules, the_lemmas);
}

pub loop-passed-preserved-in-Compare : goal.loop-passed-preserved-in-Compare
loop-passed-preserved-in-Compare c = record {
  nodes = passed_more c.loop-passed.at.now (out-Compare c.deref-in-Compare.result.now.node).expr c.loop-passed.passed.items c.push.new.self.items _ _
      refl c.in_ok-push.ensures.items (rw (c.in-Compare.is, c.deref-in-Compare.ensures) (chain_spine c.in-Compare.n.value.node)) c.loop-passed.invariant.nodes;
  depth = passed_within _ c.loop-passed.passed.items c.push.new.self.items _ c.in_ok-push.ensures.items c.loop-passed.invariant.here c.loop-passed.invariant.depth;
  here = search (rules, the_lemmas);
}

pub loop-passed-preserved-in-Some : goal.loop-passed-preserved-in-Some
loop-passed-preserved-in-Some c = record {
  nodes = passed_more c.loop-passed.at.now c.in-Some.part c.loop-passed.passed.items c.push.new.self.items _ _
      refl c.in_ok-push.ensures.items (rw c.in-Filter.is (filter_spine c.in-Filter.n c.in-Some.part (rw c.deref-in-Filter.ensures at c.in-Some.is))) c.loop-passed.invariant.nodes;
  depth = passed_within _ c.loop-passed.passed.items c.push.new.self.items _ c.in_ok-push.ensures.items c.loop-passed.invariant.here c.loop-passed.invariant.depth;
  here = search (rules, the_lemmas);
}

pub loop-passed-preserved-in-Slice : goal.loop-passed-preserved-in-Slice
loop-passed-preserved-in-Slice c = record {
  nodes = passed_more c.loop-passed.at.now c.deref.result.now.node.expr c.loop-passed.passed.items c.push.new.self.items _ _
      refl c.in_ok-push.ensures.items (rw (c.in-Slice.is, c.deref.ensures) refl) c.loop-passed.invariant.nodes;
  depth = passed_within _ c.loop-passed.passed.items c.push.new.self.items _ c.in_ok-push.ensures.items c.loop-passed.invariant.here c.loop-passed.invariant.depth;
  here = search (rules, the_lemmas);
}

pub loop-passed-preserved-in-BinOp : goal.loop-passed-preserved-in-BinOp
loop-passed-preserved-in-BinOp c = record {
  nodes = passed_more c.loop-passed.at.now c.deref-in-BinOp.result.now.node.left c.loop-passed.passed.items c.push.new.self.items _ _
      refl c.in_ok-push.ensures.items (rw (c.in-BinOp.is, c.deref-in-BinOp.ensures) refl) c.loop-passed.invariant.nodes;
  depth = passed_within _ c.loop-passed.passed.items c.push.new.self.items _ c.in_ok-push.ensures.items c.loop-passed.invariant.here c.loop-passed.invariant.depth;
  here = search (rules, the_lemmas);
}
