use Rattle.std.proofs.Common.{◌≡◌, ◌+◌, ◌<◌, ◌++◌, List, length, get_or, drop, sym, ap, subst, ◌∙◌, arith}
use Rattle.template_values_model.specs.Val.{Val}
use Rattle.template_values_core.specs.Shape.{pairs_in}
use Rattle.template_values_core.specs.declared.value.Entry.{Entry}
use Rattle.template_compiler_walk.specs.Containers.{pairs_with}
use Rattle.template_compiler_folding.proofs.Pairs.{one_pair}
use Rattle.template_compiler_folding.proofs.containers.entries_with.Goals as goal

pub loop-i-preserved : goal.loop-i-preserved
loop-i-preserved c =
    let ks = c.args.keys.now in
    let vs = c.args.values.now in
    let i = c.loop-i.i in
    let in_keys : i < length ks = omega arith in
    let in_values : i < length vs = omega arith in
    let key : c.in_ok-key.key ≡ get_or ks i c.in_ok-key.key =
    subst (λ (v : Val). v ≡ get_or ks i v) (sym c.in_ok-key.ensures.same) c.index-keys-i.is in
    let value : c.in_ok-value.value ≡ get_or vs i c.in_ok-value.value =
    subst (λ (v : Val). v ≡ get_or vs i v) (sym c.in_ok-value.ensures.same) c.index-values-i.is in
    let more = one_pair ks vs i c.in_ok-key.key c.in_ok-value.value c.loop-i.entries.items in_keys in_values key value in
    record {
      entries = ap (λ (es : List Entry). pairs_in es ++ pairs_with (drop (i + 1) ks) (drop (i + 1) vs)) c.in_ok-push.ensures.items ∙
          sym more ∙ c.loop-i.invariant.entries;
    }
