use Rattle.std.proofs.Common.{rules, ◌≡◌, ◌∙◌, ap, map}
use Rattle.std.specs.BTreeMap as tree
use Rattle.std.specs.Map.Iter.{deref_pair}
use Rattle.std.specs.String.{string_cmp}
use Rattle.std.proofs.lemmas.Map.Iter.{iter_end}
use Rattle.template_values_named.proofs.Listing.{entries_ascend}
use Rattle.template_values_named.specs.Named.{pairs_named}
use Rattle.template_values_named.proofs.parts.entries_of.Goals as goal

-- the names ascend as the map's keys do
pub returns-clause-ordered : goal.returns-clause-ordered
returns-clause-ordered c =
    let all : map deref_pair c.loop-name.yielded ≡ c.args.named.now.entries = search (rules, iter_end) in
    let ordered : tree.IsOrdered string_cmp c.args.named.now = search rules in
    entries_ascend c.loop-name.entries.items c.args.named.now ordered (c.loop-name.invariant ∙ ap pairs_named all)
