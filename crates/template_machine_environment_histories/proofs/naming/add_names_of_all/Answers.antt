use Rattle.std.proofs.Common.{rules, ◌≡◌, ℕ, List, ◌∷◌, ◌++◌, ◌⊎◌, IsTrue, map}
use Rattle.std.specs.BTreeMap as tree
use Rattle.std.specs.Map.Iter.{deref_pair}
use Rattle.std.specs.BTreeSet.{contains_text}
use Rattle.std.specs.String.{string_cmp}
use Rattle.std.proofs.lemmas.Map.Iter.{iter_end, rest_more, rest_so_far}
use Rattle.template_machine_environment_histories.specs.Using.{IsUsedByOne}
use Rattle.template_machine_environment_histories.proofs.Using.{all_used, more_used, on_err, some_used}
use Rattle.template_machine_environment_histories.proofs.naming.add_names_of_all.Goals as goal

-- one more
pub loop-name-preserved : goal.loop-name-preserved
loop-name-preserved g c = λ q.
    more_used (λ e. g.T.UsesNames.uses e.1.now q) c.loop-name.yielded (c.in-Some._name, c.in-Some.one) _ _ _ (c.loop-name.invariant q) (c.in_ok-add_names.ensures.added q)

-- all of them
pub returns-clause-added : goal.returns-clause-added
returns-clause-added g c = λ name.
    let all : map deref_pair c.loop-name.yielded ≡ c.args.standing.now.entries = search (rules, iter_end) in
    let ordered : tree.IsOrdered string_cmp c.args.standing.now = search rules in
    all_used g.T.UsesNames.uses c.args.standing.now c.loop-name.yielded name _ _ ordered all (c.loop-name.invariant name)

-- some of those of one more
pub returns-in_err-add_names-clause-others : goal.returns-in_err-add_names-clause-others
returns-in_err-add_names-clause-others g c =
    let next = deref_pair (c.in-Some._name, c.in-Some.one) in
    let all : c.args.standing.now.entries ≡ map deref_pair c.loop-name.yielded ++ next ∷ c.next.new.self = search (rules, rest_so_far, rest_more) in
    let ordered : tree.IsOrdered string_cmp c.args.standing.now = search rules in
    on_err ((name : List ℕ) → IsTrue (contains_text c.add_names.new.names name) → IsTrue (contains_text c.args.names.now name) ⊎ IsUsedByOne g.T.UsesNames.uses c.args.standing.now name)
    c.from_residual.result (λ name h. some_used g.T.UsesNames.uses c.args.standing.now c.loop-name.yielded next c.next.new.self name _ _ ordered all (c.loop-name.invariant name)
    (c.in_err-add_names.ensures.others name h))
