use Rattle.std.proofs.Common.{rules, ◌≡◌, ◌∙◌, ap, ℕ, List, map, ◌++◌, ◌||◌, is_some, IsTrue, bytes_eq}
use Rattle.std.specs.Map.Iter.{deref_pair}
use Rattle.std.specs.BTreeSet.{contains_text}
use Rattle.std.proofs.lemmas.Map.Iter.{iter_end, rest_so_far}
use Rattle.template_values_named.proofs.Listing.{has_name, more_named, name_found, some_kept, some_named}
use Rattle.template_values_named.proofs.Naming.{on_err}
use Rattle.template_values_named.specs.Named.{local_at, pairs_named}
use Rattle.template_values_named.proofs.parts.add_names.Goals as goal

-- one more
pub loop-name-preserved : goal.loop-name-preserved
loop-name-preserved c = λ q.
    more_named q c.loop-name.yielded (c.in-Some.name, c.in-Some._value) _ _ _ (c.loop-name.invariant q)
    (c.in_ok-add_name.ensures.added q ∙ ap (λ bs. contains_text c.loop-name.names q || bytes_eq bs q) c.as_str.ensures.value)

-- all of them
pub returns-clause-added : goal.returns-clause-added
returns-clause-added c = λ q.
    let all : map deref_pair c.loop-name.yielded ≡ c.args.named.now.entries = search (rules, iter_end) in
    let before = contains_text c.args.names.now q in
    c.loop-name.invariant q ∙ ap (λ es. before || has_name q (pairs_named es)) all ∙ ap (λ b. before || b) (name_found q (pairs_named c.args.named.now.entries))

-- those so far, where one more is refused
pub returns-in_err-add_name-clause-kept : goal.returns-in_err-add_name-clause-kept
returns-in_err-add_name-clause-kept c =
    on_err ((q : List ℕ) → IsTrue (contains_text c.args.names.now q) → IsTrue (contains_text c.add_name.new.names q)) c.from_residual.result
    (λ q. some_kept _ _ _ (c.in_err-add_name.ensures.unchanged q ∙ c.loop-name.invariant q))

pub returns-in_err-add_name-clause-others : goal.returns-in_err-add_name-clause-others
returns-in_err-add_name-clause-others c =
    let all : c.args.named.now.entries ≡ map deref_pair c.loop-name.yielded ++ c.loop-name.name-iterator = search (rules, rest_so_far) in
    on_err ((q : List ℕ) → IsTrue (contains_text c.add_name.new.names q)
    → IsTrue (contains_text c.args.names.now q || is_some (local_at q (pairs_named c.args.named.now.entries)))) c.from_residual.result
    (λ q. some_named q c.loop-name.yielded c.args.named.now.entries c.loop-name.name-iterator _ _ all
    (c.in_err-add_name.ensures.unchanged q ∙ c.loop-name.invariant q))
