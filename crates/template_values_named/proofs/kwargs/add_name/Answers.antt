use Rattle.std.proofs.Common.{◌≡◌, ◌∙◌, ap, Bool, true, false, cond, ◌||◌, refl, string_bytes, bytes_eq}
use Rattle.std.specs.BTreeSet.{contains_text}
use Rattle.std.proofs.lemmas.Map.Text.{btree_set_updates_text}
use Rattle.template_values_named.proofs.kwargs.add_name.Goals as goal

cond_or : (test before : Bool) → cond test true before ≡ (before || test)
cond_or true true = refl
cond_or true false = refl
cond_or false true = refl
cond_or false false = refl

pub returns-clause-added : goal.returns-clause-added
returns-clause-added c = λ q.
    let key = c.in_ok-from_str.field-0 in
    let updated = btree_set_updates_text (string_bytes key) c.args.names.now c.insert.new.self true c.in_ok-insert.ensures.updates q in
    let same : string_bytes key ≡ c.args.name.now = c.in_ok-from_str.ensures.ok in
    updated ∙ cond_or (bytes_eq (string_bytes key) q) (contains_text c.args.names.now q)
    ∙ ap (λ bs. contains_text c.args.names.now q || bytes_eq bs q) same
