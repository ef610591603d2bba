use Rattle.std.proofs.Common.{◌∙◌, true, string_bytes, bytes_eq}
use Rattle.std.specs.BTreeSet.{contains_text}
use Rattle.std.proofs.lemmas.Map.Text.{btree_set_updates_text}
use Rattle.template_compiler_names.proofs.Sets.{cond_or}
use Rattle.template_compiler_names.proofs.owned.add_text.Goals as goal

pub returns-clause-added : goal.returns-clause-added
returns-clause-added c = λ q.
    let bytes = string_bytes c.args.text in
    btree_set_updates_text bytes c.args.names.now c.insert.new.self true c.in_ok-insert.ensures.updates q ∙
    cond_or (bytes_eq bytes q) (contains_text c.args.names.now q)
