use Rattle.std.proofs.Common.{◌≡◌, ◌∙◌, ap, List, ℕ, Some, cond, bytes_eq, string_bytes}
use Rattle.std.specs.BTreeMap.{get_by_text}
use Rattle.std.proofs.lemmas.Map.Text.{btree_map_updates_text}
use Rattle.template_machine_environment.proofs.extensions.put.Goals as goal

pub returns-clause-stands : goal.returns-clause-stands
returns-clause-stands g c = λ other.
    let own : string_bytes c.in_ok-owned.owned ≡ c.args.name.now = c.in_ok-owned.ensures.ok in
    btree_map_updates_text (string_bytes c.in_ok-owned.owned) c.args.standing.now c.put_under.new.standing (Some c.args.given) c.in_ok-put_under.ensures.stands other
    ∙ ap (λ (bs : List ℕ). cond (bytes_eq bs other) (Some c.args.given) (get_by_text c.args.standing.now other)) own
