use Rattle.std.proofs.Common.{◌≡◌, ◌∙◌, ap, List, ℕ, Some, cond, bytes_eq, string_bytes, rules}
use Rattle.std.proofs.lemmas.Map.Text.{btree_map_updates_text}
use Rattle.std.proofs.lemmas.Slice.Eq.{bytes_eq-Decides}
use Rattle.std.specs.BTreeMap.{get_by_text}
use Rattle.template_compiled.proofs.Updates.{holds_inserted}
use Rattle.template_compiled.proofs.templates.CompiledTemplates.insert.Goals as goal

pub invariant_of-self : goal.invariant_of-self
invariant_of-self c =
    let own : c.args.template.name ≡ string_bytes c.in_ok-name.name = search rules in
    record {
      named = holds_inserted (λ name t. t.name ≡ name) c.put_under.result c.in_ok-name.name c.args.template c.args.self.now.by_name c.put_under.new.standing
          c.put_under.ensures.stands c.put_under.ensures.unchanged (λ name yes. own ∙ (bytes_eq-Decides (string_bytes c.in_ok-name.name) name).0 yes) c.args.self.now.named;
    }

pub returns-clause-stands : goal.returns-clause-stands
returns-clause-stands c =
    let own : string_bytes c.in_ok-name.name ≡ c.args.template.name = search rules in λ name.
    btree_map_updates_text (string_bytes c.in_ok-name.name) c.args.self.now.by_name c.put_under.new.standing (Some c.args.template) c.in_ok-put_under.ensures.stands name
    ∙ ap (λ (bs : List ℕ). cond (bytes_eq bs name) (Some c.args.template) (get_by_text c.args.self.now.by_name name)) own
