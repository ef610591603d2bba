use Rattle.std.proofs.Common.{◌≡◌, None}
use Rattle.std.proofs.lemmas.Map.Text.{btree_map_updates_text}
use Rattle.template_compiled.proofs.Updates.{holds_after, none_some}
use Rattle.template_compiled.proofs.templates.CompiledTemplates.remove.Goals as goal

pub invariant_of-self : goal.invariant_of-self
invariant_of-self c = record {
  named = holds_after (λ name t. t.name ≡ name) c.args.name.now c.args.self.now.by_name c.remove-removed.new.self None c.remove-removed.ensures.updates (λ name t at same. absurd (none_some at)) c.args.self.now.named;
}

pub returns : goal.returns
returns c = btree_map_updates_text c.args.name.now c.args.self.now.by_name c.remove-removed.new.self None c.remove-removed.ensures.updates
