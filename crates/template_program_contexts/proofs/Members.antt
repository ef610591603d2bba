-- Entries of the members of JSON whose numbers are kept as they are spelled.
use Rattle.std.proofs.Common.{◌≡◌, ◌<◌, List, [], ◌∷◌, Some, sym, ap, ◌∙◌, arith}
use Rattle.json.specs.Json.{Members, no_members, member, object}
use Rattle.json.specs.Tree.{members_depth}
use Rattle.template_values_model.specs.Val.{Val, text}
use Rattle.template_values_core.specs.Depth.{depth}
use Rattle.template_values_core.specs.Maps.{last_at}
use Rattle.template_values_core.specs.Shape.{pairs_in}
use Rattle.template_values_core.specs.declared.value.Entry.{Entry}
use Rattle.template_values_core.proofs.LastGiven.{entry_at-collected}
use Rattle.template_values_json.specs.Entries.{ArePlain}
use Rattle.template_values_json.specs.Spelled.{spelled_pairs, spelled_value}
use Rattle.template_values_json.proofs.ContextLevels.{depth-spelled_value}
use Rattle.template_program_contexts.specs.Documents.{spelled_member}
use Rattle.template_program_contexts.specs.Entries.{Say}

same_pair : (p q : Val × Val) (ps qs : List (Val × Val)) → p ∷ ps ≡ q ∷ qs → p ≡ q
same_pair p q ps qs are = cc

same_later : (p q : Val × Val) (ps qs : List (Val × Val)) → p ∷ ps ≡ q ∷ qs → ps ≡ qs
same_later p q ps qs are = cc

pub plain_spelled : (ms : Members) (es : List Entry) → pairs_in es ≡ spelled_pairs ms → members_depth ms < 500 → ArePlain es
plain_spelled ms [] are shallow = tt
plain_spelled no_members (e ∷ es) are shallow = absurd (cc)
plain_spelled (member name j later) (e ∷ es) are shallow =
    let pair : (e.key, e.value) ≡ (text name, spelled_value j) = same_pair _ _ _ _ are in (
      (name, ap (λ (p : Val × Val). p.0) pair),
      omega (arith, ap (λ (p : Val × Val). depth p.1) pair, depth-spelled_value j),
      plain_spelled later es (same_later _ _ _ _ are) (omega arith),
    )

-- the last one with a name is what the map of them has under it
pub spelled_said : (ms : Members) (es : List Entry) → pairs_in es ≡ spelled_pairs ms → Say (spelled_member (Some (object ms))) es
spelled_said ms es are = λ name. ap (last_at name) are ∙ sym (entry_at-collected name (spelled_pairs ms))
