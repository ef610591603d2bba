use Rattle.std.proofs.Common.{◌≡◌, drop}
use Rattle.std.specs.Option.{option_or}
use Rattle.template_values_core.specs.Maps.{last_at}
use Rattle.template_values_core.specs.Shape.{pairs_in}
use Rattle.template_values_json.specs.Entries.{ArePlain}
use Rattle.template_program_contexts.proofs.EachValue.{given_under, given_fault}
use Rattle.template_program_contexts.proofs.Saying.{LeftSay}
use Rattle.template_program_contexts.proofs.contexts.with_values.Given as goal

-- the values that are left, and else the entries so far, say what all values over the first entries do; and they are refused as all are
abbrev pub invariant-loop-name : goal.invariant-loop-name
invariant-loop-name l = record {
  fault : given_fault l.floats (drop l.name-index l.values) ≡ given_fault l.floats l.values;
  say : LeftSay (given_under l.floats (drop l.name-index l.values)) l.entries.items
      (λ name. option_or (given_under l.floats l.values name) (last_at name (pairs_in l.fn.entries.items)));
  plain : ArePlain l.fn.entries.items → ArePlain l.entries.items;
}
