use Rattle.std.proofs.Common.{drop}
use Rattle.std.specs.Option.{option_or}
use Rattle.template_values_core.specs.Maps.{last_at}
use Rattle.template_values_core.specs.Shape.{pairs_in}
use Rattle.template_values_json.specs.Entries.{ArePlain}
use Rattle.template_program_contexts.proofs.EachDefinition.{texts_under}
use Rattle.template_program_contexts.proofs.Saying.{LeftSay}
use Rattle.template_program_contexts.proofs.contexts.with_definitions.Given as goal

-- the definitions that are left, and else the entries so far, say what all definitions over the first entries do
abbrev pub invariant-loop-name : goal.invariant-loop-name
invariant-loop-name l = record {
  say : LeftSay (texts_under (drop l.name-index l.definitions)) l.entries.items
      (λ name. option_or (texts_under l.definitions name) (last_at name (pairs_in l.fn.entries.items)));
  plain : ArePlain l.fn.entries.items → ArePlain l.entries.items;
}
