use Rattle.std.proofs.Common.{◌≡◌, [], Ok, drop, string_bytes}
use denote.Shadow.{shadow}
use denote.Text.{Utf8}
use Rattle.template_callables.specs.Views.{seen_in}
use Rattle.template_values_model.specs.Val.{vals_of}
use Rattle.template_builtins_web.specs.Pieces.{followed}
use Rattle.template_builtins_web.specs.Queries.{items_text}
use Rattle.template_builtins_web.proofs.queries.items_text.Given as goal

-- what is written so far stands before what is left
abbrev pub invariant-loop-item : goal.invariant-loop-item
invariant-loop-item l = record {
  text : shadow (Utf8 l.before);
  rest : items_text (seen_in l.view) [] (vals_of l.items)
      ≡ followed (Ok (string_bytes l.text)) (items_text (seen_in l.view) l.before (vals_of (drop l.item-index l.items)));
}
