use Rattle.std.proofs.Common.{◌≡◌, [], Ok, drop, string_bytes}
use denote.Shadow.{shadow}
use denote.Text.{Utf8}
use Rattle.template_callables.specs.Views.{seen_in}
use Rattle.template_values_core.specs.Maps.{pairs_of}
use Rattle.template_values_core.specs.Shape.{pairs_in}
use Rattle.template_builtins_web.specs.Pieces.{followed}
use Rattle.template_builtins_web.specs.Queries.{members_text}
use Rattle.template_builtins_web.proofs.queries.members_text.Given as goal

-- what is written so far stands before what is left
abbrev pub invariant-loop-entry : goal.invariant-loop-entry
invariant-loop-entry l = record {
  text : shadow (Utf8 l.before);
  rest : members_text (seen_in l.view) [] (pairs_of (pairs_in l.entries))
      ≡ followed (Ok (string_bytes l.text)) (members_text (seen_in l.view) l.before (pairs_of (pairs_in (drop l.entry-index l.entries))));
}
