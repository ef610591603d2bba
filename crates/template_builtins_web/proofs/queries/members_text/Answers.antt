use Rattle.std.proofs.Common.{◌+◌, [], ap, arith, string_bytes, ◌∙◌}
use Rattle.std.proofs.lemmas.Result.{err_from_is_err_and}
use Rattle.template_callables.specs.Views.{seen_in}
use Rattle.template_values_core.specs.Maps.{pairs_of}
use Rattle.template_values_core.specs.Shape.{pairs_in}
use Rattle.template_values_print.proofs.PieceLemmas.{IsUtf8-nil}
use Rattle.template_values_print.proofs.PrintLemmas.{pairs_none}
use Rattle.template_builtins_web.specs.Queries.{members_text}
use Rattle.template_builtins_web.proofs.Following.{ampersand_is_text, ends, members_fail, members_go, starts}
use Rattle.template_builtins_web.proofs.queries.members_text.Goals as goal

pub loop-entry-init : goal.loop-entry-init
loop-entry-init c = record {
  text = IsUtf8-nil;
  rest = starts (string_bytes c.new-text.result) (members_text (seen_in c.args.view.now) [] (pairs_of (pairs_in c.args.entries.now))) c.new-text.ensures.bytes;
}

pub loop-entry-preserved : goal.loop-entry-preserved
loop-entry-preserved c =
    record {
      text = ampersand_is_text;
      rest =
          c.loop-entry.invariant.rest
          ∙ members_go (seen_in c.args.view.now) c.loop-entry.before.now c.args.entries.now c.loop-entry.entry-index (c.loop-entry.entry-index + 1) c.entry-item.result (string_bytes c.loop-entry.text) (string_bytes c.in_ok-text.text) (omega arith) (omega arith) c.entry-item.is c.in_ok-text.ensures;
    }

pub returns-in_err-text : goal.returns-in_err-text
returns-in_err-text c =
    let p = err_from_is_err_and c.from_residual.result c.from_residual.ensures.1 in
    rw (c.loop-entry.invariant.rest, p.1, p.2)
    (members_fail (seen_in c.args.view.now) c.loop-entry.before.now c.args.entries.now c.loop-entry.entry-index c.entry-item.result (string_bytes c.loop-entry.text) _ (omega arith) c.entry-item.is c.in_err-text.ensures)

pub returns : goal.returns
returns c =
    c.loop-entry.invariant.rest
    ∙ ends (string_bytes c.loop-entry.text) _ (ap (members_text (seen_in c.args.view.now) c.loop-entry.before.now) (pairs_none c.args.entries.now c.loop-entry.entry-index (omega arith)))
