use Rattle.std.proofs.Common.{◌+◌, [], ap, arith, string_bytes, ◌∙◌}
use Rattle.std.proofs.lemmas.Result.{err_from_is_err_and}
use Rattle.template_callables.specs.Views.{seen_in}
use Rattle.template_values_model.specs.Val.{vals_of}
use Rattle.template_values_print.proofs.PieceLemmas.{IsUtf8-nil}
use Rattle.template_values_print.proofs.PrintLemmas.{vals_none}
use Rattle.template_builtins_web.specs.Queries.{items_text}
use Rattle.template_builtins_web.proofs.Following.{ampersand_is_text, ends, items_fail, items_go, starts}
use Rattle.template_builtins_web.proofs.queries.items_text.Goals as goal

pub loop-item-init : goal.loop-item-init
loop-item-init c = record {
  text = IsUtf8-nil;
  rest = starts (string_bytes c.new-text.result) (items_text (seen_in c.args.view.now) [] (vals_of c.args.items.now)) c.new-text.ensures.bytes;
}

pub loop-item-preserved : goal.loop-item-preserved
loop-item-preserved c =
    record {
      text = ampersand_is_text;
      rest =
          c.loop-item.invariant.rest
          ∙ items_go (seen_in c.args.view.now) c.loop-item.before.now c.args.items.now c.loop-item.item-index (c.loop-item.item-index + 1) c.item-item.result (string_bytes c.loop-item.text) (string_bytes c.in_ok-text.text) (omega arith) (omega arith) c.item-item.is c.in_ok-text.ensures;
    }

pub returns-in_err-text : goal.returns-in_err-text
returns-in_err-text c =
    let p = err_from_is_err_and c.from_residual.result c.from_residual.ensures.1 in
    rw (c.loop-item.invariant.rest, p.1, p.2)
    (items_fail (seen_in c.args.view.now) c.loop-item.before.now c.args.items.now c.loop-item.item-index c.item-item.result (string_bytes c.loop-item.text) _ (omega arith) c.item-item.is c.in_err-text.ensures)

pub returns : goal.returns
returns c =
    c.loop-item.invariant.rest
    ∙ ends (string_bytes c.loop-item.text) _ (ap (items_text (seen_in c.args.view.now) c.loop-item.before.now) (vals_none c.args.items.now c.loop-item.item-index (omega arith)))
