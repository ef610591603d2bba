use Rattle.std.proofs.Common.{lit<, sym, ◌∙◌}
use Rattle.std.proofs.lemmas.Iterator.Consumers.{YieldsList-turn, YieldsList-end}
use Rattle.std.proofs.lemmas.Iterator.Splits.{YieldsList-from_str_split}
use Rattle.std.proofs.lemmas.List.{length_push}
use Rattle.std.proofs.lemmas.Result.{err_from_is_err_and}
use Rattle.template_builtins_paths.proofs.Steps.{tells_after_err, after_ok}
use Rattle.template_builtins_paths.proofs.Reached.{reached_turn, reached_ends, reached_goes, reached_all}
use Rattle.template_builtins_paths.proofs.parts.reached.Goals as goal

pub returns-then-is_undefined : goal.returns-then-is_undefined
returns-then-is_undefined c =
    let t = YieldsList-turn (YieldsList-from_str_split 46 c.args.path.now (lit< tt) (cc) (cc) (cc)) c.loop-part.yielded _ c.loop-part.yielded_by _ _ c.in-Some.part c.in-Some.is c.next.ensures.steps in
    c.loop-part.invariant ∙ reached_turn _ _ _ _ t ∙ reached_ends _ _ _ (sym c.is_undefined.ensures ∙ c.if-is_undefined.true)

pub returns-in_err-found-2 : goal.returns-in_err-found-2
returns-in_err-found-2 c =
    let t = YieldsList-turn (YieldsList-from_str_split 46 c.args.path.now (lit< tt) (cc) (cc) (cc)) c.loop-part.yielded _ c.loop-part.yielded_by _ _ c.in-Some.part c.in-Some.is c.next.ensures.steps in
    let e = c.loop-part.invariant ∙ reached_turn _ _ _ _ t ∙ reached_goes _ _ _ (sym c.is_undefined.ensures ∙ c.if-is_undefined.false) in
    let p = err_from_is_err_and c.from_residual-in_err-found-2.result c.from_residual-in_err-found-2.ensures.1 in
    rw (e, p.1, p.2) (tells_after_err _ _ _ c.in_err-found-2.ensures)

pub loop-part-preserved : goal.loop-part-preserved
loop-part-preserved c =
    let t = YieldsList-turn (YieldsList-from_str_split 46 c.args.path.now (lit< tt) (cc) (cc) (cc)) c.loop-part.yielded _ c.loop-part.yielded_by _ _ c.in-Some.part c.in-Some.is c.next.ensures.steps in
    let e = c.loop-part.invariant ∙ reached_turn _ _ _ _ t ∙ reached_goes _ _ _ (sym c.is_undefined.ensures ∙ c.if-is_undefined.false) ∙ after_ok _ _ _ c.in_ok-found-2.ensures in
    let n = length_push c.loop-part.yielded c.in-Some.part in
    rw n e

pub returns : goal.returns
returns c =
    let t = YieldsList-end (YieldsList-from_str_split 46 c.args.path.now (lit< tt) (cc) (cc) (cc)) c.loop-part.yielded _ c.loop-part.yielded_by _ _ c.in-None.is c.next.ensures.steps in
    c.loop-part.invariant ∙ reached_all _ _ _ t.1
