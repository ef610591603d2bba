use Rattle.std.proofs.Common.{List, ℕ, ◌++◌, string_bytes, sym, ap, ◌∙◌, arith}
use Rattle.std.proofs.lemmas.Result.{err_from_is_err_and}
use Rattle.template_callables.specs.Views.{seen_in}
use Rattle.template_builtins_fields.specs.Formats.{seen}
use Rattle.template_builtins_fields.proofs.Filling.{all_left, none_left, one_part, part_fails}
use Rattle.template_builtins_fields.proofs.formats.filled.Goals as goal

pub loop-before-init : goal.loop-before-init
loop-before-init c = (c.utf8.text, all_left _ _ _ _ _ c.new-out.ensures.bytes c.new-numbering.ensures)

pub returns-in_err-part : goal.returns-in_err-part
returns-in_err-part c =
    let p = err_from_is_err_and c.from_residual.result c.from_residual.ensures.1 in
    rw (p.1, p.2)
    (part_fails (seen_in c.args.view.now) c.args.arguments.now c.args.text.now (string_bytes c.loop-before.out) c.loop-before.numbering
    c.loop-before.rest.now c.in-Some.before.now c.in-Some.behind.now _ (sym c.in-Some.ensures.parts) c.in-Some.ensures.less c.in_err-part.ensures.part
    c.loop-before.invariant.1)

pub loop-before-preserved : goal.loop-before-preserved
loop-before-preserved c = (
  c.in_ok-part.ensures.rest,
  one_part (seen_in c.args.view.now) c.args.arguments.now c.args.text.now (string_bytes c.loop-before.out) (string_bytes c.push_str.new.self)
      c.loop-before.numbering c.loop-before.rest.now c.in-Some.before.now c.in-Some.behind.now (seen c.in_ok-part.part) (sym c.in-Some.ensures.parts)
      c.in_ok-part.ensures.part
      (c.in_ok-push_str.ensures.bytes ∙ ap (λ (x : List ℕ). string_bytes c.loop-before.out ++ x) c.as_str.ensures.value)
      (omega (arith, c.in_ok-part.ensures.less, c.in-Some.ensures.less))
      c.loop-before.invariant.1,
)

pub returns : goal.returns
returns c =
    rw (none_left (seen_in c.args.view.now) c.args.arguments.now c.args.text.now (string_bytes c.loop-before.out) c.loop-before.numbering
    c.loop-before.rest.now (sym c.in_default.ensures.parts) c.loop-before.invariant.1)
    c.with_rest.ensures
