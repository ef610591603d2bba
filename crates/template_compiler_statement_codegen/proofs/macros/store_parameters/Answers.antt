use Rattle.std.proofs.Common.{◌≡◌, ◌+◌, ◌-◌, ◌<◌, ℕ, List, length, take, ap, subst, sym, ◌∙◌, arith}
use Rattle.std.proofs.lemmas.List.{take_all}
use Rattle.template_compiler_tree.specs.View.{expression_of}
use Rattle.template_compiler_tree.specs.declared.expressions.Expr.{Expr}
use Rattle.template_compiler_statement_codegen.specs.Macros.{backwards}
use Rattle.template_compiler_statement_codegen.proofs.Declaring.{Stores, backwards_more, fewer_defaults, stores_all, stores_end, stores_next, target_at}
use Rattle.template_compiler_statement_codegen.proofs.macros.store_parameters.Goals as goal

pub loop-left-init : goal.loop-left-init
loop-left-init c =
    let es = c.args.arguments.now in
    let ds = c.args.defaults.now in
    let code = c.args.code.now in
    record {
      within = omega arith;
      given = omega arith;
      stores = subst (λ (l : List Expr). Stores (backwards es) (backwards ds) (backwards l) (backwards (take (length ds) ds)) code code) (sym (take_all (length es) es (omega arith)))
          (subst (λ (l : List Expr). Stores (backwards es) (backwards ds) (backwards es) (backwards l) code code) (sym (take_all (length ds) ds (omega arith)))
          (stores_all (backwards es) (backwards ds) code));
    }

pub put_last_default-requires : goal.put_last_default-requires
put_last_default-requires c = record { given = c.loop-left.invariant.given; run = c.requires.defaults }

pub store-requires : goal.store-requires
store-requires c =
    let es = c.args.arguments.now in
    let i = c.loop-left.left - 1 in
    let within : i < length es = omega (arith, c.loop-left.invariant.within) in
    target_at es i c.index-arguments-left.result c.requires.arguments within c.index-arguments-left.is

pub loop-left-preserved : goal.loop-left-preserved
loop-left-preserved c =
    let es = c.args.arguments.now in
    let ds = c.args.defaults.now in
    let i = c.loop-left.left - 1 in
    let e = c.index-arguments-left.result in
    let more : c.loop-left.left ≡ i + 1 = omega arith in
    let within : i < length es = omega (arith, c.loop-left.invariant.within) in
    let fewer : c.saturating_sub-given.result ≡ c.loop-left.given - 1 = c.saturating_sub-given.ensures in
    record {
      within = omega (arith, within);
      given = omega (arith, fewer, c.loop-left.invariant.given);
      stores = stores_next (expression_of e) (ap (λ (n : ℕ). backwards (take n es)) more ∙ backwards_more es i e within c.index-arguments-left.is)
          (fewer_defaults ds c.loop-left.given c.saturating_sub-given.result c.loop-left.invariant.given fewer) c.loop-left.invariant.stores
          c.in_ok-put_last_default.ensures.put c.in_ok-store.ensures.put;
    }

pub returns-clause-put : goal.returns-clause-put
returns-clause-put c =
    let none : c.loop-left.left ≡ 0 = omega arith in
    stores_end (ap (λ (n : ℕ). backwards (take n c.args.arguments.now)) none) c.loop-left.invariant.stores
