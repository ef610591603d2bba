use Rattle.std.proofs.Common.{◌≡◌, ◌+◌, ◌-◌, ◌<◌, length, drop, sym, subst, arith}
use Rattle.template_compiler_tree_statements.specs.View.{imports_in}
use Rattle.template_compiler_walk.specs.Runnable.{IsTarget}
use Rattle.template_compiler_emission.specs.Puts.{Puts}
use Rattle.template_compiler_statement_codegen.specs.Imports.{stores_code}
use Rattle.template_compiler_statement_codegen.proofs.Importing.{name_at, stores_none, stores_one}
use Rattle.template_compiler_statement_codegen.proofs.imports.store_names.Goals as goal

pub store-requires : goal.store-requires
store-requires c =
    let ns = c.args.names.now in
    let i = c.loop-left.left - 1 in
    let within : i < length ns = omega (arith, c.loop-left.invariant.within) in
    subst (λ e. IsTarget e) (sym c.stored_as.ensures) (name_at ns i c.index-names-left.result c.requires within c.index-names-left.is).1

pub loop-left-init : goal.loop-left-init
loop-left-init c = record {
  within = omega arith;
  put = stores_none c.args.names.now (length c.args.names.now) c.args.code.now (omega arith);
}

pub loop-left-preserved : goal.loop-left-preserved
loop-left-preserved c =
    let ns = c.args.names.now in
    let i = c.loop-left.left - 1 in
    let more : c.loop-left.left ≡ i + 1 = omega arith in
    let within : i < length ns = omega (arith, c.loop-left.invariant.within) in
    record {
      within = omega (arith, within);
      put = stores_one ns i c.index-names-left.result c.stored_as.result.now within c.index-names-left.is c.stored_as.ensures
          (subst (λ n. Puts (stores_code (imports_in (drop n ns))) c.args.code.now c.loop-left.code) more c.loop-left.invariant.put) c.in_ok-store.ensures.put;
    }

pub returns-clause-put : goal.returns-clause-put
returns-clause-put c =
    let none : c.loop-left.left ≡ 0 = omega arith in
    subst (λ n. Puts (stores_code (imports_in (drop n c.args.names.now))) c.args.code.now c.loop-left.code) none c.loop-left.invariant.put
