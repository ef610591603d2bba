use Rattle.std.proofs.Common.{List, sym, subst}
use Rattle.std.proofs.lemmas.Result.{on_ok_weaker}
use Rattle.template_compiler_tree_statements.specs.View.{imports_in}
use Rattle.template_compiler_walk.specs.Runnable.{AreImports}
use Rattle.template_compiler_emission.specs.Puts.{Puts}
use Rattle.template_compiler_emission.proofs.Putting.{puts_then}
use Rattle.template_compiler_statement_codegen.specs.Imports.{stores_code}
use Rattle.template_compiler_statement_codegen.proofs.Importing.{Named, named_code}
use Rattle.template_compiler_statement_codegen.proofs.imports.compile_from_import.Goals as goal

pub look_up_names-requires : goal.look_up_names-requires
look_up_names-requires c = subst (λ (ns : List Named). AreImports (imports_in ns)) (sym c.deref.ensures.value) c.requires.names

pub store_names-requires : goal.store_names-requires
store_names-requires c = subst (λ (ns : List Named). AreImports (imports_in ns)) (sym c.deref-2.ensures.value) c.requires.names

pub returns-clause-put : goal.returns-clause-put
returns-clause-put c =
    let looked = subst (λ (ns : List Named). Puts (named_code ns) c.compile_apart.new.code c.look_up_names.new.code) c.deref.ensures.value c.in_ok-look_up_names.ensures.put in
    let stored = subst (λ (ns : List Named). Puts (stores_code (imports_in ns)) c.put-2.new.code c.store_names.new.code) c.deref-2.ensures.value c.in_ok-store_names.ensures.put in
    on_ok_weaker c.put-4.result (λ last.
    puts_then c.in_ok-put.ensures.put (puts_then c.in_ok-compile_apart.ensures.put (puts_then looked
    (puts_then c.in_ok-put-2.ensures.put (puts_then stored (puts_then c.in_ok-put-3.ensures.put last)))))) c.put-4.ensures.put
