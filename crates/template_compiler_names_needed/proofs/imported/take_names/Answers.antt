use Rattle.std.proofs.Common.{◌||◌, arith}
use Rattle.template_compiler_names.specs.Among.{is_among}
use Rattle.template_compiler_names_needed.proofs.Taking.{import_item, imports_done, names_of}
use Rattle.template_compiler_names_needed.proofs.imported.take_names.Goals as goal

pub loop-import-preserved : goal.loop-import-preserved
loop-import-preserved c =
    import_item c.loop-import.names.items c.take_name.new.names.items (λ q. is_among c.args.names.now.items q || names_of c.args.imports.now q) c.args.imports.now
    c.loop-import.import-index c.import-item.result (omega arith) c.import-item.is c.in_ok-take_name.ensures c.loop-import.invariant

pub returns : goal.returns
returns c =
    imports_done c.loop-import.names.items (λ q. is_among c.args.names.now.items q || names_of c.args.imports.now q) c.args.imports.now c.loop-import.import-index
    c.loop-import-test.false c.loop-import.invariant
