-- Templates that are imported: their code, as it is put.
use Rattle.std.specs.Prelude.{true, false}
use Rattle.template_compiler_tree.specs.Tree.{Expression, Imports}
use Rattle.template_compiler_walk.specs.Statements.{imported_names}
use Rattle.template_compiler_code.specs.Code.{begin_capture, discard_top, end_capture, export_locals, include, pop_frame, push_with}
use Rattle.template_compiler_codegen.specs.Core.{no_ways, flat}
use Rattle.template_compiler_codegen.specs.Expressions.{Coded, one, then_code, expression_code, expressions_code}
use Rattle.template_compiler_codegen.specs.Statements.{imports_core, target_code}

-- a template that runs in a frame of its own
abbrev pub apart_code : Expression → Coded
apart_code e = then_code (one push_with) (then_code (expression_code e) (one (include false)))

-- its module, which is stored
abbrev pub import_code : Expression → Expression → Coded
import_code e target =
    then_code (one (begin_capture true)) (then_code (apart_code e) (then_code (one end_capture) (then_code (one export_locals)
    (then_code (one pop_frame) (target_code target)))))

-- where imported names are stored
abbrev pub stores_code : Imports → Coded
stores_code names = flat no_ways (imports_core names)

-- some of its names, which are stored
abbrev pub from_import_code : Expression → Imports → Coded
from_import_code e names =
    then_code (one (begin_capture false)) (then_code (apart_code e) (then_code (expressions_code (imported_names names))
    (then_code (one pop_frame) (then_code (stores_code names) (then_code (one end_capture) (one discard_top))))))
