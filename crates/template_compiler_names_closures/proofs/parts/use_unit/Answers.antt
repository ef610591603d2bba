use Rattle.std.proofs.Common.{ap, sym, ◌∙◌, List}
use Rattle.template_compiler_tree_statements.specs.declared.statements.Stmt.{Stmt}
use Rattle.template_compiler_tree_parts.specs.Listed.{statements_in}
use Rattle.template_compiler_names.specs.Names.{place_within}
use Rattle.template_compiler_names.proofs.Laws.{uses_on}
use Rattle.template_compiler_names_closures.specs.Units.{part_of, place_in_part}
use Rattle.template_compiler_names_closures.specs.declared.parts.Unit.{Unit}
use Rattle.template_compiler_names_closures.proofs.parts.use_unit.Goals as goal

pub returns-in-Template : goal.returns-in-Template
returns-in-Template c =
    uses_on c.args.names.now c.use_region.new.names c.use_region.result
    (λ q.
    ap (λ (ss : List Stmt). place_within q (statements_in ss)) c.deref.ensures.value ∙
    ap (λ (u : Unit). place_in_part q (part_of u)) (sym c.in-Template.is)) c.use_region.ensures

pub returns-in-Block : goal.returns-in-Block
returns-in-Block c =
    uses_on c.args.names.now c.use_region-in-Block.new.names c.use_region-in-Block.result
    (λ q.
    ap (λ (ss : List Stmt). place_within q (statements_in ss)) c.deref-in-Block.ensures.value ∙
    ap (λ (u : Unit). place_in_part q (part_of u)) (sym c.in-Block.is)) c.use_region-in-Block.ensures

pub returns-in-Loop : goal.returns-in-Loop
returns-in-Loop c =
    uses_on c.args.names.now c.use_rounds.new.names c.use_rounds.result
    (λ q. ap (λ (u : Unit). place_in_part q (part_of u)) (sym c.in-Loop.is)) c.use_rounds.ensures
