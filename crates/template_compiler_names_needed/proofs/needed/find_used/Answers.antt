use Rattle.std.proofs.Common.{◌<◌, ◌≤◌, List, Bor, length, arith, refl, ap}
use Rattle.template_compiler_tree_parts.specs.Listed.{statements_in}
use Rattle.template_compiler_tree_statements.specs.declared.statements.Block.{Block}
use Rattle.template_compiler_tree_statements.specs.declared.statements.Stmt.{Stmt}
use Rattle.template_compiler_names.specs.Names.{place_within}
use Rattle.template_compiler_names.proofs.Laws.{uses_as, uses_end, uses_item}
use Rattle.template_compiler_names_closures.specs.Units.{part_of, place_in_rounds}
use Rattle.template_compiler_names_closures.specs.declared.parts.Unit.{Unit}
use Rattle.template_compiler_names_needed.specs.Needed.{is_used_by_one, place_in_blocks, place_in_loops}
use Rattle.template_compiler_names_needed.proofs.Telling.{found_as, told_needed}
use Rattle.template_compiler_names_needed.proofs.needed.find_used.Goals as goal

pub loop-i-preserved : goal.loop-i-preserved
loop-i-preserved c =
    let nodes = c.in_ok-nodes.nodes.items in
    let counted = c.len-i-end.ensures in
    let within : c.loop-i.i < length nodes = omega (arith, counted, c.in_ok-nodes.nodes.ok.0) in
    let step = uses_as (λ p. ap (λ (ss : List Stmt). place_within p (statements_in ss)) c.deref.ensures.value) c.in_ok-use_region-2.ensures in
    uses_item (λ (b : Bor Block) p. place_within p (statements_in b.now.body.items)) (λ (bs : List (Bor Block)) p. place_in_blocks p bs) (λ b bs p. refl)
    nodes c.loop-i.i c.index.result.now c.loop-i.names c.use_region-in-loop-i.new.names within c.index.ensures c.loop-i.invariant step

pub loop-j-preserved : goal.loop-j-preserved
loop-j-preserved c =
    let units = c.in_ok-loops.loops.items in
    let counted = c.len-j-end.ensures in
    let within : c.loop-j.j < length units = omega (arith, counted, c.in_ok-loops.loops.ok.0) in
    uses_item (λ (u : Unit) p. place_in_rounds p (part_of u)) (λ (us : List Unit) p. place_in_loops p us) (λ u us p. refl)
    units c.loop-j.j c.index-in-loop-j.result.now c.loop-j.names c.use_loop_rounds.new.names within c.index-in-loop-j.ensures c.loop-j.invariant
    c.in_ok-use_loop_rounds.ensures

pub returns : goal.returns
returns c =
    let tree = statements_in c.args.body.now in
    let nodes = c.in_ok-nodes.nodes.items in
    let units = c.in_ok-loops.loops.items in
    let counted = c.len-i-end.ensures in
    let past : length nodes ≤ c.loop-i.i = omega (arith, counted, c.in_ok-nodes.nodes.ok.0) in
    let more = c.len-j-end.ensures in
    let all : length units ≤ c.loop-j.j = omega (arith, more, c.in_ok-loops.loops.ok.0) in
    found_as (λ q. is_used_by_one q tree) c.loop-j.names c.into_found.result
    (told_needed tree nodes units c.new-names.result c.store.new.self c.store-2.new.self c.use_region.new.names c.loop-i.names c.loop-j.names
    c.in_ok-nodes.ensures c.in_ok-loops.ensures
    c.new-names.ensures.nested c.new-names.ensures.found c.new-names.ensures.known
    c.in_ok-store.ensures c.in_ok-store-2.ensures c.in_ok-use_region.ensures
    (uses_end (λ (bs : List (Bor Block)) p. place_in_blocks p bs) (λ p. refl) nodes c.loop-i.i c.loop-i.names past c.loop-i.invariant)
    (uses_end (λ (us : List Unit) p. place_in_loops p us) (λ p. refl) units c.loop-j.j c.loop-j.names all c.loop-j.invariant))
    c.into_found.ensures
