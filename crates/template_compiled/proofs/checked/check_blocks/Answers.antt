use Rattle.std.proofs.Common.{rules, ◌≡◌, List, [], ◌∷◌, ◌++◌, map, sym, subst}
use Rattle.std.specs.List.{All}
use Rattle.std.proofs.lemmas.List.Elements.{All-append, All-cons, All-nil, All-tail}
use Rattle.template_compiler_code.specs.Streams.{stream_in}
use Rattle.template_compiler_code.specs.declared.blocks.CompiledBlock.{CompiledBlock}
use Rattle.template_compiled.specs.Checked.{IsGoodBlock, IsOfTemplate, checked_stream}
use Rattle.template_compiled.specs.declared.checked.CheckedBlock.{CheckedBlock}
use Rattle.template_compiled.proofs.Blocks.{one_more}
use Rattle.template_compiled.proofs.checked.check_blocks.Goals as goal

pub loop-block-preserved : goal.loop-block-preserved
loop-block-preserved c =
    let before = c.loop-block.checked.items in
    let block = c.in_ok-check_block.field-0 in
    let left = c.next.new.self.rest.items in
    let pushed : c.push.new.self.items ≡ before ++ block ∷ [] = search rules in
    let stepped : c.loop-block.block-iterator.rest.items ≡ c.in-Some.block ∷ left = search rules in
    let same : map checked_stream c.push.new.self.items ++ map stream_in left ≡ map stream_in c.args.blocks.items =
    one_more before c.push.new.self.items block c.in-Some.block left c.loop-block.block-iterator.rest.items c.args.blocks.items pushed stepped
    c.in_ok-check_block.ensures.same c.loop-block.invariant.0 in
    let P : List CheckedBlock → Type 0 = λ bs. All IsOfTemplate bs in
    let Q : List CompiledBlock → Type 0 = λ bs. All IsGoodBlock bs in (
      same,
      subst P (sym pushed)
          (All-append IsOfTemplate before (block ∷ []) c.loop-block.invariant.1 (All-cons IsOfTemplate block [] c.in_ok-check_block.ensures.kind (All-nil IsOfTemplate))),
      All-tail IsGoodBlock c.in-Some.block left (subst Q stepped c.loop-block.invariant.2),
    )
