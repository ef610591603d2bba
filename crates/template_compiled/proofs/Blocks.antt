-- One more block is checked.
use Rattle.std.proofs.Common.{◌≡◌, List, [], ◌∷◌, ◌++◌, map, append_assoc, sym, ap, ◌∙◌}
use Rattle.std.proofs.lemmas.List.{map_push}
use Rattle.template_compiler_code.specs.Streams.{BlockStream, stream_in}
use Rattle.template_compiler_code.specs.declared.blocks.CompiledBlock.{CompiledBlock}
use Rattle.template_compiled.specs.Checked.{checked_stream}
use Rattle.template_compiled.specs.declared.checked.CheckedBlock.{CheckedBlock}

pub one_more : (before new : List CheckedBlock) (b : CheckedBlock) (block : CompiledBlock) (left rest all : List CompiledBlock)
    → new ≡ before ++ b ∷ [] → rest ≡ block ∷ left → checked_stream b ≡ stream_in block
    → map checked_stream before ++ map stream_in rest ≡ map stream_in all → map checked_stream new ++ map stream_in left ≡ map stream_in all
one_more before new b block left rest all pushed stepped same is =
    let front = map checked_stream before in
    let behind = map stream_in left in
    ap (λ (l : List CheckedBlock). map checked_stream l ++ behind) pushed
    ∙ ap (λ (l : List BlockStream). l ++ behind) (map_push checked_stream before b)
    ∙ append_assoc front (checked_stream b ∷ []) behind
    ∙ ap (λ (s : BlockStream). front ++ s ∷ behind) same
    ∙ sym (ap (λ (l : List CompiledBlock). front ++ map stream_in l) stepped)
    ∙ is
