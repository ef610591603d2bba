-- The streams of a compiled template are good.
use Rattle.std.proofs.Common.{◌≡◌, false, List, [], ◌∷◌, map, refl, sym, ap, subst}
use Rattle.std.specs.List.{All}
use Rattle.std.proofs.lemmas.List.Elements.{All-nil, All-cons, All-head, All-tail}
use Rattle.template_compiler_tree.specs.Tree.{Statements}
use Rattle.template_compiler_walk.specs.Blocks.{Block, blocks_in}
use Rattle.template_compiler_walk.specs.Runnable.{IsRunnableTemplate}
use Rattle.template_compiler_names_needed.proofs.Runnable.{RunsByItself, blocks_run}
use Rattle.template_compiler_code.specs.Code.{Code}
use Rattle.template_compiler_code.specs.Streams.{BlockStream, streams_in}
use Rattle.template_compiler_code.specs.declared.blocks.CompiledBlock.{CompiledBlock}
use Rattle.template_compiler_code_shapes.specs.Streams.{IsGood}
use Rattle.template_compiler_code_shapes.specs.declared.StreamKind.TheVariants.{Template}
use Rattle.template_compiler_codegen.specs.Statements.{template_code}
use Rattle.template_compiler_generator.specs.Numbers.{numbered_in}
use Rattle.template_compiler_generator.specs.Acceptance.{TemplatesAreAccepted}
use Rattle.template_compiler_generator.specs.Drafts.{Draft}
use Rattle.template_compiled.specs.Streams.{stream_of, streams_of}
use Rattle.template_compiled.specs.Checked.{IsGoodBlock}

-- a draft that holds no more than its code
abbrev drafted : List Code → Draft
drafted code = record { name = []; source = []; code = code; marks = []; blocks = []; line = 0; spans = [] }

-- what is generated for a tree with a walk is good
pub tree_is_good : TemplatesAreAccepted → (tree : Statements) → IsRunnableTemplate tree → IsGood Template (numbered_in (template_code tree))
tree_is_good accepted tree runs =
    accepted tree runs (drafted []) (drafted (template_code tree)) refl
    (record { name = refl; source = refl; code = refl; blocks = refl; line = refl; spans = refl })

-- of streams the code of the first, and the others
abbrev first_code : List BlockStream → List Code
first_code [] = []
first_code (s ∷ rest) = s.code

abbrev others : List BlockStream → List BlockStream
others [] = []
others (s ∷ rest) = rest

abbrev IsSomething : List BlockStream → Type 0
IsSomething [] = ⊥
IsSomething (s ∷ rest) = Unit {0}

-- so are streams that are those of blocks which run by themselves
streams_good : TemplatesAreAccepted → (bs : List CompiledBlock) (ds : List Block) → streams_in bs ≡ map stream_of ds → All RunsByItself ds → All IsGoodBlock bs
streams_good accepted [] ds is run = All-nil IsGoodBlock
streams_good accepted (b ∷ bs) [] is run = absurd (subst IsSomething is tt)
streams_good accepted (b ∷ bs) (d ∷ ds) is run =
    let P : List Code → Type 0 = λ code. IsGood Template code in
    All-cons IsGoodBlock b bs (subst P (sym (ap first_code is)) (tree_is_good accepted d.body (All-head RunsByItself d ds run)))
    (streams_good accepted bs ds (ap others is) (All-tail RunsByItself d ds run))

pub blocks_good : TemplatesAreAccepted → (bs : List CompiledBlock) (tree : Statements) → IsRunnableTemplate tree → streams_in bs ≡ streams_of tree → All IsGoodBlock bs
blocks_good accepted bs tree runs is = streams_good accepted bs (blocks_in tree) is (blocks_run false tree runs)
