-- The streams of blocks, one by one.
use Rattle.std.proofs.Common.{◌≡◌, ℕ, ◌+◌, ◌<◌, Bool, true, false, if◌then◌else◌, List, [], ◌∷◌, ◌++◌, length, take, get_or, map, Option, Some, Bor, refl, sym, ap, subst, ◌∙◌}
use Rattle.std.specs.Prelude.{option_map}
use Rattle.std.specs.List.{All}
use Rattle.std.specs.Str.{bytes_eq}
use Rattle.std.proofs.Math.ListN.{get_or-map}
use Rattle.std.proofs.lemmas.List.{length-map, map_push, take_more}
use Rattle.template_compiler_tree_parts.specs.Listed.{statements_in}
use Rattle.template_compiler_tree_statements.specs.declared.statements.Block.{Block as BlockNode}
use Rattle.template_compiler_code.specs.Code.{Code}
use Rattle.template_compiler_walk.specs.Blocks.{Block, block_among}
use Rattle.template_compiler_walk.specs.Runnable.{AreRunnableStatements}
use Rattle.template_compiler_names_needed.specs.Seen.{tree_of, trees_in}
use Rattle.template_compiler_names_needed.proofs.Runnable.{RunsByItself}
use Rattle.template_compiler_code.specs.Streams.{BlockStream, stream_in, streams_in, stream_among}
use Rattle.template_compiled.specs.Streams.{stream_of}
use Rattle.template_compiler_code.specs.declared.blocks.CompiledBlock.{CompiledBlock}

abbrev pub streams_at : List (Bor BlockNode) → List BlockStream
streams_at = map (λ n. stream_of (tree_of n.now))

abbrev pub stream_with : List ℕ → Bool → List Code → BlockStream
stream_with name required code = record { name = name; required = required; code = code }

-- one more
pub one_stream : (nodes : List (Bor BlockNode)) (i : ℕ) (n : Bor BlockNode) (old new : List CompiledBlock) (b : CompiledBlock) → i < length nodes → n ≡ get_or nodes i n
    → new ≡ old ++ b ∷ [] → stream_in b ≡ stream_of (tree_of n.now) → streams_in old ≡ streams_at (take i nodes) → streams_in new ≡ streams_at (take (i + 1) nodes)
one_stream nodes i n old new b within read pushed is so_far =
    ap streams_in pushed ∙ map_push stream_in old b ∙ ap (λ (s : BlockStream). streams_in old ++ s ∷ []) is ∙
    ap (λ (l : List BlockStream). l ++ stream_of (tree_of n.now) ∷ []) so_far ∙
    sym (ap streams_at (take_more nodes i n within) ∙ map_push (λ (m : Bor BlockNode). stream_of (tree_of m.now)) (take i nodes) (get_or nodes i n) ∙
    ap (λ (m : Bor BlockNode). streams_at (take i nodes) ++ stream_of (tree_of m.now) ∷ []) (sym read))

-- all of the blocks of a tree
pub all_streams : (nodes : List (Bor BlockNode)) → streams_at nodes ≡ map stream_of (trees_in nodes)
all_streams [] = refl
all_streams (n ∷ nodes) = ap (λ l. stream_of (tree_of n.now) ∷ l) (all_streams nodes)

-- each of them runs by itself
pub nodes_run : (nodes : List (Bor BlockNode)) (blocks : List Block) → trees_in nodes ≡ blocks → All RunsByItself blocks
    → All (λ (n : Bor BlockNode). AreRunnableStatements false (statements_in n.now.body.items)) nodes
nodes_run nodes blocks is run i d within =
    let each = subst (λ (bs : List Block). All RunsByItself bs) (sym is) run in
    mapped_at nodes i d within each
  where
    mapped_at : (ns : List (Bor BlockNode)) (i : ℕ) (d : Bor BlockNode) → i < length ns → All RunsByItself (trees_in ns) → RunsByItself (tree_of (get_or ns i d).now)
    mapped_at ns i d within all =
        let seen = λ (n : Bor BlockNode). tree_of n.now in
        let P : ℕ → Type 0 = λ n. i < n in
        subst RunsByItself (get_or-map seen ns i d) (all i (seen d) (subst P (sym (length-map ns seen)) within))

-- the first of a name
named_as : (b : Bool) (x : Block) (rest : Option Block) → option_map stream_of (if b then Some x else rest) ≡ (if b then Some (stream_of x) else option_map stream_of rest)
named_as true x rest = refl
named_as false x rest = refl

pub first_named : (name : List ℕ) (blocks : List Block) → stream_among name (map stream_of blocks) ≡ option_map stream_of (block_among name blocks)
first_named name [] = refl
first_named name (b ∷ bs) =
    ap (λ (o : Option BlockStream). if bytes_eq b.name name then Some (stream_of b) else o) (first_named name bs) ∙ sym (named_as (bytes_eq b.name name) b (block_among name bs))
