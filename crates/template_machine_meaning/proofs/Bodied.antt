-- The blocks of what is made of constructs that have a walk are made of such, too.
use Rattle.std.proofs.Common.{◌≡◌, ℕ, Bool, true, false, List, [], ◌∷◌, ◌++◌, Option, Some, option_map, subst}
use Rattle.std.specs.Prelude.{if◌then◌else◌}
use Rattle.std.specs.Str.{bytes_eq}
use Rattle.template_compiler_tree.specs.Tree.{Statement, Statements, raw, print, for_loop, if_condition, with_block, set, set_block, auto_escape, filter_block, block, import, from_import, extends, include, macro, call_block, continue_loop, break_loop, do_call, absent, given, no_statements, statements_more}
use Rattle.template_compiler_walk.specs.Blocks.{Block, blocks_by, blocks_in, block_among, block_named}
use Rattle.template_compiler_walk.specs.Runnable.{IsRunnableStatement, AreRunnableStatements, IsRunnableTemplate}

abbrev AreRunnableBlocks : List Block → Type 0
AreRunnableBlocks [] = Unit {0}
AreRunnableBlocks (b ∷ blocks) = IsRunnableTemplate b.body × AreRunnableBlocks blocks

both_runnable : (blocks more : List Block) → AreRunnableBlocks blocks → AreRunnableBlocks more → AreRunnableBlocks (blocks ++ more)
both_runnable [] more first second = second
both_runnable (b ∷ blocks) more first second = (first.0, both_runnable blocks more first.1 second)

mutual
  one_runnable : (looping : Bool) (st : Statement) → IsRunnableStatement looping st → AreRunnableBlocks (blocks_by st)
  one_runnable looping (raw text) h = tt
  one_runnable looping (print e) h = tt
  one_runnable looping (for_loop target e condition recursive body otherwise) h =
      both_runnable (blocks_in body) (blocks_in otherwise) (all_runnable true body h.3) (all_runnable looping otherwise h.4)
  one_runnable looping (if_condition e body otherwise) h =
      both_runnable (blocks_in body) (blocks_in otherwise) (all_runnable looping body h.1) (all_runnable looping otherwise h.2)
  one_runnable looping (with_block pairs body) h = all_runnable looping body h.1
  one_runnable looping (set target e) h = tt
  one_runnable looping (set_block target absent body) h = all_runnable looping body h.1
  one_runnable looping (set_block target (given filters) body) h = all_runnable looping body h.2
  one_runnable looping (auto_escape e body) h = all_runnable looping body h.1
  one_runnable looping (filter_block filters body) h = all_runnable looping body h.1
  one_runnable looping (block name required body) h = (h, all_runnable false body h)
  one_runnable looping (import e target) h = tt
  one_runnable looping (from_import e names) h = tt
  one_runnable looping (extends e) h = tt
  one_runnable looping (include e ignore_missing) h = tt
  one_runnable looping (macro name arguments defaults body) h = tt
  one_runnable looping (call_block callee passed arguments defaults body) h = tt
  one_runnable looping (do_call callee args) h = tt
  one_runnable looping continue_loop h = tt
  one_runnable looping break_loop h = tt
  one_runnable looping _ h = absurd h

  all_runnable : (looping : Bool) (ss : Statements) → AreRunnableStatements looping ss → AreRunnableBlocks (blocks_in ss)
  all_runnable looping no_statements h = tt
  all_runnable looping (statements_more st ss) h = both_runnable (blocks_by st) (blocks_in ss) (one_runnable looping st h.0) (all_runnable looping ss h.1)

abbrev body_in : Option Block → Option Statements
body_in o = option_map (λ (b : Block). b.body) o

abbrev IsBodyRunnable : Option Block → Type 0
IsBodyRunnable o = (t : Statements) → body_in o ≡ Some t → IsRunnableTemplate t

first_runnable : (b : Block) (o : Option Block) → IsRunnableTemplate b.body → IsBodyRunnable o → (is : Bool) → IsBodyRunnable (if is then Some b else o)
first_runnable b o h later true t e = let same : b.body ≡ t = cc in subst IsRunnableTemplate same h
first_runnable b o h later false t e = later t e

among_runnable : (name : List ℕ) (blocks : List Block) → AreRunnableBlocks blocks → IsBodyRunnable (block_among name blocks)
among_runnable name [] h t e = absurd (cc)
among_runnable name (b ∷ blocks) h t e = first_runnable b (block_among name blocks) h.0 (among_runnable name blocks h.1) (bytes_eq b.name name) t e

pub block_runs : (name : List ℕ) (tree : Statements) → IsRunnableTemplate tree → (t : Statements) → body_in (block_named name tree) ≡ Some t → IsRunnableTemplate t
block_runs name tree h t e = among_runnable name (blocks_in tree) (all_runnable false tree h) t e
