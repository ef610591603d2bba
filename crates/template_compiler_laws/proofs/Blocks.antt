-- The body of a block is no larger than what the block stands in.
use Rattle.std.proofs.Common.{◌≤◌, ℕ, suc, List, ◌++◌, arith}
use Rattle.std.specs.List.{All}
use Rattle.std.proofs.lemmas.List.Elements.{All-nil, All-cons, All-append}
use Rattle.template_compiler_tree.specs.Tree.{Statement, Statements, for_loop, if_condition, with_block, set_block, auto_escape, filter_block, block, no_statements, statements_more}
use Rattle.template_compiler_walk.specs.Blocks.{Block, blocks_by, blocks_in}
use Rattle.template_compiler_laws.proofs.Sizes.{statement_size, statements_size}

abbrev Within : ℕ → Block → Type 0
Within n b = statements_size 150 0 b.body ≤ n

within_more : (bs : List Block) (m n : ℕ) → m ≤ n → All (Within m) bs → All (Within n) bs
within_more bs m n less h i d lt = omega (arith, less, h i d lt)

within_both : (bs cs : List Block) (m n k : ℕ) → m ≤ k → n ≤ k → All (Within m) bs → All (Within n) cs → All (Within k) (bs ++ cs)
within_both bs cs m n k less few h i = All-append (Within k) bs cs (within_more bs m k less h) (within_more cs n k few i)

mutual
  block_within : (n : ℕ) (s : Statement) → All (Within (statement_size 150 n s)) (blocks_by s)
  block_within n (for_loop target e filter recursive body otherwise) =
      within_both (blocks_in body) (blocks_in otherwise) (statements_size 150 0 body) (statements_size 150 n otherwise)
      (statement_size 150 n (for_loop target e filter recursive body otherwise)) (omega arith) (omega arith) (blocks_within 0 body) (blocks_within n otherwise)
  block_within n (if_condition e body otherwise) =
      within_both (blocks_in body) (blocks_in otherwise) (statements_size 150 n body) (statements_size 150 n otherwise)
      (statement_size 150 n (if_condition e body otherwise)) (omega arith) (omega arith) (blocks_within n body) (blocks_within n otherwise)
  block_within n (with_block assignments body) =
      within_more (blocks_in body) (statements_size 150 (suc n) body) (statement_size 150 n (with_block assignments body)) (omega arith) (blocks_within (suc n) body)
  block_within n (set_block target filters body) =
      within_more (blocks_in body) (statements_size 150 (suc (suc n)) body) (statement_size 150 n (set_block target filters body)) (omega arith) (blocks_within (suc (suc n)) body)
  block_within n (auto_escape e body) =
      within_more (blocks_in body) (statements_size 150 (suc n) body) (statement_size 150 n (auto_escape e body)) (omega arith) (blocks_within (suc n) body)
  block_within n (filter_block filters body) =
      within_more (blocks_in body) (statements_size 150 (suc (suc n)) body) (statement_size 150 n (filter_block filters body)) (omega arith) (blocks_within (suc (suc n)) body)
  block_within n (block name required body) =
      let k = statement_size 150 n (block name required body) in
      All-cons (Within k) (record { name = name; required = required; body = body }) (blocks_in body) (omega arith)
      (within_more (blocks_in body) (statements_size 150 0 body) k (omega arith) (blocks_within 0 body))
  block_within n _ = All-nil (Within _)

  pub blocks_within : (n : ℕ) (ss : Statements) → All (Within (statements_size 150 n ss)) (blocks_in ss)
  blocks_within n no_statements = All-nil (Within 0)
  blocks_within n (statements_more s ss) =
      within_both (blocks_by s) (blocks_in ss) (statement_size 150 n s) (statements_size 150 n ss) (statements_size 150 n (statements_more s ss)) (omega arith) (omega arith)
      (block_within n s) (blocks_within n ss)
