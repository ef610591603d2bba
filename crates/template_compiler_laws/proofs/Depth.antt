-- How deep macros stand in each other: statements nest at most as deep as they are read.
use Rattle.std.proofs.Common.{◌≤◌, ℕ, zero, suc, List, subst, sym, arith}
use Rattle.std.specs.List.{All}
use Rattle.std.proofs.lemmas.List.Elements.{All-nil, All-cons, All-append}
use Rattle.template_compiler_tree.specs.Tree.{Expression, Statement, Statements, for_loop, if_condition, with_block, set_block, auto_escape, filter_block, block, macro, call_block, no_statements, statements_more}
use Rattle.template_compiler_walk.specs.Blocks.{Block, blocks_by, blocks_in}
use Rattle.template_compiler_tokens.specs.Token.{Token}
use Rattle.template_compiler_grammar.specs.TemplateTrees.{and_statement, Branches, no_branches, branches_more, and_branch, branched}
use Rattle.template_compiler_grammar.specs.TemplateGrammar.{Around, IsStatements, statements_end, statements_next, IsStatement, text_statement, print_statement, for_statement, if_statement, with_statement, set_statement, set_block_statement, autoescape_statement, filter_statement, block_statement, import_statement, from_statement, extends_statement, include_statement, macro_statement, call_statement, do_statement, break_statement, continue_statement, IsBranches, branches_end, branches_next, IsElse, no_else, an_else, IsTemplate, whole_template}

abbrev mutual
  -- at most so many macros, one in the other
  pub IsWithin : ℕ → Statement → Type 0
  IsWithin n (for_loop _ _ _ _ body otherwise) = AreWithin n body × AreWithin n otherwise
  IsWithin n (if_condition _ body otherwise) = AreWithin n body × AreWithin n otherwise
  IsWithin n (with_block _ body) = AreWithin n body
  IsWithin n (set_block _ _ body) = AreWithin n body
  IsWithin n (auto_escape _ body) = AreWithin n body
  IsWithin n (filter_block _ body) = AreWithin n body
  IsWithin n (block _ _ body) = AreWithin n body
  IsWithin zero (macro _ _ _ body) = ⊥
  IsWithin (suc n) (macro _ _ _ body) = AreWithin n body
  IsWithin zero (call_block _ _ _ _ body) = ⊥
  IsWithin (suc n) (call_block _ _ _ _ body) = AreWithin n body
  IsWithin n _ = Unit {0}

  pub AreWithin : ℕ → Statements → Type 0
  AreWithin n no_statements = Unit {0}
  AreWithin n (statements_more s ss) = IsWithin n s × AreWithin n ss

and_within : (n : ℕ) (ss : Statements) (s : Statement) → AreWithin n ss → IsWithin n s → AreWithin n (and_statement ss s)
and_within n no_statements s all one = (one, tt)
and_within n (statements_more t rest) s all one = (all.0, and_within n rest s all.1 one)

abbrev BranchesWithin : ℕ → Branches → Type 0
BranchesWithin n no_branches = Unit {0}
BranchesWithin n (branches_more c body rest) = AreWithin n body × BranchesWithin n rest

and_branch_within : (n : ℕ) (bs : Branches) (c : Expression) (body : Statements) → BranchesWithin n bs → AreWithin n body → BranchesWithin n (and_branch bs c body)
and_branch_within n no_branches c body all one = (one, tt)
and_branch_within n (branches_more b other rest) c body all one = (all.0, and_branch_within n rest c body all.1 one)

branched_within : (n : ℕ) (bs : Branches) (last : Statements) → BranchesWithin n bs → AreWithin n last → AreWithin n (branched bs last)
branched_within n no_branches last all one = one
branched_within n (branches_more c body rest) last all one = ((all.0, branched_within n rest last all.1 one), tt)

mutual
  statements_within : (n : ℕ) {d : ℕ} {p : Around} {ss all : Statements} {ts us : List Token} → IsStatements d p ss ts all us → d ≤ n → AreWithin n ss → AreWithin n all
  statements_within n statements_end less before = before
  statements_within n (statements_next {s = s} {ss = ss} h b) less before = statements_within n b less (and_within n ss s before (statement_within n h less))

  statement_within : (n : ℕ) {d : ℕ} {p : Around} {s : Statement} {ts us : List Token} → IsStatement d p ts s us → d ≤ n → IsWithin n s
  statement_within n text_statement less = tt
  statement_within n (print_statement e) less = tt
  statement_within n (for_statement t i f w b e) less = (statements_within n b (omega (arith, less)) tt, else_within n e (omega (arith, less)))
  statement_within n (if_statement {c = c} {bs = bs} {body = body} {other = other} e b more o same) less =
      let P : Statement → Type 0 = λ s. IsWithin n s in
      let first : AreWithin n body = statements_within n b (omega (arith, less)) tt in
      let rest : AreWithin n (branched bs other) = branched_within n bs other (branches_within n more (omega (arith, less)) tt) (else_within n o (omega (arith, less))) in
      let whole : IsWithin n (if_condition c body (branched bs other)) = (first, rest) in
      subst P (sym same) whole
  statement_within n (with_statement a b) less = statements_within n b (omega (arith, less)) tt
  statement_within n (set_statement t v) less = tt
  statement_within n (set_block_statement t f b) less = statements_within n b (omega (arith, less)) tt
  statement_within n (autoescape_statement e b) less = statements_within n b (omega (arith, less)) tt
  statement_within n (filter_statement f c b) less = statements_within n b (omega (arith, less)) tt
  statement_within n (block_statement q w b f e) less = statements_within n b (omega (arith, less)) tt
  statement_within n (import_statement e a c) less = tt
  statement_within n (from_statement e i m c) less = tt
  statement_within n (extends_statement e) less = tt
  statement_within n (include_statement e m) less = tt
  statement_within zero (macro_statement r q b e) less = absurd (omega (arith, less))
  statement_within (suc n) (macro_statement r q b e) less =
      let P : Statement → Type 0 = λ s. IsWithin (suc n) s in
      subst P (sym e) (statements_within n b (omega (arith, less)) tt)
  statement_within zero (call_statement q c b e) less = absurd (omega (arith, less))
  statement_within (suc n) (call_statement q c b e) less =
      let P : Statement → Type 0 = λ s. IsWithin (suc n) s in
      subst P (sym e) (statements_within n b (omega (arith, less)) tt)
  statement_within n (do_statement e) less = tt
  statement_within n (break_statement e) less = tt
  statement_within n (continue_statement e) less = tt

  branches_within : (n : ℕ) {d : ℕ} {p : Around} {bs all : Branches} {ts us : List Token} → IsBranches d p bs ts all us → d ≤ n → BranchesWithin n bs → BranchesWithin n all
  branches_within n branches_end less before = before
  branches_within n (branches_next {c = c} {body = body} {bs = bs} e b more) less before =
      branches_within n more less (and_branch_within n bs c body before (statements_within n b less tt))

  else_within : (n : ℕ) {d : ℕ} {p : Around} {end : List ℕ} {body : Statements} {ts us : List Token} → IsElse d p end ts body us → d ≤ n → AreWithin n body
  else_within n no_else less = tt
  else_within n (an_else b) less = statements_within n b less tt

pub tree_within : {ts : List Token} {ss : Statements} → IsTemplate ts ss → AreWithin 150 ss
tree_within (whole_template h distinct) = statements_within 150 h (omega arith) tt

-- so it is in the blocks
abbrev pub StandsWithin : ℕ → Block → Type 0
StandsWithin n b = AreWithin n b.body

mutual
  blocks_stand_by : (n : ℕ) (s : Statement) → IsWithin n s → All (StandsWithin n) (blocks_by s)
  blocks_stand_by n (for_loop _ _ _ _ body otherwise) w = All-append (StandsWithin n) (blocks_in body) (blocks_in otherwise) (blocks_stand n body w.0) (blocks_stand n otherwise w.1)
  blocks_stand_by n (if_condition _ body otherwise) w = All-append (StandsWithin n) (blocks_in body) (blocks_in otherwise) (blocks_stand n body w.0) (blocks_stand n otherwise w.1)
  blocks_stand_by n (with_block _ body) w = blocks_stand n body w
  blocks_stand_by n (set_block _ _ body) w = blocks_stand n body w
  blocks_stand_by n (auto_escape _ body) w = blocks_stand n body w
  blocks_stand_by n (filter_block _ body) w = blocks_stand n body w
  blocks_stand_by n (block name required body) w =
      All-cons (StandsWithin n) (record { name = name; required = required; body = body }) (blocks_in body) w (blocks_stand n body w)
  blocks_stand_by n _ w = All-nil (StandsWithin n)

  pub blocks_stand : (n : ℕ) (ss : Statements) → AreWithin n ss → All (StandsWithin n) (blocks_in ss)
  blocks_stand n no_statements w = All-nil (StandsWithin n)
  blocks_stand n (statements_more s ss) w = All-append (StandsWithin n) (blocks_by s) (blocks_in ss) (blocks_stand_by n s w.0) (blocks_stand n ss w.1)
