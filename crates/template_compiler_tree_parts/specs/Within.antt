-- The statements that stand in statements, in order of place.
use Rattle.std.specs.Prelude.{Bool, List, [], ◌∷◌, ◌++◌, if◌then◌else◌, map, ⊤}
use Rattle.std.specs.Borrow.{Bor}
use Rattle.template_compiler_tree.specs.Tree.{Statement, Statements, template, raw, print, for_loop, if_condition, with_block, set_block, auto_escape, filter_block, block, macro, call_block, no_statements, statements_more}
use Rattle.template_compiler_tree_statements.specs.View.{statement_of}
use Rattle.template_compiler_tree_statements.specs.declared.statements.Stmt.{Stmt}

abbrev pub trees_of : List (Bor Stmt) → List Statement
trees_of = map (λ s. statement_of s.now)

-- the statement itself, if it is picked
abbrev pub picked : (Statement → Bool) → Statement → List Statement
picked picks s = if picks s then s ∷ [] else []

abbrev mutual
  -- those that are picked in the bodies of a statement, also within others that are entered
  pub picked_within : (picks enters : Statement → Bool) → Statement → List Statement
  picked_within picks enters (template body) = picked_among picks enters body
  picked_within picks enters (for_loop _ _ _ _ body otherwise) = picked_among picks enters body ++ picked_among picks enters otherwise
  picked_within picks enters (if_condition _ body otherwise) = picked_among picks enters body ++ picked_among picks enters otherwise
  picked_within picks enters (with_block _ body) = picked_among picks enters body
  picked_within picks enters (set_block _ _ body) = picked_among picks enters body
  picked_within picks enters (auto_escape _ body) = picked_among picks enters body
  picked_within picks enters (filter_block _ body) = picked_among picks enters body
  picked_within picks enters (block _ _ body) = picked_among picks enters body
  picked_within picks enters (macro _ _ _ body) = picked_among picks enters body
  picked_within picks enters (call_block _ _ _ _ body) = picked_among picks enters body
  picked_within picks enters _ = []

  -- and those among statements, each before those within it
  pub picked_among : (picks enters : Statement → Bool) → Statements → List Statement
  picked_among picks enters no_statements = []
  picked_among picks enters (statements_more s ss) =
      (picked picks s ++ (if enters s then picked_within picks enters s else [])) ++ picked_among picks enters ss

abbrev pub picked_of : (picks enters : Statement → Bool) → Statement → List Statement
picked_of picks enters s = picked picks s ++ (if enters s then picked_within picks enters s else [])

-- what statements say one by one, joined
abbrev pub joined : {M : Type 0} → M → (M → M → M) → (Statement → M) → List Statement → M
joined unit join own [] = unit
joined unit join own (s ∷ ss) = join (own s) (joined unit join own ss)

-- a text or a print, as most are
abbrev pub IsPrinted : Statement → Type 0
IsPrinted (raw _) = ⊤
IsPrinted (print _) = ⊤
IsPrinted _ = ⊥
