-- What a statement is not: where it is no node of a kind, its tree is none of that kind.
use Rattle.std.proofs.Common.{◌≡◌, false, refl, sym, ap, ◌∙◌}
use Rattle.template_compiler_tree.specs.Tree.{Statement, template, for_loop, block, from_import, macro, call_block}
use Rattle.template_compiler_tree_statements.specs.View.{statement_of}
use Rattle.template_compiler_tree_statements.specs.declared.statements.CallBlock.{CallBlock' as called}
use Rattle.template_compiler_tree_statements.specs.declared.statements.Stmt.{Stmt, Template, ForLoop, Block, FromImport, Macro, CallBlock, CallBlock'}
use Rattle.template_compiler_tree_statements.specs.declared.statements.Stmt.TheOpen.{Stmt-F}
use Rattle.template_compiler_tree_statements.specs.declared.statements.Stmt.TheViews.{out-Stmt, roll-Stmt, roll-out-Stmt}
use Rattle.template_compiler_tree_statements.specs.declared.statements.Stmt.TheVariants.{rolls-Template, rolls-ForLoop, rolls-Block, rolls-FromImport, rolls-Macro, rolls-CallBlock}
use Rattle.template_compiler_tree_parts.specs.Kinds.{is_template, is_loop, is_block, is_import, is_macro, is_call_block}

data Kind : Type 0 where
  a_template : Kind
  a_loop : Kind
  a_block : Kind
  an_import : Kind
  a_macro : Kind
  a_call_block : Kind
  another : Kind

abbrev kind_of : Statement → Kind
kind_of (template _) = a_template
kind_of (for_loop _ _ _ _ _ _) = a_loop
kind_of (block _ _ _) = a_block
kind_of (from_import _ _) = an_import
kind_of (macro _ _ _ _) = a_macro
kind_of (call_block _ _ _ _ _) = a_call_block
kind_of _ = another

abbrev kind_at : {A B C D E F G H I J K : Type 0} → Stmt-F A B C D E F G H I J K → Kind
kind_at (Stmt-F.Template _) = a_template
kind_at (Stmt-F.ForLoop _) = a_loop
kind_at (Stmt-F.Block _) = a_block
kind_at (Stmt-F.FromImport _) = an_import
kind_at (Stmt-F.Macro _) = a_macro
kind_at (Stmt-F.CallBlock _) = a_call_block
kind_at _ = another

seen : (s : Stmt) → kind_of (statement_of s) ≡ kind_at (out-Stmt s)
unfolding out-Stmt denote.Hole.Carrier.out
seen (CallBlock' p (called call q name args defaults shape body inner) span) = refl
seen _ = refl

abbrev None : {A : Type 0} → (A → Stmt) → Stmt → Type 0
None {A} node s = (n : A) → s ≡ node n → ⊥

of_template : (t : Statement) → (kind_of t ≡ a_template → ⊥) → is_template t ≡ false
of_template (template _) other = absurd (other refl)
of_template _ other = refl

at_template : (s : Stmt) → None Template s → (l : _) → out-Stmt s ≡ l → kind_at l ≡ a_template → ⊥
at_template s other (Stmt-F.Template n) out is = other n (sym (roll-out-Stmt s) ∙ ap (λ l. roll-Stmt l) out ∙ rolls-Template n)
at_template s other _ out is = cc

pub no_template : (s : Stmt) → None Template s → is_template (statement_of s) ≡ false
no_template s other = of_template (statement_of s) (λ is. at_template s other (out-Stmt s) refl (sym (seen s) ∙ is))

of_loop : (t : Statement) → (kind_of t ≡ a_loop → ⊥) → is_loop t ≡ false
of_loop (for_loop _ _ _ _ _ _) other = absurd (other refl)
of_loop _ other = refl

at_loop : (s : Stmt) → None ForLoop s → (l : _) → out-Stmt s ≡ l → kind_at l ≡ a_loop → ⊥
at_loop s other (Stmt-F.ForLoop n) out is = other n (sym (roll-out-Stmt s) ∙ ap (λ l. roll-Stmt l) out ∙ rolls-ForLoop n)
at_loop s other _ out is = cc

pub no_loop : (s : Stmt) → None ForLoop s → is_loop (statement_of s) ≡ false
no_loop s other = of_loop (statement_of s) (λ is. at_loop s other (out-Stmt s) refl (sym (seen s) ∙ is))

of_block : (t : Statement) → (kind_of t ≡ a_block → ⊥) → is_block t ≡ false
of_block (block _ _ _) other = absurd (other refl)
of_block _ other = refl

at_block : (s : Stmt) → None Block s → (l : _) → out-Stmt s ≡ l → kind_at l ≡ a_block → ⊥
at_block s other (Stmt-F.Block n) out is = other n (sym (roll-out-Stmt s) ∙ ap (λ l. roll-Stmt l) out ∙ rolls-Block n)
at_block s other _ out is = cc

pub no_block : (s : Stmt) → None Block s → is_block (statement_of s) ≡ false
no_block s other = of_block (statement_of s) (λ is. at_block s other (out-Stmt s) refl (sym (seen s) ∙ is))

of_import : (t : Statement) → (kind_of t ≡ an_import → ⊥) → is_import t ≡ false
of_import (from_import _ _) other = absurd (other refl)
of_import _ other = refl

at_import : (s : Stmt) → None FromImport s → (l : _) → out-Stmt s ≡ l → kind_at l ≡ an_import → ⊥
at_import s other (Stmt-F.FromImport n) out is = other n (sym (roll-out-Stmt s) ∙ ap (λ l. roll-Stmt l) out ∙ rolls-FromImport n)
at_import s other _ out is = cc

pub no_import : (s : Stmt) → None FromImport s → is_import (statement_of s) ≡ false
no_import s other = of_import (statement_of s) (λ is. at_import s other (out-Stmt s) refl (sym (seen s) ∙ is))

of_macro : (t : Statement) → (kind_of t ≡ a_macro → ⊥) → is_macro t ≡ false
of_macro (macro _ _ _ _) other = absurd (other refl)
of_macro _ other = refl

at_macro : (s : Stmt) → None Macro s → (l : _) → out-Stmt s ≡ l → kind_at l ≡ a_macro → ⊥
at_macro s other (Stmt-F.Macro n) out is = other n (sym (roll-out-Stmt s) ∙ ap (λ l. roll-Stmt l) out ∙ rolls-Macro n)
at_macro s other _ out is = cc

pub no_macro : (s : Stmt) → None Macro s → is_macro (statement_of s) ≡ false
no_macro s other = of_macro (statement_of s) (λ is. at_macro s other (out-Stmt s) refl (sym (seen s) ∙ is))

of_call_block : (t : Statement) → (kind_of t ≡ a_call_block → ⊥) → is_call_block t ≡ false
of_call_block (call_block _ _ _ _ _) other = absurd (other refl)
of_call_block _ other = refl

at_call_block : (s : Stmt) → None CallBlock s → (l : _) → out-Stmt s ≡ l → kind_at l ≡ a_call_block → ⊥
at_call_block s other (Stmt-F.CallBlock n) out is = other n (sym (roll-out-Stmt s) ∙ ap (λ l. roll-Stmt l) out ∙ rolls-CallBlock n)
at_call_block s other _ out is = cc

pub no_call_block : (s : Stmt) → None CallBlock s → is_call_block (statement_of s) ≡ false
no_call_block s other = of_call_block (statement_of s) (λ is. at_call_block s other (out-Stmt s) refl (sym (seen s) ∙ is))
