-- What a process comes to from a world on, under every bound that is great enough: its end, or a fault.
use Rattle.std.proofs.Common.{◌≡◌, ℕ, zero, suc, ◌+◌, ◌≤◌, ◌⊎◌, inl, inr, List, [], ◌∷◌, ◌++◌, Option, None, Some, refl, ap, ◌∙◌, arith}
use Rattle.template_values_errors.specs.declared.ErrorKind.{ErrorKind}
use Rattle.template_values_model.specs.Val.{Val}
use Rattle.template_compiler_process.specs.Process.{Process, step}
use Rattle.template_compiler_process.specs.Drive.{ends, faults}
use Rattle.template_compiler_process.specs.Trace.{Item, paid, run, behind, ended}
use Rattle.template_compiler_code.specs.Prices.{steps}
use Rattle.template_machine_meaning.specs.World.{World}
use Rattle.template_machine_meaning.specs.Surroundings.{Programs, answer}
use Rattle.template_machine_meaning.proofs.Settling.{Walk, behind-behind}
use Rattle.template_machine_codes.specs.Streams.{Codes}
use Rattle.template_machine_codes.proofs.Sound.{Sound}
use Rattle.template_machine_codes.proofs.Settling.{Settles}

-- a process under each bound
abbrev pub Bounded : Type 0
Bounded = ℕ → Process

-- its end, where what is told of the values that are left is kept
pub record Finishes (s : Programs) (w : World) (keeps : Option (List Val) → World → Type 0) (P : Bounded) : Type 0 where
  pub items : List Item
  pub least : ℕ
  pub operands : List Val
  pub after : World
  pub kept : keeps (Some operands) after
  pub is : (n m : ℕ) → least ≤ n → least ≤ m → run (answer s n) (P m) w ≡ behind items (ended (ends operands) after)

-- a fault, where what is told of none is kept
pub record Fails (s : Programs) (w : World) (keeps : Option (List Val) → World → Type 0) (P : Bounded) : Type 0 where
  pub items : List Item
  pub least : ℕ
  pub kinds : List ErrorKind
  pub after : World
  pub kept : keeps None after
  pub is : (n m : ℕ) → least ≤ n → least ≤ m → run (answer s n) (P m) w ≡ behind items (ended (faults kinds) after)

abbrev pub Comes : Programs → World → (Option (List Val) → World → Type 0) → Bounded → Type 0
Comes s w keeps P = Finishes s w keeps P ⊎ Fails s w keeps P

-- what comes behind items that stand first
pub comes_behind : (s : Programs) (w z : World) (keeps : Option (List Val) → World → Type 0) (items : List Item) (least : ℕ) (P Q : Bounded)
    → ((n m : ℕ) → least ≤ n → least ≤ m → run (answer s n) (P m) w ≡ behind items (run (answer s n) (Q m) z))
    → Comes s z keeps Q → Comes s w keeps P
comes_behind s w z keeps items least P Q leads (inl q) = inl (record {
  items = items ++ q.items;
  least = least + q.least;
  operands = q.operands;
  after = q.after;
  kept = q.kept;
  is = λ n m le ge. leads n m (omega arith) (omega arith) ∙ ap (behind items) (q.is n m (omega arith) (omega arith)) ∙ behind-behind items q.items (ended (ends q.operands) q.after);
})
comes_behind s w z keeps items least P Q leads (inr q) = inr (record {
  items = items ++ q.items;
  least = least + q.least;
  kinds = q.kinds;
  after = q.after;
  kept = q.kept;
  is = λ n m le ge. leads n m (omega arith) (omega arith) ∙ ap (behind items) (q.is n m (omega arith) (omega arith)) ∙ behind-behind items q.items (ended (faults q.kinds) q.after);
})

-- what settles first, and what comes of its outcome
pub comes_then : {O : Type 0} (codes : Codes) (s : Programs) (w : World) (shape : O → World → Type 0) (keeps : Option (List Val) → World → Type 0) (W : Walk O) (Q : O → Bounded)
    → ((v : World) → Sound codes v → keeps None v) → Settles codes {O = O} s w shape W → ((o : O) (v : World) → shape o v → Comes s v keeps (Q o)) → Comes s w keeps (λ m. W m (λ o. Q o m))
comes_then codes s w shape keeps W Q so (inl p) next =
    comes_behind s w p.after keeps p.items p.least (λ m. W m (λ o. Q o m)) (Q p.out) (λ n m le ge. p.is n m le ge (λ o. Q o m)) (next p.out p.after p.shaped)
comes_then codes s w shape keeps W Q so (inr p) next =
    inr (record { items = p.items; least = p.least; kinds = p.kinds; after = p.after; kept = so p.after p.kept; is = λ n m le ge. p.is n m le ge (λ o. Q o m) })

-- priced steps first
pub comes_steps : (s : Programs) (w : World) (keeps : Option (List Val) → World → Type 0) (price : ℕ) (P : Bounded) → Comes s w keeps P → Comes s w keeps (λ m. steps price (P m))
comes_steps s w keeps zero P h = h
comes_steps s w keeps (suc price) P h =
    comes_behind s w w keeps (paid [] ∷ []) 0 (λ m. step (steps price (P m))) (λ m. steps price (P m)) (λ n m le ge. refl) (comes_steps s w keeps price P h)

-- one more of the bound
pub comes_more : (s : Programs) (w : World) (keeps : Option (List Val) → World → Type 0) (P Q : Bounded) → ((m : ℕ) → P (suc m) ≡ Q m) → Comes s w keeps Q → Comes s w keeps P
comes_more s w keeps P Q leads (inl q) = inl (record {
  items = q.items;
  least = suc q.least;
  operands = q.operands;
  after = q.after;
  kept = q.kept;
  is = at_bound;
})
  where
    at_bound : (n m : ℕ) → suc q.least ≤ n → suc q.least ≤ m → run (answer s n) (P m) w ≡ behind q.items (ended (ends q.operands) q.after)
    at_bound n zero le ge = absurd (omega arith)
    at_bound n (suc m) le ge = ap (λ (p : Process). run (answer s n) p w) (leads m) ∙ q.is n m (omega arith) (omega arith)
comes_more s w keeps P Q leads (inr q) = inr (record {
  items = q.items;
  least = suc q.least;
  kinds = q.kinds;
  after = q.after;
  kept = q.kept;
  is = at_bound;
})
  where
    at_bound : (n m : ℕ) → suc q.least ≤ n → suc q.least ≤ m → run (answer s n) (P m) w ≡ behind q.items (ended (faults q.kinds) q.after)
    at_bound n zero le ge = absurd (omega arith)
    at_bound n (suc m) le ge = ap (λ (p : Process). run (answer s n) p w) (leads m) ∙ q.is n m (omega arith) (omega arith)

-- at once over
pub comes_over : (s : Programs) (w : World) (keeps : Option (List Val) → World → Type 0) (P : Bounded) (operands : List Val) → keeps (Some operands) w
    → ((n m : ℕ) → run (answer s n) (P m) w ≡ ended (ends operands) w) → Comes s w keeps P
comes_over s w keeps P operands kept is = inl (record { items = []; least = 0; operands = operands; after = w; kept = kept; is = λ n m le ge. is n m })
