-- `Below` by its constructors, so that it can stay shut elsewhere.
use Rattle.std.proofs.Common.{◌≡◌, ℕ, Bool, true, false, ◌==◌, List, length, Option, refl, arith}
use Rattle.std.specs.Prelude.{if◌then◌else◌}
use Rattle.template_values_model.specs.Val.{Val}
use Rattle.template_compiler_process.specs.Process.{Ask, Answer, done, value, truth, item, no_item, items, closure, Process, over, step, asks, amiss, cut_short, stuck, on_done, on_value, on_truth, on_item, on_items, on_all, on_closure, Below}

-- what is cut short is below everything
pub below-cut_short : (q : Process) → Below cut_short q
unfolding Below
below-cut_short q = tt

pub below-over : (operands : List Val) → Below (over operands) (over operands)
unfolding Below
below-over operands = refl

pub below-step : (p q : Process) → Below p q → Below (step p) (step q)
unfolding Below
below-step p q h = h

pub below-asks : (e : Ask) (k l : Answer → Process) → ((a : Answer) → Below (k a) (l a)) → Below (asks e k) (asks e l)
unfolding Below
below-asks e k l h = (refl, h)

pub below-amiss : Below amiss amiss
unfolding Below
below-amiss = tt

pub below-stuck : Below stuck stuck
unfolding Below
below-stuck = tt

below-on_done : (p q : Process) → Below p q → (a : Answer) → Below (on_done p a) (on_done q a)
below-on_done p q h done = h
below-on_done p q h _ = below-amiss

below-on_value : (k l : Val → Process) → ((v : Val) → Below (k v) (l v)) → (a : Answer) → Below (on_value k a) (on_value l a)
below-on_value k l h (value v) = h v
below-on_value k l h _ = below-amiss

below-on_truth : (p q r s : Process) → Below p q → Below r s → (a : Answer) → Below (on_truth p r a) (on_truth q s a)
below-on_truth p q r s h i (truth true) = h
below-on_truth p q r s h i (truth false) = i
below-on_truth p q r s h i _ = below-amiss

below-on_item : (k l : Val → Process) (p q : Process) → ((v : Val) → Below (k v) (l v)) → Below p q → (a : Answer) → Below (on_item k p a) (on_item l q a)
below-on_item k l p q h i (item v) = h v
below-on_item k l p q h i no_item = i
below-on_item k l p q h i _ = below-amiss

below-counted : (k l : List Val → Process) (vs : List Val) (b : Bool) → ((vs : List Val) → Below (k vs) (l vs)) → Below (if b then k vs else amiss) (if b then l vs else amiss)
below-counted k l vs true h = h vs
below-counted k l vs false h = below-amiss

below-on_items : (n : ℕ) (k l : List Val → Process) → ((vs : List Val) → Below (k vs) (l vs)) → (a : Answer) → Below (on_items n k a) (on_items n l a)
below-on_items n k l h (items vs) = below-counted k l vs (length vs == n) h
below-on_items n k l h _ = below-amiss

below-on_all : (k l : List Val → Process) → ((vs : List Val) → Below (k vs) (l vs)) → (a : Answer) → Below (on_all k a) (on_all l a)
below-on_all k l h (items vs) = h vs
below-on_all k l h _ = below-amiss

below-on_closure : (k l : Option ℕ → Process) → ((c : Option ℕ) → Below (k c) (l c)) → (a : Answer) → Below (on_closure k a) (on_closure l a)
below-on_closure k l h (closure c) = h c
below-on_closure k l h _ = below-amiss

-- an event that is only done
pub below-asks_done : (e : Ask) (p q : Process) → Below p q → Below (asks e (on_done p)) (asks e (on_done q))
below-asks_done e p q h = below-asks e (on_done p) (on_done q) (below-on_done p q h)

-- an event that gives a value
pub below-asks_value : (e : Ask) (k l : Val → Process) → ((v : Val) → Below (k v) (l v)) → Below (asks e (on_value k)) (asks e (on_value l))
below-asks_value e k l h = below-asks e (on_value k) (on_value l) (below-on_value k l h)

-- an event that decides
pub below-asks_truth : (e : Ask) (p q r s : Process) → Below p q → Below r s → Below (asks e (on_truth p r)) (asks e (on_truth q s))
below-asks_truth e p q r s h i = below-asks e (on_truth p r) (on_truth q s) (below-on_truth p q r s h i)

-- an event that gives an item, or none
pub below-asks_item : (e : Ask) (k l : Val → Process) (p q : Process) → ((v : Val) → Below (k v) (l v)) → Below p q → Below (asks e (on_item k p)) (asks e (on_item l q))
below-asks_item e k l p q h i = below-asks e (on_item k p) (on_item l q) (below-on_item k l p q h i)

-- an event that gives so many items
pub below-asks_items : (e : Ask) (n : ℕ) (k l : List Val → Process) → ((vs : List Val) → Below (k vs) (l vs)) → Below (asks e (on_items n k)) (asks e (on_items n l))
below-asks_items e n k l h = below-asks e (on_items n k) (on_items n l) (below-on_items n k l h)

-- an event that gives items, however many
pub below-asks_all : (e : Ask) (k l : List Val → Process) → ((vs : List Val) → Below (k vs) (l vs)) → Below (asks e (on_all k)) (asks e (on_all l))
below-asks_all e k l h = below-asks e (on_all k) (on_all l) (below-on_all k l h)

-- an event that gives a closure
pub below-asks_closure : (e : Ask) (k l : Option ℕ → Process) → ((c : Option ℕ) → Below (k c) (l c)) → Below (asks e (on_closure k)) (asks e (on_closure l))
below-asks_closure e k l h = below-asks e (on_closure k) (on_closure l) (below-on_closure k l h)

pub below-refl : (p : Process) → Below p p
below-refl (over operands) = below-over operands
below-refl (step p) = below-step p p (below-refl p)
below-refl (asks e k) = below-asks e k k (λ a. below-refl (k a))
below-refl amiss = below-amiss
below-refl cut_short = below-cut_short cut_short
below-refl stuck = below-stuck

-- what is below a process that is below another is below that other too
pub below-trans : (p q r : Process) → Below p q → Below q r → Below p r
unfolding Below
below-trans cut_short q r h k = tt
below-trans (over vs) (over ws) (over us) h k = cc
below-trans (step p) (step q) (step r) h k = below-trans p q r h k
below-trans (asks e f) (asks e' f') (asks e'' f'') h k = (cc, λ a. below-trans (f a) (f' a) (f'' a) (h.1 a) (k.1 a))
below-trans amiss amiss amiss h k = tt
below-trans stuck stuck stuck h k = tt
below-trans _ _ _ h k = search arith

-- the same, where as many items come as are wanted
pub below-asks_items_of : (e : Ask) (n : ℕ) (k l : List Val → Process) → ((vs : List Val) → (length vs == n) ≡ true → Below (k vs) (l vs)) → Below (asks e (on_items n k)) (asks e (on_items n l))
below-asks_items_of e n k l h = below-asks e (on_items n k) (on_items n l) (answered_by n k l h)
  where
    counted_by : (n : ℕ) (k l : List Val → Process) (vs : List Val) (b : Bool) → (length vs == n) ≡ b → ((vs : List Val) → (length vs == n) ≡ true → Below (k vs) (l vs)) → Below (if b then k vs else amiss) (if b then l vs else amiss)
    counted_by n k l vs true e h = h vs e
    counted_by n k l vs false e h = below-amiss

    answered_by : (n : ℕ) (k l : List Val → Process) → ((vs : List Val) → (length vs == n) ≡ true → Below (k vs) (l vs)) → (a : Answer) → Below (on_items n k a) (on_items n l a)
    answered_by n k l h (items vs) = counted_by n k l vs (length vs == n) refl h
    answered_by n k l h _ = below-amiss
