-- What a walk comes to from a world on, under every bound that is great enough: it passes on to what follows, or it
-- stops with a fault.
use Rattle.std.proofs.Common.{◌≡◌, ℕ, ◌+◌, ◌≤◌, ◌⊎◌, inl, inr, List, [], ◌∷◌, ◌++◌, Result, Ok, Err, refl, sym, ap, ◌∙◌, append_assoc, arith}
use Rattle.template_values_errors.specs.declared.ErrorKind.{ErrorKind}
use Rattle.template_values_model.specs.Val.{Val}
use Rattle.template_compiler_process.specs.Process as events
use Rattle.template_compiler_process.specs.Process.{Ask, Answer, done, value, tells, Process, step, asks, on_done, on_value, on_all}
use Rattle.template_compiler_process.specs.Drive.{faults}
use Rattle.template_compiler_process.specs.Trace.{Item, paid, Reply, Run, run, behind, ended, replied}
use Rattle.template_machine_meaning.specs.World.{World}
use Rattle.template_machine_meaning.specs.Replies.{told, changed, refused, replied_with}
use Rattle.template_machine_meaning.specs.Surroundings.{Programs, answer}

-- a walk, under a bound on its rounds, before what follows each of its outcomes
abbrev pub Walk : Type 0 → Type 0
Walk O = ℕ → (O → Process) → Process

pub record Passes {O : Type 0} (s : Programs) (w : World) (shape : O → World → Type 0) (P : Walk O) : Type 0 where
  pub items : List Item
  pub least : ℕ
  pub out : O
  pub after : World
  pub shaped : shape out after
  pub is : (n m : ℕ) → least ≤ n → least ≤ m → (go : O → Process) → run (answer s n) (P m go) w ≡ behind items (run (answer s n) (go out) after)

pub record Stops {O : Type 0} (s : Programs) (w : World) (P : Walk O) : Type 0 where
  pub items : List Item
  pub least : ℕ
  pub kinds : List ErrorKind
  pub after : World
  pub is : (n m : ℕ) → least ≤ n → least ≤ m → (go : O → Process) → run (answer s n) (P m go) w ≡ behind items (ended (faults kinds) after)

abbrev pub Settles : {O : Type 0} → Programs → World → (O → World → Type 0) → Walk O → Type 0
Settles {O} s w shape P = Passes {O = O} s w shape P ⊎ Stops {O = O} s w P

pub behind-behind : {S : Type 0} (items later : List Item) (r : Run S) → behind items (behind later r) ≡ behind (items ++ later) r
behind-behind items later r = λ i. record { items = sym (append_assoc items later r.items) i; end = r.end; after = r.after }

then_passes : {O U : Type 0} (s : Programs) (w : World) (shape : O → World → Type 0) (form : U → World → Type 0) (P : Walk O) (Q : O → Walk U)
    → (p : Passes {O = O} s w shape P) → Settles {O = U} s p.after form (Q p.out) → Settles {O = U} s w form (λ m go. P m (λ o. Q o m go))
then_passes s w shape form P Q p (inl q) = inl (record {
  items = p.items ++ q.items;
  least = p.least + q.least;
  out = q.out;
  after = q.after;
  shaped = q.shaped;
  is = λ n m le ge go. p.is n m (omega arith) (omega arith) (λ o. Q o m go) ∙ ap (behind p.items) (q.is n m (omega arith) (omega arith) go) ∙ behind-behind p.items q.items (run (answer s n) (go q.out) q.after);
})
then_passes s w shape form P Q p (inr q) = inr (record {
  items = p.items ++ q.items;
  least = p.least + q.least;
  kinds = q.kinds;
  after = q.after;
  is = λ n m le ge go. p.is n m (omega arith) (omega arith) (λ o. Q o m go) ∙ ap (behind p.items) (q.is n m (omega arith) (omega arith) go) ∙ behind-behind p.items q.items (ended (faults q.kinds) q.after);
})

-- one walk, and then another that may look at its outcome
pub settles_then : {O U : Type 0} (s : Programs) (w : World) (shape : O → World → Type 0) (form : U → World → Type 0) (P : Walk O) (Q : O → Walk U)
    → Settles {O = O} s w shape P → ((o : O) (v : World) → shape o v → Settles {O = U} s v form (Q o)) → Settles {O = U} s w form (λ m go. P m (λ o. Q o m go))
settles_then s w shape form P Q (inl p) next = then_passes s w shape form P Q p (next p.out p.after p.shaped)
settles_then s w shape form P Q (inr p) next = inr (record {
  items = p.items;
  least = p.least;
  kinds = p.kinds;
  after = p.after;
  is = λ n m le ge go. p.is n m le ge (λ o. Q o m go);
})

-- what is over at once
pub settles_now : {O : Type 0} (s : Programs) (w : World) (shape : O → World → Type 0) (o : O) → shape o w → Settles {O = O} s w shape (λ m go. go o)
settles_now s w shape o shaped = inl (record { items = []; least = 0; out = o; after = w; shaped = shaped; is = λ n m le ge go. refl })

-- one priced step first
pub settles_step : {O : Type 0} (s : Programs) (w : World) (shape : O → World → Type 0) (P : Walk O) → Settles {O = O} s w shape P → Settles {O = O} s w shape (λ m go. step (P m go))
settles_step s w shape P (inl p) = inl (record {
  items = paid [] ∷ p.items;
  least = p.least;
  out = p.out;
  after = p.after;
  shaped = p.shaped;
  is = λ n m le ge go. ap (behind (paid [] ∷ [])) (p.is n m le ge go);
})
settles_step s w shape P (inr p) = inr (record {
  items = paid [] ∷ p.items;
  least = p.least;
  kinds = p.kinds;
  after = p.after;
  is = λ n m le ge go. ap (behind (paid [] ∷ [])) (p.is n m le ge go);
})

-- what is answered the same under every bound, and does with the reply what the walk of another event does
pub answered : {O : Type 0} (s : Programs) (w : World) (e : Ask) (r : Reply World) (go : (O → Process) → Answer → Process)
    → ((n : ℕ) → answer s n w e ≡ r) → (n : ℕ) (k : O → Process)
    → run (answer s n) (asks e (go k)) w ≡ replied (λ a t. run (answer s n) (go k a) t) r
answered s w e r go is n k = ap (replied (λ a t. run (answer s n) (go k a) t)) (is n)

-- an event that gives a value, or is refused, and changes nothing
pub settles_value : (s : Programs) (w : World) (shape : Val → World → Type 0) (e : Ask) (r : Result Val ErrorKind)
    → ((v : Val) → shape v w) → ((n : ℕ) → answer s n w e ≡ replied_with w value r) → Settles {O = Val} s w shape (λ m go. asks e (on_value go))
settles_value s w shape e (Ok v) shaped is = inl (record {
  items = [];
  least = 0;
  out = v;
  after = w;
  shaped = shaped v;
  is = λ n m le ge go. answered s w e (told w (tells (value v))) on_value is n go;
})
settles_value s w shape e (Err kind) shaped is = inr (record {
  items = [];
  least = 0;
  kinds = kind ∷ [];
  after = w;
  is = λ n m le ge go. answered s w e (refused w kind) on_value is n go;
})

-- an event that gives items, or is refused, and changes nothing
pub settles_items : (s : Programs) (w : World) (shape : List Val → World → Type 0) (e : Ask) (r : Result (List Val) ErrorKind)
    → ((vs : List Val) → shape vs w) → ((n : ℕ) → answer s n w e ≡ replied_with w events.items r) → Settles {O = List Val} s w shape (λ m go. asks e (on_all go))
settles_items s w shape e (Ok vs) shaped is = inl (record {
  items = [];
  least = 0;
  out = vs;
  after = w;
  shaped = shaped vs;
  is = λ n m le ge go. answered s w e (told w (tells (events.items vs))) on_all is n go;
})
settles_items s w shape e (Err kind) shaped is = inr (record {
  items = [];
  least = 0;
  kinds = kind ∷ [];
  after = w;
  is = λ n m le ge go. answered s w e (refused w kind) on_all is n go;
})

-- an event that gives a value, and leaves another world
pub settles_given : (s : Programs) (w after : World) (shape : Val → World → Type 0) (e : Ask) (v : Val)
    → shape v after → ((n : ℕ) → answer s n w e ≡ changed after (value v)) → Settles {O = Val} s w shape (λ m go. asks e (on_value go))
settles_given s w after shape e v shaped is = inl (record {
  items = [];
  least = 0;
  out = v;
  after = after;
  shaped = shaped;
  is = λ n m le ge go. answered s w e (changed after (value v)) on_value is n go;
})

-- an event that is done, and leaves another world
pub settles_done : (s : Programs) (w after : World) (shape : Unit {0} → World → Type 0) (e : Ask)
    → shape tt after → ((n : ℕ) → answer s n w e ≡ changed after done) → Settles {O = Unit {0}} s w shape (λ m go. asks e (on_done (go tt)))
settles_done s w after shape e shaped is = inl (record {
  items = [];
  least = 0;
  out = tt;
  after = after;
  shaped = shaped;
  is = λ n m le ge go. ap (replied (λ a t. run (answer s n) (on_done (go tt) a) t)) (is n);
})

-- an event that is refused
pub settles_refused : {O : Type 0} (s : Programs) (w : World) (shape : O → World → Type 0) (e : Ask) (kind : ErrorKind) (K : ℕ → (O → Process) → Answer → Process)
    → ((n : ℕ) → answer s n w e ≡ refused w kind) → Settles {O = O} s w shape (λ m go. asks e (K m go))
settles_refused s w shape e kind K is = inr (record {
  items = [];
  least = 0;
  kinds = kind ∷ [];
  after = w;
  is = λ n m le ge go. answered s w e (refused w kind) (K m) is n go;
})

-- what comes behind items that stand first
pub settles_before : {O : Type 0} (s : Programs) (w z : World) (shape : O → World → Type 0) (items : List Item) (least : ℕ) (P Q : Walk O)
    → ((n m : ℕ) → least ≤ n → least ≤ m → (go : O → Process) → run (answer s n) (P m go) w ≡ behind items (run (answer s n) (Q m go) z))
    → Settles {O = O} s z shape Q → Settles {O = O} s w shape P
settles_before s w z shape items least P Q leads (inl q) = inl (record {
  items = items ++ q.items;
  least = least + q.least;
  out = q.out;
  after = q.after;
  shaped = q.shaped;
  is = λ n m le ge go. leads n m (omega arith) (omega arith) go ∙ ap (behind items) (q.is n m (omega arith) (omega arith) go) ∙ behind-behind items q.items (run (answer s n) (go q.out) q.after);
})
settles_before s w z shape items least P Q leads (inr q) = inr (record {
  items = items ++ q.items;
  least = least + q.least;
  kinds = q.kinds;
  after = q.after;
  is = λ n m le ge go. leads n m (omega arith) (omega arith) go ∙ ap (behind items) (q.is n m (omega arith) (omega arith) go) ∙ behind-behind items q.items (ended (faults q.kinds) q.after);
})

-- an event that is done leads to what follows, in another world
pub settles_to : {O : Type 0} (s : Programs) (w z : World) (shape : O → World → Type 0) (e : Ask) (Q : Walk O)
    → ((n : ℕ) → answer s n w e ≡ changed z done) → Settles {O = O} s z shape Q → Settles {O = O} s w shape (λ m go. asks e (on_done (Q m go)))
settles_to s w z shape e Q is q =
    settles_before s w z shape [] 0 (λ m go. asks e (on_done (Q m go))) Q (λ n m le ge go. ap (replied (λ a t. run (answer s n) (on_done (Q m go) a) t)) (is n)) q

-- less is said of what is come to
pub settles_weaker : {O : Type 0} (s : Programs) (w : World) (shape form : O → World → Type 0) (P : Walk O) → ((o : O) (z : World) → shape o z → form o z) → Settles {O = O} s w shape P → Settles {O = O} s w form P
settles_weaker s w shape form P less (inl p) = inl (record { items = p.items; least = p.least; out = p.out; after = p.after; shaped = less p.out p.after p.shaped; is = p.is })
settles_weaker s w shape form P less (inr p) = inr p
