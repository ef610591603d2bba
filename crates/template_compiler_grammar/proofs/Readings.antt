-- What two readings of the same tokens answer, over a table of spans each: without its places the same, which is a tree by a
-- relation, or a fault that is to blame.
use Rattle.std.proofs.Common.{◌≡◌, ℕ, zero, suc, Bool, true, false, if◌then◌else◌, List, ◌∷◌, length, Ok, Err, refl, sym, ◌∙◌, ap, subst, inl}
use Rattle.template_compiler_tokens.specs.Token.{Token, TokenFault, bad_syntax}
use Rattle.template_compiler_tokens.specs.Blame.{Blamed}
use Rattle.template_compiler_tokens.specs.Steps.{Read, fault, and_then, Step, goes, stops, fails, under, goes_on, many, all}
use Rattle.template_compiler_tokens.proofs.Readings as alone
use Rattle.template_compiler_tokens.proofs.Readings.{Kept, fault_blamed, ok_tree, ok_rest}
use Rattle.template_compiler_grammar.specs.Nodes.{Placed, placed, bare, bare_step}

pub record Reads {A R : Type 0} (P : A → List Token → Type 0) (ts : List Token) (m n : Read (Placed A R)) : Type 0 where
  pub same : bare m ≡ bare n
  pub reads : alone.Reads P ts (bare m)

pub record StepReads {A R : Type 0} (P : A → List Token → Type 0) (ts : List Token) (s t : Step (Placed A R)) : Type 0 where
  pub same : bare_step s ≡ bare_step t
  pub reads : alone.StepReads P ts (bare_step s)

-- readings
pub reads_ok : {A R : Type 0} {P : A → List Token → Type 0} {a : A} {p q : R} {ts us : List Token} → P a us → Kept us ts →
    Reads P ts (Ok (placed a p, us)) (Ok (placed a q, us))
unfolding bare
reads_ok x k = record { same = refl; reads = alone.reads_ok x k }

pub reads_end : {A R : Type 0} {P : A → List Token → Type 0} {a : A} {p q : R} {us : List Token} → P a us →
    Reads P us (Ok (placed a p, us)) (Ok (placed a q, us))
unfolding bare
reads_end x = record { same = refl; reads = alone.reads_end x }

pub reads_fault : {A R : Type 0} {P : A → List Token → Type 0} {ts : List Token} (f : TokenFault) → Blamed f ts →
    Reads {R = R} P ts (Err f) (Err f)
unfolding bare
reads_fault f b = record { same = refl; reads = alone.reads_fault f b }

pub reads_none : {A R : Type 0} {P : A → List Token → Type 0} (ts : List Token) → Reads {R = R} P ts (Err (fault ts)) (Err (fault ts))
reads_none ts = reads_fault (fault ts) (fault_blamed ts)

pub reads_syntax : {A R : Type 0} {P : A → List Token → Type 0} {ts : List Token} → Reads {R = R} P ts (Err bad_syntax) (Err bad_syntax)
reads_syntax = reads_fault bad_syntax (inl refl)

pub reads_within : {A R : Type 0} {P : A → List Token → Type 0} {ts us : List Token} {m n : Read (Placed A R)} → Kept us ts →
    Reads P us m n → Reads P ts m n
reads_within k r = record { same = r.same; reads = alone.reads_within k r.reads }

pub reads_behind : {A R : Type 0} {P : A → List Token → Type 0} {t : Token} {ts : List Token} {m n : Read (Placed A R)} →
    Reads P ts m n → Reads P (t ∷ ts) m n
reads_behind r = record { same = r.same; reads = alone.reads_behind r.reads }

pub reads_as : {A R : Type 0} {P Q : A → List Token → Type 0} {ts : List Token} {m n : Read (Placed A R)} →
    ((a : A) (us : List Token) → Q a us → P a us) → Reads Q ts m n → Reads P ts m n
reads_as go r = record { same = r.same; reads = alone.reads_as go r.reads }

pub reads_if : {A R : Type 0} {P : A → List Token → Type 0} {ts : List Token} {m n k l : Read (Placed A R)} (b : Bool) →
    (b ≡ true → Reads P ts m k) → (b ≡ false → Reads P ts n l) → Reads P ts (if b then m else n) (if b then k else l)
reads_if true x y = x refl
reads_if false x y = y refl

then_by : {A B R S : Type 0} {P : B → List Token → Type 0} {Q : A → List Token → Type 0} {ts : List Token} (m n : Read (Placed A R))
    (go on : Placed A R → List Token → Read (Placed B S)) → Reads Q ts m n →
    ((a : A) (p q : R) (us : List Token) → Q a us → Reads P us (go (placed a p) us) (on (placed a q) us)) →
    Reads P ts (and_then m go) (and_then n on)
unfolding bare and_then
then_by {P = P} (Ok x) (Ok y) go on r next =
    let z = r.reads.tree x.0.tree x.1 refl in
    reads_within z.1 (subst (λ us. Reads P x.1 (go x.0 x.1) (on y.0 us)) (ok_rest r.same)
    (subst (λ a. Reads P x.1 (go x.0 x.1) (on (placed a y.0.places) x.1)) (ok_tree r.same) (next x.0.tree x.0.places y.0.places x.1 z.0)))
then_by (Ok x) (Err g) go on r next = let e = r.same in cc
then_by (Err f) (Ok y) go on r next = let e = r.same in cc
then_by {S = S} {P = P} {ts = ts} (Err f) (Err g) go on r next =
    let e = r.same in let is : f ≡ g = cc in subst (λ g. Reads {R = S} P ts (Err f) (Err g)) is (reads_fault f (r.reads.blames f refl))

pub reads_then : {A B R S : Type 0} {P : B → List Token → Type 0} {Q : A → List Token → Type 0} {ts : List Token} {m n : Read (Placed A R)}
    (go on : Placed A R → List Token → Read (Placed B S)) → Reads Q ts m n →
    ((a : A) (p q : R) (us : List Token) → Q a us → Reads P us (go (placed a p) us) (on (placed a q) us)) →
    Reads P ts (and_then m go) (and_then n on)
reads_then {m = m} {n = n} go on r next = then_by m n go on r next

-- behind what has no places
after_by : {A B S : Type 0} {P : B → List Token → Type 0} {Q : A → List Token → Type 0} {ts : List Token} (m : Read A)
    (go on : A → List Token → Read (Placed B S)) → alone.Reads Q ts m →
    ((a : A) (us : List Token) → Q a us → Reads P us (go a us) (on a us)) →
    Reads P ts (and_then m go) (and_then m on)
unfolding and_then
after_by (Ok x) go on r next = let y = r.tree x.0 x.1 refl in reads_within y.1 (next x.0 x.1 y.0)
after_by (Err f) go on r next = reads_fault f (r.blames f refl)

pub reads_after : {A B S : Type 0} {P : B → List Token → Type 0} {Q : A → List Token → Type 0} {ts : List Token} {m : Read A}
    (go on : A → List Token → Read (Placed B S)) → alone.Reads Q ts m →
    ((a : A) (us : List Token) → Q a us → Reads P us (go a us) (on a us)) →
    Reads P ts (and_then m go) (and_then m on)
reads_after {m = m} go on r next = after_by m go on r next

-- rounds
pub step_goes : {A R : Type 0} {P : A → List Token → Type 0} {a : A} {p q : R} {ts us : List Token} → P a us → Kept us ts →
    StepReads P ts (goes (placed a p) us) (goes (placed a q) us)
unfolding bare_step
step_goes x k = record { same = refl; reads = alone.step_goes x k }

pub step_stops : {A R : Type 0} {P : A → List Token → Type 0} {ts : List Token} → StepReads {R = R} P ts stops stops
unfolding bare_step
step_stops = record { same = refl; reads = alone.step_stops }

pub step_fails : {A R : Type 0} {P : A → List Token → Type 0} {ts : List Token} (f : TokenFault) → Blamed f ts →
    StepReads {R = R} P ts (fails f) (fails f)
unfolding bare_step
step_fails f b = record { same = refl; reads = alone.step_fails f b }

pub step_within : {A R : Type 0} {P : A → List Token → Type 0} {ts us : List Token} {m n : Step (Placed A R)} → Kept us ts →
    StepReads P us m n → StepReads P ts m n
step_within k r = record { same = r.same; reads = alone.step_within k r.reads }

pub step_behind : {A R : Type 0} {P : A → List Token → Type 0} {t : Token} {ts : List Token} {m n : Step (Placed A R)} →
    StepReads P ts m n → StepReads P (t ∷ ts) m n
step_behind r = record { same = r.same; reads = alone.step_behind r.reads }

pub step_as : {A R : Type 0} {P Q : A → List Token → Type 0} {ts : List Token} {m n : Step (Placed A R)} →
    ((a : A) (us : List Token) → Q a us → P a us) → StepReads Q ts m n → StepReads P ts m n
step_as go r = record { same = r.same; reads = alone.step_as go r.reads }

pub step_if : {A R : Type 0} {P : A → List Token → Type 0} {ts : List Token} {m n k l : Step (Placed A R)} (b : Bool) →
    (b ≡ true → StepReads P ts m k) → (b ≡ false → StepReads P ts n l) → StepReads P ts (if b then m else n) (if b then k else l)
step_if true x y = x refl
step_if false x y = y refl

under_by : {A B R S : Type 0} {P : B → List Token → Type 0} {Q : A → List Token → Type 0} {ts : List Token} (m n : Read (Placed A R))
    (go on : Placed A R → List Token → Step (Placed B S)) → Reads Q ts m n →
    ((a : A) (p q : R) (us : List Token) → Q a us → StepReads P us (go (placed a p) us) (on (placed a q) us)) →
    StepReads P ts (under m go) (under n on)
unfolding bare under
under_by {P = P} (Ok x) (Ok y) go on r next =
    let z = r.reads.tree x.0.tree x.1 refl in
    step_within z.1 (subst (λ us. StepReads P x.1 (go x.0 x.1) (on y.0 us)) (ok_rest r.same)
    (subst (λ a. StepReads P x.1 (go x.0 x.1) (on (placed a y.0.places) x.1)) (ok_tree r.same)
    (next x.0.tree x.0.places y.0.places x.1 z.0)))
under_by (Ok x) (Err g) go on r next = let e = r.same in cc
under_by (Err f) (Ok y) go on r next = let e = r.same in cc
under_by {S = S} {P = P} {ts = ts} (Err f) (Err g) go on r next =
    let e = r.same in let is : f ≡ g = cc in subst (λ g. StepReads {R = S} P ts (fails f) (fails g)) is
    (step_fails f (r.reads.blames f refl))

pub step_under : {A B R S : Type 0} {P : B → List Token → Type 0} {Q : A → List Token → Type 0} {ts : List Token} {m n : Read (Placed A R)}
    (go on : Placed A R → List Token → Step (Placed B S)) → Reads Q ts m n →
    ((a : A) (p q : R) (us : List Token) → Q a us → StepReads P us (go (placed a p) us) (on (placed a q) us)) →
    StepReads P ts (under m go) (under n on)
step_under {m = m} {n = n} go on r next = under_by m n go on r next

-- repetitions
module _ {A R : Type 0} (step on : Placed A R → List Token → Step (Placed A R)) (P : A → List Token → A → List Token → Type 0) where
  -- from a place on, whatever the places of what is put together so far
  abbrev From : (A → List Token → Type 0) → ℕ → A → List Token → Type 0
  From Q n a ts = (p q : R) → Reads Q ts (many n step (placed a p) ts) (many n on (placed a q) ts)

  goes_on_reads : (n : ℕ) (a : A) (p q : R) (ts : List Token) (s t : Step (Placed A R)) → P a ts a ts →
      StepReads (λ b us. (c : A) (vs : List Token) → P b us c vs → P a ts c vs) ts s t →
      ((b : A) (us : List Token) → From (P b us) n b us) →
      Reads (P a ts) ts (goes_on s (Ok (placed a p, ts)) (many n step)) (goes_on t (Ok (placed a q, ts)) (many n on))
  unfolding bare_step goes_on
  goes_on_reads n a p q ts (goes b us) (goes c vs) here r rest =
      let e = r.same in let tree : b.tree ≡ c.tree = cc in let left : us ≡ vs = cc in let x = r.reads.tree b.tree us refl in
      reads_within x.1 (reads_as (λ c vs y. x.0 c vs y)
      (subst (λ vs. Reads (P b.tree us) us (many n step b us) (many n on c vs)) left
      (subst (λ t. Reads (P b.tree us) us (many n step b us) (many n on (placed t c.places) us)) tree (rest b.tree us b.places c.places))))
  goes_on_reads n a p q ts stops stops here r rest = reads_end here
  goes_on_reads n a p q ts (fails f) (fails g) here r rest =
      let e = r.same in let is : f ≡ g = cc in subst (λ g. Reads {R = R} (P a ts) ts (Err f) (Err g)) is
      (reads_fault f (r.reads.blames f refl))
  goes_on_reads n a p q ts _ _ here r rest = let e = r.same in cc

  many_reads : ((a : A) (ts : List Token) → P a ts a ts) →
      ((a : A) (p q : R) (ts : List Token) →
      StepReads (λ b us. (c : A) (vs : List Token) → P b us c vs → P a ts c vs) ts (step (placed a p) ts) (on (placed a q) ts)) →
      (n : ℕ) (a : A) (ts : List Token) → From (P a ts) n a ts
  unfolding many
  many_reads here one zero a ts p q = reads_end (here a ts)
  many_reads here one (suc n) a ts p q =
      goes_on_reads n a p q ts (step (placed a p) ts) (on (placed a q) ts) (here a ts) (one a p q ts) (λ b us. many_reads here one n b us)

  pub reads_all : ((a : A) (ts : List Token) → P a ts a ts) →
      ((a : A) (p q : R) (ts : List Token) →
      StepReads (λ b us. (c : A) (vs : List Token) → P b us c vs → P a ts c vs) ts (step (placed a p) ts) (on (placed a q) ts)) →
      (a : A) (p q : R) (ts : List Token) → Reads (P a ts) ts (all step (placed a p) ts) (all on (placed a q) ts)
  unfolding all
  reads_all here one a p q ts = many_reads here one (suc (length ts)) a ts p q

-- what is read, read without its places
pub bare_reads : {A P : Type 0} {m : Read (Placed A P)} {n : Read A} {a : Placed A P} {ts : List Token} →
    bare m ≡ n → m ≡ Ok (a, ts) → n ≡ Ok (a.tree, ts)
unfolding bare
bare_reads e f = sym e ∙ ap bare f

pub bare_fails : {A P : Type 0} {m : Read (Placed A P)} {n : Read A} {f : TokenFault} → bare m ≡ n → m ≡ Err f → n ≡ Err f
unfolding bare
bare_fails e g = sym e ∙ ap bare g

-- what is read has its tree, and keeps the tokens
pub tree_of : {A R : Type 0} {P : A → List Token → Type 0} {ts us : List Token} {m n : Read (Placed A R)} {a : Placed A R} →
    Reads P ts m n →
    m ≡ Ok (a, us) → P a.tree us × Kept us ts
tree_of {us = us} {a = a} r e = r.reads.tree a.tree us (bare_reads refl e)

pub step_tree : {A R : Type 0} {P : A → List Token → Type 0} {ts us : List Token} {s t : Step (Placed A R)} {a : Placed A R} →
    StepReads P ts s t →
    s ≡ goes a us → P a.tree us × Kept us ts
unfolding bare_step
step_tree {us = us} {a = a} r e = r.reads.tree a.tree us (ap bare_step e)
