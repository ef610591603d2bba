-- What a reading answers: a tree by a relation, tokens behind it in which nothing stands that did not stand before,
-- or a fault that is to blame.
use Rattle.std.proofs.Common.{arith, ◌≡◌, ℕ, zero, suc, inl, inr, Bool, true, false, if◌then◌else◌, List, ◌∷◌, length, Ok, Err, refl, ap, subst, ◌≤◌}
use Rattle.template_compiler_tokens.specs.Token.{Token, TokenFault, bad, bad_syntax}
use Rattle.template_compiler_tokens.specs.Blame.{Stands, Blamed}
use Rattle.template_compiler_tokens.specs.Steps.{Read, fault, and_then, Step, goes, stops, fails, under, goes_on, many, all}

-- the parts of what is read
ok_pair : {A : Type 0} (a : A) (ts : List Token) (r : Read A) → A × List Token
ok_pair a ts (Ok x) = x
ok_pair a ts (Err f) = (a, ts)

pub ok_tree : {A : Type 0} {a b : A} {ts us : List Token} → ◌≡◌ {A = Read A} (Ok (a, ts)) (Ok (b, us)) → a ≡ b
unfolding ok_pair
ok_tree {a = a} {ts = ts} e = ap (λ r. (ok_pair a ts r).0) e

pub ok_rest : {A : Type 0} {a b : A} {ts us : List Token} → ◌≡◌ {A = Read A} (Ok (a, ts)) (Ok (b, us)) → ts ≡ us
unfolding ok_pair
ok_rest {a = a} {ts = ts} e = ap (λ r. (ok_pair a ts r).1) e

-- what stands behind stood before, and is no longer
abbrev pub Kept : List Token → List Token → Type 0
Kept us ts = ((f : TokenFault) → Stands f us → Stands f ts) × (length us ≤ length ts)

pub record Reads {A : Type 0} (P : A → List Token → Type 0) (ts : List Token) (m : Read A) : Type 0 where
  pub tree : (a : A) (us : List Token) → m ≡ Ok (a, us) → P a us × Kept us ts
  pub blames : (f : TokenFault) → m ≡ Err f → Blamed f ts

pub record StepReads {A : Type 0} (P : A → List Token → Type 0) (ts : List Token) (s : Step A) : Type 0 where
  pub tree : (a : A) (us : List Token) → s ≡ goes a us → P a us × Kept us ts
  pub blames : (f : TokenFault) → s ≡ fails f → Blamed f ts

kept_blame : (us ts : List Token) → Kept us ts → (f : TokenFault) → Blamed f us → Blamed f ts
kept_blame us ts k f (inl e) = inl e
kept_blame us ts k f (inr s) = inr (k.0 f s)

pub fault_blamed : (ts : List Token) → Blamed (fault ts) ts
fault_blamed (bad f ∷ ts) = inr (inl refl)
fault_blamed _ = inl refl

-- readings
pub reads_ok : {A : Type 0} {P : A → List Token → Type 0} {a : A} {ts us : List Token} → P a us → Kept us ts → Reads P ts (Ok (a, us))
reads_ok {P = P} {a = a} {ts = ts} {us = us} p k = record {
  tree = λ b vs e. (
    subst (λ vs. P b vs) (ok_rest e) (subst (λ b. P b us) (ok_tree e) p),
    subst (λ vs. Kept vs ts) (ok_rest e) k,
  );
  blames = λ f e. cc;
}

pub reads_end : {A : Type 0} {P : A → List Token → Type 0} {a : A} {us : List Token} → P a us → Reads P us (Ok (a, us))
reads_end p = reads_ok p ((λ f k. k), omega arith)

pub reads_fault : {A : Type 0} {P : A → List Token → Type 0} {ts : List Token} (f : TokenFault) → Blamed f ts → Reads P ts (Err f)
reads_fault {ts = ts} f b = record {
  tree = λ a us e. cc;
  blames = λ g e. let same : f ≡ g = cc in subst (λ g. Blamed g ts) same b;
}

pub reads_none : {A : Type 0} {P : A → List Token → Type 0} (ts : List Token) → Reads P ts (Err (fault ts))
reads_none ts = reads_fault (fault ts) (fault_blamed ts)

pub reads_syntax : {A : Type 0} {P : A → List Token → Type 0} {ts : List Token} → Reads P ts (Err bad_syntax)
reads_syntax = reads_fault bad_syntax (inl refl)

pub reads_within : {A : Type 0} {P : A → List Token → Type 0} {ts us : List Token} {m : Read A} → Kept us ts → Reads P us m → Reads P ts m
reads_within {ts = ts} {us = us} k r = record {
  tree = λ a vs e. let x = r.tree a vs e in let w = x.1.1 in let v = k.1 in (x.0, ((λ f s. k.0 f (x.1.0 f s)), omega arith));
  blames = λ f e. kept_blame us ts k f (r.blames f e);
}

pub reads_behind : {A : Type 0} {P : A → List Token → Type 0} {t : Token} {ts : List Token} {m : Read A} → Reads P ts m → Reads P (t ∷ ts) m
reads_behind r = reads_within ((λ f s. inr s), omega arith) r

pub reads_as : {A : Type 0} {P Q : A → List Token → Type 0} {ts : List Token} {m : Read A} →
    ((a : A) (us : List Token) → Q a us → P a us) → Reads Q ts m → Reads P ts m
reads_as go r = record {
  tree = λ a us e. let x = r.tree a us e in (go a us x.0, x.1);
  blames = λ f e. r.blames f e;
}

then_by : {A B : Type 0} {P : B → List Token → Type 0} {Q : A → List Token → Type 0} {ts : List Token} (m : Read A)
    (go : A → List Token → Read B) → Reads Q ts m → ((a : A) (us : List Token) → Q a us → Reads P us (go a us)) → Reads P ts (and_then m go)
unfolding and_then
then_by (Ok x) go r next = let y = r.tree x.0 x.1 refl in reads_within y.1 (next x.0 x.1 y.0)
then_by (Err f) go r next = reads_fault f (r.blames f refl)

pub reads_then : {A B : Type 0} {P : B → List Token → Type 0} {Q : A → List Token → Type 0} {ts : List Token} {m : Read A}
    (go : A → List Token → Read B) → Reads Q ts m → ((a : A) (us : List Token) → Q a us → Reads P us (go a us)) → Reads P ts (and_then m go)
reads_then {m = m} go r next = then_by m go r next

pub reads_if : {A : Type 0} {P : A → List Token → Type 0} {ts : List Token} {m n : Read A} (b : Bool) →
    (b ≡ true → Reads P ts m) → (b ≡ false → Reads P ts n) → Reads P ts (if b then m else n)
reads_if true x y = x refl
reads_if false x y = y refl

-- rounds
pub step_goes : {A : Type 0} {P : A → List Token → Type 0} {a : A} {ts us : List Token} → P a us → Kept us ts → StepReads P ts (goes a us)
step_goes {P = P} {a = a} {ts = ts} {us = us} p k = record {
  tree = λ b vs e. let same : a ≡ b = cc in let rest : us ≡ vs = cc in (
    subst (λ vs. P b vs) rest (subst (λ b. P b us) same p),
    subst (λ vs. Kept vs ts) rest k,
  );
  blames = λ f e. cc;
}

pub step_stops : {A : Type 0} {P : A → List Token → Type 0} {ts : List Token} → StepReads P ts stops
step_stops = record { tree = λ a us e. cc; blames = λ f e. cc }

pub step_fails : {A : Type 0} {P : A → List Token → Type 0} {ts : List Token} (f : TokenFault) → Blamed f ts → StepReads P ts (fails f)
step_fails {ts = ts} f b = record {
  tree = λ a us e. cc;
  blames = λ g e. let same : f ≡ g = cc in subst (λ g. Blamed g ts) same b;
}

pub step_within : {A : Type 0} {P : A → List Token → Type 0} {ts us : List Token} {m : Step A} → Kept us ts → StepReads P us m → StepReads P ts m
step_within {ts = ts} {us = us} k r = record {
  tree = λ a vs e. let x = r.tree a vs e in let w = x.1.1 in let v = k.1 in (x.0, ((λ f s. k.0 f (x.1.0 f s)), omega arith));
  blames = λ f e. kept_blame us ts k f (r.blames f e);
}

pub step_behind : {A : Type 0} {P : A → List Token → Type 0} {t : Token} {ts : List Token} {m : Step A} → StepReads P ts m → StepReads P (t ∷ ts) m
step_behind r = step_within ((λ f s. inr s), omega arith) r

under_by : {A B : Type 0} {P : B → List Token → Type 0} {Q : A → List Token → Type 0} {ts : List Token} (m : Read A)
    (go : A → List Token → Step B) → Reads Q ts m → ((a : A) (us : List Token) → Q a us → StepReads P us (go a us)) → StepReads P ts (under m go)
unfolding under
under_by (Ok x) go r next = let y = r.tree x.0 x.1 refl in step_within y.1 (next x.0 x.1 y.0)
under_by (Err f) go r next = step_fails f (r.blames f refl)

pub step_under : {A B : Type 0} {P : B → List Token → Type 0} {Q : A → List Token → Type 0} {ts : List Token} {m : Read A}
    (go : A → List Token → Step B) → Reads Q ts m → ((a : A) (us : List Token) → Q a us → StepReads P us (go a us)) → StepReads P ts (under m go)
step_under {m = m} go r next = under_by m go r next

pub step_if : {A : Type 0} {P : A → List Token → Type 0} {ts : List Token} {m n : Step A} (b : Bool) →
    (b ≡ true → StepReads P ts m) → (b ≡ false → StepReads P ts n) → StepReads P ts (if b then m else n)
step_if true x y = x refl
step_if false x y = y refl

-- repetitions
module _ {A : Type 0} (step : A → List Token → Step A) (P : A → List Token → A → List Token → Type 0) where
  goes_on_reads : (n : ℕ) (a : A) (ts : List Token) → (s : Step A) → P a ts a ts →
      StepReads (λ b us. (c : A) (vs : List Token) → P b us c vs → P a ts c vs) ts s →
      ((b : A) (us : List Token) → Reads (P b us) us (many n step b us)) → Reads (P a ts) ts (goes_on s (Ok (a, ts)) (many n step))
  unfolding goes_on
  goes_on_reads n a ts (goes b us) here r rest =
      let x = r.tree b us refl in reads_within x.1 (reads_as (λ c vs p. x.0 c vs p) (rest b us))
  goes_on_reads n a ts stops here r rest = reads_end here
  goes_on_reads n a ts (fails f) here r rest = reads_fault f (r.blames f refl)

  many_reads : ((a : A) (ts : List Token) → P a ts a ts) →
      ((a : A) (ts : List Token) → StepReads (λ b us. (c : A) (vs : List Token) → P b us c vs → P a ts c vs) ts (step a ts)) →
      (n : ℕ) (a : A) (ts : List Token) → Reads (P a ts) ts (many n step a ts)
  unfolding many
  many_reads here one zero a ts = reads_end (here a ts)
  many_reads here one (suc n) a ts =
      goes_on_reads n a ts (step a ts) (here a ts) (one a ts) (λ b us. many_reads here one n b us)

  pub reads_all : ((a : A) (ts : List Token) → P a ts a ts) →
      ((a : A) (ts : List Token) → StepReads (λ b us. (c : A) (vs : List Token) → P b us c vs → P a ts c vs) ts (step a ts)) →
      (a : A) (ts : List Token) → Reads (P a ts) ts (all step a ts)
  unfolding all
  reads_all here one a ts = many_reads here one (suc (length ts)) a ts

pub step_as : {A : Type 0} {P Q : A → List Token → Type 0} {ts : List Token} {m : Step A} →
    ((a : A) (us : List Token) → Q a us → P a us) → StepReads Q ts m → StepReads P ts m
step_as go r = record {
  tree = λ a us e. let x = r.tree a us e in (go a us x.0, x.1);
  blames = λ f e. r.blames f e;
}
