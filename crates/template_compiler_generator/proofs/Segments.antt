-- Segments of code with shapes: which flow into them, stand in them, and flow behind.
use Rattle.std.proofs.Common.{◌≡◌, ℕ, suc, ◌<◌, ◌≤◌, ◌⊎◌, inl, inr, Bool, true, false, cond, ◌||◌, List, Option, None, Some, slice_get, refl, sym, ap, subst, ◌∙◌, arith}
use Rattle.std.specs.Prelude.{IsSomeAnd, nat_lt}
use Rattle.std.proofs.lemmas.Bool.{ltb-true, ltb-false, lt-ltb, le-ltb}
use Rattle.template_compiler_code.specs.Code.{Code}
use Rattle.template_compiler_code_shapes.specs.Shapes.{Shape}
use Rattle.template_compiler_code_shapes.specs.Effects.{Effect, effect_of}
use Rattle.template_compiler_code_shapes.specs.Streams.{Leads}

-- the instruction at a place is admissible with the table's shape there, and leads to shapes of the table
abbrev pub Fine : List Code → (ℕ → Option Shape) → ℕ → Type 0
Fine code table q = (s : Shape) (c : Code) → table q ≡ Some s → slice_get code q ≡ Some c → IsSomeAnd (effect_of code q c s) (Leads table q)

-- the table has a segment's own shapes
abbrev pub Agrees : (ℕ → Option Shape) → (ℕ → Option Shape) → ℕ → ℕ → Type 0
Agrees table own from to = (q : ℕ) → from ≤ q → q < to → table q ≡ own q

-- what leaves a segment stands in the table
abbrev pub Flows : (ℕ → Option Shape) → Option Shape → ℕ → Type 0
Flows table exit to = (t : Shape) → exit ≡ Some t → table to ≡ Some t

-- nothing more is needed of a table
abbrev pub Free : (ℕ → Option Shape) → Type 0
Free table = Unit {0}

-- where an effect jumps, its shape stands in the table
abbrev pub Lands : Effect → (ℕ → Option Shape) → Type 0
Lands e table = (to : ℕ) (t : Shape) → ◌≡◌ {A = Option (ℕ × Shape)} e.jumps (Some (to, t)) → table to ≡ Some t

-- A segment that is entered with a shape has shapes of its own. A table that has these, and what the segment needs of it
-- elsewhere, is fine there.
pub record Goes (code : List Code) (from to : ℕ) (s : Shape) (exit : Option Shape) (Needs : (ℕ → Option Shape) → Type 0) : Type 0 where
  pub ordered : from ≤ to
  pub own : ℕ → Option Shape
  pub enters : (table : ℕ → Option Shape) → Agrees table own from to → Flows table exit to → table from ≡ Some s
  pub fine : (table : ℕ → Option Shape) → Agrees table own from to → Flows table exit to → Needs table → (q : ℕ) → from ≤ q → q < to → Fine code table q

some_is : {A : Type 0} (x y : A) → Some x ≡ Some y → x ≡ y
some_is x y e = cc

below_cases : (q n : ℕ) → (q < n) ⊎ (n ≤ q)
below_cases q n = by_test (nat_lt q n) refl
  where
    by_test : (b : Bool) → nat_lt q n ≡ b → (q < n) ⊎ (n ≤ q)
    by_test true e = inl (ltb-true q n e)
    by_test false e = inr (ltb-false q n e)

-- a segment's end, told in another way
pub goes_to : (code : List Code) (from a b : ℕ) (s : Shape) (exit : Option Shape) (N : (ℕ → Option Shape) → Type 0) → a ≡ b → Goes code from a s exit N → Goes code from b s exit N
goes_to code from a b s exit N e g = let P : ℕ → Type 0 = λ n. Goes code from n s exit N in subst P e g

-- and its exit
pub goes_out_as : (code : List Code) (from to : ℕ) (s t u : Shape) (N : (ℕ → Option Shape) → Type 0) → t ≡ u → Goes code from to s (Some t) N → Goes code from to s (Some u) N
goes_out_as code from to s t u N e g = let P : Shape → Type 0 = λ x. Goes code from to s (Some x) N in subst P e g

-- no instruction
pub goes_nowhere : (code : List Code) (at : ℕ) (s : Shape) (N : (ℕ → Option Shape) → Type 0) → Goes code at at s (Some s) N
goes_nowhere code at s N = record {
  ordered = omega arith;
  own = λ q. None;
  enters = λ table agrees flows. flows s refl;
  fine = λ table agrees flows needs q low high. absurd (omega arith);
}

-- one instruction
pub goes_on : (code : List Code) (place : ℕ) (c : Code) (s : Shape) (e : Effect) → slice_get code place ≡ Some c → effect_of code place c s ≡ Some e → ◌≡◌ {A = Option (ℕ × Shape)} e.enters None → Goes code place (suc place) s e.falls (Lands e)
goes_on code place c s e at is nowhere = record {
  ordered = omega arith;
  own = λ q. Some s;
  enters = λ table agrees flows. agrees place (omega arith) (omega arith);
  fine = λ table agrees flows needs q low high.
      let here : place ≡ q = omega arith in
      let P : ℕ → Type 0 = λ n. Fine code table n in
      subst P here (fine_here table (agrees place (omega arith) (omega arith)) (record { falls = flows; jumps = needs; enters = λ to t goes. absurd (unentered e.enters to t nowhere goes) }));
}
  where
    unentered : (o : Option (ℕ × Shape)) (to : ℕ) (t : Shape) → ◌≡◌ {A = Option (ℕ × Shape)} o None → ◌≡◌ {A = Option (ℕ × Shape)} o (Some (to, t)) → ⊥
    unentered o to t e f = cc

    fine_here : (table : ℕ → Option Shape) → table place ≡ Some s → Leads table place e → Fine code table place
    fine_here table stood leads u d stands there =
        let Q : Shape → Type 0 = λ v. IsSomeAnd (effect_of code place d v) (Leads table place) in
        let R : Code → Type 0 = λ b. IsSomeAnd (effect_of code place b s) (Leads table place) in
        let O : Option Effect → Type 0 = λ o. IsSomeAnd o (Leads table place) in
        subst Q (some_is s u (sym stood ∙ stands)) (subst R (some_is c d (sym at ∙ there)) (subst O (sym is) leads))

-- one that makes a macro, whose body is entered with a shape
pub goes_making : (code : List Code) (place : ℕ) (c : Code) (s t : Shape) (offset : ℕ) (inner : Shape) → slice_get code place ≡ Some c
    → effect_of code place c s ≡ Some (record { falls = Some t; jumps = None; enters = Some (offset, inner) })
    → Goes code place (suc place) s (Some t) (λ table. table offset ≡ Some inner)
goes_making code place c s t offset inner at is = record {
  ordered = omega arith;
  own = λ q. Some s;
  enters = λ table agrees flows. agrees place (omega arith) (omega arith);
  fine = λ table agrees flows needs q low high.
      let here : place ≡ q = omega arith in
      let P : ℕ → Type 0 = λ n. Fine code table n in
      subst P here (fine_here table (agrees place (omega arith) (omega arith))
      (record { falls = flows; jumps = λ to u e. absurd cc; enters = λ to u e. entered table needs to u e }));
}
  where
    effect : Effect
    effect = record { falls = Some t; jumps = None; enters = Some (offset, inner) }

    entered : (table : ℕ → Option Shape) → table offset ≡ Some inner → (to : ℕ) (u : Shape) → ◌≡◌ {A = Option (ℕ × Shape)} (Some (offset, inner)) (Some (to, u)) → table to ≡ Some u
    entered table stands to u e =
        let same : ◌≡◌ {A = ℕ × Shape} (offset, inner) (to, u) = some_is {A = ℕ × Shape} (offset, inner) (to, u) e in
        let P : ℕ → Type 0 = λ n. table n ≡ Some u in
        subst P (ap (λ (w : ℕ × Shape). w.0) same) (stands ∙ ap (λ (w : ℕ × Shape). Some w.1) same)

    fine_here : (table : ℕ → Option Shape) → table place ≡ Some s → Leads table place effect → Fine code table place
    fine_here table stood leads u d stands there =
        let Q : Shape → Type 0 = λ v. IsSomeAnd (effect_of code place d v) (Leads table place) in
        let R : Code → Type 0 = λ b. IsSomeAnd (effect_of code place b s) (Leads table place) in
        let O : Option Effect → Type 0 = λ o. IsSomeAnd o (Leads table place) in
        subst Q (some_is s u (sym stood ∙ stands)) (subst R (some_is c d (sym at ∙ there)) (subst O (sym is) leads))

-- one segment, and another, which is entered from the first or by a jump
pub goes_then : (code : List Code) (a b c : ℕ) (s t : Shape) (middle exit : Option Shape) (A B N : (ℕ → Option Shape) → Type 0) → Goes code a b s middle A → Goes code b c t exit B
    → ((u : Shape) → middle ≡ Some u → t ≡ u) → ((table : ℕ → Option Shape) → table b ≡ Some t → Flows table exit c → N table → A table × B table) → Goes code a c s exit N
goes_then code a b c s t middle exit A B N x y joins meets = record {
  ordered = let one = x.ordered in let two = y.ordered in omega arith;
  own = λ q. cond (nat_lt q b) (x.own q) (y.own q);
  enters = λ table agrees flows. x.enters table (first table agrees) (between table (entered table agrees flows));
  fine = λ table agrees flows needs q low high.
      let at_b = entered table agrees flows in
      let both = meets table at_b flows needs in
      elim (below_cases q b) [
        | inl below ↦ x.fine table (first table agrees) (between table at_b) both.0 q low below
        | inr above ↦ y.fine table (second table agrees) flows both.1 q above high
      ];
}
  where
    first : (table : ℕ → Option Shape) → Agrees table (λ q. cond (nat_lt q b) (x.own q) (y.own q)) a c → Agrees table x.own a b
    first table agrees q low high =
        let end = y.ordered in
        agrees q low (omega arith) ∙ ap (λ z. cond z (x.own q) (y.own q)) (lt-ltb q b high)

    second : (table : ℕ → Option Shape) → Agrees table (λ q. cond (nat_lt q b) (x.own q) (y.own q)) a c → Agrees table y.own b c
    second table agrees q low high =
        let start = x.ordered in
        agrees q (omega arith) high ∙ ap (λ z. cond z (x.own q) (y.own q)) (le-ltb q b low)

    entered : (table : ℕ → Option Shape) → Agrees table (λ q. cond (nat_lt q b) (x.own q) (y.own q)) a c → Flows table exit c → table b ≡ Some t
    entered table agrees flows = y.enters table (second table agrees) flows

    between : (table : ℕ → Option Shape) → table b ≡ Some t → Flows table middle b
    between table at_b u goes = at_b ∙ ap Some (joins u goes)

-- three of which the first leads past the second, which is entered from elsewhere
pub goes_past : (code : List Code) (a b c d : ℕ) (s t u : Shape) (exit : Option Shape) (A B C N : (ℕ → Option Shape) → Type 0) → Goes code a b s None A → Goes code b c t None B
    → Goes code c d u exit C → ((table : ℕ → Option Shape) → table b ≡ Some t → table c ≡ Some u → Flows table exit d → N table → A table × B table × C table) → Goes code a d s exit N
goes_past code a b c d s t u exit A B C N x y z meets = record {
  ordered = let one = x.ordered in let two = y.ordered in let three = z.ordered in omega arith;
  own = own;
  enters = λ table agrees flows. x.enters table (first table agrees) (λ v e. absurd cc);
  fine = λ table agrees flows needs q low high.
      let at_b = y.enters table (second table agrees) (λ v e. absurd cc) in
      let at_c = z.enters table (third table agrees) flows in
      let all = meets table at_b at_c flows needs in
      elim (below_cases q b) [
        | inl below ↦ x.fine table (first table agrees) (λ v e. absurd cc) all.0 q low below
        | inr above ↦ elim (below_cases q c) [
          | inl within ↦ y.fine table (second table agrees) (λ v e. absurd cc) all.1 q above within
          | inr behind ↦ z.fine table (third table agrees) flows all.2 q behind high
        ]
      ];
}
  where
    own : ℕ → Option Shape
    own q = cond (nat_lt q b) (x.own q) (cond (nat_lt q c) (y.own q) (z.own q))

    first : (table : ℕ → Option Shape) → Agrees table own a d → Agrees table x.own a b
    first table agrees q low high =
        let two = y.ordered in
        let three = z.ordered in
        agrees q low (omega arith) ∙ ap (λ w. cond w (x.own q) (cond (nat_lt q c) (y.own q) (z.own q))) (lt-ltb q b high)

    second : (table : ℕ → Option Shape) → Agrees table own a d → Agrees table y.own b c
    second table agrees q low high =
        let one = x.ordered in
        let three = z.ordered in
        agrees q (omega arith) (omega arith) ∙ ap (λ w. cond w (x.own q) (cond (nat_lt q c) (y.own q) (z.own q))) (le-ltb q b low) ∙
        ap (λ w. cond w (y.own q) (z.own q)) (lt-ltb q c high)

    third : (table : ℕ → Option Shape) → Agrees table own a d → Agrees table z.own c d
    third table agrees q low high =
        let one = x.ordered in
        let two = y.ordered in
        agrees q (omega arith) high ∙ ap (λ w. cond w (x.own q) (cond (nat_lt q c) (y.own q) (z.own q))) (le-ltb q b (omega arith)) ∙
        ap (λ w. cond w (y.own q) (z.own q)) (le-ltb q c low)

-- behind a segment that nothing leaves nothing is reached
pub goes_dead : (code : List Code) (a b c : ℕ) (s : Shape) (N : (ℕ → Option Shape) → Type 0) → b ≤ c → Goes code a b s None N → Goes code a c s None N
goes_dead code a b c s N more x = record {
  ordered = let one = x.ordered in omega arith;
  own = λ q. cond (nat_lt q b) (x.own q) None;
  enters = λ table agrees flows. x.enters table (first table agrees) (λ t e. absurd cc);
  fine = λ table agrees flows needs q low high. elim (below_cases q b) [
    | inl below ↦ x.fine table (first table agrees) (λ t e. absurd cc) needs q low below
    | inr above ↦ (λ u d stands there. absurd (unreached (table q) u (agrees q low high ∙ ap (λ z. cond z (x.own q) None) (le-ltb q b above)) stands))
  ];
}
  where
    first : (table : ℕ → Option Shape) → Agrees table (λ q. cond (nat_lt q b) (x.own q) None) a c → Agrees table x.own a b
    first table agrees q low high = agrees q low (omega arith) ∙ ap (λ z. cond z (x.own q) None) (lt-ltb q b high)

    unreached : (o : Option Shape) (u : Shape) → o ≡ None → o ≡ Some u → ⊥
    unreached o u e f = cc

-- a segment with an exit that asks more of a table, and needs that follow
pub goes_with : (code : List Code) (a b : ℕ) (s : Shape) (exit wider : Option Shape) (A N : (ℕ → Option Shape) → Type 0) → Goes code a b s exit A
    → ((table : ℕ → Option Shape) → Flows table wider b → Flows table exit b) → ((table : ℕ → Option Shape) → table a ≡ Some s → Flows table wider b → N table → A table) → Goes code a b s wider N
goes_with code a b s exit wider A N x less meets = record {
  ordered = x.ordered;
  own = x.own;
  enters = λ table agrees flows. x.enters table agrees (less table flows);
  fine = λ table agrees flows needs. x.fine table agrees (less table flows) (meets table (x.enters table agrees (less table flows)) flows needs);
}

-- an exit that is there or not
abbrev pub gate : Bool → Shape → Option Shape
gate true s = Some s
gate false s = None

pub gate_is : (b : Bool) (s u : Shape) → gate b s ≡ Some u → s ≡ u
gate_is true s u e = some_is s u e
gate_is false s u e = absurd cc

pub flows_any : (b : Bool) (s : Shape) (table : ℕ → Option Shape) (to : ℕ) → Flows table (Some s) to → Flows table (gate b s) to
flows_any b s table to flows u e = flows u (ap Some (gate_is b s u e))

pub flows_left : (x y : Bool) (s : Shape) (table : ℕ → Option Shape) (to : ℕ) → Flows table (gate (x || y) s) to → Flows table (gate x s) to
flows_left true y s table to flows u e = flows u e
flows_left false y s table to flows u e = absurd cc

pub flows_right : (x y : Bool) (s : Shape) (table : ℕ → Option Shape) (to : ℕ) → Flows table (gate (x || y) s) to → Flows table (gate y s) to
flows_right true y s table to flows u e = flows u (ap Some (gate_is y s u e))
flows_right false y s table to flows u e = flows u e

-- what is jumped to stands in the table
pub lands_at : (falls : Option Shape) (to : ℕ) (t : Shape) (table : ℕ → Option Shape) → table to ≡ Some t → Lands (record { falls = falls; jumps = Some (to, t); enters = None }) table
lands_at falls to t table stands q u e =
    let is : ◌≡◌ {A = ℕ × Shape} (to, t) (q, u) = some_is {A = ℕ × Shape} (to, t) (q, u) e in
    let P : ℕ → Type 0 = λ n. table n ≡ Some u in
    subst P (ap (λ (w : ℕ × Shape). w.0) is) (stands ∙ ap (λ (w : ℕ × Shape). Some w.1) is)
