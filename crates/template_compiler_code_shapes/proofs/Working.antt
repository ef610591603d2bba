-- The pass over noted places: how each of its steps keeps what it knows, and where it refuses.
use Rattle.std.proofs.Common.{◌≡◌, ℕ, suc, ◌<◌, ◌≤◌, ◌⊎◌, inl, inr, Bool, true, false, cond, ◌==◌, List, ◌∷◌, length, Option, None, Some, slice_get, refl, sym, ap, subst, ◌∙◌, arith}
use Rattle.std.specs.Prelude.{IsSome, IsSomeAnd}
use Rattle.std.proofs.lemmas.Bool.{eqb-true, eqb-false}
use Rattle.std.proofs.lemmas.Option.{slice_get_within}
use Rattle.template_compiler_code.specs.Code.{Code}
use Rattle.template_compiler_code_shapes.specs.Shapes.{Shape, start}
use Rattle.template_compiler_code_shapes.specs.Effects.{Effect, effect_of}
use Rattle.template_compiler_code_shapes.specs.Streams.{Reached, begins, falls_to, Leads}
use Rattle.template_compiler_code_shapes.specs.Passes.{Marks, InHand, Works, Sees, Noticed}
use Rattle.template_compiler_code_shapes.proofs.Claims.{Begins, TakesUp, Drops, Notes, Settles, GoesOn, Finishes, RefusesInstructions, RefusesClashes, RefusesEnds}
use Rattle.template_compiler_code_shapes.proofs.Certificates.{good_by}
use Rattle.template_compiler_code_shapes.proofs.Aiming.{within}

some_is : {A : Type 0} (x y : A) → Some x ≡ Some y → x ≡ y
some_is x y e = cc

not_both : (b : Bool) → b ≡ true → b ≡ false → ⊥
not_both b e f = cc

not_none : {A : Type 0} (o : Option A) (x : A) → o ≡ None → o ≡ Some x → ⊥
not_none o x e h = cc

and_more : {A : Type 0} (P Q : A → Type 0) (o : Option A) → ((x : A) → P x → Q x) → IsSomeAnd o P → IsSomeAnd o Q
and_more P Q None f h = absurd h
and_more P Q (Some x) f h = f x h

leads_more : (table later : ℕ → Option Shape) (place : ℕ) → ((q : ℕ) (s : Shape) → table q ≡ Some s → later q ≡ Some s) → (e : Effect) → Leads table place e → Leads later place e
leads_more table later place keeps e h = record {
  falls = λ t is. keeps (suc place) t (h.falls t is);
  jumps = λ to t is. keeps to t (h.jumps to t is);
  enters = λ to t is. keeps to t (h.enters to t is);
}

some_kept : (table later : ℕ → Option Shape) (q : ℕ) → ((s : Shape) → table q ≡ Some s → later q ≡ Some s) → IsSome (table q) → IsSome (later q)
some_kept table later q keeps some = by_parts (table q) refl some
  where
    is_some_of : (o : Option Shape) (s : Shape) → o ≡ Some s → IsSome o
    is_some_of o s e = let P : Option Shape → Type 0 = λ p. IsSome p in subst P (sym e) refl

    by_parts : (o : Option Shape) → table q ≡ o → IsSome o → IsSome (later q)
    by_parts None e some = absurd cc
    by_parts (Some s) e some = is_some_of (later q) s (keeps s e)

none_there : (o : Option Shape) → ((s : Shape) → o ≡ Some s → ⊥) → o ≡ None
none_there None h = refl
none_there (Some s) h = absurd (h s refl)

no_some : (o : Option Shape) → o ≡ None → IsSome o → ⊥
no_some o e some = cc

-- a table with a shape more
abbrev put : (ℕ → Option Shape) → ℕ → Shape → ℕ → Option Shape
put table at t q = cond (q == at) (Some t) (table q)

put_has : (table : ℕ → Option Shape) (at : ℕ) (t : Shape) → put table at t at ≡ Some t
put_has table at t = by_test (at == at) refl
  where
    by_test : (b : Bool) → (at == at) ≡ b → cond b (Some t) (table at) ≡ Some t
    by_test true e = refl
    by_test false e = absurd (eqb-false at at e refl)

put_keeps : (table : ℕ → Option Shape) (at : ℕ) (t : Shape) → table at ≡ None → (q : ℕ) (s : Shape) → table q ≡ Some s → put table at t q ≡ Some s
put_keeps table at t none q s h = by_test (q == at) refl
  where
    by_test : (b : Bool) → (q == at) ≡ b → cond b (Some t) (table q) ≡ Some s
    by_test true e = let P : ℕ → Type 0 = λ n. table n ≡ Some s in absurd (not_none (table at) s none (subst P (eqb-true q at e) h))
    by_test false e = h

put_only : (table : ℕ → Option Shape) (at : ℕ) (t : Shape) (q : ℕ) (s : Shape) → put table at t q ≡ Some s → (table q ≡ Some s) ⊎ ((q ≡ at) × (s ≡ t))
put_only table at t q s = by_test (q == at) refl
  where
    by_test : (b : Bool) → (q == at) ≡ b → cond b (Some t) (table q) ≡ Some s → (table q ≡ Some s) ⊎ ((q ≡ at) × (s ≡ t))
    by_test true e h = inr (eqb-true q at e, sym (some_is t s h))
    by_test false e h = inl h

-- what is reached stays so with a shape more that is reached
put_reached : (code : List Code) (table : ℕ → Option Shape) (at : ℕ) (t : Shape) → ((q : ℕ) (s : Shape) → table q ≡ Some s → Reached code q s) → Reached code at t
    → (q : ℕ) (s : Shape) → put table at t q ≡ Some s → Reached code q s
put_reached code table at t known r q s h = elim (put_only table at t q s h) [
  | inl old ↦ known q s old
  | inr new ↦ (let P : ℕ → Type 0 = λ m. Reached code m s in let Q : Shape → Type 0 = λ u. Reached code at u in subst P (sym new.0) (subst Q (sym new.1) r))
]

module _ (code : List Code) (mark : ℕ → Bool) where
  pub begun : Begins code mark
  begun notes seen place m first only blank = record {
    table = notes;
    begins = first;
    reached = λ q s h.
        let is = only q s h in
        let P : ℕ → Type 0 = λ n. Reached code n s in
        let Q : Shape → Type 0 = λ t. Reached code 0 t in
        subst P (sym is.0) (subst Q (sym is.1) begins);
    fine = λ q s c was h at. absurd (not_both (seen q) was (blank q));
    had = λ q was. absurd (not_both (seen q) was (blank q));
    noted = λ q s h. h;
    marked = λ q s is h. h;
    here = λ s e. absurd cc;
    waits = λ q s h.
        let P : ℕ → Type 0 = λ n. mark n ≡ true in
        inr (inr (subst P (sym (only q s h).0) m.first, inl (inl (only q s h).0)));
    behind = λ q was is. absurd (not_both (seen (suc q)) was (blank (suc q)));
  }

  pub taken_up : TakesUp code mark
  taken_up notes seen waiting place at s k h fresh inside = record {
    table = k.table;
    begins = k.begins;
    reached = k.reached;
    fine = k.fine;
    had = k.had;
    noted = k.noted;
    marked = k.marked;
    here = λ t e. (
      (let P : Shape → Type 0 = λ u. k.table at ≡ Some u in subst P (some_is s t e) (k.noted at s h)),
      record { fresh = fresh; inside = inside; behind = λ p same not_marked. absurd (not_both (mark at) marks_at not_marked) },
    );
    waits = λ q t g. elim (k.waits q t g) [
      | inl was ↦ inl was
      | inr (inl held) ↦ absurd (not_none {A = Shape} None t refl held.1)
      | inr (inr (marks, inr end)) ↦ inr (inr (marks, inr end))
      | inr (inr (marks, inl (inr among))) ↦ inr (inr (marks, inl among))
      | inr (inr (marks, inl (inl same))) ↦ inr (inl (
        same,
        (let P : ℕ → Type 0 = λ n. k.table n ≡ Some t in sym (k.noted at s h) ∙ subst P same g),
      ))
    ];
    behind = k.behind;
  }
    where
      marks_at : mark at ≡ true
      marks_at = elim (k.waits at s (k.noted at s h)) [
        | inl was ↦ absurd (not_both (seen at) was fresh)
        | inr (inl held) ↦ absurd (not_none {A = Shape} None s refl held.1)
        | inr (inr marks) ↦ marks.0
      ]

  pub dropped : Drops code mark
  dropped notes seen waiting place at k over = record {
    table = k.table;
    begins = k.begins;
    reached = k.reached;
    fine = k.fine;
    had = k.had;
    noted = k.noted;
    marked = k.marked;
    here = λ t e. absurd cc;
    waits = λ q t g. elim (k.waits q t g) [
      | inl was ↦ inl was
      | inr (inl held) ↦ inr (inl held)
      | inr (inr (marks, inr end)) ↦ inr (inr (marks, inr end))
      | inr (inr (marks, inl (inr among))) ↦ inr (inr (marks, inl among))
      | inr (inr (marks, inl (inl same))) ↦ elim over [
        | inl was ↦ inl (let P : ℕ → Type 0 = λ n. seen n ≡ true in subst P (sym same) was)
        | inr (inl past) ↦ (let low : q ≤ length code = within code q t (k.reached q t g) in inr (inr (marks, inr (omega arith))))
        | inr (inr none) ↦ absurd (not_none (notes at) t none (let P : ℕ → Type 0 = λ n. notes n ≡ Some t in subst P same (k.marked q t marks g)))
      ]
    ];
    behind = k.behind;
  }

  pub noted : Notes code mark
  noted notes later seen waiting place at hand t m k blank is r n = record {
    table = put k.table at t;
    begins = put_keeps k.table at t none 0 start k.begins;
    reached = put_reached code k.table at t k.reached r;
    fine = λ q s c was h there. elim (put_only k.table at t q s h) [
      | inl old ↦ and_more (Leads k.table q) (Leads (put k.table at t) q) (effect_of code q c s)
          (leads_more k.table (put k.table at t) q (put_keeps k.table at t none)) (k.fine q s c was old there)
      | inr new ↦ absurd (unvisited (let P : ℕ → Type 0 = λ x. seen x ≡ true in subst P new.0 was))
    ];
    had = λ q was. some_kept k.table (put k.table at t) q (put_keeps k.table at t none q) (k.had q was);
    noted = λ q s h. elim (n.only q s h) [
      | inl old ↦ put_keeps k.table at t none q s (k.noted q s old)
      | inr new ↦ (let P : ℕ → Type 0 = λ x. put k.table at t x ≡ Some s in subst P (sym new.0) (put_has k.table at t ∙ ap Some (sym new.1)))
    ];
    marked = λ q s marks h. elim (put_only k.table at t q s h) [
      | inl old ↦ n.keeps q s (k.marked q s marks old)
      | inr new ↦ (let P : ℕ → Type 0 = λ x. later x ≡ Some s in subst P (sym new.0) (n.has ∙ ap Some (sym new.1)))
    ];
    here = λ s e. (put_keeps k.table at t none place s (k.here s e).0, (k.here s e).1);
    waits = λ q s h. elim (put_only k.table at t q s h) [
      | inr new ↦ inr (inr ((let P : ℕ → Type 0 = λ x. mark x ≡ true in subst P (sym new.0) is), inl (inl new.0)))
      | inl old ↦ elim (k.waits q s old) [
        | inl was ↦ inl was
        | inr (inl held) ↦ inr (inl held)
        | inr (inr (marks, inl among)) ↦ inr (inr (marks, inl (inr among)))
        | inr (inr (marks, inr end)) ↦ inr (inr (marks, inr end))
      ]
    ];
    behind = k.behind;
  }
    where
      none : k.table at ≡ None
      none = none_there (k.table at) (λ s h. not_none (notes at) s blank (k.marked at s is h))

      unvisited : seen at ≡ true → ⊥
      unvisited was = no_some (k.table at) none (k.had at was)

  -- an instruction in hand, its effect, and one place more that is seen
  module _ (notes : ℕ → Option Shape) (seen later : ℕ → Bool) (waiting : List ℕ) (place : ℕ) (s : Shape) (c : Code) (e : Effect) (k : Works code mark notes seen waiting place (Some s))
      (at : slice_get code place ≡ Some c) (is : effect_of code place c s ≡ Some e) (n : Noticed notes e) (sees : Sees seen later place) where
    in_hand : InHand code mark seen place
    in_hand = (k.here s refl).1

    had_later : (table : ℕ → Option Shape) → ((q : ℕ) (t : Shape) → k.table q ≡ Some t → table q ≡ Some t) → (q : ℕ) → later q ≡ true → IsSome (table q)
    had_later table keeps q was = elim (sees.only q was) [
      | inl old ↦ some_kept k.table table q (keeps q) (k.had q old)
      | inr new ↦ some_kept k.table table q (keeps q) (let P : Option Shape → Type 0 = λ o. IsSome o in let Q : ℕ → Type 0 = λ x. IsSome (k.table x) in subst Q (sym new) (subst P (sym (k.here s refl).0) refl))
    ]

    behind_later : (q : ℕ) → later (suc q) ≡ true → mark (suc q) ≡ false → later q ≡ true
    behind_later q was free = elim (sees.only (suc q) was) [
      | inl old ↦ sees.keeps q (k.behind q old free)
      | inr new ↦ sees.keeps q (in_hand.behind q (sym new) (let P : ℕ → Type 0 = λ x. mark x ≡ false in subst P new free))
    ]

    fine_later : (table : ℕ → Option Shape) → ((q : ℕ) (t : Shape) → k.table q ≡ Some t → table q ≡ Some t) → ((q : ℕ) (t : Shape) → later q ≡ true → table q ≡ Some t → k.table q ≡ Some t)
        → ((t : Shape) → e.falls ≡ Some t → table (suc place) ≡ Some t)
        → (q : ℕ) (u : Shape) (d : Code) → later q ≡ true → table q ≡ Some u → slice_get code q ≡ Some d → IsSomeAnd (effect_of code q d u) (Leads table q)
    fine_later table keeps stood falls q u d was h there = elim (sees.only q was) [
      | inl old ↦ and_more (Leads k.table q) (Leads table q) (effect_of code q d u) (leads_more k.table table q keeps) (k.fine q u d old (stood q u was h) there)
      | inr new ↦ (
          let P : ℕ → Type 0 = λ m. (k.table m ≡ Some u) → (slice_get code m ≡ Some d) → IsSomeAnd (effect_of code m d u) (Leads table m) in
          subst P (sym new) (λ stands code_at.
          let Q : Shape → Type 0 = λ v. IsSomeAnd (effect_of code place d v) (Leads table place) in
          let R : Code → Type 0 = λ b. IsSomeAnd (effect_of code place b s) (Leads table place) in
          let O : Option Effect → Type 0 = λ o. IsSomeAnd o (Leads table place) in
          subst Q (some_is s u (sym (k.here s refl).0 ∙ stands)) (subst R (some_is c d (sym at ∙ code_at)) (subst O (sym is) leads))) (stood q u was h) there)
    ]
      where
        leads : Leads table place e
        leads = record {
          falls = falls;
          jumps = λ to t j. keeps to t (k.noted to t (n.jumps to t j));
          enters = λ to t j. keeps to t (k.noted to t (n.enters to t j));
        }

    settled_by : (next : ℕ) → ((t : Shape) → e.falls ≡ Some t → notes (suc place) ≡ Some t) → Works code mark notes later waiting next None
    settled_by next falls = record {
      table = k.table;
      begins = k.begins;
      reached = k.reached;
      fine = fine_later k.table (λ q t h. h) (λ q t was h. h) (λ t f. k.noted (suc place) t (falls t f));
      had = had_later k.table (λ q t h. h);
      noted = k.noted;
      marked = k.marked;
      here = λ t f. absurd cc;
      waits = λ q t g. elim (k.waits q t g) [
        | inl was ↦ inl (sees.keeps q was)
        | inr (inl held) ↦ inl (let P : ℕ → Type 0 = λ x. later x ≡ true in subst P (sym held.0) sees.has)
        | inr (inr marks) ↦ inr (inr marks)
      ];
      behind = behind_later;
    }

    went_on : (t : Shape) → Marks code mark → e.falls ≡ Some t → mark (suc place) ≡ false → Works code mark notes later waiting (suc place) (Some t)
    went_on t m falls free = record {
      table = put k.table (suc place) t;
      begins = keeps 0 start k.begins;
      reached = put_reached code k.table (suc place) t k.reached (falls_to (k.reached place s (k.here s refl).0) at is falls);
      fine = fine_later (put k.table (suc place) t) keeps stood (λ u f. put_has k.table (suc place) t ∙ sym falls ∙ f);
      had = had_later (put k.table (suc place) t) keeps;
      noted = λ q u h. keeps q u (k.noted q u h);
      marked = λ q u marks h. elim (put_only k.table (suc place) t q u h) [
        | inl old ↦ k.marked q u marks old
        | inr new ↦ absurd (not_both (mark (suc place)) (let P : ℕ → Type 0 = λ x. mark x ≡ true in subst P new.0 marks) free)
      ];
      here = λ u f. (
        put_has k.table (suc place) t ∙ f,
        record { fresh = not_true (later (suc place)) unseen; inside = inside; behind = λ p same not_marked. (let P : ℕ → Type 0 = λ x. later x ≡ true in let is_place : place ≡ p = omega arith in subst P is_place sees.has) },
      );
      waits = λ q u g. elim (put_only k.table (suc place) t q u g) [
        | inr new ↦ inr (inl (new.0, ap Some (sym new.1)))
        | inl old ↦ elim (k.waits q u old) [
          | inl was ↦ inl (sees.keeps q was)
          | inr (inl held) ↦ inl (let P : ℕ → Type 0 = λ x. later x ≡ true in subst P (sym held.0) sees.has)
          | inr (inr marks) ↦ inr (inr marks)
        ]
      ];
      behind = behind_later;
    }
      where
        not_true : (b : Bool) → (b ≡ true → ⊥) → b ≡ false
        not_true true h = absurd (h refl)
        not_true false h = refl

        unseen_before : seen (suc place) ≡ true → ⊥
        unseen_before was = not_both (seen place) (k.behind place was free) in_hand.fresh

        unseen : later (suc place) ≡ true → ⊥
        unseen was = elim (sees.only (suc place) was) [
          | inl old ↦ unseen_before old
          | inr same ↦ (let is_same : suc place ≡ place = same in absurd (omega arith))
        ]

        none : k.table (suc place) ≡ None
        none = none_there (k.table (suc place)) (λ u h. elim (k.waits (suc place) u h) [
          | inl was ↦ unseen_before was
          | inr (inl held) ↦ (let is_same : suc place ≡ place = held.0 in absurd (omega arith))
          | inr (inr marks) ↦ not_both (mark (suc place)) marks.0 free
        ])

        keeps : (q : ℕ) (u : Shape) → k.table q ≡ Some u → put k.table (suc place) t q ≡ Some u
        keeps = put_keeps k.table (suc place) t none

        stood : (q : ℕ) (u : Shape) → later q ≡ true → put k.table (suc place) t q ≡ Some u → k.table q ≡ Some u
        stood q u was h = elim (put_only k.table (suc place) t q u h) [
          | inl old ↦ old
          | inr new ↦ absurd (unseen (let P : ℕ → Type 0 = λ x. later x ≡ true in subst P new.0 was))
        ]

        not_last : suc place ≡ length code → ⊥
        not_last same = not_both (mark (length code)) m.last (let P : ℕ → Type 0 = λ x. mark x ≡ false in subst P same free)

        inside : suc place < length code
        inside = let less : place < length code = in_hand.inside in let apart : suc place ≡ length code → ⊥ = not_last in omega arith

  pub settled : Settles code mark
  settled notes seen later waiting place next s c e k at is n falls sees = settled_by notes seen later waiting place s c e k at is n sees next falls

  pub gone_on : GoesOn code mark
  gone_on notes seen later waiting place s t c e m k at is n falls free sees = went_on notes seen later waiting place s c e k at is n sees t m falls free

  pub finished : Finishes code mark
  finished notes seen place kind m k over = good_by kind code k.table (record {
    begins = k.begins;
    fine = λ q s c h there. elim (k.waits q s h) [
      | inl was ↦ k.fine q s c was h there
      | inr (inl held) ↦ absurd (not_none {A = Shape} None s refl held.1)
      | inr (inr (marks, inl among)) ↦ absurd among
      | inr (inr (marks, inr end)) ↦ (let less : q < length code = slice_get_within code q c there in let same : q ≡ length code = end in absurd (omega arith))
    ];
    over = λ s h. over s (k.marked (length code) s m.last h);
  })

  pub bad_instruction : RefusesInstructions code mark
  bad_instruction notes seen waiting place s c k at none kind good =
      let some : IsSome (effect_of code place c s) = good.fine place s c (k.reached place s (k.here s refl).0) at in
      let P : Option Effect → Type 0 = λ o. IsSome o in
      let no : IsSome {T = Effect} None = subst P none some in cc

  pub bad_clash : RefusesClashes code mark
  bad_clash notes seen waiting place at hand s t k h r other kind good = other (good.one at s t (k.reached at s (k.noted at s h)) r)

  pub bad_end : RefusesEnds code mark
  bad_end notes seen waiting place hand s kind k h other good = other (good.over s (k.reached (length code) s (k.noted (length code) s h)))

-- with nothing in hand the place is of no account
pub moved : (code : List Code) (mark : ℕ → Bool) (notes : ℕ → Option Shape) (seen : ℕ → Bool) (waiting : List ℕ) (place next : ℕ) → Works code mark notes seen waiting place None → Works code mark notes seen waiting next None
moved code mark notes seen waiting place next k = record {
  table = k.table;
  begins = k.begins;
  reached = k.reached;
  fine = k.fine;
  had = k.had;
  noted = k.noted;
  marked = k.marked;
  here = λ t e. absurd cc;
  waits = λ q t g. elim (k.waits q t g) [
    | inl was ↦ inl was
    | inr (inl held) ↦ absurd (not_none {A = Shape} None t refl held.1)
    | inr (inr marks) ↦ inr (inr marks)
  ];
  behind = k.behind;
}

-- the place in hand
pub placed : (code : List Code) (mark : ℕ → Bool) (notes : ℕ → Option Shape) (seen : ℕ → Bool) (waiting : List ℕ) (place next : ℕ) (hand : Option Shape) → place ≡ next → Works code mark notes seen waiting place hand → Works code mark notes seen waiting next hand
placed code mark notes seen waiting place next hand same = let P : ℕ → Type 0 = λ n. Works code mark notes seen waiting n hand in subst P same

-- a place that waits is taken up with the shape that is noted there, or dropped where none is
pub taken_or_dropped : (code : List Code) (mark : ℕ → Bool) (notes : ℕ → Option Shape) (seen : ℕ → Bool) (waiting : List ℕ) (at : ℕ) (hand : Option Shape)
    → Works code mark notes seen (at ∷ waiting) 0 None → notes at ≡ hand → seen at ≡ false → at < length code → Works code mark notes seen waiting at hand
taken_or_dropped code mark notes seen waiting at None k is fresh less = moved code mark notes seen waiting 0 at (dropped code mark notes seen waiting 0 at k (inr (inr is)))
taken_or_dropped code mark notes seen waiting at (Some s) k is fresh less = taken_up code mark notes seen waiting 0 at s k is fresh less
