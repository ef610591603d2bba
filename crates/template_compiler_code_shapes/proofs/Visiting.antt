-- How an instruction is visited.
use Rattle.std.proofs.Common.{◌≡◌, ℕ, zero, suc, ◌<◌, ◌≤◌, ◌⊎◌, inl, inr, Bool, true, false, List, [], ◌∷◌, length, Option, None, Some, slice_get, slice_set, get_or, refl, sym, ap, subst, ◌∙◌, arith}
use Rattle.std.specs.Prelude.{IfSome, option_and_then, option_map, unwrap_or, replicate}
use Rattle.std.proofs.lemmas.Option.{slice_get-get_or}
use Rattle.template_compiler_code.specs.Code.{Code}
use Rattle.template_compiler_code_shapes.specs.Shapes.{Shape}
use Rattle.template_compiler_code_shapes.specs.Effects.{Effect, effect_of, effect_at}
use Rattle.template_compiler_code_shapes.specs.Streams.{Reached, falls_to, jumps_to, enters_at}
use Rattle.template_compiler_code_shapes.specs.Passes.{Marks, Works, Sees, IsBad, Visits, Ready}
use Rattle.template_compiler_code_shapes.specs.Desks.{noted_in, waiting_in, flag_in, Stands, Clashes, ClashesAt}
use Rattle.template_compiler_code_shapes.specs.declared.desk.Desk.{Desk}
use Rattle.template_compiler_code_shapes.specs.declared.ways.Jump.{Jump}
use Rattle.template_compiler_code_shapes.specs.Outlines.{shape_of}
use Rattle.template_compiler_code_shapes.specs.Ways.{jump_of}
use Rattle.template_compiler_code_shapes.proofs.Aiming.{LeadsWell, effect_leads}
use Rattle.template_compiler_code_shapes.proofs.Working.{noted, settled, gone_on, bad_instruction, bad_clash}

pub stands_has : (old new : Desk) (at : ℕ) (t : Shape) → Stands old new at t → noted_in new at ≡ Some t
stands_has old new at t (inl h) = ap (λ (f : ℕ → Option Shape). f at) h.0 ∙ h.2
stands_has old new at t (inr h) = h.1.has

pub stands_keeps : (old new : Desk) (at : ℕ) (t : Shape) → Stands old new at t → (q : ℕ) (s : Shape) → noted_in old q ≡ Some s → noted_in new q ≡ Some s
stands_keeps old new at t (inl h) q s e = ap (λ (f : ℕ → Option Shape). f q) h.0 ∙ e
stands_keeps old new at t (inr h) q s e = h.1.keeps q s e

pub flag_sees : (flags : List Bool) (place : ℕ) → place < length flags → Sees (flag_in flags) (flag_in (slice_set flags place true)) place
flag_sees flags place less = record { has = has flags place less; keeps = keeps flags place; only = only flags place }
  where
    has : (flags : List Bool) (place : ℕ) → place < length flags → flag_in (slice_set flags place true) place ≡ true
    has [] place less = absurd (omega arith)
    has (x ∷ flags) zero less = refl
    has (x ∷ flags) (suc place) less = has flags place (omega arith)

    keeps : (flags : List Bool) (place q : ℕ) → flag_in flags q ≡ true → flag_in (slice_set flags place true) q ≡ true
    keeps [] place q h = h
    keeps (x ∷ flags) zero zero h = refl
    keeps (x ∷ flags) zero (suc q) h = h
    keeps (x ∷ flags) (suc place) zero h = h
    keeps (x ∷ flags) (suc place) (suc q) h = keeps flags place q h

    only : (flags : List Bool) (place q : ℕ) → flag_in (slice_set flags place true) q ≡ true → (flag_in flags q ≡ true) ⊎ (q ≡ place)
    only [] place q h = inl h
    only (x ∷ flags) zero zero h = inr refl
    only (x ∷ flags) zero (suc q) h = inl h
    only (x ∷ flags) (suc place) zero h = inl h
    only (x ∷ flags) (suc place) (suc q) h = elim (only flags place q h) [ inl old ↦ inl old | inr new ↦ inr (ap suc new) ]

module _ (code : List Code) (mark : ℕ → Bool) (seen : ℕ → Bool) where
  pub stands_works : (old new : Desk) (place at : ℕ) (hand : Option Shape) (t : Shape) → Marks code mark → Works code mark (noted_in old) seen (waiting_in old) place hand
      → mark at ≡ true → Reached code at t → Stands old new at t → Works code mark (noted_in new) seen (waiting_in new) place hand
  stands_works old new place at hand t m k is r (inl h) =
      let P : (ℕ → Option Shape) → Type 0 = λ f. Works code mark f seen (waiting_in new) place hand in
      let Q : List ℕ → Type 0 = λ ps. Works code mark (noted_in old) seen ps place hand in
      subst P (sym h.0) (subst Q (sym h.1) k)
  stands_works old new place at hand t m k is r (inr h) =
      let Q : List ℕ → Type 0 = λ ps. Works code mark (noted_in new) seen ps place hand in
      subst Q (sym h.2) (noted code mark (noted_in old) (noted_in new) seen (waiting_in old) place at hand t m k h.0 is r h.1)

  pub clash_bad : (desk : Desk) (place at : ℕ) (hand : Option Shape) (t : Shape) → Works code mark (noted_in desk) seen (waiting_in desk) place hand → Reached code at t → Clashes desk at t → IsBad code
  clash_bad desk place at hand t k r clash = bad_clash code mark (noted_in desk) seen (waiting_in desk) place at hand clash.0 t k clash.1 r clash.2

  pub begin_visit : (notes : ℕ → Option Shape) (waiting : List ℕ) (place : ℕ) (s : Shape) (e : Effect) → Works code mark notes seen waiting place (Some s) → effect_at code place s ≡ Some e → Visits code mark notes seen waiting place e
  begin_visit notes waiting place s e k is = by_code (slice_get code place) refl is
    where
      by_code : (o : Option Code) → slice_get code place ≡ o → option_and_then (λ c. effect_of code place c s) o ≡ Some e → Visits code mark notes seen waiting place e
      by_code None at h = absurd cc
      by_code (Some c) at h = record { shape = s; instruction = c; works = k; at = at; is = h }

  pub refuse : (notes : ℕ → Option Shape) (waiting : List ℕ) (place : ℕ) (s : Shape) → Works code mark notes seen waiting place (Some s) → effect_at code place s ≡ None → IsBad code
  refuse notes waiting place s k none = by_code (slice_get code place) refl none
    where
      inside : place < length code
      inside = ((k.here s refl).1).inside

      by_code : (o : Option Code) → slice_get code place ≡ o → option_and_then (λ c. effect_of code place c s) o ≡ None → IsBad code
      by_code None at h = absurd (there code place inside at)
        where
          there : (cs : List Code) (q : ℕ) → q < length cs → slice_get cs q ≡ None → ⊥
          there [] q less e = absurd (omega arith)
          there (c ∷ cs) zero less e = cc
          there (c ∷ cs) (suc q) less e = there cs q (omega arith) e
      by_code (Some c) at h = bad_instruction code mark notes seen waiting place s c k at h

  module _ (m : Marks code mark) (place : ℕ) (e : Effect) where
    aims_at : (notes : ℕ → Option Shape) (waiting : List ℕ) (v : Visits code mark notes seen waiting place e) → LeadsWell code place v.instruction v.shape e
    aims_at notes waiting v = effect_leads code place v.instruction v.shape e v.at v.is

    reached_at : (notes : ℕ → Option Shape) (waiting : List ℕ) (v : Visits code mark notes seen waiting place e) → Reached code place v.shape
    reached_at notes waiting v = v.works.reached place v.shape (v.works.here v.shape refl).0

    pub jump_leads : (notes : ℕ → Option Shape) (waiting : List ℕ) → Visits code mark notes seen waiting place e → (to : ℕ) (t : Shape) → ◌≡◌ {A = Option (ℕ × Shape)} e.jumps (Some (to, t)) → (to ≤ length code) × (mark to ≡ true) × Reached code to t
    jump_leads notes waiting v to t goes =
        let a = (aims_at notes waiting v).jumps to t goes in
        (a.within, m.aims place to v.instruction v.at a.aim a.within, jumps_to (reached_at notes waiting v) v.at v.is goes)

    pub entry_leads : (notes : ℕ → Option Shape) (waiting : List ℕ) → Visits code mark notes seen waiting place e → (to : ℕ) (t : Shape) → ◌≡◌ {A = Option (ℕ × Shape)} e.enters (Some (to, t)) → (to ≤ length code) × (mark to ≡ true) × Reached code to t
    entry_leads notes waiting v to t goes =
        let a = (aims_at notes waiting v).enters to t goes in
        (a.1, m.aims place to v.instruction v.at a.0 a.1, enters_at (reached_at notes waiting v) v.at v.is goes)

    -- a way is noted
    pub noted_way : (old new : Desk) (o : Option (ℕ × Shape)) → Visits code mark (noted_in old) seen (waiting_in old) place e
        → ((to : ℕ) (t : Shape) → ◌≡◌ {A = Option (ℕ × Shape)} o (Some (to, t)) → (to ≤ length code) × (mark to ≡ true) × Reached code to t)
        → (◌≡◌ {A = Option (ℕ × Shape)} o None → new ≡ old) → ((to : ℕ) (t : Shape) → ◌≡◌ {A = Option (ℕ × Shape)} o (Some (to, t)) → Stands old new to t)
        → Visits code mark (noted_in new) seen (waiting_in new) place e
    noted_way old new None v leads none stands = let P : Desk → Type 0 = λ d. Visits code mark (noted_in d) seen (waiting_in d) place e in subst P (sym (none refl)) v
    noted_way old new (Some j) v leads none stands =
        let l = leads j.0 j.1 refl in
        record { shape = v.shape; instruction = v.instruction; works = stands_works old new place j.0 (Some v.shape) j.1 m v.works l.1 l.2 (stands j.0 j.1 refl); at = v.at; is = v.is }

    pub noted_keeps : (old new : Desk) (o : Option (ℕ × Shape)) → (◌≡◌ {A = Option (ℕ × Shape)} o None → new ≡ old) → ((to : ℕ) (t : Shape) → ◌≡◌ {A = Option (ℕ × Shape)} o (Some (to, t)) → Stands old new to t)
        → (q : ℕ) (s : Shape) → noted_in old q ≡ Some s → noted_in new q ≡ Some s
    noted_keeps old new None none stands q s h = let P : Desk → Type 0 = λ d. noted_in d q ≡ Some s in subst P (sym (none refl)) h
    noted_keeps old new (Some j) none stands q s h = stands_keeps old new j.0 j.1 (stands j.0 j.1 refl) q s h

    pub ready : (one two three : Desk) (falls : Option Shape) → Visits code mark (noted_in one) seen (waiting_in one) place e
        → (◌≡◌ {A = Option (ℕ × Shape)} e.jumps None → two ≡ one) → ((to : ℕ) (t : Shape) → ◌≡◌ {A = Option (ℕ × Shape)} e.jumps (Some (to, t)) → Stands one two to t)
        → (◌≡◌ {A = Option (ℕ × Shape)} e.enters None → three ≡ two) → ((to : ℕ) (t : Shape) → ◌≡◌ {A = Option (ℕ × Shape)} e.enters (Some (to, t)) → Stands two three to t)
        → e.falls ≡ falls → Ready code mark (noted_in three) seen (waiting_in three) place falls
    ready one two three falls v none1 stands1 none2 stands2 same =
        let v2 = noted_way one two e.jumps v (jump_leads (noted_in one) (waiting_in one) v) none1 stands1 in
        record {
          effect = e;
          visits = noted_way two three e.enters v2 (entry_leads (noted_in two) (waiting_in two) v2) none2 stands2;
          noticed = record {
            jumps = λ to t j. noted_keeps two three e.enters none2 stands2 to t (stands_has one two to t (stands1 to t j));
            enters = λ to t j. stands_has two three to t (stands2 to t j);
          };
          same = same;
        }

  -- where it falls
  pub rests : (notes : ℕ → Option Shape) (later : ℕ → Bool) (waiting : List ℕ) (place next : ℕ) → Ready code mark notes seen waiting place None → Sees seen later place → Works code mark notes later waiting next None
  rests notes later waiting place next r sees =
      settled code mark notes seen later waiting place next r.visits.shape r.visits.instruction r.effect r.visits.works r.visits.at r.visits.is r.noticed (λ t f. absurd (none r.effect.falls t r.same f)) sees
    where
      none : (o : Option Shape) (t : Shape) → o ≡ None → o ≡ Some t → ⊥
      none o t e f = cc

  pub goes : (notes : ℕ → Option Shape) (later : ℕ → Bool) (waiting : List ℕ) (place : ℕ) (t : Shape) → Marks code mark → Ready code mark notes seen waiting place (Some t) → mark (suc place) ≡ false → Sees seen later place
      → Works code mark notes later waiting (suc place) (Some t)
  goes notes later waiting place t m r free sees =
      gone_on code mark notes seen later waiting place r.visits.shape t r.visits.instruction r.effect m r.visits.works r.visits.at r.visits.is r.noticed r.same free sees

  pub fall_reached : (notes : ℕ → Option Shape) (waiting : List ℕ) (place : ℕ) (t : Shape) → Ready code mark notes seen waiting place (Some t) → Reached code (suc place) t
  fall_reached notes waiting place t r = falls_to (r.visits.works.reached place r.visits.shape (r.visits.works.here r.visits.shape refl).0) r.visits.at r.visits.is r.same

  pub falls_noted : (old new : Desk) (later : ℕ → Bool) (place next : ℕ) (t : Shape) → Marks code mark → Ready code mark (noted_in old) seen (waiting_in old) place (Some t) → mark (suc place) ≡ true
      → Stands old new (suc place) t → Sees seen later place → Works code mark (noted_in new) later (waiting_in new) next None
  falls_noted old new later place next t m r marks stands sees =
      let v = r.visits in
      let k = stands_works old new place (suc place) (Some v.shape) t m v.works marks (fall_reached (noted_in old) (waiting_in old) place t r) stands in
      settled code mark (noted_in new) seen later (waiting_in new) place next v.shape v.instruction r.effect k v.at v.is
      (record { jumps = λ to u j. stands_keeps old new (suc place) t stands to u (r.noticed.jumps to u j); enters = λ to u j. stands_keeps old new (suc place) t stands to u (r.noticed.enters to u j) })
      (λ u f. let same : Some t ≡ Some u = sym r.same ∙ f in stands_has old new (suc place) t stands ∙ same) sees

pub flag_at : (flags : List Bool) (q next : ℕ) (d b : Bool) → next ≡ suc q → get_or flags next d ≡ b → next < length flags → flag_in flags (suc q) ≡ b
flag_at flags q next d b same is less =
    let P : ℕ → Type 0 = λ n. flag_in flags n ≡ b in
    subst P same (ap (λ o. unwrap_or o false) (slice_get-get_or flags next d less) ∙ is)

pub at_next : (old new : Desk) (place next : ℕ) (t : Shape) → next ≡ suc place → Stands old new next t → Stands old new (suc place) t
at_next old new place next t same = let P : ℕ → Type 0 = λ n. Stands old new n t in subst P same

pub clash_next : (desk : Desk) (place next : ℕ) (t : Shape) → next ≡ suc place → Clashes desk next t → Clashes desk (suc place) t
clash_next desk place next t same = let P : ℕ → Type 0 = λ n. Clashes desk n t in subst P same

pub way_clash : (code : List Code) (mark seen : ℕ → Bool) (desk : Desk) (place : ℕ) (e : Effect) (o : Option (ℕ × Shape)) → Visits code mark (noted_in desk) seen (waiting_in desk) place e
    → ((to : ℕ) (t : Shape) → ◌≡◌ {A = Option (ℕ × Shape)} o (Some (to, t)) → (to ≤ length code) × (mark to ≡ true) × Reached code to t) → ClashesAt desk o → IsBad code
way_clash code mark seen desk place e None v leads clash = absurd clash
way_clash code mark seen desk place e (Some j) v leads clash = clash_bad code mark seen desk place j.0 (Some v.shape) j.1 v.works (leads j.0 j.1 refl).2 clash

pub way_within : (o : Option Jump) (count room : ℕ) → room ≡ suc count → ((to : ℕ) (t : Shape) → ◌≡◌ {A = Option (ℕ × Shape)} (option_map jump_of o) (Some (to, t)) → to ≤ count) → IfSome o (λ (j : Jump). j.to < room)
way_within None count room e h = tt
way_within (Some j) count room e h = let less : j.to ≤ count = h j.to (shape_of j.shape) refl in omega arith

pub flag_is : (flags : List Bool) (q : ℕ) (d b : Bool) → q < length flags → get_or flags q d ≡ b → flag_in flags q ≡ b
flag_is flags q d b less is = ap (λ o. unwrap_or o false) (slice_get-get_or flags q d less) ∙ is

pub flag_blank : (flags : List Bool) (n q : ℕ) → flags ≡ replicate n false → flag_in flags q ≡ false
flag_blank flags n q e = let P : List Bool → Type 0 = λ xs. flag_in xs q ≡ false in subst P (sym e) (blank n q)
  where
    blank : (n q : ℕ) → flag_in (replicate n false) q ≡ false
    blank zero q = refl
    blank (suc n) zero = refl
    blank (suc n) (suc q) = blank n q
