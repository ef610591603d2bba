-- Those that have a mark are those that are kept.
use Rattle.std.proofs.Common.{◌≡◌, ◌⊎◌, ◌∙◌, ℕ, suc, ◌+◌, ◌<◌, Bool, true, false, List, [], ◌∷◌, length, get_or, drop, map, Some, refl, sym, ap, subst, arith, Decides, String, string_bytes, ◌++◌, ⊎_elim, inl, inr, below_more}
use Rattle.std.specs.declared.alloc.Global.{Global}
use Rattle.std.specs.Borrow.{Bor}
use Rattle.std.specs.BTreeMap.{BTreeMap}
use Rattle.std.specs.List.{filter, zip}
use Rattle.std.proofs.lemmas.List.{get_or_append_left, get_or_push}
use Rattle.template_compiler_syntax.specs.Syntax.{Syntax}
use Rattle.template_program_reached.specs.Places.{text_at, kept_of, IsLast, TellPlaces}
use Rattle.template_program_reached.specs.Reached.{IsReached}
use Rattle.template_program_reached.specs.Sifted.{IsKept, IsReadable, Sifts, no_more, kept, dropped}
use Rattle.template_program_reached.specs.Views.{texts_in}
use Rattle.template_program_reached.proofs.Telling.{kept_last, last_kept}
use Rattle.template_program_reached.proofs.Under.{last_from_none, none_from_last}

-- the marked ones of a list
abbrev pub marked_of : {A : Type 0} → List A → List Bool → List A
marked_of ts marks = map (λ p. p.0) (filter (λ p. p.1) (zip ts marks))

sifts : (x : Syntax) (all : List (List ℕ × List ℕ)) (main : List ℕ) (ts : List (List ℕ × List ℕ)) (marks : List Bool)
    → length marks ≡ length ts
    → ((i : ℕ) → i < length ts → Decides (get_or marks i false) (IsKept x all main (drop (i + 1) ts) (text_at ts i)))
    → Sifts x all main ts (marked_of ts marks)
sifts x all main [] marks long tells = no_more
sifts x all main (t ∷ ts) [] long tells = absurd (omega arith)
sifts x all main (t ∷ ts) (true ∷ marks) long tells = kept ((tells 0 (omega arith)).0 refl)
    (sifts x all main ts marks (omega arith) (λ i h. let e : suc i + 1 ≡ suc (i + 1) = omega arith in
    subst (λ (n : ℕ). Decides (get_or marks i false) (IsKept x all main (drop n (t ∷ ts)) (text_at ts i))) e (tells (suc i) (omega arith))))
sifts x all main (t ∷ ts) (false ∷ marks) long tells = dropped
    (λ (is : IsKept x all main ts t). let never : false ≡ true = (tells 0 (omega arith)).1 is in cc)
    (sifts x all main ts marks (omega arith) (λ i h. let e : suc i + 1 ≡ suc (i + 1) = omega arith in
    subst (λ (n : ℕ). Decides (get_or marks i false) (IsKept x all main (drop n (t ∷ ts)) (text_at ts i))) e (tells (suc i) (omega arith))))

texts_marked : (templates : List (String Global × String Global)) (marks : List Bool)
    → texts_in (marked_of templates marks) ≡ marked_of (texts_in templates) marks
texts_marked [] marks = refl
texts_marked (t ∷ ts) [] = refl
texts_marked (t ∷ ts) (true ∷ marks) = ap (λ (us : List (List ℕ × List ℕ)). (string_bytes t.0, string_bytes t.1) ∷ us)
    (texts_marked ts marks)
texts_marked (t ∷ ts) (false ∷ marks) = texts_marked ts marks

pub sifts_marked : (x : Syntax) (main : List ℕ) (templates left : List (String Global × String Global)) (marks : List Bool)
    → length marks ≡ length (texts_in templates)
    → ((i : ℕ) → i < length (texts_in templates)
    → Decides (get_or marks i false) (IsKept x (texts_in templates) main (drop (i + 1) (texts_in templates))
    (text_at (texts_in templates) i)))
    → left ≡ marked_of templates marks → Sifts x (texts_in templates) main (texts_in templates) (texts_in left)
sifts_marked x main templates left marks long tells is =
    subst (Sifts x (texts_in templates) main (texts_in templates)) (sym (ap texts_in is ∙ texts_marked templates marks))
    (sifts x (texts_in templates) main (texts_in templates) marks long tells)

-- whether a template is kept that is the last of its name
pub keeps : (x : Syntax) (places : BTreeMap (Bor (List ℕ)) ℕ) (texts : List (List ℕ × List ℕ)) (main : List ℕ) (i : ℕ)
    (is_needed is_reached : Bool)
    → TellPlaces places texts (length texts) → kept_of (text_at texts i).0 places ≡ Some i
    → (IsLast texts (length texts) (text_at texts i).0 i → Decides is_reached (IsReached x texts main (text_at texts i).0))
    → Decides is_needed ((is_reached ≡ true) ⊎ IsReadable x (text_at texts i).1)
    → Decides is_needed (IsKept x texts main (drop (i + 1) texts) (text_at texts i))
keeps x places texts main i is_needed is_reached tell is reached needed =
    let at : IsLast texts (length texts) (text_at texts i).0 i = last_kept places texts (length texts) (text_at texts i).0 i tell is in (
      λ e. record {
        last = none_from_last texts (length texts) (text_at texts i).0 i refl at;
        reason = ⊎_elim (λ here. inl ((reached at).0 here)) (λ tree. inr tree) (needed.0 e);
      },
      λ k. needed.1 (⊎_elim (λ here. inl ((reached at).1 here)) (λ tree. inr tree) (k.reason)),
    )

-- another one of its name is the last
pub keeps_no_other : (x : Syntax) (places : BTreeMap (Bor (List ℕ)) ℕ) (texts : List (List ℕ × List ℕ)) (main : List ℕ) (i : ℕ)
    → TellPlaces places texts (length texts) → i < length texts → (kept_of (text_at texts i).0 places ≡ Some i → ⊥)
    → Decides false (IsKept x texts main (drop (i + 1) texts) (text_at texts i))
keeps_no_other x places texts main i tell within differs = (
  λ e. cc,
  λ k. absurd (differs (kept_last places texts (length texts) (text_at texts i).0 i tell
      (last_from_none texts (length texts) (text_at texts i).0 i refl within refl (k.last)))),
)

-- one more mark
pub one_more_told : (P : ℕ → Type 0) (marks new : List Bool) (n : ℕ) (more : Bool) → length marks ≡ n → new ≡ marks ++ more ∷ []
    → Decides more (P n)
    → ((i : ℕ) → i < n → Decides (get_or marks i false) (P i)) → (i : ℕ) → i < n + 1 → Decides (get_or new i false) (P i)
one_more_told P marks new n more long is tells before =
    below_more (λ (i : ℕ). Decides (get_or new i false) (P i)) n
    (λ i h. subst (λ (b : Bool). Decides b (P i))
    (sym (ap (λ (ms : List Bool). get_or ms i false) is ∙ get_or_append_left marks (more ∷ []) false i (omega arith))) (before i h))
    (subst (λ (b : Bool). Decides b (P n)) (sym (ap (λ (ms : List Bool). get_or ms n false) is
    ∙ get_or_push marks more false n long)) tells)
