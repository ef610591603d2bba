-- Additions, one more at a time.
use Rattle.std.proofs.Common.{◌≡◌, ◌∙◌, ℕ, suc, ◌+◌, ◌<◌, List, [], ◌∷◌, ◌++◌, length, take, drop, Option, None, Some, Bool, true, false, if◌then◌else◌, refl, sym, subst, ap, inl, inr, get_or, String, string_bytes, add-one, bytes_eq}
use Rattle.std.proofs.Math.Seq.{take-suc, split_at}
use Rattle.std.specs.Option.{option_map}
use Rattle.std.specs.declared.alloc.Global.{Global}
use Rattle.template_values_errors.specs.declared.ErrorKind.{ErrorKind}
use Rattle.template_machine_environment_settings.specs.Sources.{IsAccepted, IsRefusedWith}
use Rattle.template_program_parts.specs.Context.{text_pairs}
use Rattle.template_program_run.specs.Additions.{AllAreAccepted, RefusesOne}
use Rattle.template_program_run.specs.History.{text_under, source_under, source_standing, standing}
use Rattle.template_program_run.specs.Served.{Served}

-- the texts of one addition
abbrev pub texts_of : String Global × String Global → List ℕ × List ℕ
texts_of p = (string_bytes p.0, string_bytes p.1)

text_pairs-push : (ps : List (String Global × String Global)) (p : String Global × String Global) → text_pairs (ps ++ p ∷ []) ≡ text_pairs ps ++ texts_of p ∷ []
text_pairs-push [] p = refl
text_pairs-push (q ∷ qs) p = ap (λ ts. texts_of q ∷ ts) (text_pairs-push qs p)

text_under-push : (name : List ℕ) (before : Option (List ℕ)) (ps : List (List ℕ × List ℕ)) (p : List ℕ × List ℕ)
    → text_under name before (ps ++ p ∷ []) ≡ (if bytes_eq p.0 name then Some p.1 else text_under name before ps)
text_under-push name before [] p = refl
text_under-push name before (q ∷ qs) p = text_under-push name (if bytes_eq q.0 name then Some q.1 else before) qs p

module _ (served : Served) where
  accepted-push : (ps : List (List ℕ × List ℕ)) (p : List ℕ × List ℕ) → AllAreAccepted served ps → IsAccepted (source_under served p.1)
      → AllAreAccepted served (ps ++ p ∷ [])
  accepted-push [] p all has = (has, tt)
  accepted-push (q ∷ qs) p all has = (all.0, accepted-push qs p all.1 has)

  refused-there : (ps qs : List (List ℕ × List ℕ)) (p : List ℕ × List ℕ) (kinds : List ErrorKind)
      → AllAreAccepted served ps → IsRefusedWith (source_under served p.1) kinds → RefusesOne served (ps ++ p ∷ qs) kinds
  refused-there [] qs p kinds all refused = inl refused
  refused-there (r ∷ rs) qs p kinds all refused = inr (all.0, refused-there rs qs p kinds all.1 refused)

text_pairs-append : (ps qs : List (String Global × String Global)) → text_pairs (ps ++ qs) ≡ text_pairs ps ++ text_pairs qs
text_pairs-append [] qs = refl
text_pairs-append (p ∷ ps) qs = ap (λ ts. texts_of p ∷ ts) (text_pairs-append ps qs)

-- the additions up to a place, and the one there
next_texts : (xs : List (String Global × String Global)) (i : ℕ) (d : String Global × String Global) → i < length xs
    → text_pairs (take (i + 1) xs) ≡ text_pairs (take i xs) ++ texts_of (get_or xs i d) ∷ []
next_texts xs i d lt = ap text_pairs (rw add-one (take-suc xs i d lt)) ∙ text_pairs-push (take i xs) (get_or xs i d)

standing-next : (xs : List (String Global × String Global)) (i : ℕ) (d : String Global × String Global) → i < length xs → (name : List ℕ)
    → standing (text_pairs (take (i + 1) xs)) name ≡ (if bytes_eq (string_bytes (get_or xs i d).0) name then Some (string_bytes (get_or xs i d).1) else standing (text_pairs (take i xs)) name)
standing-next xs i d lt name = ap (λ ts. standing ts name) (next_texts xs i d lt) ∙ text_under-push name None (text_pairs (take i xs)) (texts_of (get_or xs i d))

source_by_test : (served : Served) (b : Bool) (text : List ℕ) (o : Option (List ℕ))
    → option_map (source_under served) (if b then Some text else o)
    ≡ (if b then Some (source_under served text) else option_map (source_under served) o)
source_by_test served true text o = refl
source_by_test served false text o = refl

pub source-next : (served : Served) (xs : List (String Global × String Global)) (i : ℕ) (d : String Global × String Global) → i < length xs → (name : List ℕ)
    → source_standing served (text_pairs (take (i + 1) xs)) name
    ≡ (if bytes_eq (string_bytes (get_or xs i d).0) name then Some (source_under served (string_bytes (get_or xs i d).1)) else source_standing served (text_pairs (take i xs)) name)
source-next served xs i d lt name =
    ap (option_map (source_under served)) (standing-next xs i d lt name)
    ∙ source_by_test served (bytes_eq (string_bytes (get_or xs i d).0) name) (string_bytes (get_or xs i d).1) (standing (text_pairs (take i xs)) name)

pub accepted-next : (served : Served) (xs : List (String Global × String Global)) (i : ℕ) (d : String Global × String Global) → i < length xs
    → AllAreAccepted served (text_pairs (take i xs)) → IsAccepted (source_under served (string_bytes (get_or xs i d).1))
    → AllAreAccepted served (text_pairs (take (i + 1) xs))
accepted-next served xs i d lt all has =
    subst (AllAreAccepted served) (sym (next_texts xs i d lt)) (accepted-push served (text_pairs (take i xs)) (texts_of (get_or xs i d)) all has)

pub refuses-at : (served : Served) (xs : List (String Global × String Global)) (i : ℕ) (d : String Global × String Global) → i < length xs → (kinds : List ErrorKind)
    → AllAreAccepted served (text_pairs (take i xs)) → IsRefusedWith (source_under served (string_bytes (get_or xs i d).1)) kinds
    → RefusesOne served (text_pairs xs) kinds
refuses-at served xs i d lt kinds all refused =
    let parts : text_pairs xs ≡ text_pairs (take i xs) ++ texts_of (get_or xs i d) ∷ text_pairs (drop (suc i) xs) =
    ap text_pairs (split_at xs i d lt) ∙ text_pairs-append (take i xs) (get_or xs i d ∷ drop (suc i) xs) in
    subst (λ ts. RefusesOne served ts kinds) (sym parts)
    (refused-there served (text_pairs (take i xs)) (text_pairs (drop (suc i) xs)) (texts_of (get_or xs i d)) kinds all refused)
