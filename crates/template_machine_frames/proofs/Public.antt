-- The names of locals that are not private, one after another.
use Rattle.std.proofs.Common.{◌≡◌, ◌∙◌, ap, sym, refl, ℕ, ◌+◌, ◌<◌, Bool, true, false, cond, List, [], ◌∷◌, ◌++◌, length, get_or, drop}
use Rattle.std.proofs.lemmas.List.{append_assoc, append-nil, drop_more}
use Rattle.template_values_model.specs.Val.{Val, text}
use Rattle.template_values_core.specs.Shape.{pairs_in}
use Rattle.template_values_core.specs.declared.value.Entry.{Entry}
use Rattle.template_values_core.proofs.PairLemmas.{pairs_in-append}
use Rattle.template_machine_meaning.specs.Modules.{is_private, public_locals}
use Rattle.template_machine_frames.specs.declared.local.Local.{Local}
use Rattle.template_machine_frames.specs.Locals.{locals_of}

public_two : (xs ys : List (List ℕ × Val)) → public_locals (xs ++ ys) ≡ public_locals xs ++ public_locals ys
public_two [] ys = refl
public_two (x ∷ xs) ys = by (is_private x.0) (public_two xs ys)
  where
    by : (b : Bool) → public_locals (xs ++ ys) ≡ public_locals xs ++ public_locals ys
        → cond b (public_locals (xs ++ ys)) ((text x.0, x.1) ∷ public_locals (xs ++ ys)) ≡ cond b (public_locals xs) ((text x.0, x.1) ∷ public_locals xs) ++ public_locals ys
    by true rest = rest
    by false rest = ap (λ (ps : List (Val × Val)). (text x.0, x.1) ∷ ps) rest

-- those of the locals in front, and then of those behind
pub public_behind : (xs ys : List (List ℕ × Val)) (old first all : List (Val × Val)) → first ≡ old ++ public_locals xs → all ≡ first ++ public_locals ys
    → all ≡ old ++ public_locals (xs ++ ys)
public_behind xs ys old first all one two =
    two ∙ ap (λ (ps : List (Val × Val)). ps ++ public_locals ys) one ∙ append_assoc old (public_locals xs) (public_locals ys)
    ∙ ap (λ (ps : List (Val × Val)). old ++ ps) (sym (public_two xs ys))

-- those of the locals from a place on
abbrev pub public_from : List Local → ℕ → List (Val × Val)
public_from ls i = public_locals (locals_of (drop i ls))

here : (ls : List Local) (i : ℕ) (l : Local) → i < length ls → l ≡ get_or ls i l
    → public_from ls i ≡ public_locals (locals_of (l ∷ [])) ++ public_from ls (i + 1)
here ls i l within at =
    ap (λ (ks : List Local). public_locals (locals_of ks)) (drop_more ls i l within ∙ ap (λ (k : Local). k ∷ drop (i + 1) ls) (sym at))
    ∙ public_two ((l.name.now, l.value) ∷ []) (locals_of (drop (i + 1) ls))

-- one more
pub one_further : (ls : List Local) (i : ℕ) (l : Local) (old new all : List (Val × Val)) → i < length ls → l ≡ get_or ls i l
    → new ≡ old ++ public_locals (locals_of (l ∷ [])) → old ++ public_from ls i ≡ all → new ++ public_from ls (i + 1) ≡ all
one_further ls i l old new all within at added before =
    let one = public_locals (locals_of (l ∷ [])) in
    ap (λ (ps : List (Val × Val)). ps ++ public_from ls (i + 1)) added ∙ append_assoc old one (public_from ls (i + 1))
    ∙ ap (λ (ps : List (Val × Val)). old ++ ps) (sym (here ls i l within at)) ∙ before

-- a private one, and one that is not
pub passed_over : (l : Local) (old : List (Val × Val)) → is_private l.name.now ≡ true → old ≡ old ++ public_locals (locals_of (l ∷ []))
passed_over l old is =
    sym (ap (λ (b : Bool). old ++ cond b [] ((text l.name.now, l.value) ∷ [])) is ∙ append-nil old)

pub taken_too : (l : Local) (es new : List Entry) (e : Entry) → is_private l.name.now ≡ false → new ≡ es ++ e ∷ [] → e.key ≡ text l.name.now → e.value ≡ l.value
    → pairs_in new ≡ pairs_in es ++ public_locals (locals_of (l ∷ []))
taken_too l es new e is pushed key value =
    ap pairs_in pushed ∙ pairs_in-append es e
    ∙ ap (λ (p : Val × Val). pairs_in es ++ p ∷ []) (λ j. (key j, value j))
    ∙ sym (ap (λ (b : Bool). pairs_in es ++ cond b [] ((text l.name.now, l.value) ∷ [])) is)
