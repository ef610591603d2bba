-- Which pair stands under a key. Pairs whose keys rise are told by that alone, and what is put in turn is told
-- by the pairs of each key.
use Rattle.std.proofs.Common.{◌≡◌, ◌∙◌, sym, ap, refl, List, [], ◌∷◌, Bool, true, false, cond, Less, Equal, Greater}
use Rattle.std.specs.Prelude.{Option, None, Some, if◌then◌else◌}
use Rattle.std.specs.declared.cmp.Ordering.{Ordering}
use Rattle.std.specs.Ordering.{is_eq, match_ordering}
use Rattle.std.specs.List.{filter}
use Rattle.std.specs.BTreeMap.{insert_entry}
use Rattle.std.specs.Cmp.{Equal-is, tied_back, tied_itself}
use Rattle.template_values_model.specs.Val.{Val}
use Rattle.template_values_core.specs.Maps.{put_all}
use Rattle.template_values_core.specs.Order.{val_cmp, val_total}
use Rattle.template_values_core.proofs.Rising.{Above, Rises, above_less, above_equal, rises-insert_entry, turned}

-- whether the key of a pair is equal to q
abbrev pub has_key : Val → Val × Val → Bool
has_key q p = is_eq (val_cmp p.0 q)

-- the first pair under the key q
abbrev pub found : Val → List (Val × Val) → Option (Val × Val)
found q [] = None
found q (p ∷ ps) = if has_key q p then Some p else found q ps

-- the pair that is kept where a further one is put
abbrev pub joined : Option (Val × Val) → Val × Val → Val × Val
joined None p = p
joined (Some e) p = (e.0, p.1)

-- the pair that is kept where several are put
abbrev pub gathered : Option (Val × Val) → List (Val × Val) → Option (Val × Val)
gathered o [] = o
gathered o (p ∷ ps) = gathered (Some (joined o p)) ps

chosen : {T : Type 0} (b : Bool) (x y : T) → b ≡ true → (if b then x else y) ≡ x
chosen true x y e = refl
chosen false x y e = absurd (cc)

passed : {T : Type 0} (b : Bool) (x y : T) → b ≡ false → (if b then x else y) ≡ y
passed true x y e = absurd (cc)
passed false x y e = refl

found_none : (q : Val) (ps : List (Val × Val)) → Above q ps → found q ps ≡ None
found_none q [] all = refl
found_none q (p ∷ ps) all =
    passed (has_key q p) (Some p) (found q ps) (ap is_eq (turned q p.0 Less all.0)) ∙ found_none q ps all.1

found_first : (q : Val) (p : Val × Val) (ps : List (Val × Val)) → val_cmp p.0 q ≡ Equal → found q (p ∷ ps) ≡ Some p
found_first q p ps h = chosen (has_key q p) (Some p) (found q ps) (ap is_eq h)

-- a look-up after a pair is put
module _ (q k v : Val) where
  equal_from : has_key q (k, v) ≡ true → val_cmp k q ≡ Equal
  equal_from h = (Equal-is (val_cmp k q)).0 h

  before : (b : Bool) (o : Option (Val × Val)) → (b ≡ true → o ≡ None) → (if b then Some (k, v) else o)
      ≡ (if b then Some (joined o (k, v)) else o)
  before true o h = ap (λ (p : Option (Val × Val)). Some (joined p (k, v))) (sym (h refl))
  before false o h = refl

  same : (b c : Bool) (e : Val × Val) (o : Option (Val × Val)) → b ≡ c → (if c then Some (e.0, v) else o)
      ≡ (if b then Some (joined (if c then Some e else o) (k, v)) else (if c then Some e else o))
  same true true e o h = refl
  same false false e o h = refl
  same true false e o h = absurd (cc)
  same false true e o h = absurd (cc)

  behind : (b c : Bool) (e : Val × Val) (o : Option (Val × Val)) → (b ≡ true → c ≡ false)
      → (if c then Some e else (if b then Some (joined o (k, v)) else o))
      ≡ (if b then Some (joined (if c then Some e else o) (k, v)) else (if c then Some e else o))
  behind true true e o h = let no : true ≡ false = h refl in absurd (cc)
  behind true false e o h = refl
  behind false c e o h = refl

  found-insert_entry : (kept : List (Val × Val)) → Rises kept → found q (insert_entry val_cmp kept k v)
      ≡ (if has_key q (k, v) then Some (joined (found q kept) (k, v)) else found q kept)
  found-insert_entry [] h = refl
  found-insert_entry (e ∷ kept) h = by (found-insert_entry kept h.1) (val_cmp k e.0) refl
    where
      by : found q (insert_entry val_cmp kept k v) ≡ (if has_key q (k, v) then Some (joined (found q kept) (k, v)) else found q kept)
          → (o : Ordering) → val_cmp k e.0 ≡ o → found q
          (match_ordering o ((k, v) ∷ e ∷ kept) ((e.0, v) ∷ kept) (e ∷ insert_entry val_cmp kept k v))
          ≡ (if has_key q (k, v) then Some (joined (found q (e ∷ kept)) (k, v)) else found q (e ∷ kept))
      by rest Less is =
          before (has_key q (k, v)) (found q (e ∷ kept)) (λ b. found_none q (e ∷ kept)
          (above_equal q k (tied_back val_total k q (equal_from b)) (e ∷ kept) (is, above_less k e.0 is kept h.0)))
      by rest Equal is =
          same (has_key q (k, v)) (has_key q e) e (found q kept) (ap is_eq (val_total.congr k e.0 q is))
      by rest Greater is =
          ap (λ (o : Option (Val × Val)). if has_key q e then Some e else o) rest
          ∙ behind (has_key q (k, v)) (has_key q e) e (found q kept)
          (λ b. ap is_eq (turned q e.0 Greater (sym (val_total.congr k q e.0 (equal_from b)) ∙ is)))

-- the pair under a key is told by the pairs given with that key
pub found-put_all : (q : Val) (given kept : List (Val × Val)) → Rises kept → found q (put_all kept given)
    ≡ gathered (found q kept) (filter (has_key q) given)
found-put_all q [] kept h = refl
found-put_all q (p ∷ given) kept h =
    found-put_all q given (insert_entry val_cmp kept p.0 p.1) (rises-insert_entry p.0 p.1 kept h)
    ∙ ap (λ (o : Option (Val × Val)). gathered o (filter (has_key q) given)) (found-insert_entry q p.0 p.1 kept h)
    ∙ step (has_key q p)
  where
    step : (b : Bool) → gathered (if b then Some (joined (found q kept) p) else found q kept) (filter (has_key q) given)
        ≡ gathered (found q kept) (cond b (p ∷ filter (has_key q) given) (filter (has_key q) given))
    step true = refl
    step false = refl

-- the rest of two lists under a key, where their first keys are equal
rest_same : (q : Val) (d : Val × Val) (ds es : List (Val × Val)) (e : Val × Val) → val_cmp d.0 e.0 ≡ Equal → Above d.0 ds → Above e.0 es
    → found q (d ∷ ds) ≡ found q (e ∷ es) → found q ds ≡ found q es
rest_same q d ds es e is above_d above_e h = by (has_key q d) refl
  where
    alike : has_key q d ≡ has_key q e
    alike = ap is_eq (val_total.congr d.0 e.0 q is)

    none : (p : Val × Val) (ps : List (Val × Val)) → Above p.0 ps → has_key q p ≡ true → found q ps ≡ None
    none p ps all b = found_none q ps (above_equal q p.0 (tied_back val_total p.0 q ((Equal-is (val_cmp p.0 q)).0 b)) ps all)

    by : (b : Bool) → has_key q d ≡ b → found q ds ≡ found q es
    by true b = none d ds above_d b ∙ sym (none e es above_e (sym alike ∙ b))
    by false b =
        sym (passed (has_key q d) (Some d) (found q ds) b) ∙ h ∙ passed (has_key q e) (Some e) (found q es) (sym alike ∙ b)

-- pairs whose keys rise are one list where they have the same pair under every key
pub same_found : (ds es : List (Val × Val)) → Rises ds → Rises es → ((q : Val) → found q ds ≡ found q es) → ds ≡ es
same_found [] [] rd re h = refl
same_found [] (e ∷ es) rd re h =
    let no : None ≡ Some e = h e.0 ∙ found_first e.0 e es (tied_itself val_total e.0) in absurd (cc)
same_found (d ∷ ds) [] rd re h =
    let no : Some d ≡ None = sym (found_first d.0 d ds (tied_itself val_total d.0)) ∙ h d.0 in absurd (cc)
same_found (d ∷ ds) (e ∷ es) rd re h = by (same_found ds es rd.1 re.1) (val_cmp d.0 e.0) refl
  where
    by : (((q : Val) → found q ds ≡ found q es) → ds ≡ es) → (o : Ordering) → val_cmp d.0 e.0 ≡ o → d ∷ ds ≡ e ∷ es
    by rest Less is =
        let no : Some d ≡ None = sym (found_first d.0 d ds (tied_itself val_total d.0)) ∙ h d.0
        ∙ found_none d.0 (e ∷ es) (is, above_less d.0 e.0 is es re.0) in
        absurd (cc)
    by rest Equal is =
        let first : Some d ≡ Some e = sym (found_first d.0 d ds (tied_itself val_total d.0)) ∙ h d.0
        ∙ found_first d.0 e es (tied_back val_total d.0 e.0 is) in
        let others : ds ≡ es = rest (λ q. rest_same q d ds es e is rd.0 re.0 (h q)) in
        cc
    by rest Greater is =
        let less : val_cmp e.0 d.0 ≡ Less = turned d.0 e.0 Greater is in
        let no : None ≡ Some e = sym (found_none e.0 (d ∷ ds) (less, above_less e.0 d.0 less ds rd.0)) ∙ h e.0
        ∙ found_first e.0 e es (tied_itself val_total e.0) in
        absurd (cc)
