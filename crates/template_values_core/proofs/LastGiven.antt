-- A map made from pairs has under each key the value of the last pair given with that key.
use Rattle.std.proofs.Common.{◌≡◌, ℕ, ◌∙◌, sym, ap, refl, List, [], ◌∷◌, Bool, true, false, Less, Equal, Greater}
use Rattle.std.specs.Prelude.{Option, None, Some, if◌then◌else◌}
use Rattle.std.specs.declared.cmp.Ordering.{Ordering}
use Rattle.std.specs.Option.{option_or}
use Rattle.std.specs.Ordering.{is_eq, ordering_then, nat_cmp, match_ordering}
use Rattle.std.specs.BTreeMap.{insert_entry}
use Rattle.std.specs.Str.{bytes_eq}
use Rattle.std.specs.Cmp.{Equal-is, tied_back}
use Rattle.std.specs.Cmp.Lexicographic.{slice_cmp, texts_ties}
use Rattle.template_values_model.specs.Val.{Val, Pairs, undefined, silent_undefined, none, truth, int, text, safe_text, bytes, list, tuple, map, keyword_map, «module», function, namespace, loop_record, macro_record, no_pairs, pairs_more}
use Rattle.template_values_model.specs.Lookup.{is_text, entry_at}
use Rattle.template_values_core.specs.Order.{val_cmp, val_total}
use Rattle.template_values_core.specs.Maps.{pairs_of, put_all, last_at, entry_under, last_under}

then_end : (o : Ordering) → is_eq (ordering_then o Equal) ≡ is_eq o
then_end Less = refl
then_end Equal = refl
then_end Greater = refl

same_text : (name s : List ℕ) → bytes_eq s name ≡ is_eq (ordering_then (slice_cmp nat_cmp s name) Equal)
same_text name s = texts_ties s name ∙ sym (then_end (slice_cmp nat_cmp s name))

-- a value is a text exactly where it is equal to it
pub is_text-eq : (name : List ℕ) (k : Val) → is_text name k ≡ is_eq (val_cmp k (text name))
is_text-eq name undefined = refl
is_text-eq name silent_undefined = refl
is_text-eq name none = refl
is_text-eq name (truth false) = refl
is_text-eq name (truth true) = refl
is_text-eq name (int n) = refl
is_text-eq name (text s) = same_text name s
is_text-eq name (safe_text s) = same_text name s
is_text-eq name (bytes s) = refl
is_text-eq name (list vs) = refl
is_text-eq name (tuple vs) = refl
is_text-eq name (map ps) = refl
is_text-eq name (keyword_map ps) = refl
is_text-eq name («module» ps s) = refl
is_text-eq name (function e n) = refl
is_text-eq name (namespace e n) = refl
is_text-eq name (loop_record e n) = refl
is_text-eq name (macro_record e n) = refl

none_after : {T : Type 0} (o : Option T) → option_or o None ≡ o
none_after None = refl
none_after (Some v) = refl

or_assoc : {T : Type 0} (o p q : Option T) → option_or (option_or o p) q ≡ option_or o (option_or p q)
or_assoc None p q = refl
or_assoc (Some v) p q = refl

unequal : Greater ≡ Equal → ⊥
unequal e = cc

-- the look-up under a key `q` after the pair of `k` and `v` is put
module _ (q k v : Val) where
  -- equal keys are both equal to q, or both not
  alike : (j : Val) → val_cmp k j ≡ Equal → is_eq (val_cmp k q) ≡ is_eq (val_cmp j q)
  alike j e = ap is_eq (val_total.congr k j q e)

  both : (j : Val) → is_eq (val_cmp k q) ≡ true → is_eq (val_cmp j q) ≡ true → val_cmp k j ≡ Equal
  both j a b =
      val_total.congr k q j ((Equal-is (val_cmp k q)).0 a) ∙ tied_back val_total j q ((Equal-is (val_cmp j q)).0 b)

  new_first : (b : Bool) (o : Option Val) → (if b then Some v else o) ≡ option_or (if b then Some v else None) o
  new_first true o = refl
  new_first false o = refl

  same_first : (b c : Bool) (w : Val) (o : Option Val) → c ≡ b → (if b then Some v else o)
      ≡ option_or (if c then Some v else None) (if b then Some w else o)
  same_first true true w o e = refl
  same_first false false w o e = refl
  same_first true false w o e = absurd (cc)
  same_first false true w o e = absurd (cc)

  later_first : (b c : Bool) (w : Val) (o : Option Val) → (b ≡ true → c ≡ true → ⊥)
      → (if b then Some w else option_or (if c then Some v else None) o) ≡ option_or (if c then Some v else None) (if b then Some w else o)
  later_first true true w o f = absurd (f refl refl)
  later_first true false w o f = refl
  later_first false c w o f = refl

  entry_under-insert_entry : (kept : List (Val × Val)) → entry_under q (pairs_of (insert_entry val_cmp kept k v))
      ≡ option_or (if is_eq (val_cmp k q) then Some v else None) (entry_under q (pairs_of kept))
  entry_under-insert_entry [] = new_first (is_eq (val_cmp k q)) None
  entry_under-insert_entry (e ∷ kept) = by (entry_under-insert_entry kept) (val_cmp k e.0) refl
    where
      by : entry_under q (pairs_of (insert_entry val_cmp kept k v))
          ≡ option_or (if is_eq (val_cmp k q) then Some v else None) (entry_under q (pairs_of kept)) → (o : Ordering) → val_cmp k e.0 ≡ o
          → entry_under q (pairs_of (match_ordering o ((k, v) ∷ e ∷ kept) ((e.0, v) ∷ kept) (e ∷ insert_entry val_cmp kept k v)))
          ≡ option_or (if is_eq (val_cmp k q) then Some v else None) (entry_under q (pairs_of (e ∷ kept)))
      by rest Less is = new_first (is_eq (val_cmp k q)) (entry_under q (pairs_of (e ∷ kept)))
      by rest Equal is = same_first (is_eq (val_cmp e.0 q)) (is_eq (val_cmp k q)) e.1 (entry_under q (pairs_of kept)) (alike e.0 is)
      by rest Greater is =
          ap (λ (o : Option Val). if is_eq (val_cmp e.0 q) then Some e.1 else o) rest
          ∙ later_first (is_eq (val_cmp e.0 q)) (is_eq (val_cmp k q)) e.1 (entry_under q (pairs_of kept))
          (λ a b. unequal (sym is ∙ both e.0 b a))

entry_under-put_all : (q : Val) (given kept : List (Val × Val)) → entry_under q (pairs_of (put_all kept given))
    ≡ option_or (last_under q given) (entry_under q (pairs_of kept))
entry_under-put_all q [] kept = refl
entry_under-put_all q (p ∷ given) kept =
    entry_under-put_all q given (insert_entry val_cmp kept p.0 p.1)
    ∙ ap (option_or (last_under q given)) (entry_under-insert_entry q p.0 p.1 kept)
    ∙ sym (or_assoc (last_under q given) (if is_eq (val_cmp p.0 q) then Some p.1 else None) (entry_under q (pairs_of kept)))

-- the whole of a map that is made from pairs
pub entry_under-collected : (q : Val) (given : List (Val × Val)) → entry_under q (pairs_of (put_all [] given)) ≡ last_under q given
entry_under-collected q given = entry_under-put_all q given [] ∙ none_after (last_under q given)

-- under a text
pub entry_at-entry_under : (name : List ℕ) (ps : Pairs) → entry_at name ps ≡ entry_under (text name) ps
entry_at-entry_under name no_pairs = refl
entry_at-entry_under name (pairs_more k v ps) = λ i. if is_text-eq name k i then Some v else entry_at-entry_under name ps i

last_at-entry_under : (name : List ℕ) (given : List (Val × Val)) → last_at name given ≡ last_under (text name) given
last_at-entry_under name [] = refl
last_at-entry_under name (p ∷ given) = λ i. option_or (last_at-entry_under name given i) (if is_text-eq name p.0 i then Some p.1 else None)

pub entry_at-collected : (name : List ℕ) (given : List (Val × Val)) → entry_at name (pairs_of (put_all [] given)) ≡ last_at name given
entry_at-collected name given =
    entry_at-entry_under name (pairs_of (put_all [] given)) ∙ entry_under-collected (text name) given ∙ sym (last_at-entry_under name given)

pub ruleset from_pairs = (entry_at-collected, entry_under-collected)
