-- The laws of the order, kind by kind.
use Rattle.std.proofs.Common.{◌≡◌, ℕ, ℤ, pos, ◌<◌, ◌<ℤ◌, ◌∙◌, sym, ap, refl, List, [], true, false, Less, Equal, Greater, arith}
use Rattle.std.proofs.lemmas.Int.{ints}
use Rattle.std.specs.declared.cmp.Ordering.{Ordering}
use Rattle.std.specs.Cmp.{int_cmp_is, ranks, tied_itself}
use Rattle.std.specs.Cmp.Lexicographic.{slice_cmp}
use Rattle.std.specs.Ordering.{MatchOrdering, int_cmp, nat_cmp, ordering_then}
use Rattle.template_values_model.specs.Val.{Val, undefined, silent_undefined, none, truth, int, text, safe_text, bytes, list, tuple, map, keyword_map, «module», function, namespace, loop_record, macro_record}
use Rattle.template_values_core.specs.Order.{Key, leaf, branch, key, key_cmp, rank_of, vals_key, val_cmp, val_total}
use Rattle.template_values_core.specs.OrderLaws.{KindsFirst, Alike, WithinKinds}

then_end : (o : Ordering) → ordering_then o Equal ≡ o
then_end Less = refl
then_end Equal = refl
then_end Greater = refl

below_pos : (n m : ℕ) → n < m → pos n <ℤ pos m
below_pos n m h = omega (arith, ints)

lifted : (n m : ℕ) (o : Ordering) → MatchOrdering o (n < m) (n ≡ m) (m < n)
    → MatchOrdering o (pos n <ℤ pos m) (pos n ≡ pos m) (pos m <ℤ pos n)
lifted n m Less h = below_pos n m h
lifted n m Equal h = ap pos h
lifted n m Greater h = below_pos m n h

pub signed : (n m : ℕ) → int_cmp (pos n) (pos m) ≡ nat_cmp n m
signed n m = sym (int_cmp_is (pos n) (pos m) (nat_cmp n m) (lifted n m (nat_cmp n m) (ranks n m)))

int_below : (m n : ℕ) → m < n → int_cmp (pos m) (pos n) ≡ Less
int_below m n h = sym (int_cmp_is (pos m) (pos n) Less (below_pos m n h))

then_assoc : (p q r : Ordering) → ordering_then (ordering_then p q) r ≡ ordering_then p (ordering_then q r)
then_assoc Less q r = refl
then_assoc Equal q r = refl
then_assoc Greater q r = refl

-- numbers stand by their size
pub numbers_by_size : (n m : ℤ) → int_cmp n m ≡ val_cmp (int n) (int m)
numbers_by_size n m = sym (then_end (ordering_then (int_cmp n m) Equal) ∙ then_end (int_cmp n m))

-- parts that are compared in turn, each with what stands before it or behind it
turned_round : (r n t s i e : Ordering) → ordering_then (ordering_then (ordering_then (ordering_then (ordering_then r n) t) s) i) e
    ≡ ordering_then (ordering_then r Equal) (ordering_then (ordering_then n t) (ordering_then (ordering_then s Equal) (ordering_then i e)))
turned_round Less n t s i e = refl
turned_round Greater n t s i e = refl
turned_round Equal Less t s i e = refl
turned_round Equal Greater t s i e = refl
turned_round Equal Equal Less s i e = refl
turned_round Equal Equal Greater s i e = refl
turned_round Equal Equal Equal Less i e = refl
turned_round Equal Equal Equal Greater i e = refl
turned_round Equal Equal Equal Equal i e = refl

pub in_turn : {r n t s i e a b c d r' n' t' s' i' e' : Ordering} (o : Ordering) → r ≡ r' → n ≡ n' → t ≡ t' → s ≡ s' → i ≡ i' → e ≡ e' →
    a ≡ ordering_then r n → b ≡ ordering_then a t → c ≡ ordering_then b s → d ≡ ordering_then c i → o ≡ ordering_then d e →
    o ≡ ordering_then (ordering_then r' Equal) (ordering_then (ordering_then n' t') (ordering_then (ordering_then s' Equal) (ordering_then i' e')))
in_turn {r} {n} {t} {s} {i} {e} o rank number texts second items entries first next third fourth last =
    last
    ∙ ap (λ x. ordering_then x e) (fourth ∙ ap (λ x. ordering_then x i) (third ∙ ap (λ x. ordering_then x s) (next ∙ ap (λ x. ordering_then x t) first)))
    ∙ turned_round r n t s i e
    ∙ (λ k. ordering_then (ordering_then (rank k) Equal) (ordering_then (ordering_then (number k) (texts k))
    (ordering_then (ordering_then (second k) Equal) (ordering_then (items k) (entries k)))))

-- texts stand by their bytes
pub texts_by_bytes : (s t : List ℕ) → slice_cmp nat_cmp s t ≡ val_cmp (text s) (text t)
texts_by_bytes s t = sym (then_end (slice_cmp nat_cmp s t))

abbrev behind : Key → Key
behind (branch a b) = b
behind (leaf n s) = leaf n s

-- a key begins with the rank of the kind
ranked_key : (v : Val) → key v ≡ branch (leaf (pos (rank_of v)) []) (behind (key v))
ranked_key undefined = refl
ranked_key silent_undefined = refl
ranked_key none = refl
ranked_key (truth false) = refl
ranked_key (truth true) = refl
ranked_key (int n) = refl
ranked_key (text s) = refl
ranked_key (safe_text s) = refl
ranked_key (bytes s) = refl
ranked_key (list vs) = refl
ranked_key (tuple vs) = refl
ranked_key (map ps) = refl
ranked_key (keyword_map ps) = refl
ranked_key («module» ps s) = refl
ranked_key (function e n) = refl
ranked_key (namespace e n) = refl
ranked_key (loop_record e n) = refl
ranked_key (macro_record e n) = refl

by_rank : (m n : ℕ) (a b : Key) → m < n → key_cmp (branch (leaf (pos m) []) a) (branch (leaf (pos n) []) b) ≡ Less
by_rank m n a b h = ap (λ (o : Ordering). ordering_then (ordering_then o Equal) (key_cmp a b)) (int_below m n h)

pub kinds_first : KindsFirst
kinds_first v w h =
    (λ i. key_cmp (ranked_key v i) (ranked_key w i)) ∙ by_rank (rank_of v) (rank_of w) (behind (key v)) (behind (key w)) h

pub alike : Alike
alike = record {
  undefined_forms = refl;
  false_is_zero = refl;
  true_is_one = refl;
  safe_texts = λ s. tied_itself val_total (text s);
  not_identical = λ s e. cc;
  sequences = λ vs. tied_itself val_total (list vs);
  keyword_maps = λ ps. tied_itself val_total (map ps);
  modules = λ ps s. tied_itself val_total (map ps);
}

by_numbers : (d e n m : ℕ) → ordering_then (ordering_then (int_cmp (pos d) (pos e)) Equal)
    (ordering_then (ordering_then (int_cmp (pos n) (pos m)) Equal) Equal) ≡ ordering_then (nat_cmp d e) (nat_cmp n m)
by_numbers d e n m = λ i. ordering_then ((then_end (int_cmp (pos d) (pos e)) ∙ signed d e) i)
    ((then_end (ordering_then (int_cmp (pos n) (pos m)) Equal) ∙ then_end (int_cmp (pos n) (pos m)) ∙ signed n m) i)

pub within_kinds : WithinKinds
within_kinds = record {
  numbers = λ n m. then_end (ordering_then (int_cmp n m) Equal) ∙ then_end (int_cmp n m);
  texts = λ s t. then_end (slice_cmp nat_cmp s t);
  byte_strings = λ s t. then_end (slice_cmp nat_cmp s t);
  items = λ v w vs ws. then_assoc (val_cmp v w) (key_cmp (vals_key vs) (vals_key ws)) Equal;
  shorter = λ v vs. refl;
  pairs = λ j k v w ps qs. refl;
  fewer = λ k v ps. refl;
  functions = by_numbers;
  namespaces = by_numbers;
  loops = by_numbers;
  macros = by_numbers;
}
