-- A value is told apart by a tree of numbers, from which it can be read back.
use Rattle.std.specs.Prelude.{◌≡◌, ℕ, pos, negsuc, true, false, cond, ◌==◌, List, [], ◌∷◌, refl}
use Rattle.std.proofs.Common.{ap}
use Rattle.std.specs.Coded.{Coded, code_by}
use base.Stored.{Gv, gnil, gnum, gcons}
use denote.Struct.Codes.{itself}
use Rattle.template_values_model.specs.Val.{Val, Vals, Pairs, undefined, silent_undefined, none, truth, int, text, safe_text, bytes, list, tuple, map, keyword_map, «module», function, namespace, loop_record, macro_record, no_vals, vals_more, no_pairs, pairs_more}

abbrev bytes_gv : List ℕ → Gv
bytes_gv [] = gnil
bytes_gv (x ∷ xs) = gcons (gnum x) (bytes_gv xs)

abbrev gv_num : Gv → ℕ
gv_num (gnum n) = n
gv_num _ = 0

abbrev gv_bytes : Gv → List ℕ
gv_bytes (gcons x xs) = gv_num x ∷ gv_bytes xs
gv_bytes _ = []

bytes_back : (xs : List ℕ) → gv_bytes (bytes_gv xs) ≡ xs
bytes_back [] = refl
bytes_back (x ∷ xs) = ap (λ (ys : List ℕ). x ∷ ys) (bytes_back xs)

-- a constructor's number and its two parts
abbrev node : ℕ → Gv → Gv → Gv
node tag a b = gcons (gnum tag) (gcons a b)

abbrev mutual
  val_gv : Val → Gv
  val_gv undefined = node 0 gnil gnil
  val_gv silent_undefined = node 1 gnil gnil
  val_gv none = node 2 gnil gnil
  val_gv (truth false) = node 3 gnil gnil
  val_gv (truth true) = node 4 gnil gnil
  val_gv (int (pos n)) = node 5 (gnum n) gnil
  val_gv (int (negsuc n)) = node 6 (gnum n) gnil
  val_gv (text s) = node 7 gnil (bytes_gv s)
  val_gv (safe_text s) = node 8 gnil (bytes_gv s)
  val_gv (bytes s) = node 9 gnil (bytes_gv s)
  val_gv (list vs) = node 10 (vals_gv vs) gnil
  val_gv (tuple vs) = node 11 (vals_gv vs) gnil
  val_gv (map ps) = node 12 (pairs_gv ps) gnil
  val_gv (keyword_map ps) = node 13 (pairs_gv ps) gnil
  val_gv («module» ps s) = node 14 (pairs_gv ps) (bytes_gv s)
  val_gv (function e n) = node 15 (gnum e) (gnum n)
  val_gv (namespace e n) = node 16 (gnum e) (gnum n)
  val_gv (loop_record e n) = node 17 (gnum e) (gnum n)
  val_gv (macro_record e n) = node 18 (gnum e) (gnum n)

  vals_gv : Vals → Gv
  vals_gv no_vals = gnil
  vals_gv (vals_more v vs) = gcons (val_gv v) (vals_gv vs)

  pairs_gv : Pairs → Gv
  pairs_gv no_pairs = gnil
  pairs_gv (pairs_more k v ps) = gcons (val_gv k) (gcons (val_gv v) (pairs_gv ps))

-- the constructor of a number, at its two parts
abbrev pick : ℕ → Gv → Gv → Vals → Pairs → Val
pick tag a b vs ps =
    cond (tag == 1) silent_undefined
    (cond (tag == 2) none
    (cond (tag == 3) (truth false)
    (cond (tag == 4) (truth true)
    (cond (tag == 5) (int (pos (gv_num a)))
    (cond (tag == 6) (int (negsuc (gv_num a)))
    (cond (tag == 7) (text (gv_bytes b))
    (cond (tag == 8) (safe_text (gv_bytes b))
    (cond (tag == 9) (bytes (gv_bytes b))
    (cond (tag == 10) (list vs)
    (cond (tag == 11) (tuple vs)
    (cond (tag == 12) (map ps)
    (cond (tag == 13) (keyword_map ps)
    (cond (tag == 14) («module» ps (gv_bytes b))
    (cond (tag == 15) (function (gv_num a) (gv_num b))
    (cond (tag == 16) (namespace (gv_num a) (gv_num b))
    (cond (tag == 17) (loop_record (gv_num a) (gv_num b))
    (cond (tag == 18) (macro_record (gv_num a) (gv_num b)) undefined)))))))))))))))))

abbrev mutual
  gv_val : Gv → Val
  gv_val (gcons t (gcons a b)) = pick (gv_num t) a b (gv_vals a) (gv_pairs a)
  gv_val _ = undefined

  gv_vals : Gv → Vals
  gv_vals (gcons v vs) = vals_more (gv_val v) (gv_vals vs)
  gv_vals _ = no_vals

  gv_pairs : Gv → Pairs
  gv_pairs (gcons k (gcons v ps)) = pairs_more (gv_val k) (gv_val v) (gv_pairs ps)
  gv_pairs _ = no_pairs

mutual
  pub val_back : (v : Val) → gv_val (val_gv v) ≡ v
  val_back undefined = refl
  val_back silent_undefined = refl
  val_back none = refl
  val_back (truth false) = refl
  val_back (truth true) = refl
  val_back (int (pos n)) = refl
  val_back (int (negsuc n)) = refl
  val_back (text s) = ap text (bytes_back s)
  val_back (safe_text s) = ap safe_text (bytes_back s)
  val_back (bytes s) = ap bytes (bytes_back s)
  val_back (list vs) = ap list (vals_back vs)
  val_back (tuple vs) = ap tuple (vals_back vs)
  val_back (map ps) = ap map (pairs_back ps)
  val_back (keyword_map ps) = ap keyword_map (pairs_back ps)
  val_back («module» ps s) = λ i. «module» (pairs_back ps i) (bytes_back s i)
  val_back (function e n) = refl
  val_back (namespace e n) = refl
  val_back (loop_record e n) = refl
  val_back (macro_record e n) = refl

  vals_back : (vs : Vals) → gv_vals (vals_gv vs) ≡ vs
  vals_back no_vals = refl
  vals_back (vals_more v vs) = λ i. vals_more (val_back v i) (vals_back vs i)

  pairs_back : (ps : Pairs) → gv_pairs (pairs_gv ps) ≡ ps
  pairs_back no_pairs = refl
  pairs_back (pairs_more k v ps) = λ i. pairs_more (val_back k i) (val_back v i) (pairs_back ps i)

abbrev pub val_code : Coded Val
val_code = code_by Gv itself val_gv gv_val val_back
