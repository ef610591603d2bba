-- The statements that are picked among others: one behind the other, and what they say together.
use Rattle.std.proofs.Common.{◌≡◌, ℕ, ◌+◌, ◌<◌, ◌≤◌, zero, suc, Bool, true, false, if◌then◌else◌, List, [], ◌∷◌, ◌++◌, append_assoc, append-nil, length, get_or, drop, Bor, Result, Ok, Err, IfOk, refl, sym, ap, ap₂, ◌∙◌, arith}
use Rattle.std.proofs.Math.Seq.{drop-cons}
use Rattle.template_compiler_tree.specs.Tree.{Statement, Statements, template, raw, print, for_loop, if_condition, with_block, set_block, auto_escape, filter_block, block, macro, call_block, no_statements, statements_more}
use Rattle.template_compiler_tree_statements.specs.View.{statement_of}
use Rattle.template_compiler_tree_statements.specs.declared.statements.Stmt.{Stmt}
use Rattle.template_compiler_tree_parts.specs.Bodies.{body_in, other_in}
use Rattle.template_compiler_tree_parts.specs.Listed.{statements_in}
use Rattle.template_compiler_tree_parts.specs.Within.{IsPrinted, joined, picked, picked_among, picked_of, picked_within, trees_of}

pub trees_push : (xs : List (Bor Stmt)) (x : Bor Stmt) → trees_of (xs ++ x ∷ []) ≡ trees_of xs ++ statement_of x.now ∷ []
trees_push [] x = refl
trees_push (y ∷ xs) x = ap (λ ts. statement_of y.now ∷ ts) (trees_push xs x)

-- the statements of a body, one behind the other
drop_at : {A : Type 0} (xs : List A) (i : ℕ) (x : A) → i < length xs → x ≡ get_or xs i x → drop i xs ≡ x ∷ drop (i + 1) xs
drop_at xs i x within read =
    let more : suc i ≡ i + 1 = omega arith in
    drop-cons xs i x within ∙ ap (λ (n : ℕ). get_or xs i x ∷ drop n xs) more ∙ ap (λ y. y ∷ drop (i + 1) xs) (sym read)

drop_none : {A : Type 0} (xs : List A) (i : ℕ) → length xs ≤ i → drop i xs ≡ []
drop_none [] zero h = refl
drop_none [] (suc i) h = refl
drop_none (x ∷ xs) zero h = absurd (omega (arith, h))
drop_none (x ∷ xs) (suc i) h = drop_none xs i (omega (arith, h))

-- one more part is taken
next : {A : Type 0} {all : List A} (ns ms part rest : List A) → ms ≡ ns ++ part → ns ++ (part ++ rest) ≡ all → ms ++ rest ≡ all
next ns ms part rest taken left = ap (λ l. l ++ rest) taken ∙ append_assoc ns part rest ∙ left

pub ends : {A T E : Type 0} {all : List A} (ns ms part : List A) (r : Result T E) → IfOk r (λ _. ms ≡ ns ++ part) → ns ++ part ≡ all →
    IfOk r (λ _. ms ≡ all)
ends ns ms part (Ok value) taken left = taken ∙ left
ends ns ms part (Err error) taken left = tt

module _ (picks enters : Statement → Bool) where
  parts : (s : Statement) → picked_within picks enters s ≡ picked_among picks enters (body_in s) ++ picked_among picks enters (other_in s)
  parts (template body) = sym (append-nil (picked_among picks enters body))
  parts (for_loop target e condition recursive body otherwise) = refl
  parts (if_condition e body otherwise) = refl
  parts (with_block pairs body) = sym (append-nil (picked_among picks enters body))
  parts (set_block target filters body) = sym (append-nil (picked_among picks enters body))
  parts (auto_escape e body) = sym (append-nil (picked_among picks enters body))
  parts (filter_block e body) = sym (append-nil (picked_among picks enters body))
  parts (block name required body) = sym (append-nil (picked_among picks enters body))
  parts (macro name taken defaults body) = sym (append-nil (picked_among picks enters body))
  parts (call_block e given taken defaults body) = sym (append-nil (picked_among picks enters body))
  parts _ = refl

  pub body_item : {all : List Statement} (ns ms : List Statement) (xs : List Stmt) (i : ℕ) (x : Stmt) → i < length xs → x ≡ get_or xs i x →
      ms ≡ ns ++ picked_of picks enters (statement_of x) → ns ++ picked_among picks enters (statements_in (drop i xs)) ≡ all →
      ms ++ picked_among picks enters (statements_in (drop (i + 1) xs)) ≡ all
  body_item ns ms xs i x within read taken left =
      next ns ms (picked_of picks enters (statement_of x)) (picked_among picks enters (statements_in (drop (i + 1) xs))) taken
      (ap (λ (ss : List Stmt). ns ++ picked_among picks enters (statements_in ss)) (sym (drop_at xs i x within read)) ∙ left)

  pub body_done : {all : List Statement} (ns : List Statement) (xs : List Stmt) (i : ℕ) → length xs ≤ i →
      ns ++ picked_among picks enters (statements_in (drop i xs)) ≡ all → ns ≡ all
  body_done ns xs i past left =
      sym (append-nil ns) ∙ ap (λ (ss : List Stmt). ns ++ picked_among picks enters (statements_in ss)) (sym (drop_none xs i past)) ∙ left

  -- a text or a print, which is not picked
  out : (s : Statement) → picks s ≡ false → picked picks s ≡ []
  out s off = ap (λ (b : Bool). if b then s ∷ [] else []) off

  abbrev empty : List Statement
  empty = []

  nothing : (b : Bool) → (if b then empty else empty) ≡ empty
  nothing true = refl
  nothing false = refl

  none : ((text : List ℕ) → picks (raw text) ≡ false) → ((e : _) → picks (print e) ≡ false) → (s : Statement) → IsPrinted s → picked_of picks enters s ≡ []
  none texts prints (raw text) is = ap₂ (λ l m. l ++ m) (out (raw text) (texts text)) (nothing (enters (raw text)))
  none texts prints (print e) is = ap₂ (λ l m. l ++ m) (out (print e) (prints e)) (nothing (enters (print e)))
  none texts prints _ is = absurd is

  pub body_passed : {all : List Statement} (ns : List Statement) (xs : List Stmt) (i : ℕ) (x : Stmt) → i < length xs → x ≡ get_or xs i x →
      ((text : List ℕ) → picks (raw text) ≡ false) → ((e : _) → picks (print e) ≡ false) → IsPrinted (statement_of x) →
      ns ++ picked_among picks enters (statements_in (drop i xs)) ≡ all → ns ++ picked_among picks enters (statements_in (drop (i + 1) xs)) ≡ all
  body_passed ns xs i x within read texts prints is left =
      body_item ns ns xs i x within read (sym (append-nil ns) ∙ ap (λ l. ns ++ l) (sym (none texts prints (statement_of x) is))) left

  -- a statement whose bodies are left out
  pub left_out : {all : List Statement} (ns ms : List Statement) (s : Statement) → enters s ≡ false → ms ≡ ns ++ picked picks s →
      ns ++ picked_of picks enters s ≡ all → ms ≡ all
  left_out ns ms s off taken left =
      taken ∙ ap (λ l. ns ++ l) (sym (append-nil (picked picks s))) ∙
      ap (λ (b : Bool). ns ++ (picked picks s ++ (if b then picked_within picks enters s else []))) (sym off) ∙ left

  -- behind a statement and its body its else part is left
  pub else_left : {all : List Statement} (ns ms ls : List Statement) (s : Statement) (body other : Statements) → enters s ≡ true → body ≡ body_in s → other ≡ other_in s →
      ms ≡ ns ++ picked picks s → ls ≡ ms ++ picked_among picks enters body → ns ++ picked_of picks enters s ≡ all → ls ++ picked_among picks enters other ≡ all
  else_left ns ms ls s body other entered body_is other_is itself inner left =
      next ms ls (picked_among picks enters body) (picked_among picks enters other) inner
      (next ns ms (picked picks s) (picked_among picks enters body ++ picked_among picks enters other) itself
      (ap₂ (λ (b o : Statements). ns ++ (picked picks s ++ (picked_among picks enters b ++ picked_among picks enters o))) body_is other_is ∙
      ap (λ l. ns ++ (picked picks s ++ l)) (sym (parts s)) ∙
      ap (λ (b : Bool). ns ++ (picked picks s ++ (if b then picked_within picks enters s else []))) (sym entered) ∙ left))

  -- an `elif`
  pub only : (body : List Stmt) (s : Stmt) → length body ≡ 1 → s ≡ get_or body 0 s →
      picked_of picks enters (statement_of s) ≡ picked_among picks enters (statements_in body)
  only [] s one read = absurd (omega (arith, one))
  only (x ∷ []) s one read =
      ap (λ (y : Stmt). picked_of picks enters (statement_of y)) read ∙ sym (append-nil (picked_of picks enters (statement_of x)))
  only (x ∷ y ∷ body) s one read = absurd (omega (arith, one))

-- a loop over those that are picked: one more, and its end
module _ {M : Type 0} (unit : M) (join : M → M → M) (assoc : (x y z : M) → join (join x y) z ≡ join x (join y z)) (nil : (x : M) → join x unit ≡ x)
    (own : Statement → M) where
  pub one_more : {all : M} (n m : M) (xs : List (Bor Stmt)) (i : ℕ) (x : Bor Stmt) → i < length xs → x ≡ get_or xs i x →
      m ≡ join n (own (statement_of x.now)) → join n (joined unit join own (trees_of (drop i xs))) ≡ all →
      join m (joined unit join own (trees_of (drop (i + 1) xs))) ≡ all
  one_more n m xs i x within read taken left =
      ap (λ k. join k (joined unit join own (trees_of (drop (i + 1) xs)))) taken ∙
      assoc n (own (statement_of x.now)) (joined unit join own (trees_of (drop (i + 1) xs))) ∙
      ap (λ (ys : List (Bor Stmt)). join n (joined unit join own (trees_of ys))) (sym (drop_at xs i x within read)) ∙ left

  pub all_done : {all : M} (n : M) (xs : List (Bor Stmt)) (i : ℕ) → length xs ≤ i → join n (joined unit join own (trees_of (drop i xs))) ≡ all → n ≡ all
  all_done n xs i past left =
      sym (nil n) ∙ ap (λ (ys : List (Bor Stmt)). join n (joined unit join own (trees_of ys))) (sym (drop_none xs i past)) ∙ left

-- One law for all that walks along statements: a function whose answer at a statement is joined of what it says of the
-- statement alone and of its answers at the bodies, is what those that are picked say together.
module _ {M : Type 0} (unit : M) (join : M → M → M) (assoc : (x y z : M) → join (join x y) z ≡ join x (join y z)) (nil : (x : M) → join x unit ≡ x)
    (first : (x : M) → join unit x ≡ x) (picks enters : Statement → Bool) (own f : Statement → M) (g : Statements → M)
    (none_picked : (s : Statement) → picks s ≡ false → own s ≡ unit) (no_more : g no_statements ≡ unit)
    (more : (s : Statement) (ss : Statements) → g (statements_more s ss) ≡ join (f s) (g ss))
    (own_first : (s : Statement) → f s ≡ join (own s) (if enters s then join (g (body_in s)) (g (other_in s)) else unit)) where
  abbrev together : List Statement → M
  together ss = joined unit join own ss

  together_behind : (ss ts : List Statement) → together (ss ++ ts) ≡ join (together ss) (together ts)
  together_behind [] ts = sym (first (together ts))
  together_behind (s ∷ ss) ts = ap (λ m. join (own s) m) (together_behind ss ts) ∙ sym (assoc (own s) (together ss) (together ts))

  where_entered : (b : Bool) (ss : List Statement) (m : M) → together ss ≡ m → together (if b then ss else []) ≡ (if b then m else unit)
  where_entered true ss m same = same
  where_entered false ss m same = refl

  itself : (s : Statement) (b : Bool) → picks s ≡ b → together (if b then s ∷ [] else []) ≡ own s
  itself s true is = nil (own s)
  itself s false is = sym (none_picked s is)

  alone : (body : Statements) → g body ≡ join (g body) (g no_statements)
  alone body = sym (nil (g body)) ∙ ap (λ m. join (g body) m) (sym no_more)

  with_inner : (s : Statement) → together (picked_within picks enters s) ≡ join (g (body_in s)) (g (other_in s)) → together (picked_of picks enters s) ≡ f s
  with_inner s inner =
      together_behind (picked picks s) (if enters s then picked_within picks enters s else []) ∙
      ap₂ join (itself s (picks s) refl) (where_entered (enters s) (picked_within picks enters s) (join (g (body_in s)) (g (other_in s))) inner) ∙
      sym (own_first s)

  mutual
    inner : (s : Statement) → together (picked_within picks enters s) ≡ join (g (body_in s)) (g (other_in s))
    inner (template body) = said body ∙ alone body
    inner (for_loop target e condition recursive body otherwise) =
        together_behind (picked_among picks enters body) (picked_among picks enters otherwise) ∙ ap₂ join (said body) (said otherwise)
    inner (if_condition e body otherwise) =
        together_behind (picked_among picks enters body) (picked_among picks enters otherwise) ∙ ap₂ join (said body) (said otherwise)
    inner (with_block pairs body) = said body ∙ alone body
    inner (set_block target filters body) = said body ∙ alone body
    inner (auto_escape e body) = said body ∙ alone body
    inner (filter_block e body) = said body ∙ alone body
    inner (block name required body) = said body ∙ alone body
    inner (macro name taken defaults body) = said body ∙ alone body
    inner (call_block e given taken defaults body) = said body ∙ alone body
    inner _ = sym no_more ∙ alone no_statements

    pub said : (ss : Statements) → joined unit join own (picked_among picks enters ss) ≡ g ss
    said no_statements = sym no_more
    said (statements_more s ss) =
        together_behind (picked_of picks enters s) (picked_among picks enters ss) ∙ ap₂ join (with_inner s (inner s)) (said ss) ∙ sym (more s ss)

  pub said_of : (s : Statement) → joined unit join own (picked_of picks enters s) ≡ f s
  said_of s = with_inner s (inner s)
