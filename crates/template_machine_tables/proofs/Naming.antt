-- What a name has in a map of blocks, and in the list that a contract sees of it.
use Rattle.std.proofs.Common.{◌≡◌, ◌∙◌, ap, sym, refl, Bool, true, false, cond, ℕ, List, [], ◌∷◌, ◌++◌, Option, None, Some, IfSome, IfNone, Result, Ok, Err, OnOk, OnErr, unwrap_or, bytes_eq, Less, Equal, Greater}
use Rattle.std.specs.Option.{option_and_then}
use Rattle.std.specs.Borrow.{Bor}
use Rattle.std.specs.BTreeMap.{insert_entry, is_at}
use Rattle.std.specs.Cmp.Lexicographic.{slice_cmp}
use Rattle.std.specs.List.{AllByRecursion}
use Rattle.std.specs.List.Sorted.{IsStrictlySortedBy}
use Rattle.std.specs.Map.{keys_of, lookup, set_value}
use Rattle.std.specs.Ordering.{nat_cmp, is_eq, match_ordering}
use Rattle.std.specs.declared.cmp.Ordering.{Ordering}
use Rattle.std.proofs.lemmas.Cmp.{nat_list_cmp_total}
use Rattle.std.proofs.lemmas.Map.Text.{is_eq-slice_cmp}
use Rattle.std.proofs.lemmas.Slice.Eq.{bytes_eq-Decides}
use Rattle.template_machine_meaning.specs.Keys.{Home}
use Rattle.template_machine_meaning.specs.Bodies.{Bodies, bodies_at, bodies_behind, placed, with_body, with_place}
use Rattle.template_machine_tables.specs.Stack.{HasBehind, HasBody, IsBehind, IsBody, blocks_among}
use Rattle.template_machine_tables.specs.declared.stack.Behind.{Behind}
use Rattle.template_machine_tables.specs.declared.stack.Body.{Body}

abbrev pub Entries : Type 0
Entries = List (Bor (List ℕ) × Bodies)

-- how a name compares to a key, and keys to one another
abbrev pub asks : List ℕ → Bor (List ℕ) → Ordering
asks q k = slice_cmp nat_cmp q k.now

abbrev pub key_cmp : Bor (List ℕ) → Bor (List ℕ) → Ordering
key_cmp a b = slice_cmp nat_cmp a.now b.now

bytes_eq-turned : (xs ys : List ℕ) → bytes_eq xs ys ≡ bytes_eq ys xs
bytes_eq-turned xs ys = by (bytes_eq xs ys) (bytes_eq ys xs) refl refl
  where
    by : (b c : Bool) → bytes_eq xs ys ≡ b → bytes_eq ys xs ≡ c → bytes_eq xs ys ≡ bytes_eq ys xs
    by true c d e = d ∙ sym ((bytes_eq-Decides ys xs).1 (sym ((bytes_eq-Decides xs ys).0 d)))
    by false true d e = (bytes_eq-Decides xs ys).1 (sym ((bytes_eq-Decides ys xs).0 e)) ∙ sym e
    by false false d e = d ∙ sym e

same_test : (q : List ℕ) (k : Bor (List ℕ)) → is_eq (slice_cmp nat_cmp q k.now) ≡ bytes_eq k.now q
same_test q k = is_eq-slice_cmp q k.now ∙ bytes_eq-turned q k.now

-- a name has in the list what it has in the map
pub found_among : (es : Entries) (q : List ℕ) → lookup (is_at (asks q)) es ≡ bodies_at q (blocks_among es)
found_among [] q = refl
found_among (e ∷ es) q =
    let test : is_eq (slice_cmp nat_cmp q e.0.now) ≡ bytes_eq e.0.now q = same_test q e.0 in
    let later = found_among es q in
    λ i. cond (test i) (Some e.1) (later i)

-- a name that is put stands in the list at its place
pub put_among : (es : Entries) (k : Bor (List ℕ)) (b : Bodies)
    → blocks_among (insert_entry key_cmp es k b) ≡ insert_entry (slice_cmp nat_cmp) (blocks_among es) k.now b
put_among [] k b = refl
put_among (e ∷ es) k b = by (key_cmp k e.0) (put_among es k b)
  where
    by : (o : Ordering) → blocks_among (insert_entry key_cmp es k b) ≡ insert_entry (slice_cmp nat_cmp) (blocks_among es) k.now b
        → blocks_among (match_ordering o ((k, b) ∷ e ∷ es) ((e.0, b) ∷ es) (e ∷ insert_entry key_cmp es k b))
        ≡ match_ordering o ((k.now, b) ∷ (e.0.now, e.1) ∷ blocks_among es) ((e.0.now, b) ∷ blocks_among es)
        ((e.0.now, e.1) ∷ insert_entry (slice_cmp nat_cmp) (blocks_among es) k.now b)
    by Less rest = refl
    by Equal rest = refl
    by Greater rest = ap (λ (ls : List (List ℕ × Bodies)). (e.0.now, e.1) ∷ ls) rest

same_bodies : (b c : Bodies) → Some b ≡ Some c → b ≡ c
same_bodies b c is = ap (λ (o : Option Bodies). unwrap_or o b) is

-- one whose place is written
pub placed_among : (es : Entries) (q : List ℕ) (place : ℕ) (b w : Bodies) → Some b ≡ lookup (is_at (asks q)) es → w ≡ placed place b
    → blocks_among (set_value (is_at (asks q)) es w) ≡ with_place q place (blocks_among es)
placed_among [] q place b w found is = refl
placed_among (e ∷ es) q place b w found is =
    by (is_eq (slice_cmp nat_cmp q e.0.now)) (bytes_eq e.0.now q) (same_test q e.0) found (λ later. placed_among es q place b w later is)
  where
    by : (t u : Bool) → t ≡ u → Some b ≡ cond t (Some e.1) (lookup (is_at (asks q)) es)
        → (Some b ≡ lookup (is_at (asks q)) es → blocks_among (set_value (is_at (asks q)) es w) ≡ with_place q place (blocks_among es))
        → blocks_among (cond t ((e.0, w) ∷ es) (e ∷ set_value (is_at (asks q)) es w))
        ≡ cond u ((e.0.now, placed place e.1) ∷ blocks_among es) ((e.0.now, e.1) ∷ with_place q place (blocks_among es))
    by true true same found rest = ap (λ (x : Bodies). (e.0.now, x) ∷ blocks_among es) (is ∙ ap (placed place) (same_bodies b e.1 found))
    by false false same found rest = ap (λ (ls : List (List ℕ × Bodies)). (e.0.now, e.1) ∷ ls) (rest found)
    by true false same found rest = absurd (cc)
    by false true same found rest = absurd (cc)

-- a name that has nothing has no place to be written
pub unplaced : (ls : List (List ℕ × Bodies)) (q : List ℕ) (place : ℕ) → bodies_at q ls ≡ None → with_place q place ls ≡ ls
unplaced [] q place none = refl
unplaced (l ∷ ls) q place none = by (bytes_eq l.0 q) none (unplaced ls q place)
  where
    by : (t : Bool) → cond t (Some l.1) (bodies_at q ls) ≡ None → (bodies_at q ls ≡ None → with_place q place ls ≡ ls)
        → cond t ((l.0, placed place l.1) ∷ ls) (l ∷ with_place q place ls) ≡ l ∷ ls
    by true none rest = cc
    by false none rest = ap (λ (later : List (List ℕ × Bodies)). l ∷ later) (rest none)

-- where the keys ascend, none of them is a name that is below the first
none_behind : (q k : List ℕ) (es : Entries) → slice_cmp nat_cmp q k ≡ Less
    → AllByRecursion (λ (y : Bor (List ℕ)). slice_cmp nat_cmp k y.now ≡ Less) (keys_of es) → lookup (is_at (asks q)) es ≡ None
none_behind q k [] less below = refl
none_behind q k (e ∷ es) less below =
    let apart : slice_cmp nat_cmp q e.0.now ≡ Less = nat_list_cmp_total.trans q k e.0.now less below.0 in
    ap (λ (o : Ordering). cond (is_eq o) (Some e.1) (lookup (is_at (asks q)) es)) apart ∙ none_behind q k es less below.1

over_by : (q : List ℕ) (b w : Bodies) (e : Bor (List ℕ) × Bodies) (es : Entries)
    → AllByRecursion (λ (y : Bor (List ℕ)). slice_cmp nat_cmp e.0.now y.now ≡ Less) (keys_of es)
    → (o : Ordering) → slice_cmp nat_cmp q e.0.now ≡ o → Some b ≡ cond (is_eq o) (Some e.1) (lookup (is_at (asks q)) es)
    → (Some b ≡ lookup (is_at (asks q)) es → blocks_among (set_value (is_at (asks q)) es w) ≡ insert_entry (slice_cmp nat_cmp) (blocks_among es) q w)
    → blocks_among (cond (is_eq o) ((e.0, w) ∷ es) (e ∷ set_value (is_at (asks q)) es w))
    ≡ match_ordering o ((q, w) ∷ (e.0.now, e.1) ∷ blocks_among es) ((e.0.now, w) ∷ blocks_among es)
    ((e.0.now, e.1) ∷ insert_entry (slice_cmp nat_cmp) (blocks_among es) q w)
over_by q b w e es below Less is found rest =
    let none : lookup (is_at (asks q)) es ≡ None = none_behind q e.0.now es is below in
    cc
over_by q b w e es below Equal is found rest = refl
over_by q b w e es below Greater is found rest = ap (λ (ls : List (List ℕ × Bodies)). (e.0.now, e.1) ∷ ls) (rest found)

-- what is written in the place of what a name has stands as if the name were put
pub put_over : (es : Entries) (q : List ℕ) (b w : Bodies) → IsStrictlySortedBy key_cmp (keys_of es) → Some b ≡ lookup (is_at (asks q)) es
    → blocks_among (set_value (is_at (asks q)) es w) ≡ insert_entry (slice_cmp nat_cmp) (blocks_among es) q w
unfolding IsStrictlySortedBy
put_over [] q b w ordered found = cc
put_over (e ∷ es) q b w ordered found =
    over_by q b w e es ordered.0 (slice_cmp nat_cmp q e.0.now) refl found (λ later. put_over es q b w ordered.1 later)

-- one body more of a name that has some
pub pushed_over : (es : Entries) (q : List ℕ) (home : Home) (b w : Bodies) → IsStrictlySortedBy key_cmp (keys_of es) → Some b ≡ lookup (is_at (asks q)) es
    → w ≡ record b { homes = b.homes ++ home ∷ [] } → blocks_among (set_value (is_at (asks q)) es w) ≡ with_body home q (blocks_among es)
pushed_over es q home b w ordered found is =
    put_over es q b w ordered found
    ∙ ap (insert_entry (slice_cmp nat_cmp) (blocks_among es) q) (is ∙ ap (bodies_behind home) (found ∙ found_among es q))

-- or of one that has none
pub put_first : (es : Entries) (k : Bor (List ℕ)) (home : Home) (b : Bodies) → b ≡ record { homes = home ∷ []; place = 0 } → bodies_at k.now (blocks_among es) ≡ None
    → blocks_among (insert_entry key_cmp es k b) ≡ with_body home k.now (blocks_among es)
put_first es k home b is none =
    put_among es k b ∙ ap (insert_entry (slice_cmp nat_cmp) (blocks_among es) k.now) (is ∙ sym (ap (bodies_behind home) none))

-- what follows where a call succeeded, or was refused
pub on_ok : {X E : Type 0} (result : Result X E) (A B : Type 0) → (A → B) → OnOk result A → OnOk result B
on_ok (Ok u) A B follows is = follows is
on_ok (Err e) A B follows is = tt

pub on_err : {X E : Type 0} (result : Result X E) (A B : Type 0) → (A → B) → OnErr result A → OnErr result B
on_err (Ok u) A B follows is = tt
on_err (Err e) A B follows is = follows is

-- the bodies of a name that has some are told, or it has none
pub body_told : (r : Option Body) (q : List ℕ) (blocks : List (List ℕ × Bodies)) (b : Bodies) → Some b ≡ bodies_at q blocks → IfSome r (IsBody b) → IfSome r (HasBody q blocks)
body_told (Some body) q blocks b found is = record { bodies = b; found = sym found; told = is }
body_told None q blocks b found is = tt

pub behind_told : (r : Option Behind) (q : List ℕ) (blocks : List (List ℕ × Bodies)) (b : Bodies) → Some b ≡ bodies_at q blocks → IfSome r (IsBehind b)
    → IfSome r (HasBehind q blocks)
behind_told (Some behind) q blocks b found is = record { bodies = b; found = sym found; told = is }
behind_told None q blocks b found is = tt

pub missing_told : {X : Type 0} (r : Option X) (at : Bodies → Option Home) (o : Option Bodies) (b : Bodies) → Some b ≡ o → IfNone r (at b ≡ None)
    → IfNone r (option_and_then at o ≡ None)
missing_told (Some x) at o b found is = tt
missing_told None at o b found is = sym (ap (option_and_then at) found) ∙ is
