-- How deep the parts of nodes are.
use Rattle.std.proofs.Common.{◌≡◌, ℕ, ◌<◌, ◌≤◌, zero, suc, max, List, [], ◌∷◌, length, get_or, Option, None, Some, ap, arith, rules}
use Rattle.template_compiler_tree.specs.declared.calls.CallArg.{CallArg, Pos, Kwarg, PosSplat, KwargSplat, size-CallArg, the_lemmas}
use Rattle.template_compiler_tree.specs.declared.expressions.CompareOp.{CompareOp}
use Rattle.template_compiler_tree.specs.declared.expressions.Expr.{Expr, size-Expr}

abbrev pub optional_deep : Option Expr → ℕ
optional_deep None = 0
optional_deep (Some e) = size-Expr e

abbrev pub items_deep : List Expr → ℕ
items_deep [] = 0
items_deep (e ∷ es) = max (size-Expr e) (items_deep es)

abbrev pub links_deep : List CompareOp → ℕ
links_deep [] = 0
links_deep (l ∷ ls) = max (size-Expr l.expr) (links_deep ls)

-- an item is no deeper than the deepest one
item_within : (es : List Expr) (i : ℕ) (d : Expr) → i < length es → size-Expr (get_or es i d) ≤ items_deep es
item_within [] i d h = absurd (omega (arith, h))
item_within (e ∷ es) zero d h = omega arith
item_within (e ∷ es) (suc i) d h = let inner : size-Expr (get_or es i d) ≤ items_deep es = item_within es i d (omega (arith, h)) in omega arith

pub item_deep : (es : List Expr) (i : ℕ) (e : Expr) → i < length es → e ≡ get_or es i e → size-Expr e ≤ items_deep es
item_deep es i e h read = let same : size-Expr e ≡ size-Expr (get_or es i e) = ap (λ (x : Expr). size-Expr x) read in omega (arith, item_within es i e h)

link_within : (ls : List CompareOp) (i : ℕ) (d : CompareOp) → i < length ls → size-Expr (get_or ls i d).expr ≤ links_deep ls
link_within [] i d h = absurd (omega (arith, h))
link_within (l ∷ ls) zero d h = omega arith
link_within (l ∷ ls) (suc i) d h = let inner : size-Expr (get_or ls i d).expr ≤ links_deep ls = link_within ls i d (omega (arith, h)) in omega arith

pub link_deep : (ls : List CompareOp) (i : ℕ) (l : CompareOp) → i < length ls → l ≡ get_or ls i l → size-Expr l.expr ≤ links_deep ls
link_deep ls i l h read =
    let same : size-Expr l.expr ≡ size-Expr (get_or ls i l).expr = ap (λ (x : CompareOp). size-Expr x.expr) read in omega (arith, link_within ls i l h)

-- where all items are smaller than a number, so is the deepest one
pub items_below : (es : List Expr) (m : ℕ) → 0 < m → ((i : ℕ) (d : Expr) → i < length es → size-Expr (get_or es i d) < m) → items_deep es < m
items_below [] m h all = h
items_below (e ∷ es) m h all =
    let rest : items_deep es < m = items_below es m h (λ i d within. all (suc i) d (omega (arith, within))) in
    omega (arith, all zero e (omega arith), rest)

pub links_below : (ls : List CompareOp) (m : ℕ) → 0 < m → ((i : ℕ) (d : CompareOp) → i < length ls → size-Expr (get_or ls i d).expr < m) → links_deep ls < m
links_below [] m h all = h
links_below (l ∷ ls) m h all =
    let rest : links_deep ls < m = links_below ls m h (λ i d within. all (suc i) d (omega (arith, within))) in
    omega (arith, all zero l (omega arith), rest)

abbrev pub arguments_deep : List CallArg → ℕ
arguments_deep [] = 0
arguments_deep (x ∷ xs) = max (size-CallArg x) (arguments_deep xs)

argument_within : (xs : List CallArg) (i : ℕ) (d : CallArg) → i < length xs → size-CallArg (get_or xs i d) ≤ arguments_deep xs
argument_within [] i d h = absurd (omega (arith, h))
argument_within (x ∷ xs) zero d h = omega arith
argument_within (x ∷ xs) (suc i) d h =
    let inner : size-CallArg (get_or xs i d) ≤ arguments_deep xs = argument_within xs i d (omega (arith, h)) in omega arith

pub argument_deep : (xs : List CallArg) (i : ℕ) (a : CallArg) → i < length xs → a ≡ get_or xs i a → size-CallArg a ≤ arguments_deep xs
argument_deep xs i a h read =
    let same : size-CallArg a ≡ size-CallArg (get_or xs i a) = ap (λ (x : CallArg). size-CallArg x) read in omega (arith, argument_within xs i a h, same)

-- the expression of an argument is smaller than it
value_inside : (e : Expr) → size-Expr e < size-CallArg (Pos e)
value_inside e = search (rules, the_lemmas)

keyword_inside : (name : _) (e : Expr) → size-Expr e < size-CallArg (Kwarg name e)
keyword_inside name e = search (rules, the_lemmas)

spread_inside : (e : Expr) → size-Expr e < size-CallArg (PosSplat e)
spread_inside e = search (rules, the_lemmas)

keyword_spread_inside : (e : Expr) → size-Expr e < size-CallArg (KwargSplat e)
keyword_spread_inside e = search (rules, the_lemmas)

pub value_deep : (a : CallArg) (e : Expr) → a ≡ Pos e → size-Expr e < size-CallArg a
value_deep a e is = let same : size-CallArg a ≡ size-CallArg (Pos e) = ap (λ (x : CallArg). size-CallArg x) is in omega (arith, value_inside e, same)

pub keyword_deep : (a : CallArg) (name : _) (e : Expr) → a ≡ Kwarg name e → size-Expr e < size-CallArg a
keyword_deep a name e is =
    let same : size-CallArg a ≡ size-CallArg (Kwarg name e) = ap (λ (x : CallArg). size-CallArg x) is in omega (arith, keyword_inside name e, same)

pub spread_deep : (a : CallArg) (e : Expr) → a ≡ PosSplat e → size-Expr e < size-CallArg a
spread_deep a e is = let same : size-CallArg a ≡ size-CallArg (PosSplat e) = ap (λ (x : CallArg). size-CallArg x) is in omega (arith, spread_inside e, same)

pub keyword_spread_deep : (a : CallArg) (e : Expr) → a ≡ KwargSplat e → size-Expr e < size-CallArg a
keyword_spread_deep a e is =
    let same : size-CallArg a ≡ size-CallArg (KwargSplat e) = ap (λ (x : CallArg). size-CallArg x) is in omega (arith, keyword_spread_inside e, same)

pub arguments_below : (xs : List CallArg) (m : ℕ) → 0 < m → ((i : ℕ) (d : CallArg) → i < length xs → size-CallArg (get_or xs i d) < m) → arguments_deep xs < m
arguments_below [] m h all = h
arguments_below (x ∷ xs) m h all =
    let rest : arguments_deep xs < m = arguments_below xs m h (λ i d within. all (suc i) d (omega (arith, within))) in
    omega (arith, all zero x (omega arith), rest)
