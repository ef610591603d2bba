-- The comparisons of a chain behind the first one, whose leaps are told their target at the end of the chain.
use Rattle.std.proofs.Common.{◌≡◌, ℕ, ◌+◌, ◌<◌, zero, suc, Bool, true, false, not, cond, List, [], ◌∷◌, ◌++◌, length, get_or, drop, Option, None, Some, refl, sym, ap, subst, ◌∙◌, append_assoc, length-append, arith}
use Rattle.std.proofs.Math.ListN.{set}
use Rattle.std.proofs.Math.Seq.{set-append_seam}
use Rattle.std.proofs.lemmas.List.{drop_more}
use Rattle.std.specs.Prelude.{option_and_then}
use Rattle.template_values_model.specs.Val.{Val}
use Rattle.template_values_core.specs.Reads.{is_true}
use Rattle.template_values_forms.specs.Known.{nothing_known}
use Rattle.template_compiler_tree.specs.declared.expressions.CompareOp.{CompareOp}
use Rattle.template_compiler_tree.specs.declared.operators.CompareOpKind.{CompareOpKind}
use Rattle.template_compiler_tree.specs.Tree.{Expression, Links, no_links, links_more}
use Rattle.template_compiler_tree.specs.View.{expression_of, links_in}
use Rattle.template_compiler_walk.specs.Constants.{chain_constant, chain_decided, constant_of, made}
use Rattle.template_compiler_walk.specs.Operators.{compared}
use Rattle.template_compiler_walk.specs.Runnable.{IsRunnable, AreRunnableLinks}
use Rattle.template_compiler_code.specs.Code.{Code, jump_if_false_or_pop}
use Rattle.template_compiler_codegen.specs.Expressions.{then_code, linked_code}
use Rattle.template_compiler_emission.proofs.Pieces.{two_pieces, one_more, one_longer}
use Rattle.template_compiler_folding.specs.Folding.{comparison_folded}
use Rattle.template_compiler_expression_codegen.specs.Chains.{constant_behind, is_false, left_behind, link_code, linked_to, leaps_in, leapt}

-- all leaps lead to the end of the chain
pub linked_is : (links : Links) (p : ℕ) → linked_code links p ≡ linked_to (p + length (linked_code links p)) links p
linked_is no_links p = refl
linked_is (links_more op e links) p =
    let piece = link_code op e (suc p) in
    let q = suc p + length piece in
    let rest = linked_code links q in
    let end : q + length rest ≡ suc p + length (piece ++ rest) = omega (arith, length-append piece rest) in
    let same : rest ≡ linked_to (suc p + length (piece ++ rest)) links q = linked_is links q ∙ ap (λ (to : ℕ). linked_to to links q) end in
    ap (λ (l : List Code). jump_if_false_or_pop (suc p + length (piece ++ rest)) ∷ (piece ++ l)) same ∙
    ap (λ (to : ℕ). jump_if_false_or_pop to ∷ (piece ++ linked_to to links q))
    (omega (arith, length-append piece rest))

-- wherever they lead, they are as long
pub linked_long : (links : Links) (to p : ℕ) → length (linked_to to links p) ≡ length (linked_code links p)
linked_long no_links to p = refl
linked_long (links_more op e links) to p =
    let piece = link_code op e (suc p) in
    let q = suc p + length piece in
    omega (arith, length-append piece (linked_to to links q), length-append piece (linked_code links q), linked_long links to q)

-- told where they lead, the leaps lead there
pub leaps_lead : (links : Links) (to : ℕ) (xs : List Code)
    → leapt to (leaps_in links (length xs)) (xs ++ linked_to 0 links (length xs)) ≡ xs ++ linked_to to links (length xs)
leaps_lead no_links to xs = refl
leaps_lead (links_more op e links) to xs =
    let n = length xs in
    let piece = link_code op e (suc n) in
    let q = suc n + length piece in
    let front = xs ++ jump_if_false_or_pop 0 ∷ piece in
    let at : length front ≡ q = length-append xs (jump_if_false_or_pop 0 ∷ piece) ∙ (omega arith) in
    let split = λ (l : List Code). append_assoc xs (jump_if_false_or_pop 0 ∷ piece) l in
    let inner : leapt to (leaps_in links q) (xs ++ jump_if_false_or_pop 0 ∷ (piece ++ linked_to 0 links q))
    ≡ xs ++ jump_if_false_or_pop 0 ∷ (piece ++ linked_to to links q) =
    ap (λ (l : List Code). leapt to (leaps_in links q) l) (sym (split (linked_to 0 links q))) ∙
    ap (λ (k : ℕ). leapt to (leaps_in links k) (front ++ linked_to 0 links k)) (sym at) ∙
    leaps_lead links to front ∙ ap (λ (k : ℕ). front ++ linked_to to links k) at ∙ split (linked_to to links q) in
    ap (λ (l : List Code). set l n (jump_if_false_or_pop to)) inner ∙
    set-append_seam xs (jump_if_false_or_pop 0) (piece ++ linked_to to links q) (jump_if_false_or_pop to)

-- led to the end, the comparisons are those of the chain
pub linked_whole : (links : Links) (xs ys zs : List Code) → ys ≡ xs ++ linked_to 0 links (length xs)
    → zs ≡ leapt (length ys) (leaps_in links (length xs)) ys → zs ≡ xs ++ linked_code links (length xs)
linked_whole links xs ys zs p q =
    let n = length xs in
    let end : length ys ≡ n + length (linked_code links n) =
    ap length p ∙ length-append xs (linked_to 0 links n) ∙ ap (λ (k : ℕ). n + k) (linked_long links 0 n) in
    q ∙ ap (λ (to : ℕ). leapt to (leaps_in links n) ys) end ∙
    ap (λ (l : List Code). leapt (n + length (linked_code links n)) (leaps_in links n) l) p ∙
    leaps_lead links (n + length (linked_code links n)) xs ∙
    ap (λ (l : List Code). xs ++ l) (sym (linked_is links n))

-- one comparison more, behind its leap
pub link_more : (op : CompareOpKind) (e : Expression) (rest : Links) (xs ys zs : List Code) → ys ≡ xs ++ jump_if_false_or_pop 0 ∷ []
    → zs ≡ ys ++ link_code op e (length ys) → zs ++ linked_to 0 rest (length zs) ≡ xs ++ linked_to 0 (links_more op e rest) (length xs)
link_more op e rest xs ys zs p q =
    let piece = then_code (link_code op e) (linked_to 0 rest) in
    one_more xs ys (zs ++ linked_to 0 rest (length zs)) (piece (suc (length xs))) (jump_if_false_or_pop 0) p
    (two_pieces (link_code op e) (linked_to 0 rest) ys zs (zs ++ linked_to 0 rest (length zs)) q refl ∙
    ap (λ (m : ℕ). ys ++ piece m) (one_longer xs ys (jump_if_false_or_pop 0) p))

-- and the place of its leap
pub place_more : (op : CompareOpKind) (e : Expression) (rest : Links) (xs ys zs : List Code) (leaps : List ℕ) → ys ≡ xs ++ jump_if_false_or_pop 0 ∷ []
    → zs ≡ ys ++ link_code op e (length ys)
    → (leaps ++ length xs ∷ []) ++ leaps_in rest (length zs) ≡ leaps ++ leaps_in (links_more op e rest) (length xs)
place_more op e rest xs ys zs leaps p q =
    let piece = link_code op e in
    let long : length zs ≡ suc (length xs) + length (piece (suc (length xs))) =
    ap length q ∙ length-append ys (piece (length ys)) ∙
    ap (λ (m : ℕ). m + length (piece m)) (one_longer xs ys (jump_if_false_or_pop 0) p) in
    append_assoc leaps (length xs ∷ []) (leaps_in rest (length zs)) ∙
    ap (λ (m : ℕ). leaps ++ length xs ∷ leaps_in rest m) long

-- the comparisons from a place on
pub links_at : (ls : List CompareOp) (i : ℕ) (x : CompareOp) → i < length ls → x ≡ get_or ls i x
    → links_in (drop i ls) ≡ links_more x.op (expression_of x.expr) (links_in (drop (i + 1) ls))
links_at ls i x within read =
    ap (λ (l : List CompareOp). links_in l) (drop_more ls i x within) ∙
    ap (λ (y : CompareOp). links_more y.op (expression_of y.expr) (links_in (drop (i + 1) ls))) (sym read)

pub link_runnable : (ls : List CompareOp) (i : ℕ) (x : CompareOp) → AreRunnableLinks (links_in ls) → i < length ls → x ≡ get_or ls i x
    → IsRunnable (expression_of x.expr)
link_runnable [] i x h within read = absurd (omega (arith, within))
link_runnable (l ∷ ls) zero x h within read = subst (λ (y : CompareOp). IsRunnable (expression_of y.expr)) (sym read) h.0
link_runnable (l ∷ ls) (suc i) x h within read = link_runnable ls i x h.1 (omega (arith, within)) read

-- what is known behind one comparison more
not_false : (b : Bool) → not b ≡ false → b ≡ true
not_false true h = refl
not_false false h = cc

not_true : (b : Bool) → not b ≡ true → b ≡ false
not_true true h = cc
not_true false h = refl

made_behind : (o : Option Val) (w : Val) (rest : Links)
    → option_and_then (λ h. chain_decided h rest (chain_constant w rest)) o ≡ constant_behind o (left_behind o (Some w)) rest
made_behind None w rest = refl
made_behind (Some h) w rest = refl

right_behind : (op : CompareOpKind) (v : Val) (right : Option Val) (rest : Links)
    → option_and_then (λ w. option_and_then (λ h. chain_decided h rest (chain_constant w rest)) (made (compared nothing_known op v w))) right
    ≡ constant_behind (comparison_folded op (Some v) right) (left_behind (comparison_folded op (Some v) right) right) rest
right_behind op v None rest = refl
right_behind op v (Some w) rest = made_behind (made (compared nothing_known op v w)) w rest

left_known : (op : CompareOpKind) (e : Expression) (rest : Links) (left : Option Val)
    → option_and_then (λ v. chain_constant v (links_more op e rest)) left
    ≡ constant_behind (comparison_folded op left (constant_of e)) (left_behind (comparison_folded op left (constant_of e)) (constant_of e)) rest
left_known op e rest None = refl
left_known op e rest (Some v) = right_behind op v (constant_of e) rest

-- at a comparison behind a left side
pub link_known : (op : CompareOpKind) (e : Expression) (rest : Links) (left holds behind : Option Val) → holds ≡ comparison_folded op left (constant_of e)
    → behind ≡ left_behind holds (constant_of e)
    → constant_behind holds behind rest ≡ option_and_then (λ v. chain_constant v (links_more op e rest)) left
link_known op e rest left holds behind h b =
    ap (λ (o : Option Val). constant_behind holds o rest) b ∙
    ap (λ (o : Option Val). constant_behind o (left_behind o (constant_of e)) rest) h ∙
    sym (left_known op e rest left)

-- a chain goes on, unless it is known to be false
known_on : (holds left : Option Val) (op : CompareOpKind) (e : Expression) (rest : Links) → is_false holds ≡ false → (holds ≡ None → left ≡ None)
    → option_and_then (λ v. chain_constant v (links_more op e rest)) left ≡ constant_behind holds left (links_more op e rest)
known_on None left op e rest goes stays = ap (λ (o : Option Val). option_and_then (λ v. chain_constant v (links_more op e rest)) o) (stays refl)
known_on (Some h) left op e rest goes stays =
    let holds_true : is_true h ≡ true = not_false (is_true h) goes in
    sym (ap (λ (b : Bool). cond b (option_and_then (λ v. chain_constant v (links_more op e rest)) left) (Some h)) holds_true)

-- where it is known to be false, it ends
pub known_false : (holds left : Option Val) (op : CompareOpKind) (e : Expression) (rest : Links) → is_false holds ≡ true
    → holds ≡ constant_behind holds left (links_more op e rest)
known_false None left op e rest ends = cc
known_false (Some h) left op e rest ends =
    let holds_false : is_true h ≡ false = not_true (is_true h) ends in
    sym (ap (λ (b : Bool). cond b (option_and_then (λ v. chain_constant v (links_more op e rest)) left) (Some h)) holds_false)

pub known_end : (holds left : Option Val) → constant_behind holds left no_links ≡ holds
known_end None left = refl
known_end (Some h) left = refl

-- from one comparison to the next
pub link_goes : (op : CompareOpKind) (e : Expression) (rest : Links) (holds left later behind : Option Val) → is_false holds ≡ false
    → (holds ≡ None → left ≡ None) → later ≡ comparison_folded op left (constant_of e) → behind ≡ left_behind later (constant_of e)
    → constant_behind later behind rest ≡ constant_behind holds left (links_more op e rest)
link_goes op e rest holds left later behind goes stays h b =
    link_known op e rest left later behind h b ∙ known_on holds left op e rest goes stays

pub behind_none : (holds left right : Option Val) → left ≡ left_behind holds right → holds ≡ None → left ≡ None
behind_none holds left right is none = is ∙ ap (λ (o : Option Val). left_behind o right) none

leapt-append : (to : ℕ) (ps qs : List ℕ) (code : List Code) → leapt to (ps ++ qs) code ≡ leapt to ps (leapt to qs code)
leapt-append to [] qs code = refl
leapt-append to (p ∷ ps) qs code = ap (λ (l : List Code). set l p (jump_if_false_or_pop to)) (leapt-append to ps qs code)

-- the last of the leaps that are left is told where it leads
pub one_leapt : (to place : ℕ) (left rest : List ℕ) (now new : List Code) → left ≡ rest ++ place ∷ [] → length now ≡ to
    → new ≡ set now place (jump_if_false_or_pop (length now)) → leapt to rest new ≡ leapt to left now
one_leapt to place left rest now new split long landed =
    ap (λ (l : List Code). leapt to rest l) (landed ∙ ap (λ (m : ℕ). set now place (jump_if_false_or_pop m)) long) ∙
    sym (leapt-append to rest (place ∷ []) now) ∙ ap (λ (ps : List ℕ). leapt to ps now) (sym split)
