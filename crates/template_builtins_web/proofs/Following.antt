-- Lemmas on texts one behind the other.
use Rattle.std.proofs.Common.{◌≡◌, inl, inr, ℕ, suc, ◌<◌, List, [], ◌++◌, length, drop, get_or, codes, refl, sym, ◌∙◌, ap, append_assoc, append-nil, Result, Ok, Err}
use Rattle.std.specs.Str.{IsUtf8}
use Rattle.json.proofs.Printed.Utf8.{IsUtf8-are_ascii}
use Rattle.template_values_errors.specs.declared.ErrorKind.{ErrorKind}
use Rattle.template_values_model.specs.Val.{Val, Vals, Pairs, vals_of}
use Rattle.template_values_core.specs.Maps.{pairs_of}
use Rattle.template_values_core.specs.Shape.{pairs_in}
use Rattle.template_values_core.specs.declared.value.Entry.{Entry}
use Rattle.template_values_print.proofs.PrintLemmas.{vals_of-drop, pairs_of-drop}
use Rattle.template_callables.specs.Callables.{View}
use Rattle.template_builtins_arguments.specs.Answers.{Tells, then as after}
use Rattle.template_builtins_arguments.specs.Appending.{Adds}
use Rattle.template_builtins_web.specs.Elements.{attributes, entry_text}
use Rattle.template_builtins_web.specs.Pieces.{enclosed, followed}
use Rattle.template_builtins_web.specs.Queries.{item_text, items_text, members_text, pair_text}

-- what stands between two pairs is a text
pub ampersand_is_text : IsUtf8 (codes "&")
ampersand_is_text = IsUtf8-are_ascii (codes "&") refl

followed_twice : (a b c : Result (List ℕ) ErrorKind) → followed (followed a b) c ≡ followed a (followed b c)
followed_twice (Ok s) (Ok t) (Ok u) = ap Ok (append_assoc s t u)
followed_twice (Ok s) (Ok t) (Err kind) = refl
followed_twice (Ok s) (Err kind) c = refl
followed_twice (Err kind) b c = refl

-- nothing stands before the first
pub starts : (s : List ℕ) (r : Result (List ℕ) ErrorKind) → s ≡ [] → r ≡ followed (Ok s) r
starts s (Ok t) none = ap (λ (x : List ℕ). Ok (x ++ t)) (sym none)
starts s (Err kind) none = refl

-- a piece is written, and the rest is left
pub goes_on : (whole out : List ℕ) (piece rest : Result (List ℕ) ErrorKind) → followed (Ok whole) piece ≡ Ok out
    → followed (Ok whole) (followed piece rest) ≡ followed (Ok out) rest
goes_on whole out piece rest made = sym (followed_twice (Ok whole) piece rest) ∙ ap (λ (x : Result (List ℕ) ErrorKind). followed x rest) made

-- a piece is refused
pub fails : (whole : List ℕ) (piece rest : Result (List ℕ) ErrorKind) (kinds : List ErrorKind) → Tells {T = List ℕ} (Err kinds) (followed (Ok whole) piece)
    → Tells {T = List ℕ} (Err kinds) (followed (Ok whole) (followed piece rest))
fails whole (Ok s) rest kinds refusal = elim refusal [ inl memory ↦ inl memory | inr why ↦ absurd cc ]
fails whole (Err kind) rest kinds refusal = refusal

-- nothing is left
pub ends : (whole : List ℕ) (rest : Result (List ℕ) ErrorKind) → rest ≡ Ok [] → followed (Ok whole) rest ≡ Ok whole
ends whole rest none = ap (followed (Ok whole)) none ∙ ap Ok (append-nil whole)

members_next : (view : View) (before : List ℕ) (es : List Entry) (i j : ℕ) (e : Entry) → j ≡ suc i → i < length es → e ≡ get_or es i e
    → members_text view before (pairs_of (pairs_in (drop i es)))
    ≡ followed (pair_text view before e.key e.value) (members_text view (codes "&") (pairs_of (pairs_in (drop j es))))
members_next view before es i j e is_next h is = ap (λ (x : Pairs). members_text view before x) (pairs_of-drop es i j e is_next h is)

items_next : (view : View) (before : List ℕ) (vs : List Val) (i j : ℕ) (v : Val) → j ≡ suc i → i < length vs → v ≡ get_or vs i v
    → items_text view before (vals_of (drop i vs)) ≡ followed (item_text view before v) (items_text view (codes "&") (vals_of (drop j vs)))
items_next view before vs i j v is_next h is = ap (λ (x : Vals). items_text view before x) (vals_of-drop vs i j v is_next h is)

attributes_next : (view : View) (es : List Entry) (i j : ℕ) (e : Entry) → j ≡ suc i → i < length es → e ≡ get_or es i e
    → attributes view (pairs_of (pairs_in (drop i es))) ≡ followed (entry_text view e.key e.value) (attributes view (pairs_of (pairs_in (drop j es))))
attributes_next view es i j e is_next h is = ap (λ (x : Pairs). attributes view x) (pairs_of-drop es i j e is_next h is)

-- each of the loops goes on
pub members_go : (view : View) (before : List ℕ) (es : List Entry) (i j : ℕ) (e : Entry) (whole out : List ℕ) → j ≡ suc i → i < length es → e ≡ get_or es i e
    → followed (Ok whole) (pair_text view before e.key e.value) ≡ Ok out
    → followed (Ok whole) (members_text view before (pairs_of (pairs_in (drop i es)))) ≡ followed (Ok out) (members_text view (codes "&") (pairs_of (pairs_in (drop j es))))
members_go view before es i j e whole out is_next h is made =
    ap (followed (Ok whole)) (members_next view before es i j e is_next h is)
    ∙ goes_on whole out (pair_text view before e.key e.value) (members_text view (codes "&") (pairs_of (pairs_in (drop j es)))) made

pub items_go : (view : View) (before : List ℕ) (vs : List Val) (i j : ℕ) (v : Val) (whole out : List ℕ) → j ≡ suc i → i < length vs → v ≡ get_or vs i v
    → followed (Ok whole) (item_text view before v) ≡ Ok out
    → followed (Ok whole) (items_text view before (vals_of (drop i vs))) ≡ followed (Ok out) (items_text view (codes "&") (vals_of (drop j vs)))
items_go view before vs i j v whole out is_next h is made =
    ap (followed (Ok whole)) (items_next view before vs i j v is_next h is)
    ∙ goes_on whole out (item_text view before v) (items_text view (codes "&") (vals_of (drop j vs))) made

pub attributes_go : (view : View) (es : List Entry) (i j : ℕ) (e : Entry) (whole out : List ℕ) → j ≡ suc i → i < length es → e ≡ get_or es i e
    → followed (Ok whole) (entry_text view e.key e.value) ≡ Ok out
    → followed (Ok whole) (attributes view (pairs_of (pairs_in (drop i es)))) ≡ followed (Ok out) (attributes view (pairs_of (pairs_in (drop j es))))
attributes_go view es i j e whole out is_next h is made =
    ap (followed (Ok whole)) (attributes_next view es i j e is_next h is)
    ∙ goes_on whole out (entry_text view e.key e.value) (attributes view (pairs_of (pairs_in (drop j es)))) made

-- or is refused
pub members_fail : (view : View) (before : List ℕ) (es : List Entry) (i : ℕ) (e : Entry) (whole : List ℕ) (kinds : List ErrorKind) → i < length es → e ≡ get_or es i e
    → Tells {T = List ℕ} (Err kinds) (followed (Ok whole) (pair_text view before e.key e.value))
    → Tells {T = List ℕ} (Err kinds) (followed (Ok whole) (members_text view before (pairs_of (pairs_in (drop i es)))))
members_fail view before es i e whole kinds h is refusal =
    rw (members_next view before es i (suc i) e refl h is)
    (fails whole (pair_text view before e.key e.value) (members_text view (codes "&") (pairs_of (pairs_in (drop (suc i) es)))) kinds refusal)

pub items_fail : (view : View) (before : List ℕ) (vs : List Val) (i : ℕ) (v : Val) (whole : List ℕ) (kinds : List ErrorKind) → i < length vs → v ≡ get_or vs i v
    → Tells {T = List ℕ} (Err kinds) (followed (Ok whole) (item_text view before v))
    → Tells {T = List ℕ} (Err kinds) (followed (Ok whole) (items_text view before (vals_of (drop i vs))))
items_fail view before vs i v whole kinds h is refusal =
    rw (items_next view before vs i (suc i) v refl h is)
    (fails whole (item_text view before v) (items_text view (codes "&") (vals_of (drop (suc i) vs))) kinds refusal)

pub attributes_fail : (view : View) (es : List Entry) (i : ℕ) (e : Entry) (whole : List ℕ) (kinds : List ErrorKind) → i < length es → e ≡ get_or es i e
    → Tells {T = List ℕ} (Err kinds) (followed (Ok whole) (entry_text view e.key e.value))
    → Tells {T = List ℕ} (Err kinds) (followed (Ok whole) (attributes view (pairs_of (pairs_in (drop i es)))))
attributes_fail view es i e whole kinds h is refusal =
    rw (attributes_next view es i (suc i) e refl h is)
    (fails whole (entry_text view e.key e.value) (attributes view (pairs_of (pairs_in (drop (suc i) es)))) kinds refusal)

-- a piece between two texts is written, or refused
pub enclosed_made : (whole before behind start now out : List ℕ) (piece : Result (List ℕ) ErrorKind) (u : Unit {0}) → start ≡ whole ++ before → Adds start piece (Ok u) now
    → out ≡ now ++ behind → followed (Ok whole) (enclosed before piece behind) ≡ Ok out
enclosed_made whole before behind start now out (Ok s) u begun added ended =
    ap Ok
    (sym (append_assoc whole before (s ++ behind))
    ∙ ap (λ (x : List ℕ). x ++ (s ++ behind)) (sym begun)
    ∙ sym (append_assoc start s behind)
    ∙ ap (λ (x : List ℕ). x ++ behind) (sym added)
    ∙ sym ended)
enclosed_made whole before behind start now out (Err kind) u begun added ended = absurd added

pub enclosed_refused : (whole before behind start now : List ℕ) (piece : Result (List ℕ) ErrorKind) (kinds : List ErrorKind) → Adds start piece (Err kinds) now
    → Tells {T = List ℕ} (Err kinds) (followed (Ok whole) (enclosed before piece behind))
enclosed_refused whole before behind start now (Ok s) kinds added = inl added.0
enclosed_refused whole before behind start now (Err kind) kinds added = elim added.0 [ inl e ↦ inr (ap Err (sym e)) | inr memory ↦ inl memory ]

-- a name that passes, and what is behind it
pub named_made : (whole out : List ℕ) (test : Result (Unit {0}) ErrorKind) (u : Unit {0}) (piece rest : Result (List ℕ) ErrorKind) → test ≡ Ok u → followed (Ok whole) piece ≡ Ok out
    → followed (Ok whole) (after test (λ passed. followed piece rest)) ≡ followed (Ok out) rest
named_made whole out (Ok passed) u piece rest passes made = goes_on whole out piece rest made
named_made whole out (Err kind) u piece rest passes made = absurd cc

pub named_refused : (whole : List ℕ) (test : Result (Unit {0}) ErrorKind) (u : Unit {0}) (piece rest : Result (List ℕ) ErrorKind) (kinds : List ErrorKind) → test ≡ Ok u
    → Tells {T = List ℕ} (Err kinds) (followed (Ok whole) piece)
    → Tells {T = List ℕ} (Err kinds) (followed (Ok whole) (after test (λ passed. followed piece rest)))
named_refused whole (Ok passed) u piece rest kinds passes refusal = fails whole piece rest kinds refusal
named_refused whole (Err kind) u piece rest kinds passes refusal = absurd cc
