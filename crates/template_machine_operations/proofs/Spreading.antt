-- What several values give, one behind the other, value by value.
use Rattle.std.proofs.Common.{◌≡◌, ◌⊎◌, inl, inr, List, [], ◌++◌, append-nil, append_assoc, Option, Some, Result, Ok, Err, IfErr, OnOk, IsErrAnd, refl, sym, ap, ◌∙◌, subst}
use Rattle.std.specs.Prelude.{Vec}
use Rattle.template_values_errors.specs.declared.ErrorKind.{ErrorKind}
use Rattle.template_values_errors.specs.Memory.{NoMemory}
use Rattle.template_values_model.specs.Fault.{Fault}
use Rattle.template_values_model.specs.Gives.{alone}
use Rattle.template_values_model.specs.Val.{Val}
use Rattle.template_values_core.specs.declared.value.Entry.{Entry}
use Rattle.template_values_operators.specs.Iterated.{items_given}
use Rattle.template_machine_meaning.specs.Replies.{kinded}
use Rattle.template_machine_meaning.specs.Spreads.{one_behind, entries_or_refused, keywords_of}
use Rattle.template_machine_operations.specs.Answers.{Adds, Answers, answered}
use Rattle.template_machine_operations.specs.Entries.{entries_given}
use Rattle.template_machine_operations.proofs.Answering.{answered-kinded}

behind_behind : {A : Type 0} (xs : List A) (r q : Result (List A) ErrorKind)
    → one_behind (one_behind (Ok xs) r) q ≡ one_behind (Ok xs) (one_behind r q)
behind_behind xs (Ok ys) (Ok zs) = ap (λ us. Ok us) (append_assoc xs ys zs)
behind_behind xs (Ok ys) (Err kind) = refl
behind_behind xs (Err kind) q = refl

-- nothing was put yet
pub none_put : {A : Type 0} (r : Result (List A) ErrorKind) → one_behind (Ok []) r ≡ r
none_put (Ok xs) = refl
none_put (Err kind) = refl

-- one value more was gone over
pub next_put : {A : Type 0} (xs ys : List A) (r q whole : Result (List A) ErrorKind) → one_behind (Ok xs) r ≡ Ok ys
    → one_behind (Ok xs) (one_behind r q) ≡ whole → one_behind (Ok ys) q ≡ whole
next_put xs ys r q whole put invariant = ap (λ p. one_behind p q) (sym put) ∙ behind_behind xs r q ∙ invariant

-- behind the last value
pub all_put : {A : Type 0} (xs : List A) (whole : Result (List A) ErrorKind) → one_behind (Ok xs) (Ok []) ≡ whole → whole ≡ Ok xs
all_put xs whole invariant = sym invariant ∙ ap (λ us. Ok us) (append-nil xs)

-- a value was refused
refused_all : {A : Type 0} (xs : List A) (r q whole : Result (List A) ErrorKind) (kinds : List ErrorKind) → one_behind (Ok xs) (one_behind r q) ≡ whole
    → answered r ≡ Err kinds → answered whole ≡ Err kinds
refused_all xs (Ok ys) q whole kinds invariant refused = cc
refused_all xs (Err kind) q whole kinds invariant refused = ap answered (sym invariant) ∙ refused

wanted_all : {A : Type 0} (xs : List A) (r q whole : Result (List A) ErrorKind) (kinds : List ErrorKind) → one_behind (Ok xs) (one_behind r q) ≡ whole
    → NoMemory kinds ⊎ (answered r ≡ Err kinds) → NoMemory kinds ⊎ (answered whole ≡ Err kinds)
wanted_all xs r q whole kinds invariant (inl memory) = inl memory
wanted_all xs r q whole kinds invariant (inr refused) = inr (refused_all xs r q whole kinds invariant refused)

pub items_refused : {Z : Type 0} (result : Result (Vec Val Z) (List ErrorKind)) (kinds : List ErrorKind) (xs : List Val) (r q whole : Result (List Val) ErrorKind)
    → one_behind (Ok xs) (one_behind r q) ≡ whole → NoMemory kinds ⊎ (answered r ≡ Err kinds) → IsErrAnd result (λ ks. ks ≡ kinds)
    → Answers (items_given result) whole
items_refused (Ok v) kinds xs r q whole invariant why is = absurd is
items_refused (Err ks) kinds xs r q whole invariant why is =
    subst (λ (us : List ErrorKind). NoMemory us ⊎ (answered whole ≡ Err us)) (sym is) (wanted_all xs r q whole kinds invariant why)

pub entries_refused : {Z : Type 0} (result : Result (Vec Entry Z) (List ErrorKind)) (kinds : List ErrorKind) (xs : List (Val × Val)) (r q whole : Result (List (Val × Val)) ErrorKind)
    → one_behind (Ok xs) (one_behind r q) ≡ whole → NoMemory kinds ⊎ (answered r ≡ Err kinds) → IsErrAnd result (λ ks. ks ≡ kinds)
    → Answers (entries_given result) whole
entries_refused (Ok v) kinds xs r q whole invariant why is = absurd is
entries_refused (Err ks) kinds xs r q whole invariant why is =
    subst (λ (us : List ErrorKind). NoMemory us ⊎ (answered whole ≡ Err us)) (sym is) (wanted_all xs r q whole kinds invariant why)

-- items that a value gave
pub items_put : (before after more : List Val) (answer : Result (List Val) Fault) → answer ≡ Ok more → after ≡ before ++ more
    → one_behind (Ok before) (kinded answer) ≡ Ok after
items_put before after more answer given put = ap (λ r. one_behind (Ok before) (kinded r)) given ∙ ap (λ us. Ok us) (sym put)

pub items_wanted : {T : Type 0} (kinds : List ErrorKind) (answer : Result T Fault) → NoMemory kinds ⊎ (alone answer ≡ Err kinds)
    → NoMemory kinds ⊎ (answered (kinded answer) ≡ Err kinds)
items_wanted kinds answer (inl memory) = inl memory
items_wanted kinds answer (inr refused) = inr (answered-kinded answer ∙ refused)

-- entries that were copied
copies_put : {X : Type 0} (result : Result X (List ErrorKind)) (before after ps : List (Val × Val)) → OnOk result (after ≡ before ++ ps) → IfErr result NoMemory
    → Adds result before after (Ok ps)
copies_put (Ok x) before after ps put refused = ap (λ us. Ok us) (sym put)
copies_put (Err kinds) before after ps put refused = inl refused

-- the same of those that may be had
pub held_put : {X : Type 0} (result : Result X (List ErrorKind)) (before after ps : List (Val × Val)) (held : Option (List (Val × Val))) → held ≡ Some ps
    → OnOk result (after ≡ before ++ ps) → IfErr result NoMemory → Adds result before after (entries_or_refused held)
held_put result before after ps held is put refused =
    subst (λ (h : Option (List (Val × Val))). Adds result before after (entries_or_refused h)) (sym is) (copies_put result before after ps put refused)

abbrev kinds_in : {T : Type 0} → Result T (List ErrorKind) → List ErrorKind
kinds_in (Ok x) = []
kinds_in (Err kinds) = kinds

-- no entries, no keyword map
keywords_refused : (r : Result (List (Val × Val)) ErrorKind) (kinds : List ErrorKind) → answered r ≡ Err kinds → answered (keywords_of r) ≡ Err kinds
keywords_refused (Ok entries) kinds refused = cc
keywords_refused (Err kind) kinds refused = ap (λ ks. Err ks) (ap kinds_in refused)

pub keywords_wanted : (r : Result (List (Val × Val)) ErrorKind) (kinds : List ErrorKind) → NoMemory kinds ⊎ (answered r ≡ Err kinds)
    → Answers {T = Val} (Err kinds) (keywords_of r)
keywords_wanted r kinds (inl memory) = inl memory
keywords_wanted r kinds (inr refused) = inr (keywords_refused r kinds refused)

pub ruleset merging = (keywords_wanted)

pub ruleset putting = (items_put, items_wanted)
