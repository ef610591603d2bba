-- What a namespace is made of, entry by entry.
use Rattle.std.proofs.Common.{◌≡◌, ℕ, inl, List, [], ◌∷◌, ◌++◌, append_assoc, Option, None, Some, Result, Ok, Err, IfOk, IfErr, refl, sym, ap, ◌∙◌}
use Rattle.std.specs.Prelude.{Vec, option_map}
use Rattle.template_values_errors.specs.declared.ErrorKind.{ErrorKind}
use Rattle.template_values_errors.specs.Memory.{NoMemory}
use Rattle.template_values_model.specs.Val as values
use Rattle.template_values_model.specs.Val.{Val, Pairs, no_pairs, pairs_more}
use Rattle.template_values_core.specs.Answers.{text_in}
use Rattle.template_values_core.specs.Maps.{pairs_of}
use Rattle.template_values_core.specs.Shape.{pairs_in}
use Rattle.template_values_core.specs.declared.value.Entry.{Entry}
use Rattle.template_values_core.proofs.PairLemmas.{pairs_in-append}
use Rattle.template_machine_meaning.specs.Functions.{names_in, namespace_given}
use Rattle.template_machine_operations.specs.Answers.{Answers}
use Rattle.template_machine_operations.specs.Entries.{entries_given}

-- the first entry, then the others
names_first : (k v : Val) (ps : Pairs) → names_in (pairs_more k v ps) ≡ names_in (pairs_more k v no_pairs) ++ names_in ps
names_first k v ps = by (text_in k)
  where
    by : (o : Option (List ℕ)) → (elim o [ None ↦ names_in ps | Some name ↦ (values.text name, v) ∷ names_in ps ])
        ≡ (elim o [ None ↦ names_in no_pairs | Some name ↦ (values.text name, v) ∷ names_in no_pairs ]) ++ names_in ps
    by None = refl
    by (Some name) = refl

-- one entry more was gone over
pub names_next : (made whole : List (Val × Val)) (more : List (Val × Val)) (e : Entry) (before later : List Entry)
    → more ≡ made ++ names_in (pairs_of (pairs_in (e ∷ []))) → before ≡ e ∷ later → made ++ names_in (pairs_of (pairs_in before)) ≡ whole
    → more ++ names_in (pairs_of (pairs_in later)) ≡ whole
names_next made whole more e before later put is invariant =
    let own = names_in (pairs_of (pairs_in (e ∷ []))) in
    let rest = names_in (pairs_of (pairs_in later)) in
    ap (λ (ps : List (Val × Val)). ps ++ rest) put ∙ append_assoc made own rest
    ∙ ap (λ (ps : List (Val × Val)). made ++ ps) (sym (names_first e.key e.value (pairs_of (pairs_in later))))
    ∙ ap (λ (es : List Entry). made ++ names_in (pairs_of (pairs_in es))) (sym is) ∙ invariant

-- an entry that was put has its text as its key
pub name_put : (k v : Val) (old more : List Entry) (plain value : Val) → Some plain ≡ option_map values.text (text_in k) → value ≡ v
    → more ≡ old ++ record { key = plain; value = value } ∷ [] → pairs_in more ≡ pairs_in old ++ names_in (pairs_more k v no_pairs)
name_put k v old more plain value is same put =
    ap pairs_in put ∙ pairs_in-append old (record { key = plain; value = value }) ∙ by (text_in k) is
  where
    by : (o : Option (List ℕ)) → Some plain ≡ option_map values.text o
        → pairs_in old ++ (plain, value) ∷ [] ≡ pairs_in old ++ (elim o [ None ↦ [] | Some name ↦ (values.text name, v) ∷ [] ])
    by None found = cc
    by (Some name) found =
        let own : plain ≡ values.text name = cc in λ i. pairs_in old ++ (own i, same i) ∷ []

-- copies of the entries with names are what the namespace holds
pub named : {Z : Type 0} (result : Result (Vec Entry Z) (List ErrorKind)) (args : List Val) (es : List Entry)
    → namespace_given args ≡ Ok (names_in (pairs_of (pairs_in es))) → IfOk result (λ xs. pairs_in xs.items ≡ names_in (pairs_of (pairs_in es)))
    → IfErr result NoMemory → Answers (entries_given result) (namespace_given args)
named (Ok xs) args es is made refused = is ∙ ap (λ (ps : List (Val × Val)). Ok ps) (sym made)
named (Err kinds) args es is made refused = inl refused
