-- The name was copied.
use Rattle.std.proofs.Common.{◌≡◌, subst, ℕ, List, Some, bytes_eq, if◌then◌else◌}
use Rattle.std.specs.Prelude.{OnOk, IfOk}
use Rattle.template_values_named.specs.Named.{local_at, with_named}
use Rattle.template_values_named.proofs.values.NamedValues.insert.Goals as goal

pub returns-clause-put : goal.returns-clause-put
returns-clause-put c =
    subst (λ (bs : List ℕ). OnOk c.insert_owned.result (c.insert_owned.new.self ≡ with_named bs c.args.value c.args.self.now))
    c.in_ok-owned.ensures.ok c.insert_owned.ensures.put

pub returns-clause-found : goal.returns-clause-found
returns-clause-found c =
    subst (λ (bs : List ℕ). OnOk c.insert_owned.result ((other : List ℕ)
    → local_at other c.insert_owned.new.self ≡ (if bytes_eq bs other then Some c.args.value else local_at other c.args.self.now)))
    c.in_ok-owned.ensures.ok c.insert_owned.ensures.found

pub returns-clause-replaced : goal.returns-clause-replaced
returns-clause-replaced c =
    subst (λ (bs : List ℕ). IfOk c.insert_owned.result (λ replaced. replaced ≡ local_at bs c.args.self.now))
    c.in_ok-owned.ensures.ok c.insert_owned.ensures.replaced
