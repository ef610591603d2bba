-- What stands has the escape of the name that it stands under, behind every change.
use Rattle.std.proofs.Common.{◌≡◌, ◌∙◌, ℕ, Bool, true, false, cond, List, Option, None, Some, Result, Ok, Err, OnOk, OnErr, bytes_eq, sym, subst}
use Rattle.std.proofs.lemmas.Option.{none-some, same_Some}
use Rattle.std.proofs.lemmas.Slice.Eq.{bytes_eq-Decides}
use Rattle.template_machine_surroundings.specs.Rule.{IsEscapeOf}
use Rattle.template_compiled.specs.Compiled.{Compiled, IsFaithful}
use Rattle.template_compiled.specs.Standing.{compiled_at}
use Rattle.template_compiled.specs.declared.templates.CompiledTemplates.{CompiledTemplates}

-- each has the escape of its name
abbrev pub AreEscaped : CompiledTemplates → Type 0
AreEscaped templates = (name : List ℕ) (c : Compiled) → compiled_at templates name ≡ Some c → ∥ IsEscapeOf c.source.escapes name c.escape ∥₁

by_test : (P : Compiled → Type 0) (test : Bool) (given old : Option Compiled) → ((c : Compiled) → given ≡ Some c → test ≡ true → P c)
    → ((c : Compiled) → old ≡ Some c → P c) → (found : Bool) → test ≡ found → (c : Compiled) → cond found given old ≡ Some c → P c
by_test P test given old new before true is c at = new c at is
by_test P test given old new before false is c at = before c at

-- where one thing stands under a name from then on
changed : (given : List ℕ) (there : Option Compiled) (old new : CompiledTemplates)
    → ((name : List ℕ) → compiled_at new name ≡ cond (bytes_eq given name) there (compiled_at old name))
    → ((name : List ℕ) (c : Compiled) → there ≡ Some c → bytes_eq given name ≡ true → ∥ IsEscapeOf c.source.escapes name c.escape ∥₁)
    → AreEscaped old → AreEscaped new
changed given there old new is own escaped = λ name c at.
    by_test (λ d. ∥ IsEscapeOf d.source.escapes name d.escape ∥₁) (bytes_eq given name) there (compiled_at old name) (own name) (escaped name)
    (bytes_eq given name) (λ i. bytes_eq given name) c (sym (is name) ∙ at)

-- behind an insertion, or where it was refused
pub inserted : {X E : Type 0} (result : Result X E) (c : Compiled) (old new : CompiledTemplates) → IsFaithful c
    → OnOk result ((name : List ℕ) → compiled_at new name ≡ cond (bytes_eq c.name name) (Some c) (compiled_at old name))
    → OnErr result ((name : List ℕ) → compiled_at new name ≡ compiled_at old name) → AreEscaped old → AreEscaped new
inserted (Ok _) c old new faithful stands stays escaped =
    changed c.name (Some c) old new stands (λ name d at yes.
    subst (λ (t : Compiled). ∥ IsEscapeOf t.source.escapes name t.escape ∥₁) (same_Some _ _ at)
    ∣ subst (λ (n : List ℕ). IsEscapeOf c.source.escapes n c.escape) ((bytes_eq-Decides c.name name).0 yes) faithful.is_escape ∣₁) escaped
inserted (Err _) c old new faithful stands stays escaped = λ name d at. escaped name d (sym (stays name) ∙ at)

-- behind a removal, and behind a clearing
pub removed : (given : List ℕ) (old new : CompiledTemplates)
    → ((name : List ℕ) → compiled_at new name ≡ cond (bytes_eq given name) None (compiled_at old name)) → AreEscaped old → AreEscaped new
removed given old new is escaped = changed given None old new is (λ name c at yes. absurd (none-some _ at)) escaped

pub cleared : (new : CompiledTemplates) → ((name : List ℕ) → compiled_at new name ≡ None) → AreEscaped new
cleared new none = λ name c at. absurd (none-some _ (sym (none name) ∙ at))
