-- The laws of histories.
use Rattle.std.specs.Prelude.{◌≡◌, ℕ, ◌⊎◌, List, Option}
use Rattle.template_machine_environment_histories.specs.Histories.{Change, LeadsThrough, LeaveAlone, SayLast, accepted}

-- After any changes there stands under a name what the last one that touches it says.
abbrev pub LastDecides : Type 0 → Type 0 → Type 0
LastDecides E S = (at : E → List ℕ → Option S) (changes : List (Change S)) (old new : E) → LeadsThrough at changes old new
    → (name : List ℕ) (said : Option S) → SayLast name changes said → at new name ≡ said

-- Where none touches it, what stood there before still does.
abbrev pub UntouchedStays : Type 0 → Type 0 → Type 0
UntouchedStays E S = (at : E → List ℕ → Option S) (changes : List (Change S)) (old new : E) → LeadsThrough at changes old new
    → (name : List ℕ) → LeaveAlone name changes → at new name ≡ at old name

-- There is no third case.
abbrev pub TouchesOrNot : Type 0 → Type 0
TouchesOrNot S = (changes : List (Change S)) (name : List ℕ) → LeaveAlone name changes ⊎ ((said : Option S) × SayLast name changes said)

-- Refused additions make no difference: where changes lead, those that were not refused lead.
abbrev pub RefusedMakeNoDifference : Type 0 → Type 0 → Type 0
RefusedMakeNoDifference E S = (at : E → List ℕ → Option S) (changes : List (Change S)) (old new : E) → LeadsThrough at changes old new
    → LeadsThrough at (accepted changes) old new

-- Two histories agree on a name: the last change that touches it says the same in both; or none touches it in either, and
-- the same stood there before.
abbrev pub AgreeOn : {S : Type 0} → List ℕ → List (Change S) → List (Change S) → Option S → Option S → Type 0
AgreeOn {S} name changes others stood other = ((said : Option S) × SayLast name changes said × SayLast name others said)
    ⊎ (LeaveAlone name changes × LeaveAlone name others × (stood ≡ other))

-- Histories that agree on each name come to environments where the same stands under each name.
abbrev pub AgreeingComeToTheSame : Type 0 → Type 0 → Type 0
AgreeingComeToTheSame E S = (at : E → List ℕ → Option S) (changes others : List (Change S)) (old new other_old other_new : E)
    → LeadsThrough at changes old new → LeadsThrough at others other_old other_new
    → ((name : List ℕ) → AgreeOn name changes others (at old name) (at other_old name))
    → (name : List ℕ) → at new name ≡ at other_new name

-- What leads from an environment leads from every other where the same stands: from one behind a call that sets something else.
abbrev pub OnlyStandingMatters : Type 0 → Type 0 → Type 0
OnlyStandingMatters E S = (at : E → List ℕ → Option S) (changes : List (Change S)) (old same new : E)
    → ((name : List ℕ) → at old name ≡ at same name) → LeadsThrough at changes old new → LeadsThrough at changes same new
