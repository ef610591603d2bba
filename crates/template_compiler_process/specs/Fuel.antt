-- What a fuel leaves of a run, and the laws of that.
use Rattle.std.specs.Prelude.{◌≡◌, ℕ, ◌+◌, ◌-◌, ◌<◌, ◌≤◌, ◌⊎◌, nat_le, List, [], ◌∷◌, ◌++◌, Option, None, Some, zero, suc, if◌then◌else◌}
use Rattle.template_values_errors.specs.declared.ErrorKind.{ErrorKind}
use Rattle.template_values_errors.specs.declared.ErrorKind.TheVariants.{OutOfFuel}
use Rattle.template_compiler_process.specs.Drive.{faults}
use Rattle.template_compiler_process.specs.Trace.{Item, paid, written, Run, text_of, price_of}

-- the items before the priced step that comes behind `steps` others
abbrev pub items_before : ℕ → List Item → List Item
items_before steps [] = []
items_before steps (written bytes ∷ items) = written bytes ∷ items_before steps items
items_before zero (paid wraps ∷ items) = []
items_before (suc steps) (paid wraps ∷ items) = paid wraps ∷ items_before steps items

-- the kinds that wrap a fault at that step
abbrev pub wraps_at : ℕ → List Item → List ErrorKind
wraps_at steps [] = []
wraps_at steps (written bytes ∷ items) = wraps_at steps items
wraps_at zero (paid wraps ∷ items) = wraps
wraps_at (suc steps) (paid wraps ∷ items) = wraps_at steps items

-- Under fuel n a run whose price is zero or under n is as without fuel. Any other stops before its n-th
-- priced step (before its first for n zero), and ends there with the kinds that wrap it and `OutOfFuel`.
abbrev pub cut : {S : Type 0} → ℕ → Run S → Run S
cut n r = if nat_le (price_of r.items) (n - 1) then r else record r {
  items = items_before (n - 1) r.items;
  end = faults (wraps_at (n - 1) r.items ++ OutOfFuel ∷ []);
}

-- with no fuel set, the run as it is
abbrev pub under : {S : Type 0} → Option ℕ → Run S → Run S
under None r = r
under (Some n) r = cut n r

-- what a run takes of a fuel: its price, or all of it where the run is cut
abbrev pub consumed : {S : Type 0} → ℕ → Run S → ℕ
consumed n r = if nat_le (price_of r.items) (n - 1) then price_of r.items else n

-- what a run leaves of a fuel: nothing where it is cut
abbrev pub remaining : {S : Type 0} → ℕ → Run S → ℕ
remaining n r = if nat_le (price_of r.items) (n - 1) then n - price_of r.items else 0

-- What is consumed and what remains are the fuel that was set.
abbrev pub FuelAddsUp : Type 0 → Type 0
FuelAddsUp S = (n : ℕ) (r : Run S) → consumed n r + remaining n r ≡ n

-- a fuel lets a run of this price through
abbrev pub Lasts : ℕ → ℕ → Type 0
Lasts n price = (price ≡ 0) ⊎ (price < n)

-- A fuel that lets a run through changes nothing, and neither does a greater one.
abbrev pub EnoughIsEnough : Type 0 → Type 0
EnoughIsEnough S = (n m : ℕ) (r : Run S) → Lasts n (price_of r.items) → n ≤ m → under (Some m) r ≡ r

-- the second list begins with the first
abbrev pub Begins : {X : Type 0} → List X → List X → Type 0
Begins {X} front whole = (rest : List X) × (whole ≡ front ++ rest)

-- Under a fuel a run writes a beginning of what it writes without.
abbrev pub WritesBeginning : Type 0 → Type 0
WritesBeginning S = (n : ℕ) (r : Run S) → Begins (text_of (cut n r).items) (text_of r.items)

-- the runs leave the same items, and so the same text and price, and come to the same end
abbrev pub IsSameRun : {S T : Type 0} → Run S → Run T → Type 0
IsSameRun r q = (r.items ≡ q.items) × (r.end ≡ q.end)

-- What two runs leave and come to stays the same under every fuel.
abbrev pub CutAlike : Type 0 → Type 0 → Type 0
CutAlike S T = (fuel : Option ℕ) (r : Run S) (q : Run T) → IsSameRun r q → IsSameRun (under fuel r) (under fuel q)
