-- How a render comes out, and how an expression does.
use Rattle.std.specs.Prelude.{◌≡◌, ◌⊎◌, ℕ, List, [], ◌∷◌, Option, None, Some, Result, Ok, Err}
use Rattle.std.specs.Io.KnownBytes.{Appends}
use Rattle.std.specs.Option.{option_map}
use Rattle.template_values_errors.specs.declared.ErrorKind.{ErrorKind}
use Rattle.template_values_model.specs.Val.{Val}
use Rattle.template_compiler_process.specs.Drive.{End, ends, faults}
use Rattle.template_compiler_process.specs.Fuel.{Lasts, remaining, under}
use Rattle.template_compiler_process.specs.Trace.{Run, price_of, text_of}
use Rattle.template_machine_surroundings.specs.Writes.{AppendsBeginning}
use Rattle.template_machine_meaning.specs.World.{World}
use Rattle.template_machine_going.specs.Spots.{Spot}
use Rattle.template_machine_going.specs.Outcomes.{IsWanting}
use Rattle.template_machine_going.specs.declared.stop.Stop.{Stop}
use Rattle.template_machine_going.specs.declared.stop.Stop.TheVariants.{Fault, Want}
use Rattle.template_machine_loop.specs.Performs.{spot}

-- where the machine stands at the start of a run
abbrev pub at_start : World → Option ℕ → Option (List ℕ) → Spot World
at_start w fuel taken = spot 0 [] w fuel taken

-- it came to its end by itself
abbrev pub IsOver : End → Type 0
IsOver (ends operands) = Unit {0}
IsOver _ = ⊥

-- the run ends with a fault of these kinds
abbrev pub FaultsAs : {S : Type 0} → Run S → List ErrorKind → Type 0
FaultsAs r kinds = r.end ≡ faults kinds

-- The call answers as the run ends, and its sink took the text. Or a growth was refused, or the sink failed, and it took a
-- beginning of the text.
abbrev pub Renders : {X S : Type 0} → Result X Stop → Option (List ℕ) → Option (List ℕ) → Run S → Type 0
Renders (Ok _) before after r = IsOver r.end × Appends before after (text_of r.items)
Renders (Err (Fault kinds)) before after r = FaultsAs r kinds × Appends before after (text_of r.items)
Renders (Err (Want kinds)) before after r = IsWanting kinds × AppendsBeginning before after (text_of r.items)

-- what a run leaves of a fuel, if one is set
abbrev pub leaves : {S : Type 0} → Option ℕ → Run S → Option ℕ
leaves fuel r = option_map (λ n. remaining n r) fuel

-- the run is over, whose fuel lasts; it left the world and so much of the fuel, and its text is written
pub record IsDone (fuel : Option ℕ) (r : Run World) (after : World) (left : Option ℕ) (before taken : Option (List ℕ)) : Type 0 where
  pub over : IsOver (under fuel r).end
  pub text : Appends before taken (text_of (under fuel r).items)
  pub world : (under fuel r).after ≡ after
  pub left_is : left ≡ leaves fuel r

-- So much of the fuel is left as the run leaves, of one that is cut nothing; unless a growth was refused, or the sink failed.
abbrev pub LeavesFuel : {X S : Type 0} → Option ℕ → Run S → Result X Stop → Option ℕ → Type 0
LeavesFuel fuel r (Ok _) left = left ≡ leaves fuel r
LeavesFuel fuel r (Err (Fault kinds)) left = left ≡ leaves fuel r
LeavesFuel fuel r (Err (Want kinds)) left = Unit {0}

-- the fuel does not last for the run
abbrev pub IsShort : {S : Type 0} → Option ℕ → Run S → Type 0
IsShort None r = ⊥
IsShort (Some n) r = Lasts n (price_of r.items) → ⊥

-- The world is what the run leaves, where the fuel lasts for it; unless a growth was refused, or the sink failed.
abbrev pub LeavesWorld : {S : Type 0} → Option ℕ → Run S → Stop → S → Type 0
LeavesWorld fuel r (Fault kinds) after = IsShort fuel r ⊎ (after ≡ r.after)
LeavesWorld fuel r (Want kinds) after = Unit {0}

-- The call comes to the end of the run, or answers as the run ends up to there.
abbrev pub RendersTo : {X : Type 0} → Option ℕ → Run World → Result X Stop → World → Option ℕ → Option (List ℕ) → Option (List ℕ) → Type 0
RendersTo fuel r (Ok _) after left before taken = IsDone fuel r after left before taken
RendersTo {X = X} fuel r (Err stop) after left before taken =
    Renders {X = X} (Err stop) before taken (under fuel r) × LeavesFuel {X = X} fuel r (Err stop) left × LeavesWorld fuel r stop after

-- The call tells the one value that the run leaves, in the world that it leaves; or it answers with the run's fault. Or a growth
-- was refused, or the sink failed.
abbrev pub GivesValue : {S : Type 0} → Result Val Stop → S → Run S → Type 0
GivesValue (Ok v) after r = (r.end ≡ ends (v ∷ [])) × (r.after ≡ after)
GivesValue (Err (Fault kinds)) after r = FaultsAs r kinds
GivesValue (Err (Want kinds)) after r = IsWanting kinds
