-- Clones of blocks are the same blocks.
use Rattle.std.proofs.Common.{◌≡◌, ℕ, List, [], ◌∷◌, refl}
use Rattle.std.specs.Borrow.{Bor}
use Rattle.std.specs.List.{AllZip}
use Rattle.template_machine_meaning.specs.Bodies.{Bodies}
use Rattle.template_machine_tables.specs.Stack.{blocks_among}

abbrev pub IsSame : Bor (List ℕ) × Bodies → Bor (List ℕ) × Bodies → Type 0
IsSame e f = (f.0 ≡ e.0) × (f.1 ≡ e.1)

pub same_blocks : (es fs : List (Bor (List ℕ) × Bodies)) → AllZip IsSame es fs → blocks_among fs ≡ blocks_among es
same_blocks [] [] zip = refl
same_blocks [] (f ∷ fs) zip = absurd zip
same_blocks (e ∷ es) [] zip = absurd zip
same_blocks (e ∷ es) (f ∷ fs) zip =
    let later = same_blocks es fs zip.1 in
    λ i. ((zip.0.0 i).now, zip.0.1 i) ∷ later i
