-- Starts of segments that can be told apart.
use Rattle.std.specs.Prelude.{◌≡◌, ℕ, List, []}

-- the two are not the same, where the first is there
abbrev pub Differ : List ℕ → List ℕ → Type 0
Differ a b = (a ≡ [] → ⊥) → a ≡ b → ⊥

-- each start differs from those behind it
pub record AreApart (variable block comment line_statement line_comment : List ℕ) : Type 0 where
  pub vb : Differ variable block
  pub vc : Differ variable comment
  pub vs : Differ variable line_statement
  pub vd : Differ variable line_comment
  pub bc : Differ block comment
  pub bs : Differ block line_statement
  pub bd : Differ block line_comment
  pub cs : Differ comment line_statement
  pub cd : Differ comment line_comment
  pub sd : Differ line_statement line_comment
