-- What is read at the start of a text, and the text behind it.
use Rattle.std.specs.Prelude.{ℕ, List}
use Rattle.std.specs.Borrow.{Bor}

abbrev pub seen : {T : Type 0} → T × Bor (List ℕ) → T × List ℕ
seen p = (p.0, p.1.now)
