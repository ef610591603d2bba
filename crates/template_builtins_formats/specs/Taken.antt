-- What is shown of an argument, and the arguments behind it, as a program has them.
use Rattle.std.specs.Prelude.{ℕ, List, String, string_bytes}
use Rattle.std.specs.Borrow.{Bor}
use Rattle.template_values_model.specs.Val.{Val}

abbrev pub seen_taken : {A : Type 0} → String A × Bor (List Val) → List ℕ × List Val
seen_taken p = (string_bytes p.0, p.1.now)
