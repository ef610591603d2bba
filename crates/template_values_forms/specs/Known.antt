-- What is known of records, by their state's id and their number in it. A foreign record is not known.
use Rattle.std.specs.Prelude.{ℕ, Bool, List, Option, None}
use Rattle.template_values_model.specs.Val.{Val}

-- a loop: its items, the index of the item that it is at (none before the first), and how many loops enclose it
pub record LoopSeen : Type 0 where
  pub items : List Val
  pub place : Option ℕ
  pub depth : ℕ

-- a macro: its name, the names of its arguments, and whether it takes a caller
pub record MacroSeen : Type 0 where
  pub name : List ℕ
  pub arguments : List Val
  pub caller : Bool

pub record Known : Type 0 where
  pub namespaces : ℕ → ℕ → Option (List (Val × Val))
  pub loops : ℕ → ℕ → Option LoopSeen
  pub macros : ℕ → ℕ → Option MacroSeen

-- no record is known
abbrev pub nothing_known : Known
nothing_known = record {
  namespaces = λ id number. None;
  loops = λ id number. None;
  macros = λ id number. None;
}
