-- Operators behind their operands: what was put for operands that are constant is dropped again.
use Rattle.std.specs.Prelude.{◌≡◌, ℕ, ltb, filter, length, take, Option, None, Some}
use Rattle.std.proofs.Math.ListN.{set}
use Rattle.template_values_model.specs.Val.{Val}
use Rattle.template_compiler_code.specs.Listing.{code_in, places_in, IsSameTemplate}
use Rattle.template_compiler_code.specs.declared.listing.Instructions.{Instructions}
use Rattle.template_compiler_codegen.specs.Expressions.{Coded}
use Rattle.template_compiler_emission.specs.declared.leaps.Leap.{Leap}
use Rattle.template_compiler_emission.specs.Leaps.{leap_code}
use Rattle.template_compiler_emission.specs.Puts.{Keeps, Puts}

-- the instructions from a place on are dropped
pub record Cut (place : ℕ) (old new : Instructions) : Type 0 where
  pub kept : code_in new ≡ take place (code_in old)
  pub same : IsSameTemplate old new
  pub places : places_in new ≡ filter (λ m. ltb m.start place) (places_in old)

-- they are where there is a constant; else P holds
abbrev pub CutOr : ℕ → Option Val → Instructions → Instructions → Type 0 → Type 0
CutOr place (Some v) old new P = Cut place old new
CutOr place None old new P = P

-- a piece of code is put, and the jump at a place leads behind it
pub record Lands (place : ℕ) (leap : Leap) (piece : Coded) (old new : Instructions) : Type 0 where
  pub mid : Instructions
  pub put : Puts piece old mid
  pub landed : code_in new ≡ set (code_in mid) place (leap_code leap (length (code_in mid)))
  pub same : Keeps mid new
