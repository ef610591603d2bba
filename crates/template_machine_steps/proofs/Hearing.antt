-- Calls that may hear a user's own, and what they hand on of those that cannot.
use Rattle.std.proofs.Common.{◌≡◌, ℕ, List, Option, Result, Ok, Err, OnErr, IfErr, IsErrAnd, sym, subst}
use Rattle.template_values_errors.specs.declared.ErrorKind.{ErrorKind}
use Rattle.template_compiler_code.specs.Code.{Operand, Code}
use Rattle.template_machine_meaning.specs.World.{World}
use Rattle.template_machine_meaning.specs.Keeps.{KeepsWorld}
use Rattle.template_machine_meaning.specs.Surroundings.{Programs}
use Rattle.template_machine_going.specs.Told.{SparesSink, stop_of, stop_writing, told_by, told_writing}
use Rattle.template_machine_going.specs.declared.stop.Stop.{Stop}
use Rattle.template_machine_going.proofs.Telling.{told_spares}
use Rattle.template_machine_steps.specs.Performs.{Steps, StepsWriting, StepsHeard, StepsHeardWriting}
use Rattle.template_machine_steps.proofs.Stepping.{Halting}

-- a call that hears none, as one that may
told_spares_all : {X : Type 0} (result : Result X (List ErrorKind)) → IfErr (told_by result) SparesSink
told_spares_all (Ok v) = tt
told_spares_all (Err kinds) = told_spares kinds

told_keeps : {X : Type 0} (result : Result X (List ErrorKind)) (w after : World) → OnErr result (KeepsWorld w after) → OnErr (told_by result) (KeepsWorld w after)
told_keeps (Ok v) w after kept = tt
told_keeps (Err kinds) w after kept = kept

written_keeps : {X : Type 0} (result : Result X (List ErrorKind)) (w after : World) → OnErr result (KeepsWorld w after) → OnErr (told_writing result) (KeepsWorld w after)
written_keeps (Ok v) w after kept = tt
written_keeps (Err kinds) w after kept = kept

pub steps_heard : {X : Type 0} (s : Programs) (c : Code) (operands : List Operand) (w : World) (result : Result X (List ErrorKind)) (to : ℕ → ℕ)
    (later : List Operand) (after : World) → Steps s c operands w result to later after → StepsHeard s c operands w (told_by result) to later after
steps_heard s c operands w result to later after h = record { out = h.out; spares = told_spares_all result; keeps = told_keeps result w after h.keeps }

pub writing_heard : {X : Type 0} (s : Programs) (c : Code) (operands : List Operand) (w : World) (taken : Option (List ℕ)) (result : Result X (List ErrorKind))
    (to : ℕ → ℕ) (later : List Operand) (after : World) (written : Option (List ℕ)) → StepsWriting s c operands w taken result to later after written
    → StepsHeardWriting s c operands w taken (told_writing result) to later after written
writing_heard s c operands w taken result to later after written h = record { out = h.out; keeps = written_keeps result w after h.keeps }

-- its error is told
pub err_heard : {X : Type 0} (s : Programs) (c : Code) (operands : List Operand) (w : World) (result : Result X Stop) (to : ℕ → ℕ)
    (later : List Operand) (after : World) (kinds : List ErrorKind) → IsErrAnd result (λ stop. stop ≡ stop_of kinds)
    → Steps {X = X} s c operands w (Err kinds) to later after → StepsHeard s c operands w result to later after
err_heard s c operands w (Ok v) to later after kinds is h = absurd is
err_heard {X} s c operands w (Err stop) to later after kinds is h =
    subst (λ (e : Stop). StepsHeard {X = X} s c operands w (Err e) to later after) (sym is) (steps_heard s c operands w (Err kinds) to later after h)

pub err_writing_heard : {X : Type 0} (s : Programs) (c : Code) (operands : List Operand) (w : World) (taken : Option (List ℕ)) (result : Result X Stop) (to : ℕ → ℕ)
    (later : List Operand) (after : World) (written : Option (List ℕ)) (kinds : List ErrorKind) → IsErrAnd result (λ stop. stop ≡ stop_writing kinds)
    → StepsWriting {X = X} s c operands w taken (Err kinds) to later after written → StepsHeardWriting s c operands w taken result to later after written
err_writing_heard s c operands w taken (Ok v) to later after written kinds is h = absurd is
err_writing_heard {X} s c operands w taken (Err stop) to later after written kinds is h =
    subst (λ (e : Stop). StepsHeardWriting {X = X} s c operands w taken (Err e) to later after written) (sym is)
    (writing_heard s c operands w taken (Err kinds) to later after written h)

-- why a call stopped is handed on
heard_out : {X : Type 0} (s : Programs) (c : Code) (operands : List Operand) (w : World) (to : ℕ → ℕ) (later : List Operand) (after : World) (stop : Stop)
    → KeepsWorld w after → SparesSink stop → Halting s c operands w after stop → StepsHeard {X = X} s c operands w (Err stop) to later after
heard_out s c operands w to later after stop kept other halts = record {
  spares = other;
  keeps = kept;
  out = λ before place left taken. halts place left taken before (to place) later;
}

pub heard_on : {X : Type 0} (s : Programs) (c : Code) (operands : List Operand) (w : World) (result : Result X Stop) (to : ℕ → ℕ)
    (later : List Operand) (after : World) (stop : Stop) → KeepsWorld w after → SparesSink stop → Halting s c operands w after stop
    → IsErrAnd result (λ told. told ≡ stop) → StepsHeard s c operands w result to later after
heard_on s c operands w (Ok v) to later after stop kept other halts is = absurd is
heard_on {X} s c operands w (Err told) to later after stop kept other halts is =
    subst (λ (e : Stop). StepsHeard {X = X} s c operands w (Err e) to later after) (sym is) (heard_out s c operands w to later after stop kept other halts)

-- what writes nothing
pub heard_writes : {X : Type 0} (s : Programs) (c : Code) (operands : List Operand) (w : World) (taken : Option (List ℕ)) (result : Result X Stop) (to : ℕ → ℕ)
    (later : List Operand) (after : World) → StepsHeard s c operands w result to later after → StepsHeardWriting s c operands w taken result to later after taken
heard_writes s c operands w taken result to later after h = record { out = λ before place left. h.out before place left taken; keeps = h.keeps }
