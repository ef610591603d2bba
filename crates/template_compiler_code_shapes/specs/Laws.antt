-- The laws of good streams.
use Rattle.std.specs.Prelude.{◌≡◌, ℕ, zero, suc, ◌+◌, ◌*◌, ◌≤◌, if◌then◌else◌, List, length, map, Option}
use Rattle.template_compiler_process.specs.Process.{Answer, Process, over, step, asks, amiss, cut_short, stuck}
use Rattle.template_compiler_code.specs.Code.{Operand, Code}
use Rattle.template_compiler_code.specs.Steps.{exec}
use Rattle.template_compiler_code_shapes.specs.declared.StreamKind.{StreamKind}
use Rattle.template_compiler_code_shapes.specs.Shapes.{Shape, form_of}
use Rattle.template_compiler_code_shapes.specs.Streams.{Reached, end_of, IsGood, IsCertificate}

-- A stream with a certificate is good.
abbrev pub CertifiedIsGood : Type 0
CertifiedIsGood = (kind : StreamKind) (code : List Code) (table : ℕ → Option Shape) → IsCertificate kind code table → IsGood kind code

-- whatever is answered, no instruction lacks an operand, and the end leaves so many values
abbrev pub EndsWith : ℕ → Process → Type 0
EndsWith n (over values) = length values ≡ n
EndsWith n (step p) = EndsWith n p
EndsWith n (asks e k) = (a : Answer) → EndsWith n (k a)
EndsWith n amiss = Unit {0}
EndsWith n cut_short = Unit {0}
EndsWith n stuck = ⊥

-- how many values a run leaves that goes on with a shape: the body of a macro none
abbrev pub left_by : StreamKind → Shape → ℕ
left_by kind s = if s.in_macro then 0 else length (end_of kind).operands

-- A good stream is never stuck, from any place that is reached with a shape, over operands of that shape's forms; and at
-- its end it leaves no operand, or an expression's one value, and at the end of a macro's body none.
abbrev pub GoodEndsWell : Type 0
GoodEndsWell = (kind : StreamKind) (code : List Code) → IsGood kind code → (bound place : ℕ) (s : Shape) (operands : List Operand)
    → Reached code place s → map form_of operands ≡ s.operands → EndsWith (left_by kind s) (exec code bound place operands)

-- for so many answers, whatever they are, the process is not cut short
abbrev pub LastsFor : ℕ → Process → Type 0
LastsFor n (over values) = Unit {0}
LastsFor n (step p) = LastsFor n p
LastsFor zero (asks e k) = Unit {0}
LastsFor (suc n) (asks e k) = (a : Answer) → LastsFor n (k a)
LastsFor n amiss = Unit {0}
LastsFor n cut_short = ⊥
LastsFor n stuck = Unit {0}

-- A good stream goes on from answer to answer: from any place that is reached, for so many answers, it is not cut short
-- by a bound of one more than them times one more than its instructions.
abbrev pub GoodGoesOn : Type 0
GoodGoesOn = (kind : StreamKind) (code : List Code) → IsGood kind code → (answers bound place : ℕ) (s : Shape) (operands : List Operand)
    → Reached code place s → map form_of operands ≡ s.operands → (answers + 1) * (length code + 1) ≤ bound
    → LastsFor answers (exec code bound place operands)
