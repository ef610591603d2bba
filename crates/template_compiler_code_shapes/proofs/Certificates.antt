-- A stream with a certificate is good: each place that is reached has its shape in the table.
use Rattle.std.proofs.Common.{◌≡◌, ℕ, List, length, Option, None, Some, refl, sym, subst, ◌∙◌}
use Rattle.std.specs.Prelude.{IsSome, IsSomeAnd}
use Rattle.template_compiler_code.specs.Code.{Code}
use Rattle.template_compiler_code_shapes.specs.declared.StreamKind.{StreamKind}
use Rattle.template_compiler_code_shapes.specs.Shapes.{Shape}
use Rattle.template_compiler_code_shapes.specs.Effects.{effect_of}
use Rattle.template_compiler_code_shapes.specs.Streams.{Reached, begins, falls_to, jumps_to, enters_at, IsGood, Leads, IsCertificate}

some_of : {A : Type 0} (x y : A) → Some x ≡ Some y → x ≡ y
some_of x y e = cc

-- what holds of the value of an option holds of the value that the option is told to have
of_some : {A : Type 0} (P : A → Type 0) (o : Option A) (x : A) → IsSomeAnd o P → o ≡ Some x → P x
of_some P None x h e = absurd h
of_some P (Some y) x h e = subst P (some_of y x e) h

is_some_of : {A : Type 0} (P : A → Type 0) (o : Option A) → IsSomeAnd o P → IsSome o
is_some_of P None h = absurd h
is_some_of P (Some y) h = refl

pub in_certificate : (kind : StreamKind) (code : List Code) (table : ℕ → Option Shape) → IsCertificate kind code table → (place : ℕ) (s : Shape) → Reached code place s → table place ≡ Some s
in_certificate kind code table k _ _ begins = k.begins
in_certificate kind code table k _ _ (falls_to {place} {s} {t} {c} {e} r at is goes) =
    (of_some (Leads table place) (effect_of code place c s) e (k.fine place s c (in_certificate kind code table k place s r) at) is).falls t goes
in_certificate kind code table k _ _ (jumps_to {place} {to} {s} {t} {c} {e} r at is goes) =
    (of_some (Leads table place) (effect_of code place c s) e (k.fine place s c (in_certificate kind code table k place s r) at) is).jumps to t goes
in_certificate kind code table k _ _ (enters_at {place} {to} {s} {t} {c} {e} r at is goes) =
    (of_some (Leads table place) (effect_of code place c s) e (k.fine place s c (in_certificate kind code table k place s r) at) is).enters to t goes

pub good_by : (kind : StreamKind) (code : List Code) (table : ℕ → Option Shape) → IsCertificate kind code table → IsGood kind code
good_by kind code table k = record {
  one = λ place s t r q. some_of s t (sym (in_certificate kind code table k place s r) ∙ in_certificate kind code table k place t q);
  fine = λ place s c r at. is_some_of (Leads table place) (effect_of code place c s) (k.fine place s c (in_certificate kind code table k place s r) at);
  over = λ s r. k.over s (in_certificate kind code table k (length code) s r);
}
