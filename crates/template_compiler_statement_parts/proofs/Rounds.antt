-- Rounds of a repetition, as a loop takes them off.
use Rattle.std.proofs.Common.{◌≡◌, Ok, List, sym, ap, ◌∙◌}
use Rattle.template_compiler_tokens.specs.Token.{Token}
use Rattle.template_compiler_tokens.specs.Steps.{Step, goes, stops, all}
use Rattle.template_compiler_tokens.proofs.Loops.{Shrinks, all_goes, all_stops, all_fails}
use Rattle.template_compiler_stream.specs.declared.refusal.Refusal.{Refusal}
use Rattle.template_compiler_stream.specs.declared.refusal.Refusal.TheVariants as refusals
use Rattle.template_compiler_stream.specs.Refusals.{Refused, fault_of}
use Rattle.template_compiler_statement_parts.specs.Parsed.{RefusedStep}

module _ {A : Type 0} (step : A → List Token → Step A) where
  pub rounds_end : (a b e : A) (ts us new : List Token) → all step a ts ≡ all step b us →
      (step a ts ≡ stops) × (new ≡ ts) × (e ≡ a) → all step b us ≡ Ok (e, new)
  rounds_end a b e ts us new same h =
      sym same ∙ all_stops step a ts h.0 ∙ ap (λ x. Ok (x, ts)) (sym h.2) ∙ ap (λ vs. Ok (e, vs)) (sym h.1)

  pub rounds_go : Shrinks step → (a b c : A) (ts us vs : List Token) → all step a ts ≡ all step c vs →
      step a ts ≡ goes b us → all step b us ≡ all step c vs
  rounds_go falls a b c ts us vs same e = sym (all_goes step falls a b ts us e) ∙ same

  pub rounds_refused : (a c : A) (ts vs : List Token) (e : Refusal) → all step a ts ≡ all step c vs →
      RefusedStep (step a ts) e → Refused (all step c vs) e
  rounds_refused a c ts vs (refusals.Token f) same h = sym same ∙ all_fails step a ts (fault_of f) h
  rounds_refused a c ts vs refusals.OutOfMemory same h = tt
