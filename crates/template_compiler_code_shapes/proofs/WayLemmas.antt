-- What lies under a value on top.
use Rattle.std.proofs.Common.{◌≡◌, ℕ, suc, Bool, true, false, cond, List, ◌∷◌, length, None, Some, slice_get, refl, sym, ap, ◌∙◌}
use Rattle.std.specs.Prelude.{◌&&◌}
use Rattle.template_values_model.specs.Val.{Val, list, vals_of}
use Rattle.template_values_core.proofs.ReadLemmas.{items_of-vals_of}
use Rattle.template_compiler_code.specs.Code.{Code}
use Rattle.template_compiler_code_shapes.specs.Shapes.{Form, single_form, counted_form, counting_form, closure_form, Shape, lowered, closure_taken}
use Rattle.template_compiler_code_shapes.specs.Outlines.{has_under, below_two, pair_taken}
use Rattle.template_compiler_code_shapes.specs.Effects.{traded, made, loads_one, adds, are_texts, texts_held, swapped, operated}

pub swaps_values : (code : List Code) (place : ℕ) (s : Shape) (forms : List Form) → has_under counted_form forms ≡ false → swapped code place s forms ≡ traded 2 2 s
swaps_values code place s (single_form ∷ counted_form ∷ forms) e = absurd cc
swaps_values code place s _ e = refl

pub swaps_run : (code : List Code) (place : ℕ) (s : Shape) (forms : List Form) → has_under counted_form forms ≡ true
    → swapped code place s forms ≡ cond (loads_one (slice_get code (suc place)) && adds (slice_get code (suc (suc place)))) (made counting_form (lowered s (below_two forms))) None
swaps_run code place s (single_form ∷ counted_form ∷ forms) e = refl
swaps_run code place s _ e = absurd cc

-- with what is taken of them
pub swaps_row : (code : List Code) (place : ℕ) (s : Shape) → has_under counted_form s.operands ≡ true
    → swapped code place s s.operands ≡ cond (loads_one (slice_get code (suc place)) && adds (slice_get code (suc (suc place)))) (made counting_form (pair_taken counted_form s)) None
swaps_row code place s e =
    swaps_run code place s s.operands e
    ∙ ap (λ b. cond (loads_one (slice_get code (suc place)) && adds (slice_get code (suc (suc place)))) (made counting_form (cond b (lowered s (below_two s.operands)) None)) None) (sym e)

-- a list of texts
pub texts_listed : (v : Val) (vs : List Val) (b : Bool) → v ≡ list (vals_of vs) → b ≡ are_texts vs → texts_held v ≡ cond b (Some (length vs)) None
texts_listed v vs b e test =
    ap texts_held e ∙ ap (λ ws. cond (are_texts ws) (Some (length ws)) None) (items_of-vals_of vs) ∙ ap (λ a. cond a (Some (length vs)) None) (sym test)

pub operates_values : (adding : Bool) (s : Shape) (forms : List Form) → has_under counting_form forms ≡ false → operated adding s forms ≡ traded 2 1 s
operates_values adding s (single_form ∷ counting_form ∷ forms) e = absurd cc
operates_values adding s _ e = refl

pub operates_run : (adding : Bool) (s : Shape) (forms : List Form) → has_under counting_form forms ≡ true
    → operated adding s forms ≡ cond adding (made counted_form (lowered s (below_two forms))) None
operates_run adding s (single_form ∷ counting_form ∷ forms) e = refl
operates_run adding s _ e = absurd cc

pub takes_closure : (s : Shape) (forms : List Form) → closure_taken s forms ≡ cond (has_under closure_form forms) (lowered s (below_two forms)) None
takes_closure s (single_form ∷ closure_form ∷ forms) = refl
takes_closure s _ = refl
