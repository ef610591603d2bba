-- What certifies code certifies it whatever its numbers.
use Rattle.std.proofs.Common.{◌≡◌, ℕ, zero, suc, not, cond, ◌&&◌, nat_le, nat_lt, List, ◌∷◌, length, map, Option, None, Some, option_map, option_and_then, slice_get, IsSomeAnd, refl, sym, ap, subst, ◌∙◌}
use Rattle.std.proofs.lemmas.List.{length-map}
use Rattle.std.proofs.lemmas.Option.{slice_get-map}
use Rattle.template_compiler_code.specs.Code.{Code, apply_filter, perform_test, swap, jump, jump_if_false, jump_if_false_or_pop, jump_if_true_or_pop, push_loop, iterate, export_locals, build_macro}
use Rattle.template_compiler_code.specs.Loops.{is_iterate_past}
use Rattle.template_compiler_code_shapes.specs.declared.StreamKind.{StreamKind}
use Rattle.template_compiler_code_shapes.specs.Shapes.{Shape, Form, single_form, counted_form, counting_form, lowered, taken, closure_taken, given, body_of, opened, loop_opened, innermost_loop}
use Rattle.template_compiler_code_shapes.specs.Effects.{Effect, effect_of, adds, code_before, ends_capture, falling, is_behind, is_iterate, jumping, leans, loads_one, made, making, may_jump, may_lead, swapped, texts_loaded, traded}
use Rattle.template_compiler_code_shapes.specs.Streams.{IsCertificate, Leads}
use Rattle.template_compiler_generator.specs.Numbers.{bare, numbered_in}
use Rattle.template_compiler_generator.proofs.Alike.{bare_in}

-- what is read of an instruction at another place
bare_leans : (o : Option Code) → leans (option_map bare o) ≡ leans o
bare_leans None = refl
bare_leans (Some (apply_filter name count number)) = refl
bare_leans (Some (perform_test name count number)) = refl
bare_leans (Some _) = refl

bare_past : (place : ℕ) (o : Option Code) → is_iterate_past place (option_map bare o) ≡ is_iterate_past place o
bare_past place None = refl
bare_past place (Some (apply_filter name count number)) = refl
bare_past place (Some (perform_test name count number)) = refl
bare_past place (Some _) = refl

bare_iterate : (o : Option Code) → is_iterate (option_map bare o) ≡ is_iterate o
bare_iterate None = refl
bare_iterate (Some (apply_filter name count number)) = refl
bare_iterate (Some (perform_test name count number)) = refl
bare_iterate (Some _) = refl

bare_one : (o : Option Code) → loads_one (option_map bare o) ≡ loads_one o
bare_one None = refl
bare_one (Some (apply_filter name count number)) = refl
bare_one (Some (perform_test name count number)) = refl
bare_one (Some _) = refl

bare_adds : (o : Option Code) → adds (option_map bare o) ≡ adds o
bare_adds None = refl
bare_adds (Some (apply_filter name count number)) = refl
bare_adds (Some (perform_test name count number)) = refl
bare_adds (Some _) = refl

bare_ends : (o : Option Code) → ends_capture (option_map bare o) ≡ ends_capture o
bare_ends None = refl
bare_ends (Some (apply_filter name count number)) = refl
bare_ends (Some (perform_test name count number)) = refl
bare_ends (Some _) = refl

bare_texts : (o : Option Code) → texts_loaded (option_map bare o) ≡ texts_loaded o
bare_texts None = refl
bare_texts (Some (apply_filter name count number)) = refl
bare_texts (Some (perform_test name count number)) = refl
bare_texts (Some _) = refl

module _ (code : List Code) where
  read : {X : Type 0} (f : Option Code → X) → ((o : Option Code) → f (option_map bare o) ≡ f o) → (place : ℕ) → f (slice_get (map bare code) place) ≡ f (slice_get code place)
  read f same place = ap f (slice_get-map bare code place) ∙ same (slice_get code place)

  read_before : {X : Type 0} (f : Option Code → X) → ((o : Option Code) → f (option_map bare o) ≡ f o) → (place : ℕ) → f (code_before (map bare code) place) ≡ f (code_before code place)
  read_before f same zero = refl
  read_before f same (suc place) = read f same place

  leads : (to : ℕ) → may_lead (map bare code) to ≡ may_lead code to
  leads to = (λ i. nat_le to (length-map code bare i) && not (read leans bare_leans to i))

  jumps : (place : ℕ) (s : Shape) (to : ℕ) → may_jump (map bare code) place s to ≡ may_jump code place s to
  jumps place s to =
      (λ i. cond (nat_lt place to) (leads to i) (is_behind to (innermost_loop s.frames) && read (is_iterate_past place) (bare_past place) to i))

  jumped : (place : ℕ) (falls : Option Shape) (to : ℕ) (s : Shape) → jumping (map bare code) place falls to s ≡ jumping code place falls to s
  jumped place falls to s =
      (λ i. cond (jumps place s to i) (Some (record { falls = falls; jumps = Some (to, s); enters = None })) None)

  swaps : (place : ℕ) (s : Shape) (forms : List Form) → swapped (map bare code) place s forms ≡ swapped code place s forms
  swaps place s (single_form ∷ counted_form ∷ forms) =
      (λ i. cond (read loads_one bare_one (suc place) i && read adds bare_adds (suc (suc place)) i) (made counting_form (lowered s forms)) None)
  swaps place s _ = refl

  makes : (offset : ℕ) (names : Option ℕ) (s : Shape) → making (map bare code) offset names s ≡ making code offset names s
  makes offset None s = refl
  makes offset (Some n) s =
      (λ i. cond (leads offset i) (option_map (λ below. record { falls = Some (given 1 below); jumps = None; enters = Some (offset, body_of n) }) (closure_taken s s.operands)) None)

  -- the effect of an instruction does not hang on any number
  effects : (place : ℕ) (c : Code) (s : Shape) → effect_of (map bare code) place (bare c) s ≡ effect_of code place c s
  effects place (apply_filter name count number) s = refl
  effects place (perform_test name count number) s = refl
  effects place swap s = swaps place s s.operands
  effects place (jump to) s = jumped place None to s
  effects place (jump_if_false to) s = (λ i. option_and_then (λ below. jumped place (Some below) to below i) (taken 1 s))
  effects place (jump_if_false_or_pop to) s = (λ i. option_and_then (λ below. jumped place (Some below) to s i) (taken 1 s))
  effects place (jump_if_true_or_pop to) s = (λ i. option_and_then (λ below. jumped place (Some below) to s i) (taken 1 s))
  effects place (push_loop flags) s =
      (λ i. cond (read is_iterate bare_iterate (suc place) i) (option_map (λ below. falling (opened (loop_opened flags place below) below)) (taken 1 s)) None)
  effects place (iterate to) s =
      (λ i. cond (is_behind place (innermost_loop s.frames) && (nat_lt place to && leads to i))
      (Some (record { falls = Some (given 1 s); jumps = Some (to, s); enters = None })) None)
  effects place export_locals s = (λ i. cond (read_before ends_capture bare_ends place i) (traded 1 1 s) None)
  effects place (build_macro name offset flags) s =
      makes offset (texts_loaded (code_before (map bare code) place)) s ∙ ap (λ names. making code offset names s) (read_before texts_loaded bare_texts place)
  effects place _ s = refl

-- an instruction of code that is the same but for numbers
stands_in : (o : Option Code) (d : Code) → option_map bare o ≡ Some d → (c : Code) × (o ≡ Some c) × (bare c ≡ d)
stands_in None d at = absurd (cc)
stands_in (Some c) d at = let same : bare c ≡ d = cc in (c, refl, same)

certified_alike : (kind : StreamKind) (a b : List Code) (table : ℕ → Option Shape) → map bare a ≡ map bare b → IsCertificate kind a table → IsCertificate kind b table
certified_alike kind a b table same is = record {
  begins = is.begins;
  fine = λ place s d shape at.
      let bared : option_map bare (slice_get a place) ≡ Some (bare d) =
      sym (slice_get-map bare a place) ∙ ap (λ (code : List Code). slice_get code place) same ∙ slice_get-map bare b place ∙ ap (option_map bare) at in
      let found = stands_in (slice_get a place) (bare d) bared in
      let effect : effect_of a place found.0 s ≡ effect_of b place d s =
      sym (effects a place found.0 s) ∙ (λ i. effect_of (same i) place (found.2 i) s) ∙ effects b place d s in
      subst (λ (e : Option Effect). IsSomeAnd e (Leads table place)) effect (is.fine place s found.0 shape found.1);
  over = λ s at.
      let longs : length b ≡ length a = sym (length-map b bare) ∙ ap length (sym same) ∙ length-map a bare in
      is.over s (ap table (sym longs) ∙ at);
}

pub certified_numbered : (kind : StreamKind) (code : List Code) (table : ℕ → Option Shape) → IsCertificate kind code table → IsCertificate kind (numbered_in code) table
certified_numbered kind code table is = certified_alike kind code (numbered_in code) table (sym (bare_in code)) is
