-- The setting that sources decide.
use Rattle.std.proofs.Common.{◌≡◌, ℕ, zero, suc, List, Option, None, Some, refl, sym, ap, subst, ◌∙◌}
use Rattle.std.proofs.Math.Logic.{∥∥₁_elim}
use Rattle.std.proofs.Math.Nat.{ℕ_set}
use Rattle.std.proofs.lemmas.Option.{none-some, same_Some}
use Rattle.std.specs.Option.{option_map}
use Rattle.template_values_errors.specs.declared.modes.AutoEscape.{AutoEscape}
use Rattle.template_values_errors.specs.declared.modes.AutoEscape.TheVariants as escapes
use Rattle.template_machine_surroundings.specs.Rule.{IsEscapeOf}
use Rattle.template_machine_surroundings.specs.declared.escape.EscapeRule.{EscapeRule}
use Rattle.template_machine_surroundings.proofs.OneRule.{one_escape}
use Rattle.template_machine_environment.specs.Meaning.{rendered}
use Rattle.template_machine_environment.specs.Compiled.{Compiled, standing_of}
use Rattle.template_machine_environment.specs.Sources.{Source, tree_in}
use Rattle.template_machine_environment.specs.Standing.{compiled_at}
use Rattle.template_machine_environment_settings.specs.Alike.{AlikeHaveOneSetting, AlikeRenderTheSame}

-- escapes by numbers, which are the same in one way alone
abbrev number_of : AutoEscape → ℕ
number_of escapes.None = 0
number_of escapes.Html = 1
number_of escapes.Json = 2
number_of (escapes.Custom n) = suc (suc (suc n))

abbrev numbered : ℕ → AutoEscape
numbered zero = escapes.None
numbered (suc zero) = escapes.Html
numbered (suc (suc zero)) = escapes.Json
numbered (suc (suc (suc n))) = escapes.Custom n

back : (escape : AutoEscape) → numbered (number_of escape) ≡ escape
back escapes.None = refl
back escapes.Html = refl
back escapes.Json = refl
back (escapes.Custom n) = refl

-- a name has one escape under a rule, however that is known
one_known : (rule : EscapeRule) (name : List ℕ) (escape other : AutoEscape) → ∥ IsEscapeOf rule name escape ∥₁ → ∥ IsEscapeOf rule name other ∥₁
    → escape ≡ other
one_known rule name escape other left right =
    let same : number_of escape ≡ number_of other =
    ∥∥₁_elim left (ℕ_set (number_of escape) (number_of other)) (λ l. ∥∥₁_elim right (ℕ_set (number_of escape) (number_of other))
    (λ r. ap number_of (one_escape rule name escape other l r))) in
    sym (back escape) ∙ ap numbered same ∙ back other

-- the escape of a name, under the rule of one source
same_escape : (name other : List ℕ) (source read : Source) (escape found : AutoEscape) → name ≡ other → source ≡ read
    → ∥ IsEscapeOf source.escapes name escape ∥₁ → ∥ IsEscapeOf read.escapes other found ∥₁ → escape ≡ found
same_escape name other source read escape found named is left right =
    let moved : ∥ IsEscapeOf read.escapes name escape ∥₁ = subst (λ (s : Source). ∥ IsEscapeOf s.escapes name escape ∥₁) is left in
    one_known read.escapes other escape found (subst (λ (n : List ℕ). ∥ IsEscapeOf read.escapes n escape ∥₁) named moved) right

-- the name and the source decide what a template stands for
same_standing : (name other : List ℕ) (c d : Compiled) → name ≡ other → c.name ≡ d.name → c.source ≡ d.source
    → ∥ IsEscapeOf c.source.escapes name c.escape ∥₁ → ∥ IsEscapeOf d.source.escapes other d.escape ∥₁ → standing_of c ≡ standing_of d
same_standing name other c d same named source left right =
    let escape = same_escape name other c.source d.source c.escape d.escape same source left right in
    λ i. record { name = named i; tree = tree_in (source i); escape = escape i }

one_standing : (name : List ℕ) (o p : Option Compiled) → option_map (λ c. c.source) o ≡ option_map (λ c. c.source) p
    → ((c : Compiled) → o ≡ Some c → c.name ≡ name) → ((c : Compiled) → p ≡ Some c → c.name ≡ name)
    → ((c : Compiled) → o ≡ Some c → ∥ IsEscapeOf c.source.escapes name c.escape ∥₁)
    → ((c : Compiled) → p ≡ Some c → ∥ IsEscapeOf c.source.escapes name c.escape ∥₁) → option_map standing_of o ≡ option_map standing_of p
one_standing name None None same named other_named left right = refl
one_standing name None (Some d) same named other_named left right = absurd (none-some _ same)
one_standing name (Some c) None same named other_named left right = absurd (none-some _ (sym same))
one_standing name (Some c) (Some d) same named other_named left right =
    ap Some (same_standing name name c d refl (named c refl ∙ sym (other_named d refl)) (same_Some _ _ same) (left c refl) (right d refl))

pub one_setting : AlikeHaveOneSetting
one_setting brought others e other alike = λ i. record {
  templates = λ name. one_standing name (compiled_at e.templates name) (compiled_at other.templates name) (alike.sources name)
      (e.templates.named name) (other.templates.named name) (e.escaped name) (other.escaped name) i;
  globals = alike.globals i;
  joins = (alike.users i).joins;
  callables = (alike.users i).callables;
  limit = alike.limit i;
  undefined = alike.undefined i;
}

pub same_renders : AlikeRenderTheSame
same_renders brought others e other alike c d one id n context =
    let setting = one_setting brought others e other alike in
    let standing = same_standing c.name d.name c d one.name one.name one.source ∣ one.escape ∣₁ ∣ one.other_escape ∣₁ in
    λ i. rendered (setting i) id n (standing i) context
