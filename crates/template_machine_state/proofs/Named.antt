-- What a name stands for: in the frames that are seen, or beneath them.
use Rattle.std.proofs.Common.{◌≡◌, ◌∙◌, ℕ, List, refl, sym, ap, ◌||◌, Option, None, Some}
use Rattle.std.specs.Prelude.{is_some}
use Rattle.std.specs.Option.{option_or}
use Rattle.template_values_model.specs.Val.{Val}
use Rattle.template_values_model.specs.Lookup.{value_at}
use Rattle.template_machine_meaning.specs.World.{World, base_context, known_at, local_at, looked_up, seen_frames}

-- a name that stands for something in frames, in a context, or behind them
pub in_any : (known beneath behind : Option Val) → (is_some (option_or known beneath) || is_some behind) ≡ is_some (option_or known (option_or beneath behind))
in_any (Some v) beneath behind = refl
in_any None (Some v) behind = refl
in_any None None behind = refl

-- what is found in frames, in a context, and in neither
abbrev pub beneath_of : Option Val → List ℕ → World → Option Val
beneath_of known name w = option_or known (option_or (value_at name (base_context w.frames)) (local_at name w.globals.named))

pub named_in_frames : (name : List ℕ) (w : World) (v : Val) → Some v ≡ known_at w.closures name (seen_frames w) → Some v ≡ looked_up name w
named_in_frames name w v is = ap (λ o. beneath_of o name w) is

pub named_in_context : (name : List ℕ) (w : World) (v : Val) → known_at w.closures name (seen_frames w) ≡ None
    → Some v ≡ value_at name (base_context w.frames) → Some v ≡ looked_up name w
named_in_context name w v none is =
    ap (λ o. option_or o (local_at name w.globals.named)) is ∙ sym (ap (λ o. beneath_of o name w) none)

pub named_by_globals : (name : List ℕ) (w : World) (o : Option Val) → known_at w.closures name (seen_frames w) ≡ None
    → None ≡ value_at name (base_context w.frames) → o ≡ local_at name w.globals.named → o ≡ looked_up name w
named_by_globals name w o none beneath is =
    is ∙ ap (λ p. option_or p (local_at name w.globals.named)) beneath ∙ sym (ap (λ p. beneath_of p name w) none)
