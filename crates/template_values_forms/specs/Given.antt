-- What the program gives, as the definitions have it.
use Rattle.std.specs.Prelude.{◌≡◌, ℕ, ◌≤◌, List, Result, Ok, Err, Vec}
use Rattle.template_values_errors.specs.declared.ErrorKind.{ErrorKind}
use Rattle.template_values_model.specs.Val.{Val, vals_of}
use Rattle.template_values_core.specs.Depth.{depth, vals_depth, pairs_depth}
use Rattle.template_values_core.specs.Maps.{pairs_of}
use Rattle.template_values_core.specs.Shape.{pairs_in}
use Rattle.template_values_core.specs.declared.value.Entry.{Entry}
use Rattle.template_values_forms.specs.Known.{Known}
use Rattle.template_values_forms.specs.Frozen.{frozen_pairs, frozen_vals, inner_frozen}

abbrev pub values_given : {Z : Type 0} → Result (Vec Val Z) (List ErrorKind) → Result (List Val) (List ErrorKind)
values_given (Ok vs) = Ok vs.items
values_given (Err kinds) = Err kinds

abbrev pub pair_given : Result Entry (List ErrorKind) → Result (Val × Val) (List ErrorKind)
pair_given (Ok e) = Ok (e.key, e.value)
pair_given (Err kinds) = Err kinds

abbrev pub pairs_given : {Z : Type 0} → Result (Vec Entry Z) (List ErrorKind) → Result (List (Val × Val)) (List ErrorKind)
pairs_given (Ok es) = Ok (pairs_in es.items)
pairs_given (Err kinds) = Err kinds

-- freezing changes nothing, whatever is known, where the values may nest as deep as they do
abbrev pub Stays : Val → Type 0
Stays v = (known : Known) (n : ℕ) → depth v ≤ n → inner_frozen known n v ≡ Ok v

abbrev pub ValsStay : List Val → Type 0
ValsStay vs = (known : Known) (n : ℕ) → vals_depth (vals_of vs) ≤ n → frozen_vals (inner_frozen known n) (vals_of vs) ≡ Ok vs

abbrev pub PairsStay : List (Val × Val) → Type 0
PairsStay ps = (known : Known) (n : ℕ) → pairs_depth (pairs_of ps) ≤ n → frozen_pairs (inner_frozen known n) (pairs_of ps) ≡ Ok ps
