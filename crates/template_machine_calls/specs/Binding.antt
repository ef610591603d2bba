-- How what a call hands over is bound to the names of a macro.
use Rattle.std.specs.Prelude.{◌≡◌, ◌⊎◌, ℕ, Bool, true, false, ◌&&◌, ◌||◌, List, [], ◌∷◌, reverse, Option, None, Some, Result, Ok, Err, codes, if◌then◌else◌}
use Rattle.std.specs.Option.{option_map_or}
use Rattle.std.specs.Str.{bytes_eq}
use Rattle.template_values_core.specs.Answers.{text_in}
use Rattle.template_values_errors.specs.declared.ErrorKind.{ErrorKind}
use Rattle.template_values_errors.specs.declared.ErrorKind.TheVariants.{TooManyArguments}
use Rattle.template_values_errors.specs.Memory.{NoMemory}
use Rattle.template_values_model.specs.Val.{Val, Pairs, no_pairs, pairs_more, keyword_map}
use Rattle.template_values_model.specs.Lookup.{value_at}
use Rattle.template_machine_meaning.specs.Macros as macros
use Rattle.template_machine_meaning.specs.Macros.{is_one_of, one_given}
use Rattle.template_machine_calls.specs.declared.binding.Bound.{Bound}

-- a keyword map
abbrev pub is_keywords : Val → Bool
is_keywords (keyword_map keywords) = true
is_keywords _ = false

abbrev pub first_is_keywords : List Val → Bool
first_is_keywords [] = false
first_is_keywords (v ∷ vs) = is_keywords v

-- the values in turn, and the keyword map behind them
abbrev pub behind_first : Val → List Val × Option Val → List Val × Option Val
behind_first v p = (v ∷ p.0, p.1)

abbrev pub parted : List Val → List Val × Option Val
parted [] = ([], None)
parted (v ∷ []) = if is_keywords v then ([], Some v) else (v ∷ [], None)
parted (v ∷ vs) = behind_first v (parted vs)

abbrev pub keywords_in : Option Val → Pairs
keywords_in (Some (keyword_map keywords)) = keywords
keywords_in _ = no_pairs

-- they are a keyword map, if there are any
abbrev pub AreKeywords : Option Val → Type 0
AreKeywords None = Unit {0}
AreKeywords (Some v) = is_keywords v ≡ true

-- what stands under a name among them
abbrev pub keyword_in : List ℕ → Option Val → Option Val
keyword_in name None = None
keyword_in name (Some v) = value_at name v

-- an argument is given, or refused where it is given twice; or no memory is left
abbrev pub Gives : Option Val → Option Val → Result Val (List ErrorKind) → Type 0
Gives place keyword (Ok v) = one_given place keyword ≡ Some v
Gives place keyword (Err kinds) = NoMemory kinds ⊎ ((one_given place keyword ≡ None) × (kinds ≡ TooManyArguments ∷ []))

-- each keyword is one of the names, or `caller` where that is taken
abbrev pub is_known : List Val → Bool → List ℕ → Bool
is_known names takes key = is_one_of key names || takes && bytes_eq key (codes "caller")

abbrev pub takes_each : List Val → Bool → Pairs → Bool
takes_each names takes no_pairs = true
takes_each names takes (pairs_more key v keywords) = option_map_or (is_known names takes) (text_in key) true && takes_each names takes keywords

-- the locals that a macro begins with
abbrev pub locals_with : Option Val → List (List ℕ × Val)
locals_with None = []
locals_with (Some v) = (codes "caller", v) ∷ []

abbrev pub locals_of : Bound → List (List ℕ × Val)
locals_of b = locals_with b.caller

-- what is bound, or refused; or no memory is left
abbrev pub Binds : Result macros.Bound ErrorKind → Result Bound (List ErrorKind) → Type 0
Binds (Ok b) (Ok made) = (b.arguments ≡ reverse made.arguments.items) × (b.locals ≡ locals_of made)
Binds r (Err kinds) = NoMemory kinds ⊎ ((kind : ErrorKind) × (r ≡ Err kind) × (kinds ≡ kind ∷ []))
Binds _ _ = ⊥
