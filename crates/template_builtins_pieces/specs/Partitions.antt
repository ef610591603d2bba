-- Texts parted at another.
use Rattle.std.specs.Prelude.{ℕ, ◌+◌, ◌==◌, List, [], ◌∷◌, length, take, drop, codes, Option, None, Some, Ok, if◌then◌else◌}
use Rattle.template_values_model.specs.Val.{Val, text, tuple, vals_of}
use Rattle.template_builtins_arguments.specs.Answers.{Made, then as after, refused}
use Rattle.template_builtins_texts.specs.Replacing.{place_of}
use Rattle.template_builtins_pieces.specs.Cuts.{last_place}
use Rattle.template_builtins_pieces.specs.Reading.{placed, plain_text, text_argument}
use Rattle.template_builtins_pieces.specs.declared.splitting.Side.{Side}
use Rattle.template_builtins_pieces.specs.declared.splitting.Side.TheVariants.{Left, Right}

-- a tuple of three plain texts
abbrev pub three_texts : List ℕ → List ℕ → List ℕ → Val
three_texts a b c = tuple (vals_of (text a ∷ text b ∷ text c ∷ []))

-- what is before a place, the separator that stands there, and what is behind it
abbrev pub parted_at : List ℕ → List ℕ → ℕ → Val
parted_at separator s i = three_texts (take i s) separator (drop (i + length separator) s)

-- parted at the first separator, or at the last; where there is none the text stands first, or last
abbrev pub parted : Side → List ℕ → List ℕ → Option ℕ → Val
parted side separator s (Some i) = parted_at separator s i
parted Left separator s None = three_texts s [] []
parted Right separator s None = three_texts [] [] s

abbrev pub place_from : Side → List ℕ → List ℕ → Option ℕ
place_from Left = place_of
place_from Right = last_place

-- an empty separator stands nowhere
abbrev pub partitioned : Side → List ℕ → List ℕ → Made
partitioned side s separator =
    if length separator == 0 then refused else Ok (parted side separator s (place_from side separator s))

abbrev pub partition : Side → Val → List Val → Made
partition side v vs =
    after (placed (codes "sep" ∷ []) 1 vs) (λ given.
    after (plain_text v) (λ s.
    after (text_argument (given 0)) (λ separator. partitioned side s separator)))
