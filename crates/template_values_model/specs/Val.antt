-- The values of the template language.
use Rattle.std.specs.Prelude.{ℕ, ℤ, Bool, List, [], ◌∷◌}

mutual
  -- Texts and bytes are lists of bytes. A map's, keyword map's or module's pairs stand in the order of
  -- their keys. Functions are known by their environment and a number in it, records (namespaces, loops,
  -- macros) by their state and a number in it.
  pub data Val : Type 0 where
    undefined : Val
    silent_undefined : Val
    none : Val
    truth : Bool → Val
    int : ℤ → Val
    text : List ℕ → Val
    safe_text : List ℕ → Val
    bytes : List ℕ → Val
    list : Vals → Val
    tuple : Vals → Val
    map : Pairs → Val
    keyword_map : Pairs → Val
    «module» : Pairs → List ℕ → Val
    function : ℕ → ℕ → Val
    namespace : ℕ → ℕ → Val
    loop_record : ℕ → ℕ → Val
    macro_record : ℕ → ℕ → Val

  -- values in order
  pub data Vals : Type 0 where
    no_vals : Vals
    vals_more : Val → Vals → Vals

  -- keys with their values, in order
  pub data Pairs : Type 0 where
    no_pairs : Pairs
    pairs_more : Val → Val → Pairs → Pairs

-- a list of values as `Vals`, and back
abbrev pub vals_of : List Val → Vals
vals_of [] = no_vals
vals_of (v ∷ vs) = vals_more v (vals_of vs)

abbrev pub items_of : Vals → List Val
items_of no_vals = []
items_of (vals_more v vs) = v ∷ items_of vs
