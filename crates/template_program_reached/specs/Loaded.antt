-- The names that a source loads templates by.
use Rattle.std.specs.Prelude.{ℕ, Bool, ◌||◌, if◌then◌else◌, codes, bytes_eq, List, [], ◌∷◌, ◌++◌}
use Rattle.std.specs.List.{Contains}
use Rattle.template_compiler_tokens.specs.Token.{Token, block_start, block_end, identifier, string}
use Rattle.template_compiler_syntax.specs.Syntax.{Syntax}
use Rattle.template_compiler_syntax.specs.Flat.{IsTokens}

-- the words of the statements that load templates
abbrev pub is_loading_word : List ℕ → Bool
is_loading_word w =
    bytes_eq w (codes "include") || bytes_eq w (codes "import") || bytes_eq w (codes "from") || bytes_eq w (codes "extends")

-- where a reader of tokens stands
pub data Place : Type 0 where
  elsewhere : Place
  at_start : Place  -- behind the start of a block
  loading : Place  -- in a statement that loads templates
  naming : List ℕ → Place  -- in such a statement, behind a text literal; literals side by side are one text

abbrev pub behind_word : List ℕ → Place
behind_word w = if is_loading_word w then loading else elsewhere

abbrev pub behind_no_text : Token → Place
behind_no_text block_start = at_start
behind_no_text block_end = elsewhere
behind_no_text t = loading

-- where it stands behind one more token
abbrev pub after : Place → Token → Place
after elsewhere block_start = at_start
after elsewhere t = elsewhere
after at_start block_start = at_start
after at_start (identifier w) = behind_word w
after at_start t = elsewhere
after loading (string s) = naming s
after loading t = behind_no_text t
after (naming name) (string s) = naming (name ++ s)
after (naming name) t = behind_no_text t

-- the name that is whole at the end, if any
abbrev pub told : Place → List (List ℕ)
told (naming name) = name ∷ []
told place = []

-- the name that is whole before the token, if any
abbrev pub told_before : Place → Token → List (List ℕ)
told_before (naming name) (string s) = []
told_before place t = told place

-- the names in the tokens from a place on
abbrev pub names_from : Place → List Token → List (List ℕ)
names_from place [] = told place
names_from place (t ∷ ts) = told_before place t ++ names_from (after place t) ts

-- the source loads templates by these names, in this order
pub data IsLoading (x : Syntax) (source : List ℕ) : List (List ℕ) → Type 0 where
  loading_by : {tokens : List Token} → IsTokens x source tokens → IsLoading x source (names_from elsewhere tokens)

-- the source loads a template by the name
pub record IsLoaded (x : Syntax) (source name : List ℕ) : Type 0 where
  pub names : List (List ℕ)
  pub all : IsLoading x source names
  pub one : Contains names name
