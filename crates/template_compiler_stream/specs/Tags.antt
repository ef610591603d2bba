-- What stands next in a stream beside signs and words: the marks of segments, and texts between them.
use Rattle.std.specs.Prelude.{ℕ, Bool, true, false, List, [], ◌∷◌, Option, None, Some}
use Rattle.template_compiler_tokens.specs.Token as token
use Rattle.template_compiler_tokens.specs.Token.{template_data, variable_start, variable_end, block_start, block_end}

-- the starts and ends of segments
abbrev pub is_variable_start : token.Token → Bool
is_variable_start variable_start = true
is_variable_start _ = false

abbrev pub begins_variable_start : List token.Token → Bool
begins_variable_start [] = false
begins_variable_start (t ∷ ts) = is_variable_start t

abbrev pub is_variable_end : token.Token → Bool
is_variable_end variable_end = true
is_variable_end _ = false

abbrev pub begins_variable_end : List token.Token → Bool
begins_variable_end [] = false
begins_variable_end (t ∷ ts) = is_variable_end t

abbrev pub is_block_start : token.Token → Bool
is_block_start block_start = true
is_block_start _ = false

abbrev pub begins_block_start : List token.Token → Bool
begins_block_start [] = false
begins_block_start (t ∷ ts) = is_block_start t

abbrev pub is_block_end : token.Token → Bool
is_block_end block_end = true
is_block_end _ = false

abbrev pub begins_block_end : List token.Token → Bool
begins_block_end [] = false
begins_block_end (t ∷ ts) = is_block_end t

-- the text between segments that a token is
abbrev pub text_in : token.Token → Option (List ℕ)
text_in (template_data s) = Some s
text_in _ = None

abbrev pub next_text : List token.Token → Option (List ℕ)
next_text [] = None
next_text (t ∷ ts) = text_in t

-- none is left
abbrev pub is_done : List token.Token → Bool
is_done [] = true
is_done (t ∷ ts) = false
