-- The tokens of a template's text, as contracts see them: texts and names are lists of bytes, and a text literal
-- is the same whether it was copied to read its escapes or not.
use Rattle.std.specs.Prelude.{ℕ, List}

-- the signs and brackets
pub data Symbol : Type 0 where
  plus minus mul div floor_div pow modulo : Symbol  -- + - * / // ** %
  dot comma colon tilde assign pipe : Symbol  -- . , : ~ = |
  eq ne gt gte lt lte : Symbol  -- == != > >= < <=
  bracket_open bracket_close paren_open paren_close brace_open brace_close : Symbol

-- why a stretch of text is no token
pub data TokenFault : Type 0 where
  bad_syntax : TokenFault
  bad_escape : TokenFault  -- an escape in a text literal that is none
  float_literal : TokenFault  -- a number with a fraction or an exponent

pub data Token : Type 0 where
  template_data : List ℕ → Token  -- text between the segments
  variable_start : Token
  variable_end : Token
  block_start : Token
  block_end : Token
  identifier : List ℕ → Token
  string : List ℕ → Token
  number : ℕ → Token
  symbol : Symbol → Token
  bad : TokenFault → Token  -- what stands here is no token; nothing follows
