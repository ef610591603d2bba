-- The tokens of a text of tokens alone weigh one more than its bytes at most: the one that is none and ends them.
use Rattle.std.proofs.Common.{◌≤◌, ℕ, suc, List, length, arith, length-drop}
use Rattle.template_compiler_tokens.specs.Token.{Token}
use Rattle.template_compiler_tokens.specs.Lexical.{token_at}
use Rattle.template_compiler_laws.proofs.Weights.{weight, takes_weight}
use Rattle.template_compiler_sources.specs.Spelled.{IsSpelled, spelled_end, spelled_blank, spelled_token, spelled_bad}

pub spelled_bound : {s : List ℕ} {ts : List Token} → IsSpelled s ts → weight ts ≤ suc (length s)
spelled_bound spelled_end = omega arith
spelled_bound (spelled_blank white rest) = let l = spelled_bound rest in omega arith
spelled_bound (spelled_token {s = s} {t = t} n some black begins good rest) =
    let l = spelled_bound rest in let takes = takes_weight s 0 n t (token_at n begins (omega arith)) good in
    omega (arith, takes.0, takes.1, length-drop n s)
spelled_bound (spelled_bad some black begins) = omega arith
