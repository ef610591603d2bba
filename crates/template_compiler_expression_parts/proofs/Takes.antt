-- Each part of a name or a text takes a token at least.
use Rattle.std.proofs.Common.{◌≡◌, ◌<◌, ℕ, List, ◌∷◌, length, ap, arith}
use Rattle.template_compiler_tokens.specs.Token.{Token, symbol, identifier, string, dot}
use Rattle.template_compiler_tokens.specs.Steps.{goes}
use Rattle.template_compiler_grammar.specs.ReaderParts.{dotted_step, text_step}

pub dotted_takes : (n m : List ℕ) (ts us : List Token) → dotted_step n ts ≡ goes m us → length us < length ts
unfolding dotted_step
dotted_takes n m (symbol dot ∷ identifier part ∷ ts) us e = let same : ts ≡ us = cc in let l = ap length same in omega arith
dotted_takes n m _ us e = cc

pub text_takes : (s t : List ℕ) (ts us : List Token) → text_step s ts ≡ goes t us → length us < length ts
unfolding text_step
text_takes s t (string part ∷ ts) us e = let same : ts ≡ us = cc in let l = ap length same in omega arith
text_takes s t _ us e = cc
