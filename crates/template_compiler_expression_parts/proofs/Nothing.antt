-- What stands next, where a sign does not.
use Rattle.std.proofs.Common.{◌≡◌, Bool, true, false, if◌then◌else◌, List, [], ◌∷◌, Result, Ok, Err, refl, sym, subst, ap}
use Rattle.template_compiler_tree.specs.Tree.{item, positional}
use Rattle.template_compiler_tree.specs.NodePlaces.{parts_more, one}
use Rattle.template_compiler_tokens.specs.Token.{Token, TokenFault, symbol, identifier, mul, pow, comma, colon, assign, bracket_open, bracket_close, paren_open, paren_close, brace_open, brace_close}
use Rattle.template_compiler_tokens.specs.Steps.{Read, fault, and_then, goes, fails}
use Rattle.template_compiler_grammar.specs.ReaderParts.{paren_end, bracket_end, brace_end, colon_end, begins_closing, separated}
use Rattle.template_compiler_tree.specs.declared.span.Span.{Span}
use Rattle.template_compiler_grammar.specs.Nodes.{placed, Node, node, no_node, given_node, PlacedArguments, no_placed_arguments, PlacedWritten}
use Rattle.template_compiler_grammar.specs.Reader.{Deeper, nothing_deeper, few_arguments, primary_by, optional_arguments_by, paren_behind, paren_by, step_by, item_by, subscript_behind, named_argument, argument_by, through_next}
use Rattle.template_compiler_stream.specs.declared.refusal.Refusal.{Refusal}
use Rattle.template_compiler_stream.specs.Signs.{begins_symbol}
use Rattle.template_compiler_stream.specs.Skips.{begins_keyword}
use Rattle.template_compiler_expression_parts.specs.Parsed.{ParsedAs, unnamed_by}

-- ends
pub no_paren : {A : Type 0} (a : A) (ts : List Token) → begins_symbol paren_close ts ≡ false → paren_end a ts ≡ Err (fault ts)
unfolding paren_end
no_paren a [] e = refl
no_paren a (symbol paren_close ∷ ts) e = cc
no_paren a (t ∷ ts) e = refl

pub no_bracket : {A : Type 0} (a : A) (ts : List Token) → begins_symbol bracket_close ts ≡ false → bracket_end a ts ≡ Err (fault ts)
unfolding bracket_end
no_bracket a [] e = refl
no_bracket a (symbol bracket_close ∷ ts) e = cc
no_bracket a (t ∷ ts) e = refl

pub no_brace : {A : Type 0} (a : A) (ts : List Token) → begins_symbol brace_close ts ≡ false → brace_end a ts ≡ Err (fault ts)
unfolding brace_end
no_brace a [] e = refl
no_brace a (symbol brace_close ∷ ts) e = cc
no_brace a (t ∷ ts) e = refl

pub no_colon : {A : Type 0} (a : A) (ts : List Token) → begins_symbol colon ts ≡ false → colon_end a ts ≡ Err (fault ts)
unfolding colon_end
no_colon a [] e = refl
no_colon a (symbol colon ∷ ts) e = cc
no_colon a (t ∷ ts) e = refl

pub no_comma : {A : Type 0} (a : A) (ts : List Token) → begins_symbol comma ts ≡ false →
    separated a ts ≡ (if begins_closing ts then goes a ts else fails (fault ts))
unfolding separated
no_comma a [] e = refl
no_comma a (symbol comma ∷ ts) e = cc
no_comma a (t ∷ ts) e = refl

-- what separates items, whatever they are
closing_goes : {A : Type 0} (a : A) (b : Bool) (f : TokenFault) (ts us : List Token) →
    (if b then goes true ts else fails f) ≡ goes true us → (if b then goes a ts else fails f) ≡ goes a us
closing_goes a true f ts us e = let same : ts ≡ us = cc in ap (λ us. goes a us) same
closing_goes a false f ts us e = cc

closing_fails : {A : Type 0} (a : A) (b : Bool) (f g : TokenFault) (ts : List Token) →
    (if b then goes true ts else fails f) ≡ fails g → (if b then goes a ts else fails f) ≡ fails g
closing_fails a true f g ts e = cc
closing_fails a false f g ts e = let same : f ≡ g = cc in ap (λ f. fails f) same

pub separated_goes : {A : Type 0} (a : A) (ts us : List Token) → separated true ts ≡ goes true us → separated a ts ≡ goes a us
unfolding separated
separated_goes a [] us e = cc
separated_goes a (symbol comma ∷ ts) us e = let same : ts ≡ us = cc in ap (λ us. goes a us) same
separated_goes a (t ∷ ts) us e = closing_goes a (begins_closing (t ∷ ts)) (fault (t ∷ ts)) (t ∷ ts) us e

pub separated_fails : {A : Type 0} (a : A) (ts : List Token) (f : TokenFault) → separated true ts ≡ fails f → separated a ts ≡ fails f
unfolding separated
separated_fails a [] f e = let same : fault [] ≡ f = cc in ap (λ f. fails f) same
separated_fails a (symbol comma ∷ ts) f e = cc
separated_fails a (t ∷ ts) f e = closing_fails a (begins_closing (t ∷ ts)) (fault (t ∷ ts)) f (t ∷ ts) e

-- arguments
pub no_arguments_list : (spans : List Span) (r : Deeper) (ts : List Token) → begins_symbol paren_open ts ≡ false →
    optional_arguments_by spans r ts ≡ Ok (no_placed_arguments, ts)
unfolding optional_arguments_by
no_arguments_list spans r [] e = refl
no_arguments_list spans r (symbol paren_open ∷ ts) e = cc
no_arguments_list spans r (t ∷ ts) e = refl

module _ (spans : List Span) (read : List Token → Read Node) where
  pub not_named : (ts : List Token) → begins_keyword ts ≡ false → argument_by spans read ts ≡ unnamed_by read ts
  unfolding argument_by named_argument unnamed_by
  not_named [] e = refl
  not_named (identifier n ∷ []) e = refl
  not_named (identifier n ∷ symbol assign ∷ ts) e = cc
  not_named (identifier n ∷ t ∷ ts) e = refl
  not_named (t ∷ ts) e = refl

  pub no_spread : (ts : List Token) → begins_symbol mul ts ≡ false → begins_symbol pow ts ≡ false →
      unnamed_by read ts ≡ and_then (read ts) (λ e us. Ok (placed (positional e.tree) e.places, us))
  unfolding unnamed_by
  no_spread [] e f = refl
  no_spread (symbol mul ∷ ts) e f = cc
  no_spread (symbol pow ∷ ts) e f = cc
  no_spread (t ∷ ts) e f = refl

  -- subscripts
  pub a_key : (start : Span) (a key : Node) (ts : List Token) → begins_symbol colon ts ≡ false →
      subscript_behind spans read start a (given_node key) ts ≡
      bracket_end (node (item a.tree key.tree) (through_next spans start ts) (parts_more a.places (one key.places))) ts
  unfolding subscript_behind item_by
  a_key start a key [] e = refl
  a_key start a key (symbol colon ∷ ts) e = cc
  a_key start a key (t ∷ ts) e = refl

  pub no_key : (start : Span) (a : Node) (ts : List Token) → begins_symbol colon ts ≡ false →
      subscript_behind spans read start a no_node ts ≡ Err (fault ts)
  unfolding subscript_behind item_by
  no_key start a [] e = refl
  no_key start a (symbol colon ∷ ts) e = cc
  no_key start a (t ∷ ts) e = refl

  pub no_step : (ts : List Token) → begins_symbol colon ts ≡ false → step_by spans read ts ≡ Ok (no_node, ts)
  unfolding step_by
  no_step [] e = refl
  no_step (symbol colon ∷ ts) e = cc
  no_step (t ∷ ts) e = refl

  pub not_empty : (start : Span) (ts : List Token) → begins_symbol paren_close ts ≡ false →
      paren_by spans read start ts ≡ and_then (read ts) (paren_behind spans read start)
  unfolding paren_by
  not_empty start [] e = refl
  not_empty start (symbol paren_close ∷ ts) e = cc
  not_empty start (t ∷ ts) e = refl

  pub no_tuple : (start : Span) (e : Node) (ts : List Token) → begins_symbol comma ts ≡ false →
      paren_behind spans read start e ts ≡ paren_end e ts
  unfolding paren_behind
  no_tuple start e [] f = refl
  no_tuple start e (symbol comma ∷ ts) f = cc
  no_tuple start e (t ∷ ts) f = refl

-- primaries
pub no_bracket_opens : (spans : List Span) (r : Deeper) (ts : List Token) → begins_symbol paren_open ts ≡ false →
    begins_symbol bracket_open ts ≡ false → begins_symbol brace_open ts ≡ false →
    primary_by spans r ts ≡ primary_by spans nothing_deeper ts
unfolding primary_by
no_bracket_opens spans r [] e f g = refl
no_bracket_opens spans r (symbol paren_open ∷ ts) e f g = cc
no_bracket_opens spans r (symbol bracket_open ∷ ts) e f g = cc
no_bracket_opens spans r (symbol brace_open ∷ ts) e f g = cc
no_bracket_opens spans r (t ∷ ts) e f g = refl

-- behind the arguments
pub order_at : {B : Type 0} (view : B → PlacedArguments) (spans : List Span) (w : PlacedWritten) (old new : List Token)
    (r : Result B Refusal) → old ≡ symbol paren_close ∷ new → ParsedAs view (few_arguments spans w new) new r →
    ParsedAs view (and_then (paren_end w old) (few_arguments spans)) new r
unfolding and_then paren_end
order_at view spans w old new r e h = subst (λ ts. ParsedAs view (and_then (paren_end w ts) (few_arguments spans)) new r) (sym e) h
