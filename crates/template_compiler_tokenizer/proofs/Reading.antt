-- What a reader reaches from a place in data on.
use Rattle.std.proofs.Common.{◌≡◌, ℕ, ◌≤◌, inl, List, [], ◌∷◌, ◌++◌, length, take, Result, Ok, Err, sym, ◌∙◌, ap, arith, append_assoc}
use Rattle.template_values_errors.specs.declared.ErrorKind.{ErrorKind}
use Rattle.template_values_errors.specs.declared.ErrorKind.TheVariants.{OutOfMemory}
use Rattle.template_compiler_tree.specs.declared.span.Span.{Span}
use Rattle.template_compiler_tokens.specs.SourcePlaces.{span_between}
use Rattle.template_compiler_tokens.specs.Stretches.{BeginsBy}
use Rattle.template_compiler_tokens.specs.declared.stretch.Stretch.{Stretch}
use Rattle.template_compiler_syntax.specs.Syntax.{Syntax}
use Rattle.template_compiler_tokens.specs.Token as spec
use Rattle.template_compiler_tokens.specs.declared.token.Token.{Token}
use Rattle.template_compiler_placed_tokens.specs.Left.{Placed, placed}
use Rattle.template_compiler_tokenizer.specs.Held.{spanned_of, HoldsRead, HoldsRefused}
use Rattle.template_compiler_tokenizer.specs.Reaches.{GoesOn, HoldsNext, HoldsUpTo, Reaches}
use Rattle.template_compiler_tokenizer.specs.Spans.{Spanned, spanned, spans_in}
use Rattle.template_compiler_tokenizer.specs.declared.reach.Reached.{Reached}
use Rattle.template_compiler_tokenizer.specs.declared.reach.Reached.TheVariants.{Inside, Data, Start, End, Refused}

module _ (s : List ℕ) (old held : List (Token × Span)) where
  -- a token that was put behind those that are held is the first that was left
  pub held_next : (t : spec.Token) (begin end : ℕ) (rest : List Placed) →
      spanned_of held ≡ spanned_of old ++ spanned t (span_between (take begin s) (take end s)) ∷ [] →
      HoldsRead s old (placed t begin end ∷ rest) held rest
  held_next t begin end rest e =
      let one : Spanned = spanned t (span_between (take begin s) (take end s)) in
      sym (append_assoc (spanned_of old) (one ∷ []) (spans_in s rest)) ∙ ap (λ ts. ts ++ spans_in s rest) (sym e)

  -- no token was
  pub none_held : (left : List Placed) (kind : ErrorKind) → held ≡ old → kind ≡ OutOfMemory → HoldsRefused s old left held kind
  none_held left kind e memory = (left, ap (λ ts. spanned_of ts ++ spans_in s left) (sym e), inl memory)

  -- the first of the tokens that are left was
  pub goes_on_behind : (left rest : List Placed) (t : spec.Token) (begin end next : ℕ) (stretch : Stretch) → left ≡ placed t begin end ∷ rest →
      ((rest : List Placed) → HoldsRead s old (placed t begin end ∷ rest) held rest) → BeginsBy s end stretch → end ≤ next →
      GoesOn s old left held rest next stretch
  goes_on_behind left rest t begin end next stretch e holds begins high = record {
    reads = ap (λ ps. spanned_of old ++ spans_in s ps) e ∙ holds rest;
    fewer = (let long = ap length e in omega arith);
    begins = (begins.0, (let low = begins.1 in omega arith));
  }

  pub holds_up_to : {A : Type 0} (left rest : List Placed) (t : spec.Token) (begin end next : ℕ) (stretch : Stretch) (r : Result A ErrorKind) →
      left ≡ placed t begin end ∷ rest → HoldsNext s old t begin end held r → BeginsBy s end stretch → end ≤ next →
      HoldsUpTo s old left held rest next stretch r
  holds_up_to left rest t begin end next stretch (Ok done) e holds begins high = goes_on_behind left rest t begin end next stretch e holds begins high
  holds_up_to left rest t begin end next stretch (Err kind) e none begins high = none_held left kind none.0 none.1

-- no token was read
pub goes_on_at_once : (s : List ℕ) (old : List (Token × Span)) (left rest : List Placed) (from next : ℕ) (stretch : Stretch) → left ≡ rest →
    BeginsBy s from stretch → from ≤ next → GoesOn s old left old rest next stretch
goes_on_at_once s old left rest from next stretch e begins high = record {
  reads = ap (λ ps. spanned_of old ++ spans_in s ps) e;
  fewer = (let long = ap length e in omega arith);
  begins = (begins.0, (let low = begins.1 in omega arith));
}

-- behind tokens that were read before
module _ (x : Syntax) (s : List ℕ) (old mid held : List (Token × Span)) (left middle : List Placed) where
  goes_on_from : (place next : ℕ) (before stretch : Stretch) (rest : List Placed) → GoesOn s old left mid middle place before →
      GoesOn s mid middle held rest next stretch → GoesOn s old left held rest next stretch
  goes_on_from place next before stretch rest first then = record {
    reads = first.reads ∙ then.reads;
    fewer = (let a = first.fewer in let b = then.fewer in omega arith);
    begins = then.begins;
  }

  pub refused_behind : (kind : ErrorKind) → HoldsRead s old left mid middle → HoldsRefused s mid middle held kind → HoldsRefused s old left held kind
  refused_behind kind first refused = (refused.0, first ∙ refused.1, refused.2)

  pub reached_behind : (from place next : ℕ) (before stretch : Stretch) (r : Reached) → from ≤ place → GoesOn s old left mid middle place before →
      Reaches x s mid place middle held next stretch r → Reaches x s old from left held next stretch r
  reached_behind from place next before stretch (Inside k) low first then =
      (goes_on_from place next before stretch _ first then.0, then.1, (let high = then.2 in omega arith))
  reached_behind from place next before stretch (Data k sign) low first then =
      (goes_on_from place next before stretch _ first then.0, then.1, (let high = then.2 in omega arith))
  reached_behind from place next before stretch (Start k) low first then =
      (goes_on_from place next before stretch _ first then.0, then.1, (let high = then.2 in omega arith), then.3)
  reached_behind from place next before stretch End low first then = first.reads ∙ then
  reached_behind from place next before stretch (Refused kind) low first then = refused_behind kind first.reads then
