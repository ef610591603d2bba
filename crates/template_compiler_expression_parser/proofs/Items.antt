-- Rounds of items, pairs and arguments, by what they read.
use Rattle.std.proofs.Common.{◌≡◌, true, false, if◌then◌else◌, List, Ok, sym, ap, ◌∙◌}
use Rattle.template_compiler_tree.specs.declared.span.Span.{Span}
use Rattle.template_compiler_tokens.specs.Token.{Token}
use Rattle.template_compiler_tokens.specs.Steps.{Read, and_then, Step, goes, stops, under}
use Rattle.template_compiler_grammar.specs.ReaderParts.{begins_closing, colon_end, separated, unless_closing}
use Rattle.template_compiler_grammar.specs.Nodes.{Node, Nodes, and_node, PlacedPairs, and_placed_pair, PlacedArgument, PlacedWritten, and_placed_written}
use Rattle.template_compiler_grammar.specs.Reader.{argument_by, arguments_step, items_step, pairs_step}
use Rattle.template_compiler_stream.specs.declared.refusal.Refusal.{Refusal}
use Rattle.template_compiler_stream.specs.declared.refusal.Refusal.TheVariants as refusals
use Rattle.template_compiler_stream.specs.Refusals.{Refused, fault_of}
use Rattle.template_compiler_expression_parts.specs.Parsed.{RefusedStep}
use Rattle.template_compiler_expression_parts.proofs.Nothing.{separated_goes, separated_fails}

-- a closing bracket stands next, or none does
pub closing_stops : {A : Type 0} (s : Step A) (ts : List Token) → begins_closing ts ≡ true → unless_closing s ts ≡ stops
unfolding unless_closing
closing_stops s ts e = ap (λ b. if b then stops else s) e

opened : {A : Type 0} (s : Step A) (ts : List Token) → begins_closing ts ≡ false → unless_closing s ts ≡ s
unfolding unless_closing
opened s ts e = ap (λ b. if b then stops else s) e

-- what is read, and what goes on with it
under_at : {A B : Type 0} (m : Read A) (go : A → List Token → Step B) (a : A) (us : List Token) → m ≡ Ok (a, us) → under m go ≡ go a us
unfolding under
under_at m go a us e = ap (λ m. under m go) e

under_refused : {A B : Type 0} (m : Read A) (go : A → List Token → Step B) (e : Refusal) → Refused m e → RefusedStep (under m go) e
unfolding under
under_refused m go (refusals.Token f) h = ap (λ m. under m go) h
under_refused m go refusals.OutOfMemory h = tt

refused_at : {A : Type 0} (s whole : Step A) (e : Refusal) → whole ≡ s → RefusedStep s e → RefusedStep whole e
refused_at s whole (refusals.Token f) same h = same ∙ h
refused_at s whole refusals.OutOfMemory same h = tt

separated_refused : {A : Type 0} (a : A) (ts : List Token) (e : Refusal) → RefusedStep (separated true ts) e → RefusedStep (separated a ts) e
separated_refused a ts (refusals.Token f) h = separated_fails a ts (fault_of f) h
separated_refused a ts refusals.OutOfMemory h = tt

-- a round that reads one thing
module _ {A B : Type 0} (m : Read A) (make : A → B) (ts : List Token) (bare : begins_closing ts ≡ false) where
  round_goes : (a : A) (b : B) (mid us : List Token) → m ≡ Ok (a, mid) → b ≡ make a → separated true mid ≡ goes true us →
      unless_closing (under m (λ a vs. separated (make a) vs)) ts ≡ goes b us
  round_goes a b mid us read is done =
      opened (under m (λ a vs. separated (make a) vs)) ts bare ∙ under_at m (λ a vs. separated (make a) vs) a mid read ∙
      separated_goes (make a) mid us done ∙ ap (λ b. goes b us) (sym is)

  round_refused : (e : Refusal) → Refused m e → RefusedStep (unless_closing (under m (λ a vs. separated (make a) vs)) ts) e
  round_refused e h =
      refused_at (under m (λ a vs. separated (make a) vs)) _ e (opened (under m (λ a vs. separated (make a) vs)) ts bare)
      (under_refused m (λ a vs. separated (make a) vs) e h)

  round_unseparated : (a : A) (mid : List Token) (e : Refusal) → m ≡ Ok (a, mid) → RefusedStep (separated true mid) e →
      RefusedStep (unless_closing (under m (λ a vs. separated (make a) vs)) ts) e
  round_unseparated a mid e read h =
      refused_at (separated (make a) mid) _ e
      (opened (under m (λ a vs. separated (make a) vs)) ts bare ∙ under_at m (λ a vs. separated (make a) vs) a mid read)
      (separated_refused (make a) mid e h)

-- items
pub item_goes : (spans : List Span) (read : List Token → Read Node) (es fs : Nodes) (e : Node) (ts mid us : List Token) → begins_closing ts ≡ false →
    read ts ≡ Ok (e, mid) → fs ≡ and_node es e → separated true mid ≡ goes true us → items_step spans read es ts ≡ goes fs us
item_goes spans read es fs e ts mid us bare at is done = round_goes (read ts) (λ e. and_node es e) ts bare e fs mid us at is done

pub item_refused : (spans : List Span) (read : List Token → Read Node) (es : Nodes) (ts : List Token) (e : Refusal) → begins_closing ts ≡ false →
    Refused (read ts) e → RefusedStep (items_step spans read es ts) e
item_refused spans read es ts e bare h = round_refused (read ts) (λ e. and_node es e) ts bare e h

pub item_unseparated : (spans : List Span) (read : List Token → Read Node) (es : Nodes) (a : Node) (ts mid : List Token) (e : Refusal) →
    begins_closing ts ≡ false → read ts ≡ Ok (a, mid) → RefusedStep (separated true mid) e → RefusedStep (items_step spans read es ts) e
item_unseparated spans read es a ts mid e bare at h = round_unseparated (read ts) (λ e. and_node es e) ts bare a mid e at h

-- arguments
pub argument_goes : (spans : List Span) (read : List Token → Read Node) (w x : PlacedWritten) (a : PlacedArgument) (ts mid us : List Token) → begins_closing ts ≡ false →
    argument_by spans read ts ≡ Ok (a, mid) → x ≡ and_placed_written w a → separated true mid ≡ goes true us → arguments_step spans read w ts ≡ goes x us
argument_goes spans read w x a ts mid us bare at is done = round_goes (argument_by spans read ts) (λ a. and_placed_written w a) ts bare a x mid us at is done

pub argument_refused : (spans : List Span) (read : List Token → Read Node) (w : PlacedWritten) (ts : List Token) (e : Refusal) → begins_closing ts ≡ false →
    Refused (argument_by spans read ts) e → RefusedStep (arguments_step spans read w ts) e
argument_refused spans read w ts e bare h = round_refused (argument_by spans read ts) (λ a. and_placed_written w a) ts bare e h

pub argument_unseparated : (spans : List Span) (read : List Token → Read Node) (w : PlacedWritten) (a : PlacedArgument) (ts mid : List Token) (e : Refusal) →
    begins_closing ts ≡ false → argument_by spans read ts ≡ Ok (a, mid) → RefusedStep (separated true mid) e → RefusedStep (arguments_step spans read w ts) e
argument_unseparated spans read w a ts mid e bare at h = round_unseparated (argument_by spans read ts) (λ a. and_placed_written w a) ts bare a mid e at h

-- pairs
abbrev keyed : (List Token → Read Node) → PlacedPairs → Node → List Token → Step PlacedPairs
keyed read p k us = under (read us) (λ v vs. separated (and_placed_pair p k v) vs)

pub pair_goes : (spans : List Span) (read : List Token → Read Node) (p q : PlacedPairs) (k v : Node) (ts mid vs us : List Token) → begins_closing ts ≡ false →
    and_then (read ts) colon_end ≡ Ok (k, mid) → read mid ≡ Ok (v, vs) → q ≡ and_placed_pair p k v → separated true vs ≡ goes true us →
    pairs_step spans read p ts ≡ goes q us
pair_goes spans read p q k v ts mid vs us bare at behind is done =
    opened (under (and_then (read ts) colon_end) (keyed read p)) ts bare ∙ under_at (and_then (read ts) colon_end) (keyed read p) k mid at ∙
    under_at (read mid) (λ v vs. separated (and_placed_pair p k v) vs) v vs behind ∙ separated_goes (and_placed_pair p k v) vs us done ∙ ap (λ q. goes q us) (sym is)

pub key_refused : (spans : List Span) (read : List Token → Read Node) (p : PlacedPairs) (ts : List Token) (e : Refusal) → begins_closing ts ≡ false →
    Refused (and_then (read ts) colon_end) e → RefusedStep (pairs_step spans read p ts) e
key_refused spans read p ts e bare h =
    refused_at (under (and_then (read ts) colon_end) (keyed read p)) _ e (opened (under (and_then (read ts) colon_end) (keyed read p)) ts bare)
    (under_refused (and_then (read ts) colon_end) (keyed read p) e h)

pub value_refused : (spans : List Span) (read : List Token → Read Node) (p : PlacedPairs) (k : Node) (ts mid : List Token) (e : Refusal) → begins_closing ts ≡ false →
    and_then (read ts) colon_end ≡ Ok (k, mid) → Refused (read mid) e → RefusedStep (pairs_step spans read p ts) e
value_refused spans read p k ts mid e bare at h =
    refused_at (keyed read p k mid) _ e
    (opened (under (and_then (read ts) colon_end) (keyed read p)) ts bare ∙ under_at (and_then (read ts) colon_end) (keyed read p) k mid at)
    (under_refused (read mid) (λ v vs. separated (and_placed_pair p k v) vs) e h)

pub pair_unseparated : (spans : List Span) (read : List Token → Read Node) (p : PlacedPairs) (k v : Node) (ts mid vs : List Token) (e : Refusal) →
    begins_closing ts ≡ false → and_then (read ts) colon_end ≡ Ok (k, mid) → read mid ≡ Ok (v, vs) → RefusedStep (separated true vs) e →
    RefusedStep (pairs_step spans read p ts) e
pair_unseparated spans read p k v ts mid vs e bare at behind h =
    refused_at (separated (and_placed_pair p k v) vs) _ e
    (opened (under (and_then (read ts) colon_end) (keyed read p)) ts bare ∙ under_at (and_then (read ts) colon_end) (keyed read p) k mid at ∙
    under_at (read mid) (λ v vs. separated (and_placed_pair p k v) vs) v vs behind)
    (separated_refused (and_placed_pair p k v) vs e h)
