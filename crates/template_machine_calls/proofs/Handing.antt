-- What a call hands over, and what a macro takes of it.
use Rattle.std.proofs.Common.{get_or, ◌≡◌, ◌⊎◌, inl, inr, ℕ, zero, suc, ◌<◌, ◌≤◌, Bool, true, false, ◌&&◌, not, if◌then◌else◌, List, [], ◌∷◌, ◌++◌, drop, length, reverse, Option, None, Some, Result, Ok, Err, refl, sym, ap, ◌∙◌, subst, arith}
use Rattle.std.proofs.lemmas.Bool.{ltb-true}
use Rattle.std.proofs.lemmas.List.{reverse-append}
use Rattle.std.proofs.lemmas.Option.{slice_get-get_or}
use Rattle.std.specs.Prelude.{codes, nat_lt, option_copied, slice_get, unwrap_or, IfErr, IfSome, IsErrAnd, MatchOption}
use Rattle.std.specs.Borrow.{Bor}
use Rattle.std.specs.List.{HoldsAt}
use Rattle.std.specs.Option.{option_map_or}
use Rattle.template_values_core.specs.Answers.{text_in}
use Rattle.template_values_errors.specs.declared.ErrorKind.{ErrorKind}
use Rattle.template_values_errors.specs.declared.ErrorKind.TheVariants.{TooManyArguments}
use Rattle.template_values_errors.specs.Memory.{NoMemory}
use Rattle.template_values_model.specs.Val.{Val, Pairs, no_pairs, pairs_more, undefined, silent_undefined, none, truth, int, text, safe_text, bytes, list, tuple, map, keyword_map, «module», function, namespace, loop_record, macro_record}
use Rattle.template_values_model.specs.Lookup.{entry_at}
use Rattle.template_machine_meaning.specs.Macros as macros
use Rattle.template_machine_meaning.specs.Macros.{Handed, arguments_given, bound, bound_by, caller_locals, first_place, handed_over, in_front, keyword_named, one_given, other_places, takes_keyword, takes_keywords}
use Rattle.template_machine_meaning.specs.World.{Macro}
use Rattle.template_machine_calls.specs.Binding.{AreKeywords, Binds, behind_first, first_is_keywords, is_keywords, keyword_in, keywords_in, locals_of, locals_with, parted, takes_each}
use Rattle.template_machine_calls.specs.declared.binding.Bound.{Bound}

-- what is handed over, of its two parts
abbrev handed_in : List Val × Option Val → Handed
handed_in p = record { places = p.0; keywords = keywords_in p.1 }

front_of : (v u : Val) (vs : List Val) → handed_over (v ∷ u ∷ vs) ≡ in_front v (handed_over (u ∷ vs))
front_of undefined u vs = refl
front_of silent_undefined u vs = refl
front_of none u vs = refl
front_of (truth b) u vs = refl
front_of (int i) u vs = refl
front_of (text s) u vs = refl
front_of (safe_text s) u vs = refl
front_of (bytes s) u vs = refl
front_of (list us) u vs = refl
front_of (tuple us) u vs = refl
front_of (map ps) u vs = refl
front_of (keyword_map ps) u vs = refl
front_of («module» ps s) u vs = refl
front_of (function id n) u vs = refl
front_of (namespace id n) u vs = refl
front_of (loop_record id n) u vs = refl
front_of (macro_record id n) u vs = refl

-- one value alone
abbrev alone_parted : Val → Bool → List Val × Option Val
alone_parted v b = if b then ([], Some v) else (v ∷ [], None)

alone_of : (v : Val) → handed_over (v ∷ []) ≡ handed_in (alone_parted v (is_keywords v))
alone_of undefined = refl
alone_of silent_undefined = refl
alone_of none = refl
alone_of (truth b) = refl
alone_of (int i) = refl
alone_of (text s) = refl
alone_of (safe_text s) = refl
alone_of (bytes s) = refl
alone_of (list us) = refl
alone_of (tuple us) = refl
alone_of (map ps) = refl
alone_of (keyword_map ps) = refl
alone_of («module» ps s) = refl
alone_of (function id n) = refl
alone_of (namespace id n) = refl
alone_of (loop_record id n) = refl
alone_of (macro_record id n) = refl

pub handed_parted : (vs : List Val) → handed_over vs ≡ handed_in (parted vs)
handed_parted [] = refl
handed_parted (v ∷ []) = alone_of v
handed_parted (v ∷ u ∷ vs) = front_of v u vs ∙ ap (in_front v) (handed_parted (u ∷ vs))

-- the last of them is a keyword map
abbrev pub ends_in_keywords : List Val → Bool
ends_in_keywords [] = false
ends_in_keywords (v ∷ []) = is_keywords v
ends_in_keywords (v ∷ u ∷ vs) = ends_in_keywords (u ∷ vs)

first_front : (xs ys : List Val) (u : Val) → first_is_keywords ((xs ++ u ∷ []) ++ ys) ≡ first_is_keywords (xs ++ u ∷ [])
first_front [] ys u = refl
first_front (x ∷ xs) ys u = refl

ends_as : (vs : List Val) → first_is_keywords (reverse vs) ≡ ends_in_keywords vs
ends_as [] = refl
ends_as (v ∷ []) = refl
ends_as (v ∷ u ∷ vs) =
    ap first_is_keywords (reverse-append (v ∷ []) (u ∷ vs)) ∙ ap (λ (xs : List Val). first_is_keywords (xs ++ v ∷ [])) (reverse-append (u ∷ []) vs)
    ∙ first_front (reverse vs) (v ∷ []) u ∙ ap first_is_keywords (sym (reverse-append (u ∷ []) vs)) ∙ ends_as (u ∷ vs)

pub ends_told : (vs same : List Val) (told b : Bool) → same ≡ vs → told ≡ first_is_keywords (reverse same) → told ≡ b → ends_in_keywords vs ≡ b
ends_told vs same told b is tells so = sym (ends_as vs) ∙ ap (λ (us : List Val). first_is_keywords (reverse us)) (sym is) ∙ sym tells ∙ so

-- its two parts, as they are taken
pub parted_none : (vs : List Val) → ends_in_keywords vs ≡ false → parted vs ≡ (vs, None)
parted_none [] other = refl
parted_none (v ∷ []) other = ap (alone_parted v) other
parted_none (v ∷ u ∷ vs) other = ap (behind_first v) (parted_none (u ∷ vs) other)

parted_behind : (init : List Val) (last : Val) → ends_in_keywords (init ++ last ∷ []) ≡ true → parted (init ++ last ∷ []) ≡ (init, Some last)
parted_behind [] last is = ap (alone_parted last) is
parted_behind (v ∷ []) last is = ap (behind_first v) (parted_behind [] last is)
parted_behind (v ∷ u ∷ init) last is = ap (behind_first v) (parted_behind (u ∷ init) last is)

pub parted_some : (vs init : List Val) (last : Val) → vs ≡ init ++ last ∷ [] → ends_in_keywords vs ≡ true → parted vs ≡ (init, Some last)
parted_some vs init last is ends =
    ap parted is ∙ parted_behind init last (subst (λ (us : List Val). ends_in_keywords us ≡ true) is ends)

-- the keywords are a keyword map, if there are any
alone_keywords : (v : Val) (b : Bool) → is_keywords v ≡ b → AreKeywords (alone_parted v b).1
alone_keywords v true is = is
alone_keywords v false is = tt

pub parted_keywords : (vs : List Val) → AreKeywords (parted vs).1
parted_keywords [] = tt
parted_keywords (v ∷ []) = alone_keywords v (is_keywords v) refl
parted_keywords (v ∷ u ∷ vs) = parted_keywords (u ∷ vs)

pub none_ends : (vs : List Val) → length vs ≡ 0 → ends_in_keywords vs ≡ true → ⊥
none_ends [] empty ends = let no : false ≡ true = ends in absurd (cc)
none_ends (v ∷ vs) empty ends = absurd (omega (arith, empty))

-- what stands under a name among them
keyword_alone : (name : List ℕ) (v : Val) → is_keywords v ≡ true → keyword_in name (Some v) ≡ entry_at name (keywords_in (Some v))
keyword_alone name undefined is = absurd (cc)
keyword_alone name silent_undefined is = absurd (cc)
keyword_alone name none is = absurd (cc)
keyword_alone name (truth b) is = absurd (cc)
keyword_alone name (int i) is = absurd (cc)
keyword_alone name (text s) is = absurd (cc)
keyword_alone name (safe_text s) is = absurd (cc)
keyword_alone name (bytes s) is = absurd (cc)
keyword_alone name (list us) is = absurd (cc)
keyword_alone name (tuple us) is = absurd (cc)
keyword_alone name (map ps) is = absurd (cc)
keyword_alone name (keyword_map ps) is = refl
keyword_alone name («module» ps s) is = absurd (cc)
keyword_alone name (function id n) is = absurd (cc)
keyword_alone name (namespace id n) is = absurd (cc)
keyword_alone name (loop_record id n) is = absurd (cc)
keyword_alone name (macro_record id n) is = absurd (cc)

pub keyword_at : (name : List ℕ) (keywords : Option Val) → AreKeywords keywords → keyword_in name keywords ≡ entry_at name (keywords_in keywords)
keyword_at name None are = refl
keyword_at name (Some v) are = keyword_alone name v are

-- an argument, and those behind it
next_given : (name v : Val) (names vs : List Val) (keywords : Pairs) (found : List Val) → one_given (first_place vs) (keyword_named keywords name) ≡ Some v
    → arguments_given (name ∷ names) vs keywords found ≡ arguments_given names (other_places vs) keywords (v ∷ found)
next_given name v names vs keywords found is =
    ap (λ (o : Option Val). elim o [ None ↦ None | Some u ↦ arguments_given names (other_places vs) keywords (u ∷ found) ]) is

given_twice : (name : Val) (names vs : List Val) (keywords : Pairs) (found : List Val) → one_given (first_place vs) (keyword_named keywords name) ≡ None
    → arguments_given (name ∷ names) vs keywords found ≡ None
given_twice name names vs keywords found is =
    ap (λ (o : Option Val). elim o [ None ↦ None | Some u ↦ arguments_given names (other_places vs) keywords (u ∷ found) ]) is

-- more places than names
many_behind : (names vs : List Val) (keywords : Pairs) (found : List Val) (given : Option Val) → ((u : Val) → arguments_given names vs keywords (u ∷ found) ≡ None)
    → ◌≡◌ {A = Option (List Val)} (elim given [ None ↦ None | Some u ↦ arguments_given names vs keywords (u ∷ found) ]) None
many_behind names vs keywords found None others = refl
many_behind names vs keywords found (Some u) others = others u

pub too_many : (names vs : List Val) (keywords : Pairs) (found : List Val) → length names < length vs → arguments_given names vs keywords found ≡ None
too_many [] [] keywords found more = absurd (omega (arith, more))
too_many [] (v ∷ vs) keywords found more = refl
too_many (name ∷ names) [] keywords found more = absurd (omega (arith, more))
too_many (name ∷ names) (v ∷ vs) keywords found more =
    many_behind names vs keywords found (one_given (Some v) (keyword_named keywords name)) (λ u. too_many names vs keywords (u ∷ found) (omega (arith, more)))

-- so far, of arguments that were found
module _ (names vs : List Val) (keywords : Pairs) where
  abbrev pub SoFar : ℕ → List Val → Type 0
  SoFar i found = arguments_given names vs keywords [] ≡ arguments_given (drop i names) (drop i vs) keywords (reverse found)

  pub one_more : (i : ℕ) (name v : Val) (found more : List Val) → SoFar i found → drop i names ≡ name ∷ drop (suc i) names
      → other_places (drop i vs) ≡ drop (suc i) vs → one_given (first_place (drop i vs)) (keyword_named keywords name) ≡ Some v → more ≡ found ++ v ∷ [] → SoFar (suc i) more
  one_more i name v found more so_far here behind given is =
      so_far ∙ ap (λ (xs : List Val). arguments_given xs (drop i vs) keywords (reverse found)) here
      ∙ next_given name v (drop (suc i) names) (drop i vs) keywords (reverse found) given
      ∙ ap (λ (xs : List Val). arguments_given (drop (suc i) names) xs keywords (v ∷ reverse found)) behind
      ∙ ap (arguments_given (drop (suc i) names) (drop (suc i) vs) keywords) (sym (ap reverse is ∙ reverse-append found (v ∷ [])))

  pub one_twice : (i : ℕ) (name : Val) (found : List Val) → SoFar i found → drop i names ≡ name ∷ drop (suc i) names
      → one_given (first_place (drop i vs)) (keyword_named keywords name) ≡ None → arguments_given names vs keywords [] ≡ None
  one_twice i name found so_far here given =
      so_far ∙ ap (λ (xs : List Val). arguments_given xs (drop i vs) keywords (reverse found)) here
      ∙ given_twice name (drop (suc i) names) (drop i vs) keywords (reverse found) given

  pub all_given : (i : ℕ) (found : List Val) → SoFar i found → drop i names ≡ [] → drop i vs ≡ [] → arguments_given names vs keywords [] ≡ Some (reverse found)
  all_given i found so_far over others =
      so_far ∙ ap (λ (xs : List Val). arguments_given xs (drop i vs) keywords (reverse found)) over
      ∙ ap (λ (xs : List Val). arguments_given [] xs keywords (reverse found)) others

-- no place is left
pub all_behind : (i : ℕ) (vs : List Val) → length vs ≤ i → drop i vs ≡ []
all_behind zero [] past = refl
all_behind zero (v ∷ vs) past = absurd (omega (arith, past))
all_behind (suc i) [] past = refl
all_behind (suc i) (v ∷ vs) past = all_behind i vs (omega (arith, past))

-- a value's place among places
pub at_place : (i : ℕ) (vs : List Val) → slice_get vs i ≡ first_place (drop i vs)
at_place zero [] = refl
at_place zero (v ∷ vs) = refl
at_place (suc i) [] = refl
at_place (suc i) (v ∷ vs) = at_place i vs

-- so is what is got of it
pub got_place : (got : Option (Bor Val)) (i : ℕ) (vs : List Val)
    → MatchOption got (length vs ≤ i) (λ (x : Bor Val). (i < length vs) × HoldsAt {X = Val} (λ y. x.now ≡ y) vs i)
    → IfSome got (λ (x : Bor Val). x.now ≡ get_or vs i x.now) → option_copied got ≡ first_place (drop i vs)
got_place None i vs past is = ap first_place (sym (all_behind i vs past))
got_place (Some x) i vs there is = ap Some is ∙ sym (slice_get-get_or vs i x.now there.0) ∙ at_place i vs

pub behind_place : (i : ℕ) (vs : List Val) → other_places (drop i vs) ≡ drop (suc i) vs
behind_place zero [] = refl
behind_place zero (v ∷ vs) = refl
behind_place (suc i) [] = refl
behind_place (suc i) (v ∷ vs) = behind_place i vs

-- keywords that are taken
taken_by : (m : Macro) (keywords : Pairs) → takes_keywords m keywords ≡ takes_each m.arguments m.caller keywords
taken_by m no_pairs = refl
taken_by m (pairs_more key v keywords) = ap (λ b. option_map_or (takes_keyword m) (text_in key) true && b) (taken_by m keywords)

pub taken_so : (m : Macro) (names : List Val) (takes : Bool) (keywords : Pairs) (told b : Bool) → m.arguments ≡ names → m.caller ≡ takes
    → told ≡ takes_each names takes keywords → told ≡ b → takes_keywords m keywords ≡ b
taken_so m names takes keywords told b is caller tells so =
    taken_by m keywords ∙ (λ i. takes_each (is i) (caller i) keywords) ∙ sym tells ∙ so

-- what is bound is this, or the call is refused
module _ (m : Macro) (args places : List Val) (keywords : Option Val) (parts : parted args ≡ (places, keywords)) where
  handed_so : bound m (handed_over args) ≡ bound_by m (keywords_in keywords) (arguments_given m.arguments places (keywords_in keywords) [])
  handed_so = ap (bound m) (handed_parted args ∙ ap handed_in parts)

  pub refused_none : arguments_given m.arguments places (keywords_in keywords) [] ≡ None → bound m (handed_over args) ≡ Err TooManyArguments
  refused_none refuses = handed_so ∙ ap (bound_by m (keywords_in keywords)) refuses

  refused_by : (given : Option (List Val)) → takes_keywords m (keywords_in keywords) ≡ false → bound_by m (keywords_in keywords) given ≡ Err TooManyArguments
  refused_by None others = refl
  refused_by (Some vs) others =
      ap (λ b. if b then Ok (record { arguments = vs; locals = caller_locals m.caller (keywords_in keywords) }) else Err TooManyArguments) others

  pub refused_others : takes_keywords m (keywords_in keywords) ≡ false → bound m (handed_over args) ≡ Err TooManyArguments
  refused_others others = handed_so ∙ refused_by (arguments_given m.arguments places (keywords_in keywords) []) others

  pub bound_so : (vs : List Val) → arguments_given m.arguments places (keywords_in keywords) [] ≡ Some vs → takes_keywords m (keywords_in keywords) ≡ true
      → bound m (handed_over args) ≡ Ok (record { arguments = vs; locals = caller_locals m.caller (keywords_in keywords) })
  bound_so vs given taken =
      handed_so ∙ ap (bound_by m (keywords_in keywords)) given
      ∙ ap (λ b. if b then Ok (record { arguments = vs; locals = caller_locals m.caller (keywords_in keywords) }) else Err TooManyArguments) taken

pub binds_so : (r : Result macros.Bound ErrorKind) (b : macros.Bound) (made : Bound) → r ≡ Ok b → b.arguments ≡ reverse made.arguments.items → b.locals ≡ locals_of made
    → Binds r (Ok made)
binds_so r b made is arguments locals = subst (λ (q : Result macros.Bound ErrorKind). Binds q (Ok made)) (sym is) (arguments, locals)

abbrev pub IsRefused : Result macros.Bound ErrorKind → List ErrorKind → Type 0
IsRefused r kinds = NoMemory kinds ⊎ ((kind : ErrorKind) × (r ≡ Err kind) × (kinds ≡ kind ∷ []))

pub binds_not : (r : Result macros.Bound ErrorKind) (result : Result Bound (List ErrorKind)) (kinds : List ErrorKind) → IsErrAnd result (λ ks. ks ≡ kinds)
    → IsRefused r kinds → Binds r result
binds_not r (Ok made) kinds is why = absurd is
binds_not (Ok b) (Err ks) kinds is why = subst (IsRefused (Ok b)) (sym is) why
binds_not (Err fault) (Err ks) kinds is why = subst (IsRefused (Err fault)) (sym is) why

-- what stands under `caller`
pub caller_some : (keywords : Option Val) (v : Val) → AreKeywords keywords → v ≡ unwrap_or (keyword_in (codes "caller") keywords) undefined
    → caller_locals true (keywords_in keywords) ≡ locals_with (Some v)
caller_some keywords v are is =
    ap (λ (u : Val). (codes "caller", u) ∷ []) (sym (is ∙ ap (λ o. unwrap_or o undefined) (keyword_at (codes "caller") keywords are)))

-- what refuses a call, by other names
not_less : (b : Bool) → not b ≡ false → b ≡ true
not_less true is = refl
not_less false is = absurd (cc)

pub too_many_known : (names places same all : List Val) (keywords : Pairs) → names ≡ all → same ≡ places → not (nat_lt (length all) (length same)) ≡ false
    → arguments_given names places keywords [] ≡ None
too_many_known names places same all keywords is taken unfit =
    too_many names places keywords []
    (subst (λ (ns : List Val). length ns < length places) (sym is)
    (subst (λ (vs : List Val). length all < length vs) taken (ltb-true (length all) (length same) (not_less (nat_lt (length all) (length same)) unfit))))

pub fault_of : (m : Macro) (args places same : List Val) (keywords : Option Val) (names : List Val) (kinds : List ErrorKind) → parted args ≡ (places, keywords)
    → m.arguments ≡ names → same ≡ places
    → NoMemory kinds ⊎ ((arguments_given names same (keywords_in keywords) [] ≡ None) × (kinds ≡ TooManyArguments ∷ []))
    → IsRefused (bound m (handed_over args)) kinds
fault_of m args places same keywords names kinds parts is taken (inl why) = inl why
fault_of m args places same keywords names kinds parts is taken (inr fault) =
    inr (
      TooManyArguments,
      refused_none m args places keywords parts
          ((λ i. arguments_given (is i) (sym taken i) (keywords_in keywords) []) ∙ fault.0),
      fault.1,
    )

-- what stands under the name that a value is
keyword_under : (name : Option (List ℕ)) (keywords : Option Val) → AreKeywords keywords
    → option_map_or (λ word. keyword_in word keywords) name None ≡ elim name [ None ↦ None | Some word ↦ entry_at word (keywords_in keywords) ]
keyword_under None keywords are = refl
keyword_under (Some word) keywords are = keyword_at word keywords are

given_as : (places : List Val) (keywords : Option Val) (i : ℕ) (name : Val) (place keyword : Option Val) → AreKeywords keywords
    → place ≡ first_place (drop i places) → keyword ≡ option_map_or (λ word. keyword_in word keywords) (text_in name) None
    → one_given place keyword ≡ one_given (first_place (drop i places)) (keyword_named (keywords_in keywords) name)
given_as places keywords i name place keyword are at under =
    λ j. one_given (at j) ((under ∙ keyword_under (text_in name) keywords are) j)

pub gives_more : (names places : List Val) (keywords : Option Val) (i next : ℕ) (name v : Val) (found more : List Val) (place keyword : Option Val) → AreKeywords keywords
    → next ≡ suc i → SoFar names places (keywords_in keywords) i found → drop i names ≡ name ∷ drop next names
    → place ≡ first_place (drop i places) → keyword ≡ option_map_or (λ word. keyword_in word keywords) (text_in name) None
    → one_given place keyword ≡ Some v → more ≡ found ++ v ∷ [] → SoFar names places (keywords_in keywords) next more
gives_more names places keywords i next name v found more place keyword are on so_far here at under given is =
    subst (λ n. SoFar names places (keywords_in keywords) n more) (sym on)
    (one_more names places (keywords_in keywords) i name v found more so_far (subst (λ n. drop i names ≡ name ∷ drop n names) on here) (behind_place i places)
    (sym (given_as places keywords i name place keyword are at under) ∙ given) is)

pub gives_not : (names places : List Val) (keywords : Option Val) (i next : ℕ) (name : Val) (found : List Val) (place keyword : Option Val) (kinds : List ErrorKind) → AreKeywords keywords
    → next ≡ suc i → SoFar names places (keywords_in keywords) i found → drop i names ≡ name ∷ drop next names
    → place ≡ first_place (drop i places) → keyword ≡ option_map_or (λ word. keyword_in word keywords) (text_in name) None
    → NoMemory kinds ⊎ ((one_given place keyword ≡ None) × (kinds ≡ TooManyArguments ∷ []))
    → NoMemory kinds ⊎ ((arguments_given names places (keywords_in keywords) [] ≡ None) × (kinds ≡ TooManyArguments ∷ []))
gives_not names places keywords i next name found place keyword kinds are on so_far here at under (inl why) = inl why
gives_not names places keywords i next name found place keyword kinds are on so_far here at under (inr twice) =
    inr (
      one_twice names places (keywords_in keywords) i name found so_far (subst (λ n. drop i names ≡ name ∷ drop n names) on here)
          (sym (given_as places keywords i name place keyword are at under) ∙ twice.0),
      twice.1,
    )

pub err_refuses : {X : Type 0} (P : List ErrorKind → Type 0) (result : Result X (List ErrorKind)) (kinds : List ErrorKind) → P kinds
    → IsErrAnd result (λ ks. ks ≡ kinds) → IfErr result P
err_refuses P (Ok x) kinds why is = tt
err_refuses P (Err ks) kinds why is = subst P (sym is) why
