-- What the getters of the matches read, by the rows.
use Rattle.std.proofs.Common.{◌≡◌, ◌∙◌, ◌⊎◌, OnOk, inl, inr, ℕ, Bool, true, false, List, [], ap, ap₂, codes, Bor, Option, None, Some, Result, Ok, Err, map, option_map, refl, subst, sym, unwrap_or, bytes_eq}
use Rattle.std.specs.Str.Parse.{ParsesBool, ParsesUnsigned}
use Rattle.std.proofs.lemmas.Slice.Eq.{bytes_eq-Decides}
use Rattle.std.specs.Bool.{one_answer}
use Rattle.clap.specs.Words.{IsAmong, Kinds, ReadsOne, Row, first_of, subcommand_name_of, subcommand_rows_of}
use Rattle.clap.specs.declared.error.kind.ErrorKind.{ErrorKind}
use Rattle.clap.specs.declared.error.kind.ErrorKind.TheVariants.{OutOfMemory}
use Rattle.clap.specs.declared.parser.matches.ArgMatches.{ArgMatches}
use Rattle.clap.specs.declared.parser.matches.ArgMatches.TheViews.{out-ArgMatches}
use Rattle.template_values_errors.specs.declared.modes.UndefinedBehavior.{UndefinedBehavior}
use Rattle.template_program_words.specs.declared.escapes.EscapeWord.{EscapeWord}
use Rattle.template_program_words.specs.Escapes.{escape_of}
use Rattle.template_program_words.specs.Floats.{floats_of}
use Rattle.template_program_words.specs.Modes.{mode_of}
use Rattle.template_program_words.specs.Reading.{ReadsNumber, is_set}
use Rattle.template_program_words.specs.Refusals.{IsWordsFault, IsUsage, LacksOneSign, LacksSign, NamesNone, RefusesFor, RefusesWords, RefusesDefinitions, RefusesRender}
use Rattle.template_program_words.specs.declared.faults.WordsFault.{WordsFault}
use Rattle.template_program_words.specs.declared.faults.WordsFault.TheVariants.{Memory, Help, Version, Usage, Definition}

-- no value is the empty list
pub values_read : (read : Option (Bor (List (Bor (List ℕ))))) (none : Bor (List (Bor (List ℕ)))) (rows : Option (List (List ℕ)))
    → none.now ≡ [] → option_map (λ s. map (λ v. v.now) s.now) read ≡ rows
    → map (λ v. v.now) (unwrap_or read none).now ≡ unwrap_or rows []
values_read None none rows empty same = ap (map (λ v. v.now)) empty ∙ ap (λ o. unwrap_or o []) same
values_read (Some s) none rows empty same = ap (λ o. unwrap_or o []) same

pub ReadsNumber-cases : (bits : ℕ) (text : Option (List ℕ)) (number : Option ℕ) → (text ≡ None → number ≡ None)
    → ((t : List ℕ) → text ≡ Some t → ReadsNumber bits (Some t) number) → ReadsNumber bits text number
ReadsNumber-cases bits None number none some = none refl
ReadsNumber-cases bits (Some t) number none some = some t refl

-- what `parse` gives
pub ReadsNumber-parsed : {E : Type 0} (bits : ℕ) (gives : List ℕ → Result ℕ E → Type 0)
    → ((t : List ℕ) (r : Result ℕ E) → gives t r → ParsesUnsigned bits 10 t r)
    → (t : List ℕ) (number : Option ℕ) → ReadsOne gives t number → ReadsNumber bits (Some t) number
ReadsNumber-parsed bits gives parses t (Some n) h = parses t (Ok n) h
ReadsNumber-parsed bits gives parses t None h = parses t (Err h.0) h.1

-- a flag, as `bool` reads its text
pub is_set-read : (E : Type 0) (text : Option (List ℕ)) (read : Option Bool) → (text ≡ None → read ≡ None)
    → ((t : List ℕ) → text ≡ Some t → ReadsOne {E = E} ParsesBool t read) → unwrap_or read false ≡ is_set text
is_set-read E None read none some = ap (λ o. unwrap_or o false) (none refl)
is_set-read E (Some t) (Some true) none some = ap (λ u. bytes_eq u (codes "true")) (sym (some t refl))
is_set-read E (Some t) (Some false) none some = ap (λ u. bytes_eq u (codes "true")) (sym (some t refl))
is_set-read E (Some t) None none some =
    one_answer false (bytes_eq t (codes "true")) ((λ is. cc), (λ is. absurd ((some t refl).1.0 is))) (bytes_eq-Decides t (codes "true"))

pub is_pair : (found : Option (List ℕ × List Row)) (name : List ℕ) (rows : List Row) → option_map (λ f. f.0) found ≡ Some name
    → option_map (λ f. f.1) found ≡ Some rows → found ≡ Some (name, rows)
is_pair None name rows first second = cc
is_pair (Some f) name rows first second =
    ap₂ (λ a b. Some (a, b)) (ap (λ o. unwrap_or o name) first) (ap (λ o. unwrap_or o rows) second)

option_map-map : {X : Type 0} (f : X → List ℕ × List Row) (o : Option X)
    → option_map (λ p. p.0) (option_map f o) ≡ option_map (λ x. (f x).0) o
option_map-map f None = refl
option_map-map f (Some x) = refl

-- the subcommand's name stands before its rows
pub name_of_rows : (m : ArgMatches) → option_map (λ f. f.0) (subcommand_rows_of m) ≡ subcommand_name_of m
name_of_rows m = option_map-map _ (out-ArgMatches m).subcommand

-- what is refused behind `render` is refused of the whole
pub RefusesWords-render : (found : Option (List ℕ × List Row)) (rows : List Row) (fault : WordsFault) → found ≡ Some (codes "render", rows)
    → RefusesRender rows fault → RefusesWords [] found fault
RefusesWords-render found rows Memory is h = tt
RefusesWords-render found rows (Help text) is h = absurd h
RefusesWords-render found rows (Version text) is h = absurd h
RefusesWords-render found rows (Usage text) is h = inr (refl, inr (rows, is, h))
RefusesWords-render found rows Definition is h = (refl, (rows, is, h))

-- a text for the user is right for a reason
pub RefusesFor-usage : (Reason : Type 0) (fault : WordsFault) → IsUsage fault → Reason → RefusesFor Reason fault
RefusesFor-usage Reason Memory usage reason = tt
RefusesFor-usage Reason (Help text) usage reason = absurd usage
RefusesFor-usage Reason (Version text) usage reason = absurd usage
RefusesFor-usage Reason (Usage text) usage reason = reason
RefusesFor-usage Reason Definition usage reason = absurd usage

-- and behind `render` where an option has a value that is none
pub RefusesRender-none : (Reason : Type 0) (rows : List Row) (fault : WordsFault) → (Reason → NamesNone rows)
    → RefusesFor Reason fault → RefusesRender rows fault
RefusesRender-none Reason rows Memory is h = tt
RefusesRender-none Reason rows (Help text) is h = absurd h
RefusesRender-none Reason rows (Version text) is h = absurd h
RefusesRender-none Reason rows (Usage text) is h = is h
RefusesRender-none Reason rows Definition is h = absurd h

-- an option has a value that is one of those that it takes
pub names_some : (rows : List Row) (mode : UndefinedBehavior) (escape : EscapeWord) (texts : Bool)
    → mode_of (first_of (codes "undefined") rows) ≡ Some mode → escape_of (first_of (codes "autoescape") rows) ≡ Some escape
    → floats_of (first_of (codes "floats") rows) ≡ Some texts → ¬ (NamesNone rows)
names_some rows mode escape texts mode_is escape_is texts_is =
    λ none. elim none [ inl n ↦ cc | inr n ↦ elim n [ inl m ↦ cc | inr m ↦ cc ] ]

-- and a definition with no `=` is refused where each option has such a value
pub RefusesRender-definitions : (rows : List Row) (words : List (List ℕ)) (fault : WordsFault) → ¬ (NamesNone rows)
    → (LacksSign words → LacksOneSign rows) → RefusesDefinitions words fault → RefusesRender rows fault
RefusesRender-definitions rows words Memory some lacks h = tt
RefusesRender-definitions rows words (Help text) some lacks h = absurd h
RefusesRender-definitions rows words (Version text) some lacks h = absurd h
RefusesRender-definitions rows words (Usage text) some lacks h = absurd h
RefusesRender-definitions rows words Definition some lacks h = (some, lacks h)

-- an error of one of these kinds is refused
pub RefusesWords-kind : (kinds : Kinds) (found : Option (List ℕ × List Row)) (kind : ErrorKind) (fault : WordsFault)
    → (kind ≡ OutOfMemory) ⊎ IsAmong kind kinds → IsWordsFault kind fault → RefusesWords kinds found fault
RefusesWords-kind kinds found kind Memory among h = tt
RefusesWords-kind kinds found kind (Help text) (inl e) h = cc
RefusesWords-kind kinds found kind (Help text) (inr a) h = subst (λ k. IsAmong k kinds) h a
RefusesWords-kind kinds found kind (Version text) (inl e) h = cc
RefusesWords-kind kinds found kind (Version text) (inr a) h = subst (λ k. IsAmong k kinds) h a
RefusesWords-kind kinds found kind (Usage text) (inl e) h = absurd (h.2 e)
RefusesWords-kind kinds found kind (Usage text) (inr a) h = inl (kind, a, h)
RefusesWords-kind kinds found kind Definition among h = absurd h

pub OnOk-always : {T E : Type 0} (r : Result T E) (P : Type 0) → P → OnOk r P
OnOk-always (Ok x) P p = p
OnOk-always (Err e) P p = tt
