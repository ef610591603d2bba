-- Where there is room for sources, those that are refused are not accepted, and one kind is told.
use Rattle.std.proofs.Common.{◌≡◌, ℕ, List, [], ◌∷◌, Option, None, Some, IfSome, option_map, unwrap_or, inl, inr, ap, get_or, arith}
use Rattle.std.specs.Borrow.{Bor}
use Rattle.template_values_errors.specs.declared.ErrorKind.{ErrorKind}
use Rattle.template_compiler_syntax.specs.Syntax.{IsUsable, Syntax, default_syntax}
use Rattle.template_compiler_syntax.proofs.Apart.{all_apart}
use Rattle.template_machine_environment_settings.specs.Sources.{IsAccepted, IsRefusedWith}
use Rattle.template_compiled.proofs.Refusals as refusals
use Rattle.template_machine_environment_settings.specs.Plain.{IsRefusedForRoom}
use Rattle.template_program_run.specs.Additions.{AllAreAccepted, RefusesOne}
use Rattle.template_program_run.specs.History.{source_under}
use Rattle.template_program_run.specs.Served.{Served, served_under}
use Rattle.template_program_run.specs.declared.options.Options.{Options}
use Rattle.template_program_answers.specs.Law.{HasUsableSyntax}

-- the default syntax is usable
usable : IsUsable default_syntax
usable = record {
  filled = record {
    variable_start = λ e. cc;
    block_start = λ e. cc;
    comment_start = λ e. cc;
    variable_end = λ e. cc;
    block_end = λ e. cc;
    comment_end = λ e. cc;
  };
  apart = all_apart default_syntax (record {
    vb = λ set e. let is : 123 ≡ 37 = ap (λ xs. get_or xs 1 0) e in absurd (omega (arith, is));
    vc = λ set e. let is : 123 ≡ 35 = ap (λ xs. get_or xs 1 0) e in absurd (omega (arith, is));
    vs = λ set e. cc;
    vd = λ set e. cc;
    bc = λ set e. let is : 37 ≡ 35 = ap (λ xs. get_or xs 1 0) e in absurd (omega (arith, is));
    bs = λ set e. cc;
    bd = λ set e. cc;
    cs = λ set e. cc;
    cd = λ set e. cc;
    sd = λ set e. set e;
  });
}

-- that of options is, where the one that they have is
given_usable : (given : Option (Bor Syntax)) → IfSome given (λ syntax. IsUsable syntax.now)
    → IsUsable (unwrap_or (option_map (λ syntax. syntax.now) given) default_syntax)
given_usable None is = usable
given_usable (Some syntax) is = is

pub usable_under : (options : Options) → HasUsableSyntax options → IsUsable (served_under options).syntax
usable_under options is = given_usable options.syntax is

-- a source is not both accepted and refused, but for want of room
accepted_or_refused : (served : Served) → IsUsable served.syntax → (text : List ℕ) (kinds : List ErrorKind) → IsAccepted (source_under served text)
    → IsRefusedWith (source_under served text) kinds → ¬ IsRefusedForRoom kinds → ⊥
accepted_or_refused served usable text kinds = refusals.accepted_or_refused (source_under served text) kinds usable

module _ (served : Served) (usable : IsUsable served.syntax) where
  -- nor are all of the additions accepted where one is refused
  pub all_or_refused : (additions : List (List ℕ × List ℕ)) (kinds : List ErrorKind) → RefusesOne served additions kinds
      → ¬ IsRefusedForRoom kinds → AllAreAccepted served additions → ⊥
  all_or_refused [] kinds refused room all = refused
  all_or_refused (addition ∷ later) kinds (inl refused) room all =
      accepted_or_refused served usable addition.1 kinds all.0 refused room
  all_or_refused (addition ∷ later) kinds (inr (accepted, refused)) room all = all_or_refused later kinds refused room all.1

  -- the same one is refused twice, with one kind
  pub same_refused : (additions : List (List ℕ × List ℕ)) (kinds others : List ErrorKind) → RefusesOne served additions kinds
      → RefusesOne served additions others → ¬ IsRefusedForRoom kinds → ¬ IsRefusedForRoom others → kinds ≡ others
  same_refused [] kinds others refused other room more = absurd refused
  same_refused (addition ∷ later) kinds others (inl refused) (inl other) room more =
      refusals.one_refusal (source_under served addition.1) kinds others usable refused other room more
  same_refused (addition ∷ later) kinds others (inl refused) (inr (accepted, other)) room more =
      absurd (accepted_or_refused served usable addition.1 kinds accepted refused room)
  same_refused (addition ∷ later) kinds others (inr (accepted, refused)) (inl other) room more =
      absurd (accepted_or_refused served usable addition.1 others accepted other more)
  same_refused (addition ∷ later) kinds others (inr (accepted, refused)) (inr (again, other)) room more =
      same_refused later kinds others refused other room more
