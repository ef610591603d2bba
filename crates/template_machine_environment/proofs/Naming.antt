-- The names that can matter, among those of the templates that stand.
use Rattle.std.proofs.Common.{◌≡◌, ℕ, Bool, true, false, not, ◌&&◌, ◌||◌, List, codes, bytes_eq, Option, None, Some, inl, inr, ◌⊎◌, ◌↔◌, IsTrue, refl, sym, ap, subst, ◌∙◌}
use Rattle.std.specs.Option.{option_map}
use Rattle.template_compiler_tree.specs.Tree.{Statements}
use Rattle.template_compiler_names.specs.Names.{IsTold, Places, is_stored_everywhere, is_used, uses_place}
use Rattle.template_compiler_names_statements.proofs.UndeclaredWalking.{turned}
use Rattle.template_compiler_walk.specs.Blocks.{blocks_in}
use Rattle.template_compiler_walk.specs.Imported.{is_imported}
use Rattle.template_machine_meaning.specs.Isolation as isolation
use Rattle.template_machine_meaning.specs.Isolation.{IsContextName, is_given, is_needed, is_used_by_block, is_used_by_rounds}
use Rattle.template_machine_meaning.specs.Meaning.{Setting, Standing}
use Rattle.template_compiled.specs.Compiled.{Compiled, standing_of}
use Rattle.template_compiled.specs.Names.{uses}
use Rattle.template_compiled.specs.Sources.{Source, tree_in}
use Rattle.template_compiled.specs.Standing.{IsUsedByOne, compiled_at}
use Rattle.template_machine_environment_histories.proofs.Using.{either}
use Rattle.template_machine_environment.specs.Extras.{Brought}
use Rattle.template_machine_environment.specs.Standing.{setting_of, source_at}
use Rattle.template_machine_environment.specs.declared.registry.Registry.{Registry}

under_map : {X Y : Type 0} (f : X → Y) (o : Option X) (y : Y) → option_map f o ≡ Some y → (x : X) × (o ≡ Some x) × (f x ≡ y)
under_map f None y h = cc
under_map f (Some x) y h = (x, refl, cc)

pub used_by_one : (k : Brought) (e : Registry) (name : List ℕ) → IsUsedByOne e.templates name ↔ isolation.IsUsedByOne (setting_of k e) name
used_by_one k e name = (
  λ u. (u.0, standing_of u.1, ap (option_map standing_of) u.2, u.3),
  λ u.
      let under = under_map standing_of (compiled_at e.templates u.0) u.1 u.2 in
      (u.0, under.0, under.1, subst (λ (t : Standing). IsTrue (is_needed name t.tree)) (sym under.2) u.3),
)

pub listed : (k : Brought) (e : Registry) (c : Compiled) (name : List ℕ) (given own : Bool) (Has : Type 0) → given ≡ is_given name → own ≡ (given || uses c name)
    → Has ↔ (IsTrue own ⊎ IsUsedByOne e.templates name) → Has ↔ IsContextName (setting_of k e) (standing_of c).tree name
listed k e c name given own Has at_first then all =
    let both = either given (uses c name) in (
      λ h. elim (all.0 h) [
        | inl o ↦ elim (both.0 (subst IsTrue then o)) [ inl g ↦ inl (subst IsTrue at_first g) | inr u ↦ inr (inl u) ]
        | inr u ↦ inr (inr ((used_by_one k e name).0 u))
      ],
      λ h. all.1 (elim h [
        | inl g ↦ inl (subst IsTrue (sym then) (both.1 (inl (subst IsTrue (sym at_first) g))))
        | inr s ↦ elim s [ inl u ↦ inl (subst IsTrue (sym then) (both.1 (inr u))) | inr v ↦ inr ((used_by_one k e name).1 v) ]
      ]),
    )

-- of four, the first
first_of : (a b c d : Bool) → IsTrue a → IsTrue (((a || b) || c) || d)
first_of true b c d h = refl
first_of false b c d h = let never : false ≡ true = h in absurd cc

-- a template needs the names that it uses
told_needed : (name : List ℕ) (tree : Statements) → IsTold false name tree → IsTrue (is_needed name tree)
told_needed name tree told =
    first_of (is_used name tree) (is_used_by_block name (blocks_in tree)) (not (is_stored_everywhere name) && is_used_by_rounds name tree)
    (is_imported name tree) (subst (λ (p : Places). IsTrue (uses_place p tree)) told.1 told.2)

pub own_told : (setting : Setting) (tree : Statements) (name : List ℕ) → IsTold false name tree → IsContextName setting tree name
own_told setting tree name told = inr (inl (told_needed name tree told))

pub standing_told : (k : Brought) (e : Registry) (tree : Statements) (other name : List ℕ) (source : Source) → source_at e other ≡ Some source
    → IsTold false name (tree_in source) → IsContextName (setting_of k e) tree name
standing_told k e tree other name source at told =
    let under = under_map (λ (c : Compiled). c.source) (compiled_at e.templates other) source at in
    inr (inr (
      other,
      standing_of under.0,
      ap (option_map standing_of) under.1,
      subst (λ (s : Source). IsTrue (is_needed name (tree_in s))) (sym under.2) (told_needed name (tree_in source) told),
    ))

pub given_is : (q : List ℕ) → ((((false || bytes_eq (codes "self") q) || bytes_eq (codes "super") q) || bytes_eq (codes "loop") q) || bytes_eq (codes "caller") q) ≡ is_given q
given_is q =
    ap (λ a. ((a || bytes_eq (codes "super") q) || bytes_eq (codes "loop") q) || bytes_eq (codes "caller") q) (turned (codes "self") q) ∙
    ap (λ b. ((bytes_eq q (codes "self") || b) || bytes_eq (codes "loop") q) || bytes_eq (codes "caller") q) (turned (codes "super") q) ∙
    ap (λ c. ((bytes_eq q (codes "self") || bytes_eq q (codes "super")) || c) || bytes_eq (codes "caller") q) (turned (codes "loop") q) ∙
    ap (λ d. ((bytes_eq q (codes "self") || bytes_eq q (codes "super")) || bytes_eq q (codes "loop")) || d) (turned (codes "caller") q)
