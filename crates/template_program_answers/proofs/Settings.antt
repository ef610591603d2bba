-- What two environments of one request and one number share.
use Rattle.std.proofs.Common.{◌≡◌, ◌∙◌, ℕ, List, refl, sym, ap, subst, IsTrue, ◌↔◌}
use Rattle.std.specs.BTreeSet.{BTreeSet, contains_text}
use Rattle.std.specs.Prelude.{String}
use Rattle.std.specs.declared.alloc.Global.{Global}
use Rattle.template_machine_surroundings.proofs.OneRule.{one_escape}
use Rattle.template_machine_meaning.specs.Meaning.{Setting, Standing}
use Rattle.template_machine_environment_settings.specs.Extras.{Brought}
use Rattle.template_machine_environment_settings.specs.Isolation.{IsContextName}
use Rattle.template_machine_environment_settings.specs.Sources.{tree_in}
use Rattle.template_machine_environment_settings.specs.Registry.{Registry}
use Rattle.template_machine_environment_settings.specs.Standing.{setting_of}
use Rattle.template_machine_environment_settings.proofs.Settings as settings
use Rattle.template_program_run.specs.Answers.{IsTemplateOf}
use Rattle.template_program_run.specs.Environments.{IsMade}
use Rattle.template_program_run.specs.History.{source_under}
use Rattle.template_program_run.specs.Served.{Served}
use Rattle.template_program_run.specs.declared.request.Request.{Request}

pub one_setting : (k : Brought) (served : Served) (request : Request) (additions : List (List ℕ × List ℕ)) (id : ℕ) (e other : Registry)
    → IsMade served request additions id e → IsMade served request additions id other → setting_of k e ≡ setting_of k other
one_setting k served request additions id e other made more = settings.one_setting k k e other (record {
  sources = λ name. made.sources name ∙ sym (more.sources name);
  globals = made.settings.globals ∙ sym more.settings.globals;
  users = refl;
  limit = made.settings.limit ∙ sym more.settings.limit;
  undefined = made.settings.undefined ∙ sym more.settings.undefined;
})

pub one_fuel : (served : Served) (request : Request) (additions : List (List ℕ × List ℕ)) (id : ℕ) (e other : Registry)
    → IsMade served request additions id e → IsMade served request additions id other → e.fuel ≡ other.fuel
one_fuel served request additions id e other made more = made.settings.fuel ∙ sym more.settings.fuel

-- a name and a text stand for one template
pub one_template : (served : Served) (name text other : List ℕ) (t u : Standing) → text ≡ other → IsTemplateOf served name text t
    → IsTemplateOf served name other u → t ≡ u
one_template served name text other t u same is more =
    let tree = is.tree ∙ ap (λ (x : List ℕ). tree_in (source_under served x)) same ∙ sym more.tree in
    let escape = one_escape served.escapes name t.escape u.escape is.rule more.rule in
    let named = is.named ∙ sym more.named in
    λ i. record { name = named i; tree = tree i; escape = escape i }

-- names that can matter are those of the setting and the template
pub same_names : (s r : Setting) (t u : Standing) → s ≡ r → t ≡ u → (name : List ℕ) → IsContextName s t.tree name → IsContextName r u.tree name
same_names s r t u setting standing name can_matter =
    subst (λ (x : Standing). IsContextName r x.tree name) standing (subst (λ (x : Setting). IsContextName x t.tree name) setting can_matter)

-- so two sets of them have the same names
pub same_sets : (s r : Setting) (t u : Standing) → s ≡ r → t ≡ u → (names others : BTreeSet (String Global))
    → ((name : List ℕ) → IsTrue (contains_text names name) ↔ IsContextName s t.tree name)
    → ((name : List ℕ) → IsTrue (contains_text others name) ↔ IsContextName r u.tree name)
    → (name : List ℕ) → IsTrue (contains_text names name) ↔ IsTrue (contains_text others name)
same_sets s r t u setting standing names others has more name = (
  λ there. (more name).1 (same_names s r t u setting standing name ((has name).0 there)),
  λ there. (has name).1 (same_names r s u t (sym setting) (sym standing) name ((more name).0 there)),
)
