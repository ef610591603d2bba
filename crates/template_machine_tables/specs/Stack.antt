-- What contracts see of the bodies that templates give to blocks.
use Rattle.std.specs.Prelude.{◌≡◌, ℕ, suc, List, length, map, Option, Some, slice_get}
use Rattle.std.specs.Option.{option_and_then}
use Rattle.std.specs.Borrow.{Bor}
use Rattle.std.specs.BTreeMap.{BTreeMap}
use Rattle.template_machine_meaning.specs.Keys as keys
use Rattle.template_machine_meaning.specs.Bodies.{Bodies, bodies_at}
use Rattle.template_machine_tables.specs.Streams.{home_of}
use Rattle.template_machine_tables.specs.declared.stack.Body.{Body}
use Rattle.template_machine_tables.specs.declared.stack.Behind.{Behind}

-- the names with their bodies
abbrev pub blocks_among : List (Bor (List ℕ) × Bodies) → List (List ℕ × Bodies)
blocks_among entries = map (λ e. (e.0.now, e.1)) entries

abbrev pub blocks_in : BTreeMap (Bor (List ℕ)) Bodies → List (List ℕ × Bodies)
blocks_in m = blocks_among m.entries

-- the template whose body a block's calls run, and the one behind it
abbrev pub home_running : List ℕ → List (List ℕ × Bodies) → Option keys.Home
home_running name blocks = option_and_then (λ (b : Bodies). slice_get b.homes b.place) (bodies_at name blocks)

abbrev pub home_behind : List ℕ → List (List ℕ × Bodies) → Option keys.Home
home_behind name blocks = option_and_then (λ (b : Bodies). slice_get b.homes (suc b.place)) (bodies_at name blocks)

-- the body that runs is told
pub record IsBody (bodies : Bodies) (body : Body) : Type 0 where
  pub home : slice_get bodies.homes bodies.place ≡ Some (home_of body.home)
  pub count : length bodies.homes ≡ body.count
  pub place : bodies.place ≡ body.place

pub record HasBody (name : List ℕ) (blocks : List (List ℕ × Bodies)) (body : Body) : Type 0 where
  pub bodies : Bodies
  pub found : bodies_at name blocks ≡ Some bodies
  pub told : IsBody bodies body

-- what stands behind it is told
pub record IsBehind (bodies : Bodies) (behind : Behind) : Type 0 where
  pub home : slice_get bodies.homes (suc bodies.place) ≡ Some (home_of behind.home)
  pub place : bodies.place ≡ behind.place

pub record HasBehind (name : List ℕ) (blocks : List (List ℕ × Bodies)) (behind : Behind) : Type 0 where
  pub bodies : Bodies
  pub found : bodies_at name blocks ≡ Some bodies
  pub told : IsBehind bodies behind
