-- A state as a world, with other captures.
use Rattle.std.proofs.Common.{◌≡◌, ◌∙◌, ap, subst, ℕ, Bool, List, reverse}
use Rattle.std.specs.Prelude.{option_copied}
use Rattle.template_machine_meaning.specs.Plans.{Caller, after_by, calls_super, outermost}
use Rattle.template_machine_meaning.specs.World.{Capture, World}
use Rattle.template_machine_tables.specs.Streams.{stream_of}
use Rattle.template_machine_state.specs.Loaded.{names_in}
use Rattle.template_machine_state.specs.declared.state.State.TheInside.{Inside}

abbrev pub capturing : Inside → List Capture → World
capturing i cs = record {
  here = stream_of i.here;
  block = option_copied i.block;
  parent = option_copied i.parent;
  blocks = i.blocks;
  loaded = names_in (reverse i.loaded.items);
  frames = i.ctx.frames;
  base = i.ctx.base;
  floor = i.ctx.floor;
  outer = i.ctx.outer;
  escape = i.escape;
  saved = reverse i.saved.items;
  first = i.first;
  captures = cs;
  id = i.id;
  opened = i.opened;
  globals = i.globals.now;
  namespaces = i.namespaces;
  macros = i.macros.items;
  closures = i.ctx.closures;
  given = i.given;
  held = i.held;
  closed = i.closed.items;
  temps = i.temps;
}

-- of the captures those alone count that were open
pub ended_with : (named : Bool) (k m : Caller) (i : Inside) (name : List ℕ) (place : ℕ) (cs : List Capture) (after : World) → k ≡ m
    → after ≡ after_by (calls_super named name place) m (capturing i cs) → outermost k.captures cs ≡ outermost k.captures (reverse i.captures.items)
    → after ≡ after_by (calls_super named name place) m (capturing i (reverse i.captures.items))
ended_with named k m i name place cs after same is left =
    let behind : World = after_by (calls_super named name place) m (capturing i cs) in
    is ∙ ap (λ (ds : List Capture). record behind { captures = ds })
    (subst (λ (x : Caller). outermost x.captures cs ≡ outermost x.captures (reverse i.captures.items)) same left)
