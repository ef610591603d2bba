-- Keys: which stream runs, and what of it; and what is known of templates beside what they do.
use Rattle.std.specs.Prelude.{ℕ, Bool, List, Option}
use Rattle.template_values_errors.specs.declared.modes.AutoEscape.{AutoEscape}
use Rattle.template_values_errors.specs.declared.modes.UndefinedBehavior.{UndefinedBehavior}
use Rattle.template_values_model.specs.Val.{Val}
use Rattle.template_callables.specs.Callables.{Callables}
use Rattle.template_callables.specs.Joins.{Joins}

-- where a stream is at home: in the template that is rendered, in one that stands under a name, or in one that was handed in
pub data Home : Type 0 where
  rendered : Home
  standing : List ℕ → Home
  kept : ℕ → Home

-- a template's own stream, or that of one of its blocks
pub data Stream : Type 0 where
  own : Home → Stream
  block_of : Home → List ℕ → Stream

-- what of a stream runs: all of it; the body of a macro, by its number, over its arguments, the last one first; or the
-- rounds of a loop that is called again, by its number
pub data Part : Type 0 where
  whole : Part
  body_of : ℕ → List Val → Part
  rounds_of : ℕ → Part

pub record Key : Type 0 where
  pub stream : Stream
  pub part : Part

abbrev pub whole_of : Stream → Key
whole_of s = record { stream = s; part = whole }

-- where it is at home
abbrev pub home_of : Stream → Home
home_of (own home) = home
home_of (block_of home name) = home

-- what is known of a template beside its streams: its escape; and the names of its blocks, in order, each with whether a
-- template that extends this one has to give a body of its own
pub record Head : Type 0 where
  pub escape : AutoEscape
  pub blocks : List (List ℕ × Bool)

-- what no run changes: the name of what is rendered or evaluated; the heads of the templates; which names are meant by those that
-- stand in templates; what the environment was given of its user's own; the limit of the depth; and what may be done with
-- undefined values
pub record Around : Type 0 where
  pub name : List ℕ
  pub head : Home → Option Head
  pub joins : Joins
  pub callables : Callables
  pub limit : ℕ
  pub undefined : UndefinedBehavior
