-- What a handle holds.
use Rattle.std.specs.Prelude.{Option, None, Some}
use base.Fml.{Fml, ftrue}
use denote.RawPtr.{Ptr}
use Rattle.std.specs.Box.Ownership.{box_owns}
use Rattle.std.specs.Coded.{Coded, coded_option}
use Rattle.std.specs.contracts.impls.GlobalAllocator.TheImpl.{ghosts}
use Rattle.template_sessions.specs.declared.session.Session.{Session}
use Rattle.template_sessions.specs.contracts.session.Session.{the_row}

-- the session at the pointer, if there is one, and the right to give up its block
abbrev pub held_at : Ptr → Option Session → Fml
held_at at None = ftrue
held_at at (Some session) = box_owns (ghosts.dealloc_token (record { memory = record { seal = tt } })) the_row at session

-- a session is stored as its type stores one
abbrev pub session_code : Coded (Option Session)
session_code = coded_option the_row.coded

-- there is one
abbrev pub IsOpen : Option Session → Type 0
IsOpen None = ⊥
IsOpen (Some session) = Unit {0}
