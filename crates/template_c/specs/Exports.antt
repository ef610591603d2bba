-- What the exports write.
use Rattle.std.specs.Prelude.{◌≡◌, ◌≢◌, ◌++◌, ℕ, List, Option, None, Some, length, take, drop}
use Rattle.template_program_parts.specs.declared.command.Command.{Command}
use Rattle.template_replies.specs.Replies.{Replies}
use Rattle.template_sessions.specs.Openings.{Opens, RefusesRequest}
use Rattle.template_sessions.specs.Sessions.{IsKept, RepliesIn}
use Rattle.template_sessions.specs.declared.session.Session.{Session}

-- Bytes are laid over those that stand in a place, as far as there is room. The rest of the place stays as it was.
abbrev pub laid : List ℕ → List ℕ → List ℕ
laid bytes place = take (length place) bytes ++ drop (length bytes) place

-- the reply to the request is laid over the place, and its length and its status are told
abbrev pub Writes : Command → List ℕ → List ℕ → List ℕ → ℕ → ℕ → Type 0
Writes command request before after written status =
    (reply : List ℕ) × Replies command request status reply × (after ≡ laid reply before) × (written ≡ length reply)

-- the request opens a session at status 0, and nothing is laid; or, at another one, the refusal is laid over the place
abbrev pub OpensAt : List ℕ → Option Session → List ℕ → List ℕ → ℕ → ℕ → Type 0
OpensAt request (Some session) before after written status =
    Opens request session × (status ≡ 0) × (after ≡ before) × (written ≡ 0)
OpensAt request None before after written status =
    (reply : List ℕ) × RefusesRequest request status reply × (status ≢ 0) × (after ≡ laid reply before) × (written ≡ length reply)

-- the reply of the session is laid over the place, and its length and its status are told; the session stays, but for a state id
abbrev pub RendersAt : Option Session → List ℕ → List ℕ → Option Session → List ℕ → List ℕ → ℕ → ℕ → Type 0
RendersAt (Some session) name context (Some still) before after written status =
    IsKept session still × ((reply : List ℕ) × RepliesIn session name context status reply
    × (after ≡ laid reply before) × (written ≡ length reply))
RendersAt _ name context _ before after written status = ⊥
