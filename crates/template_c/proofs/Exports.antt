-- What the exports of sessions do.
use Rattle.std.proofs.Common.{◌≡◌, ℕ, List, Option, None, Some, length, refl, subst, sym}
use Rattle.template_sessions.specs.Openings.{Opens, RefusesRequest}
use Rattle.template_sessions.specs.Sessions.{IsKept, RepliesIn}
use Rattle.template_sessions.specs.declared.session.Session.{Session}
use Rattle.template_sessions.proofs.Refusals.{request_failed}
use Rattle.template_c.specs.Exports.{OpensAt, RendersAt, laid}

-- a session is opened
pub opened_at : (request place : List ℕ) (held : Option Session) (session : Session) → held ≡ Some session → Opens request session
    → OpensAt request held place place 0 0
opened_at request place held session is opens =
    subst (λ (h : Option Session). OpensAt request h place place 0 0) (sym is) (opens, refl, refl, refl)

-- none is, and the refusal is laid
pub refused_at : (request before after reply : List ℕ) (written status told : ℕ) (held : Option Session) → held ≡ None
    → RefusesRequest request status reply → told ≡ status → after ≡ laid reply before → written ≡ length reply
    → OpensAt request held before after written told
refused_at request before after reply written status told held is refuses same over long =
    subst (λ (h : Option Session). OpensAt request h before after written told) (sym is)
    (let told-so = subst (λ (s : ℕ). RefusesRequest request s reply) (sym same) refuses in
    (reply, told-so, request_failed request told reply told-so, over, long))

-- a reply in a session is laid
pub rendered_at : (name context before after reply : List ℕ) (written status told : ℕ) (held holds : Option Session) (session still : Session)
    → held ≡ Some session → holds ≡ Some still → IsKept session still → RepliesIn session name context status reply
    → told ≡ status → after ≡ laid reply before → written ≡ length reply
    → RendersAt held name context holds before after written told
rendered_at name context before after reply written status told held holds session still was is kept replies same over long =
    subst (λ (h : Option Session). RendersAt h name context holds before after written told) (sym was)
    (subst (λ (h : Option Session). RendersAt (Some session) name context h before after written told) (sym is)
    (kept, (reply, subst (λ (s : ℕ). RepliesIn session name context s reply) (sym same) replies, over, long)))
