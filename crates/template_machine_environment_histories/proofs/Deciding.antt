-- What the changes of a history say in the end.
use Rattle.std.proofs.Common.{◌≡◌, ◌∙◌, ℕ, ◌⊎◌, inl, inr, Bool, true, false, cond, List, [], ◌∷◌, ◌++◌, Option, None, Some, bytes_eq, refl, sym, ap, subst}
use Rattle.std.proofs.lemmas.List.Elements.{All-nil, All-head, All-tail, All-cons}
use Rattle.template_machine_environment_histories.specs.Histories.{Change, added, refused, removed, cleared, Leads, LeadsThrough, said_of, LeaveAlone, SayLast, accepted}
use Rattle.template_machine_environment_histories.specs.Laws.{LastDecides, UntouchedStays, TouchesOrNot, RefusedMakeNoDifference, AgreeOn, AgreeingComeToTheSame}

some_is : {X : Type 0} {x y : X} → Some x ≡ Some y → x ≡ y
some_is at = cc

none_some : {X : Type 0} {x : X} → None ≡ Some x → ⊥
none_some at = cc

some_none : {X : Type 0} {x : X} → Some x ≡ None → ⊥
some_none at = cc

-- where a test decides what is said, and what stands
kept_by : {S : Type 0} (b : Bool) (given stood : Option S) → cond b (Some given) None ≡ None → cond b given stood ≡ stood
kept_by true given stood e = absurd (some_none e)
kept_by false given stood e = refl

said_by : {S : Type 0} (b : Bool) (given stood said : Option S) → cond b (Some given) None ≡ Some said → cond b given stood ≡ said
said_by true given stood said e = some_is e
said_by false given stood said e = absurd (none_some e)

-- a change that does not touch a name leaves what stands there
keeps : {E S : Type 0} (at : E → List ℕ → Option S) (change : Change S) (old new : E) → Leads at change old new → (name : List ℕ)
    → said_of name change ≡ None → at new name ≡ at old name
keeps at (added other source) old new leads name none = leads name ∙ kept_by (bytes_eq other name) (Some source) (at old name) none
keeps at (refused other source) old new leads name none = leads name
keeps at (removed other) old new leads name none = leads name ∙ kept_by (bytes_eq other name) None (at old name) none
keeps at cleared old new leads name none = absurd (some_none none)

-- one that does leaves what it says
says_so : {E S : Type 0} (at : E → List ℕ → Option S) (change : Change S) (old new : E) → Leads at change old new → (name : List ℕ) (said : Option S)
    → said_of name change ≡ Some said → at new name ≡ said
says_so at (added other source) old new leads name said e = leads name ∙ said_by (bytes_eq other name) (Some source) (at old name) said e
says_so at (refused other source) old new leads name said e = absurd (none_some e)
says_so at (removed other) old new leads name said e = leads name ∙ said_by (bytes_eq other name) None (at old name) said e
says_so at cleared old new leads name said e = leads name ∙ some_is e

pub untouched_stays : (E S : Type 0) → UntouchedStays E S
untouched_stays E S at [] old new leads name alone = leads name
untouched_stays E S at (change ∷ changes) old new leads name alone =
    untouched_stays E S at changes leads.0 new leads.2 name (All-tail (λ c. said_of name c ≡ None) change changes alone)
    ∙ keeps at change old leads.0 leads.1 name (All-head (λ c. said_of name c ≡ None) change changes alone)

-- behind the changes before the last one
decided : {E S : Type 0} (at : E → List ℕ → Option S) (before : List (Change S)) (last : Change S) (after : List (Change S)) (old new : E)
    → LeadsThrough at (before ++ last ∷ after) old new → (name : List ℕ) (said : Option S) → said_of name last ≡ Some said → LeaveAlone name after
    → at new name ≡ said
decided {E} {S} at [] last after old new leads name said says alone =
    untouched_stays E S at after leads.0 new leads.2 name alone ∙ says_so at last old leads.0 leads.1 name said says
decided at (change ∷ before) last after old new leads name said says alone = decided at before last after leads.0 new leads.2 name said says alone

pub last_decides : (E S : Type 0) → LastDecides E S
last_decides E S at changes old new leads name said h =
    decided at h.before h.last h.after old new (subst (λ (cs : List (Change S)). LeadsThrough at cs old new) h.are leads) name said h.says h.alone

-- with one more change before the others
touched : {S : Type 0} (change : Change S) (changes : List (Change S)) (name : List ℕ) (o : Option (Option S)) → said_of name change ≡ o
    → LeaveAlone name changes ⊎ ((said : Option S) × SayLast name changes said)
    → LeaveAlone name (change ∷ changes) ⊎ ((said : Option S) × SayLast name (change ∷ changes) said)
touched change changes name o e (inr (said, h)) = inr (
  said,
  record {
    before = change ∷ h.before;
    last = h.last;
    after = h.after;
    are = ap (λ cs. change ∷ cs) h.are;
    says = h.says;
    alone = h.alone;
  },
)
touched change changes name None e (inl alone) = inl (All-cons (λ c. said_of name c ≡ None) change changes e alone)
touched change changes name (Some said) e (inl alone) = inr (
  said,
  record {
    before = [];
    last = change;
    after = changes;
    are = refl;
    says = e;
    alone = alone;
  },
)

pub touches_or_not : (S : Type 0) → TouchesOrNot S
touches_or_not S [] name = inl (All-nil (λ c. said_of name c ≡ None))
touches_or_not S (change ∷ changes) name = touched change changes name (said_of name change) refl (touches_or_not S changes name)

-- what leads from an environment leads from one where the same stands
leads_from : {E S : Type 0} (at : E → List ℕ → Option S) (change : Change S) (old same new : E) → ((name : List ℕ) → at old name ≡ at same name)
    → Leads at change old new → Leads at change same new
leads_from at (added other source) old same new is leads = λ name. leads name ∙ ap (λ o. cond (bytes_eq other name) (Some source) o) (is name)
leads_from at (refused other source) old same new is leads = λ name. leads name ∙ is name
leads_from at (removed other) old same new is leads = λ name. leads name ∙ ap (λ o. cond (bytes_eq other name) None o) (is name)
leads_from at cleared old same new is leads = leads

pub leads_through_from : {E S : Type 0} (at : E → List ℕ → Option S) (changes : List (Change S)) (old same new : E)
    → ((name : List ℕ) → at old name ≡ at same name) → LeadsThrough at changes old new → LeadsThrough at changes same new
leads_through_from at [] old same new is leads = λ name. leads name ∙ is name
leads_through_from at (change ∷ changes) old same new is leads = (leads.0, leads_from at change old same leads.0 is leads.1, leads.2)

pub refused_make_no_difference : (E S : Type 0) → RefusedMakeNoDifference E S
refused_make_no_difference E S at [] old new leads = leads
refused_make_no_difference E S at (added name source ∷ changes) old new leads =
    (leads.0, leads.1, refused_make_no_difference E S at changes leads.0 new leads.2)
refused_make_no_difference E S at (refused name source ∷ changes) old new leads =
    leads_through_from at (accepted changes) leads.0 old new leads.1 (refused_make_no_difference E S at changes leads.0 new leads.2)
refused_make_no_difference E S at (removed name ∷ changes) old new leads =
    (leads.0, leads.1, refused_make_no_difference E S at changes leads.0 new leads.2)
refused_make_no_difference E S at (cleared ∷ changes) old new leads =
    (leads.0, leads.1, refused_make_no_difference E S at changes leads.0 new leads.2)

agreed : {E S : Type 0} (at : E → List ℕ → Option S) (changes others : List (Change S)) (old new other_old other_new : E)
    → LeadsThrough at changes old new → LeadsThrough at others other_old other_new → (name : List ℕ)
    → AgreeOn name changes others (at old name) (at other_old name) → at new name ≡ at other_new name
agreed {E} {S} at changes others old new other_old other_new leads other_leads name (inl (said, says, other_says)) =
    last_decides E S at changes old new leads name said says ∙ sym (last_decides E S at others other_old other_new other_leads name said other_says)
agreed {E} {S} at changes others old new other_old other_new leads other_leads name (inr (alone, other_alone, stood)) =
    untouched_stays E S at changes old new leads name alone
    ∙ (stood ∙ sym (untouched_stays E S at others other_old other_new other_leads name other_alone))

pub agreeing_come_to_the_same : (E S : Type 0) → AgreeingComeToTheSame E S
agreeing_come_to_the_same E S at changes others old new other_old other_new leads other_leads agree name =
    agreed at changes others old new other_old other_new leads other_leads name (agree name)
