-- Lemmas on lines that are broken.
use Rattle.std.proofs.Common.{◌≡◌, ℕ, zero, suc, ◌-◌, ◌≤◌, List, [], ◌∷◌, ◌++◌, length, Bool, true, false, cond, map, None, Some, refl, sym, ap, ◌∙◌, arith, append_assoc, append-nil, chars, encode_utf8, IsUtf8, Bor}
use Rattle.std.specs.List.{flat_map, join_by}
use Rattle.std.proofs.lemmas.Str.{chars_past_char, chars-nil, encodes-chars}
use Rattle.template_builtins_layout.specs.Characters.{BeginsWith}
use Rattle.template_builtins_layout.specs.Pieces.{first_piece, pieces, pieces_up_to}
use Rattle.template_builtins_layout.specs.Wrapping.{break_at, laid, lead, room_after, room_before, room_behind, stays, typed, wrapped_line}
use Rattle.template_builtins_layout.proofs.Blanks.{fewer}

-- what is made of the rest stands behind what is made, also after one step more
goes_on : (out one first made more whole : List ℕ) → one ≡ out ++ first → made ≡ first ++ more → out ++ made ≡ whole → one ++ more ≡ whole
goes_on out one first made more whole e g h =
    ap (λ (x : List ℕ). x ++ more) e ∙ append_assoc out first more ∙ ap (λ (x : List ℕ). out ++ x) (sym g) ∙ h

module _ (f : List ℕ → List ℕ) (wrap : List ℕ) (width : ℕ) (cuts : Bool) where
  -- what is made of the rest of a word stands behind what is made, and leaves the same room
  pub record WordLeft (out rest : List ℕ) (room : ℕ) (whole : List ℕ) (end : ℕ) : Type 0 where
    pub made : out ++ typed f wrap width cuts room (chars rest) ≡ whole
    pub behind : room_behind f wrap width cuts room (chars rest) ≡ end
    pub text : IsUtf8 rest

  pub word_more : (out one rest first after : List ℕ) (room left : ℕ) (whole : List ℕ) (end : ℕ) → WordLeft out rest room whole end → BeginsWith rest first after
      → IsUtf8 after → one ≡ out ++ (break_at f wrap width cuts room ++ f first) → left ≡ room_after f wrap width cuts room
      → WordLeft one after left whole end
  word_more out one rest first after room left whole end held (c, spelled, parts) utf8 grown less =
      let next : chars rest ≡ c ∷ chars after = chars_past_char rest after c held.text parts in
      let step : typed f wrap width cuts room (chars rest) ≡ (break_at f wrap width cuts room ++ f first) ++ typed f wrap width cuts left (chars after) =
      rw (next, spelled, less) (sym (append_assoc (break_at f wrap width cuts room) (f (encode_utf8 c)) (typed f wrap width cuts (room_after f wrap width cuts room) (chars after)))) in
      record {
        made = goes_on out one (break_at f wrap width cuts room ++ f first) _ _ whole grown step held.made;
        behind = rw less (rw next at held.behind);
        text = utf8;
      }

  pub word_end : (out rest : List ℕ) (room : ℕ) (whole : List ℕ) (end : ℕ) → WordLeft out rest room whole end → rest ≡ [] → (out ≡ whole) × (room ≡ end)
  word_end out rest room whole end held none =
      let empty : chars rest ≡ [] = ap chars none ∙ chars-nil in
      (sym (append-nil out) ∙ (rw empty at held.made), rw empty at held.behind)

  -- the white space before a word that stays
  pub lead_stays : (room blanks size : ℕ) (gap word : List ℕ) (t : Bool) → IsUtf8 gap → blanks ≡ length (chars gap) → size ≡ length (chars word)
      → t ≡ stays f wrap width cuts room blanks size → t ≡ true → lead f wrap width cuts room (chars gap, chars word) ≡ f gap
  lead_stays room blanks size gap word t utf8 counted sized is holds =
      let test = rw (counted, sized) at (sym is ∙ holds) in
      rw test (ap f (encodes-chars gap utf8))

  -- what is made of the rest of a line stands behind what is made: there are no more words than characters left
  pub record LineLeft (out rest : List ℕ) (room : ℕ) (whole : List ℕ) : Type 0 where
    pub most : ℕ
    pub enough : length (chars rest) ≤ most
    pub made : out ++ laid f wrap width cuts room (pieces_up_to most (chars rest)) ≡ whole
    pub text : IsUtf8 rest

  pub line_all : (out line : List ℕ) → IsUtf8 line → LineLeft out line width (out ++ wrapped_line f wrap width cuts line)
  unfolding wrapped_line pieces
  line_all out line utf8 = record { most = length (chars line); enough = omega arith; made = refl; text = utf8 }

  no_more : (n : ℕ) (cs : List ℕ) → first_piece cs ≡ None → pieces_up_to n cs ≡ []
  no_more zero cs none = refl
  no_more (suc n) cs none = rw none

  one_more : (n m : ℕ) (cs after : List ℕ) (piece : List ℕ × List ℕ) → n ≡ suc m → first_piece cs ≡ Some (piece, after)
      → pieces_up_to n cs ≡ piece ∷ pieces_up_to m after
  one_more n m cs after piece is first = rw (is, first)

  pub line_end : (out rest : List ℕ) (room : ℕ) (whole : List ℕ) → LineLeft out rest room whole → first_piece (chars rest) ≡ None → out ≡ whole
  line_end out rest room whole held none =
      sym (append-nil out) ∙ (rw (no_more held.most (chars rest) none) at held.made)

  pub line_more : (out one two rest after : List ℕ) (room start left : ℕ) (whole : List ℕ) (piece : List ℕ × List ℕ)
      → LineLeft out rest room whole → first_piece (chars rest) ≡ Some (piece, chars after) → IsUtf8 after
      → one ≡ out ++ lead f wrap width cuts room piece → start ≡ room_before f wrap width cuts room piece
      → two ≡ one ++ typed f wrap width cuts start piece.1 → left ≡ room_behind f wrap width cuts start piece.1
      → LineLeft two after left whole
  line_more out one two rest after room start left whole piece held first utf8 led before written behind =
      let less = fewer (chars rest) (chars after) piece first in
      let counted : held.most ≡ suc (held.most - 1) = omega (arith, less, held.enough) in
      let small : length (chars after) ≤ held.most - 1 = omega (arith, less, held.enough) in
      let all = pieces_up_to (held.most - 1) (chars after) in
      let step : laid f wrap width cuts room (pieces_up_to held.most (chars rest)) ≡ lead f wrap width cuts room piece ++ (typed f wrap width cuts start piece.1 ++ laid f wrap width cuts left all) =
      rw (one_more held.most (held.most - 1) (chars rest) (chars after) piece counted first, behind, before) in
      record {
        most = held.most - 1;
        enough = small;
        made = goes_on one two _ _ _ whole written refl (goes_on out one _ _ _ whole led step held.made);
        text = utf8;
      }

-- a line more is put behind others
abbrev pub has_any : {A : Type 0} → List A → Bool
has_any [] = false
has_any (x ∷ xs) = true

pub has_more : {A : Type 0} (xs : List A) (x : A) → has_any (xs ++ x ∷ []) ≡ true
has_more [] x = refl
has_more (y ∷ ys) x = refl

abbrev pub read : List (Bor (List ℕ)) → List (List ℕ)
read = map (λ (x : Bor (List ℕ)). x.now)

flat_push : (h : List ℕ → List ℕ) (xs : List (Bor (List ℕ))) (x : Bor (List ℕ)) → flat_map h (read (xs ++ x ∷ [])) ≡ flat_map h (read xs) ++ h x.now
flat_push h [] x = append-nil (h x.now)
flat_push h (y ∷ ys) x =
    ap (λ (r : List ℕ). h y.now ++ r) (flat_push h ys x) ∙ sym (append_assoc (h y.now) (flat_map h (read ys)) (h x.now))

pub join_more : (g : List ℕ → List ℕ) (sep : List ℕ) (xs : List (Bor (List ℕ))) (x : Bor (List ℕ))
    → join_by g sep (read (xs ++ x ∷ [])) ≡ join_by g sep (read xs) ++ (cond (has_any xs) sep [] ++ g x.now)
join_more g sep [] x = append-nil (g x.now)
join_more g sep (y ∷ ys) x =
    ap (λ (r : List ℕ). g y.now ++ r) (flat_push (λ z. sep ++ g z) ys x)
    ∙ sym (append_assoc (g y.now) (flat_map (λ z. sep ++ g z) (read ys)) (sep ++ g x.now))

pub next_line_is : (g : List ℕ → List ℕ) (sep out one : List ℕ) (begun : Bool) (xs : List (Bor (List ℕ))) (x : Bor (List ℕ))
    → begun ≡ has_any xs → out ≡ join_by g sep (read xs) → one ≡ out ++ (cond begun sep [] ++ g x.now) → one ≡ join_by g sep (read (xs ++ x ∷ []))
next_line_is g sep out one begun xs x is held grown =
    grown
    ∙ ap (λ (r : List ℕ). r ++ (cond begun sep [] ++ g x.now)) held
    ∙ ap (λ (t : Bool). join_by g sep (read xs) ++ (cond t sep [] ++ g x.now)) is
    ∙ sym (join_more g sep xs x)
