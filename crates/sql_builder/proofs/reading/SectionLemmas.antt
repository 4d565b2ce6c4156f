-- Pieces whose own words are laid as those of a statement are parsed back as their clauses.
use Rattle.sql_builder.proofs.Imports.{◌≡◌, refl, sym, ◌∙◌, ap, subst, ℕ, Bool, true, false, not, ◌&&◌, ◌||◌, List, [], ◌∷◌, ◌++◌, map, ℤ, pos, codes}
use Rattle.sql_builder.proofs.Imports.{append-nil, inl, inr, flat_map, AllByRecursion, list_all, list_any, and_parts, and_from, or_parts, or_from, false≢true}
use Rattle.sql_builder.proofs.Imports.{not-true, flat_map-append, list_any-append, Token, Word, is_open, is_semicolon, tokens, begins_with, Pieces, at_end}
use Rattle.sql_builder.proofs.Imports.{closes_from, has_top_level, is_even, placed, placed-is, Nested, TopLevel, Placed, is_clause_word, at_top_level, is_whole}
use Rattle.sql_builder.proofs.Imports.{token_of, map-append}
use Rattle.sql_builder.specs.{until, Section, concat_sections, union_opening, pieces_tokens, Piece, Fixed, Quoted, fixed_piece, pieces_text, own, begins_union}
use Rattle.sql_builder.specs.{has_fit_fragments, own_tokens, Parts, before_top_level, parts_at, with_front, Clause, piece_clauses, ends_clauses, is_union}
use Rattle.sql_builder.specs.{own_placed, read, without_semicolon}
use Rattle.sql_builder.specs.Pieces.{Raw}
use Rattle.sql_builder.proofs.tokens.{even_closes, is_even-append, at_end-closes, stays-closes, not_union, semicolon-later, semicolon-none, semicolon-one}
use Rattle.sql_builder.proofs.tokens.{none-inner, parts-none}
use Rattle.sql_builder.proofs.truth.ConnectiveLemmas.{placed-then}
use Rattle.sql_builder.proofs.reading.ClauseWordLemmas.{fit-balanced, fit-flags, laid-both, laid-plain, laid_from, Flagged, flags, own-append, same-parts}
use Rattle.sql_builder.proofs.reading.ClauseWordLemmas.{shape-even, are_fit_at, is_fit_at, are_fit-is, fragments_closed}
use Rattle.sql_builder.proofs.pieces.ShapeLemmas.{Follows, Inside, text-append}
use Rattle.sql_parts.specs.Fragments as fragments
use Rattle.sql_builder.proofs.lists.{none-weaker}

-- the builder's own words before the first UNION
pub record Front (ts : List Token) : Type 0 where
  pub laid : laid_from (pos 0) ts ≡ true
  pub even : is_even ts ≡ true
  pub no_union : list_any is_union ts ≡ false

-- own words that are balanced or none, without a clause word
pub record Neutral (ps : Pieces) : Type 0 where
  pub even : is_even (own ps) ≡ true
  pub no_word : list_any is_clause_word (own ps) ≡ false

pub front-append : (a b : List Token) → Front a → Front b → Front (a ++ b)
front-append a b one other = record {
  laid = laid-both (pos 0) a b one.laid (subst (λ l. laid_from l b ≡ true) (sym (at_end-closes (pos 0) a (even_closes a one.even))) other.laid);
  even = is_even-append a b one.even other.even;
  no_union = list_any-append is_union a b ∙ or_from _ _ one.no_union other.no_union;
}

pub neutral-front : (ps : Pieces) → Neutral ps → Front (own ps)
neutral-front ps neutral = record {
  laid = laid-plain (pos 0) (own ps) (stays-closes (pos 0) (own ps) (even_closes (own ps) neutral.even)) neutral.no_word;
  even = neutral.even;
  no_union = none-weaker is_union is_clause_word not_union (own ps) neutral.no_word;
}

-- ---- top-level tokens of the builder's own

top_level-all : (test : Token → Bool) (ts : List Token) → list_any (at_top_level test) (map TopLevel ts) ≡ list_any test ts
top_level-all test [] = refl
top_level-all test (t ∷ ts) = ap (λ (b : Bool). test t || b) (top_level-all test ts)

pub own-top_level : (test : Token → Bool) (ps : Pieces) → list_any (at_top_level test) (flat_map own_placed ps) ≡ list_any test (own ps)
own-top_level test [] = refl
own-top_level test (Fixed text ∷ ps) =
    list_any-append (at_top_level test) (map TopLevel (tokens text)) (flat_map own_placed ps)
    ∙ ap (λ (b : Bool). b || list_any (at_top_level test) (flat_map own_placed ps)) (top_level-all test (tokens text))
    ∙ ap (λ (b : Bool). list_any test (tokens text) || b) (own-top_level test ps)
    ∙ sym (list_any-append test (tokens text) (own ps))
own-top_level test (Quoted text ∷ ps) = own-top_level test ps
own-top_level test (Raw text ∷ ps) =
    list_any-append (at_top_level test) (map Nested (tokens text)) (flat_map own_placed ps)
    ∙ ap (λ (b : Bool). b || list_any (at_top_level test) (flat_map own_placed ps)) (none-inner test (tokens text))
    ∙ own-top_level test ps

back-top_level : (ts : List Token) → map token_of (map TopLevel ts) ≡ ts
back-top_level [] = refl
back-top_level (t ∷ ts) = ap (λ us. t ∷ us) (back-top_level ts)

back-nested : (ts : List Token) → map token_of (map Nested ts) ≡ ts
back-nested [] = refl
back-nested (t ∷ ts) = ap (λ us. t ∷ us) (back-nested ts)

-- and all tokens
pub own-shape : (ps : Pieces) → map token_of (flat_map own_placed ps) ≡ pieces_tokens ps
own-shape [] = refl
own-shape (Fixed text ∷ ps) = map-append token_of (map TopLevel (tokens text)) (flat_map own_placed ps) ∙ cc (back-top_level (tokens text), own-shape ps)
own-shape (Quoted text ∷ ps) = ap (λ us. Token.Str text ∷ us) (own-shape ps)
own-shape (Raw text ∷ ps) = map-append token_of (map Nested (tokens text)) (flat_map own_placed ps) ∙ cc (back-nested (tokens text), own-shape ps)

-- ---- UNION

narrow : (clause union : Bool) → (clause ≡ false → union ≡ false) → union ≡ (clause && union)
narrow true union h = refl
narrow false union h = h refl

pub union-flag : (m : Placed) → at_top_level is_union m ≡ (at_top_level is_clause_word m && is_union (token_of m))
union-flag (TopLevel t) = narrow (is_clause_word t) (is_union t) (not_union t)
union-flag (Nested t) = refl

abbrev pub any_union : List Flagged → Bool
any_union ms = list_any (λ (m : Flagged). m.0 && is_union m.1) ms

pub union-flags : (ms : List Placed) → list_any (at_top_level is_union) ms ≡ any_union (flags ms)
union-flags [] = refl
union-flags (m ∷ ms) = cc (union-flag m, union-flags ms)

pub before-append : (test : Token → Bool) (a b : List Placed) → list_any (at_top_level test) a ≡ false
    → before_top_level test (a ++ b) ≡ a ++ before_top_level test b
before-append test [] b none = refl
before-append test (m ∷ a) b none =
    let both = or_parts (at_top_level test m) (list_any (at_top_level test) a) none in
    rw both.0 (ap (λ ms. m ∷ ms) (before-append test a b both.1))

none-ends : (ts : List Token) → list_all is_whole ts ≡ true → list_any is_union ts ≡ false → list_any ends_clauses ts ≡ false
none-ends [] whole none = refl
none-ends (t ∷ ts) whole none =
    let here = and_parts (is_whole t) (list_all is_whole ts) whole in
    let both = or_parts (is_union t) (list_any is_union ts) none in
    or_from _ _ (or_from _ _ both.0 (not-true _ (and_parts (not (is_open t)) (not (is_semicolon t)) here.0).1)) (none-ends ts here.1 both.1)

fit-left : (l : ℤ) (a b : Pieces) → are_fit_at l (a ++ b) ≡ true → are_fit_at l a ≡ true
fit-left l [] b fit = refl
fit-left l (p ∷ a) b fit =
    let both = and_parts (is_fit_at l p) (are_fit_at (at_end l (own_tokens p)) (a ++ b)) fit in
    and_from _ _ both.0 (fit-left (at_end l (own_tokens p)) a b both.1)

pub until-after : (a b : Pieces) → list_any is_union (own a) ≡ false → until begins_union (a ++ b) ≡ a ++ until begins_union b
until-after [] b none = refl
until-after (Fixed text ∷ a) b none =
    let both = or_parts (list_any is_union (tokens text)) (list_any is_union (own a)) (sym (list_any-append is_union (tokens text) (own a)) ∙ none) in
    rw both.0 (ap (λ ps. Fixed text ∷ ps) (until-after a b both.1))
until-after (Quoted text ∷ a) b none = ap (λ ps. Quoted text ∷ ps) (until-after a b none)
until-after (Raw text ∷ a) b none = ap (λ ps. Raw text ∷ ps) (until-after a b none)

-- what follows the clauses that are read: nothing, the `;`, or a UNION and whatever follows it
pub record Ending (rest : Pieces) : Type 0 where
  pub follows : Follows (pieces_text rest)
  pub cut : (a : List Token) → list_all is_whole a ≡ true → (r : List Token) × (without_semicolon (a ++ tokens (pieces_text rest)) ≡ a ++ r)
      × (before_top_level is_union (placed r) ≡ [])
  pub ends : before_top_level ends_clauses (flat_map own_placed rest) ≡ []
  pub until_fits : (l : ℤ) → are_fit_at l (until begins_union rest) ≡ true

pub ending-none : Ending []
ending-none = record {
  follows = inl refl;
  cut = λ a whole. ([], ap without_semicolon (append-nil a) ∙ semicolon-none a whole ∙ sym (append-nil a), refl);
  ends = refl;
  until_fits = λ l. refl;
}

pub ending-semicolon : Ending (fixed_piece (codes ";"))
ending-semicolon = record {
  follows = inr refl;
  cut = λ a whole. ([], semicolon-one a ∙ sym (append-nil a), refl);
  ends = refl;
  until_fits = λ l. refl;
}

pub ending-union : (all : Bool) (more : Pieces) → Ending (Fixed (union_opening all) ∷ more)
ending-union true more = record {
  follows = inr refl;
  cut = λ a whole. let found = semicolon-later a (Word (codes "UNION")) (Word (codes "ALL") ∷ tokens (pieces_text more)) refl in
      (Word (codes "UNION") ∷ found.0, found.1, refl);
  ends = refl;
  until_fits = λ l. refl;
}
ending-union false more = record {
  follows = inr refl;
  cut = λ a whole. let found = semicolon-later a (Word (codes "UNION")) (tokens (pieces_text more)) refl in (Word (codes "UNION") ∷ found.0, found.1, refl);
  ends = refl;
  until_fits = λ l. refl;
}

-- the clauses of pieces that no UNION and no `;` ends
abbrev pub clauses_in : Pieces → List Clause
clauses_in ps = (parts_at is_clause_word (flat_map own_placed ps)).rest

module _ (front rest : Pieces) (is : Front (own front)) (ending : Ending rest) where
  pub list-back : piece_clauses (front ++ rest) ≡ clauses_in front
  unfolding piece_clauses
  list-back =
      let whole = (and_parts (list_all is_whole (own front)) (closes_from (pos 0) (own front)) is.even).0 in
      ap (λ ms. (parts_at is_clause_word (before_top_level ends_clauses ms)).rest) (flat_map-append own_placed front rest)
      ∙ ap (λ ms. (parts_at is_clause_word ms).rest)
      (before-append ends_clauses (flat_map own_placed front) (flat_map own_placed rest)
      (own-top_level ends_clauses front ∙ none-ends (own front) whole is.no_union)
      ∙ ap (λ ms. flat_map own_placed front ++ ms) ending.ends ∙ append-nil (flat_map own_placed front))

  fit-front : has_fit_fragments (front ++ rest) ≡ true → are_fit_at (pos 0) front ≡ true
  fit-front fit =
      fit-left (pos 0) front (until begins_union rest)
      (ap (are_fit_at (pos 0)) (sym (until-after front rest is.no_union)) ∙ sym (are_fit-is (until begins_union (front ++ rest))) ∙ fit)

  read-front : are_fit_at (pos 0) front ≡ true → read (pieces_tokens front ++ tokens (pieces_text rest)) ≡ clauses_in front
  unfolding read
  read-front fit =
      let same = fit-flags (pos 0) front refl fit is.laid in
      let even = shape-even front (fit-balanced (pos 0) front fit) is.even in
      let both = and_parts (list_all is_whole (pieces_tokens front)) (closes_from (pos 0) (pieces_tokens front)) even in
      let found = ending.cut (pieces_tokens front) both.0 in
      let no_union : has_top_level is_union (pieces_tokens front) ≡ false = union-flags (placed (pieces_tokens front)) ∙ ap any_union same
      ∙ sym (union-flags (flat_map own_placed front)) ∙ own-top_level is_union front ∙ is.no_union in
      ap (λ us. (parts_at is_clause_word (before_top_level is_union (fragments.placed us))).rest) found.1
      ∙ ap (λ ms. (parts_at is_clause_word (before_top_level is_union ms)).rest) (placed-is (pieces_tokens front ++ found.0))
      ∙ ap (λ ms. (parts_at is_clause_word (before_top_level is_union ms)).rest)
      (placed-then (pieces_tokens front) found.0 (at_end-closes (pos 0) (pieces_tokens front) both.1))
      ∙ ap (λ ms. (parts_at is_clause_word ms).rest)
      (before-append is_union (placed (pieces_tokens front)) (placed found.0) no_union
      ∙ ap (λ ms. placed (pieces_tokens front) ++ ms) found.2 ∙ append-nil (placed (pieces_tokens front)))
      ∙ ap (λ (ps : Parts). ps.rest) (same-parts (placed (pieces_tokens front)) (flat_map own_placed front) same)

  -- what is printed parses back as its clauses
  pub read-back : Inside front → has_fit_fragments (front ++ rest) ≡ true → read (tokens (pieces_text (front ++ rest))) ≡ piece_clauses (front ++ rest)
  read-back inside fit =
      let fits = fit-front fit in
      let no_open = fragments_closed front (fit-balanced (pos 0) front fits) in
      ap read (ap tokens (text-append front rest) ∙ inside.reads no_open (pieces_text rest) ending.follows) ∙ read-front fits ∙ sym list-back

-- ---- sections

-- a section that clause words of its own open, and whose body has a property, and no clause word of the builder's
pub record Opens (P : Pieces → Type 0) (s : Section Piece) : Type 0 where
  pub front : Front (tokens s.opening)
  pub starts : begins_with is_clause_word (tokens s.opening) ≡ true
  pub neutral : Neutral s.body
  pub body : P s.body

abbrev pub AllOpen : (Pieces → Type 0) → List (Section Piece) → Type 0
AllOpen P sections = AllByRecursion (Opens P) sections

-- the pieces of a section
abbrev pub section_pieces : Section Piece → Pieces
section_pieces s = fixed_piece s.opening ++ s.body

pub sections-front : (P : Pieces → Type 0) (sections : List (Section Piece)) → AllOpen P sections → Front (own (concat_sections fixed_piece sections))
sections-front P [] all = record { laid = refl; even = refl; no_union = refl }
sections-front P (s ∷ sections) all =
    subst Front (sym (own-append (section_pieces s) (concat_sections fixed_piece sections)))
    (front-append (tokens s.opening ++ own s.body) (own (concat_sections fixed_piece sections))
    (front-append (tokens s.opening) (own s.body) all.0.front (neutral-front s.body all.0.neutral)) (sections-front P sections all.1))

-- ---- the parts of lists that are joined

-- the last clause goes on
abbrev pub with_last : List Token → List Clause → List Clause
with_last ts [] = []
with_last ts (c ∷ []) = (c.0, c.1 ++ ts) ∷ []
with_last ts (c ∷ d ∷ cs) = c ∷ with_last ts (d ∷ cs)

pub with_last-nil : (cs : List Clause) → with_last [] cs ≡ cs
with_last-nil [] = refl
with_last-nil (c ∷ []) = ap (λ (ts : List Token). (c.0, ts) ∷ []) (append-nil c.1)
with_last-nil (c ∷ d ∷ cs) = ap (◌∷◌ c) (with_last-nil (d ∷ cs))

abbrev pub lead_on : List Token → List Token → List Clause → List Token
lead_on ts lead [] = lead ++ ts
lead_on ts lead (c ∷ cs) = lead

abbrev pub joined : Parts → Parts → Parts
joined one other = record { lead = lead_on other.lead one.lead one.rest; rest = with_last other.lead one.rest ++ other.rest }

joined-front : (is : Bool) (t : Token) (lead : List Token) (rest : List Clause) (other : Parts)
    → with_front is t (joined (record { lead = lead; rest = rest }) other) ≡ joined (with_front is t (record { lead = lead; rest = rest })) other
joined-front true t lead [] other = refl
joined-front true t lead (c ∷ cs) other = refl
joined-front false t lead [] other = refl
joined-front false t lead (c ∷ cs) other = refl

pub parts-joined : (test : Token → Bool) (a b : List Placed) → parts_at test (a ++ b) ≡ joined (parts_at test a) (parts_at test b)
parts-joined test [] b = refl
parts-joined test (m ∷ a) b =
    ap (with_front (at_top_level test m) (token_of m)) (parts-joined test a b)
    ∙ joined-front (at_top_level test m) (token_of m) (parts_at test a).lead (parts_at test a).rest (parts_at test b)

-- the clauses of sections are those of each
pub starts-lead : (ts : List Token) (ms : List Placed) → begins_with is_clause_word ts ≡ true → (parts_at is_clause_word (map TopLevel ts ++ ms)).lead ≡ []
starts-lead [] ms h = absurd (false≢true h)
starts-lead (t ∷ ts) ms h = ap (λ b. (with_front b t (parts_at is_clause_word (map TopLevel ts ++ ms))).lead) h

sections-lead : (P : Pieces → Type 0) (sections : List (Section Piece)) → AllOpen P sections
    → (parts_at is_clause_word (flat_map own_placed (concat_sections fixed_piece sections))).lead ≡ []
sections-lead P [] all = refl
sections-lead P (s ∷ sections) all = starts-lead (tokens s.opening) (flat_map own_placed (s.body ++ concat_sections fixed_piece sections)) all.0.starts

pub clauses-sections : (P : Pieces → Type 0) (sections : List (Section Piece)) → AllOpen P sections → clauses_in (concat_sections fixed_piece sections)
    ≡ flat_map (λ s. clauses_in (section_pieces s)) sections
clauses-sections P [] all = refl
clauses-sections P (s ∷ sections) all =
    let more = concat_sections fixed_piece sections in
    ap (λ ms. (parts_at is_clause_word ms).rest) (flat_map-append own_placed (section_pieces s) more)
    ∙ ap (λ (ps : Parts). ps.rest) (parts-joined is_clause_word (flat_map own_placed (section_pieces s)) (flat_map own_placed more))
    ∙ ap (λ ts. with_last ts (clauses_in (section_pieces s)) ++ clauses_in more) (sections-lead P sections all.1)
    ∙ ap (λ cs. cs ++ clauses_in more) (with_last-nil (clauses_in (section_pieces s)))
    ∙ ap (λ cs. clauses_in (section_pieces s) ++ cs) (clauses-sections P sections all.1)

-- the clauses of a section: those of its opening words, the last with the body
abbrev pub opening_clauses : List ℕ → List Clause
opening_clauses opening = (parts_at is_clause_word (map TopLevel (tokens opening))).rest

pub section-clauses : (s : Section Piece) → Neutral s.body → clauses_in (section_pieces s) ≡ with_last (pieces_tokens s.body) (opening_clauses s.opening)
section-clauses s neutral =
    let words = map TopLevel (tokens s.opening) in
    let body = flat_map own_placed s.body in
    ap (λ (ps : Parts). ps.rest) (parts-joined is_clause_word words body)
    ∙ ap (λ (ps : Parts). with_last ps.lead (opening_clauses s.opening) ++ ps.rest)
    (parts-none is_clause_word body (own-top_level is_clause_word s.body ∙ neutral.no_word))
    ∙ append-nil (with_last (map token_of body) (opening_clauses s.opening))
    ∙ ap (λ ts. with_last ts (opening_clauses s.opening)) (own-shape s.body)
