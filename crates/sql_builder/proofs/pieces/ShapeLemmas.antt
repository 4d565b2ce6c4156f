-- Pieces of a statement keep their tokens side by side, since the builder's words between them end and begin with edges.
use Rattle.sql_builder.proofs.Imports.{◌≡◌, ℕ, Bool, true, false, not, List, [], ◌∷◌, ◌++◌, codes, refl, sym, ap, ◌∙◌, subst, inl, inr, ◌⊎◌, append_assoc, map}
use Rattle.sql_builder.proofs.Imports.{append-nil, flat_map-append, and_parts, not-true, or_from, or_left, or_right, list_all-append, list_any-append, list_all}
use Rattle.sql_builder.proofs.Imports.{list_any, quoted, token_reader, Symbol, Token, begins_with, clean, closed, ends_with, has_semicolon, is_edge, is_empty}
use Rattle.sql_builder.proofs.Imports.{is_open, is_semicolon, tokens, Single, begins-append, clean-behind, between-tokens, between_closed, closed-shut, seam}
use Rattle.sql_builder.proofs.Imports.{IsShut, edge-ends, opens-every, shut-behind, Pieces}
use Rattle.sql_parts.specs.Readers.{after}
use Rattle.sql_builder.proofs.pieces.PartLemmas.{Opens, opens-append, opens-shut, state_behind}
use Rattle.sql_builder.specs.{in_brackets, EndsInOneSemicolon, piece_tokens, pieces_tokens, has_closed_fragments, has_no_semicolons, is_closed_piece}
use Rattle.sql_builder.specs.{is_without_semicolon, Piece, Fixed, Quoted, fixed_piece, piece_text, pieces_text, quoted_piece, raw_piece}
use Rattle.sql_builder.specs.Pieces.{Raw}
use Rattle.sql_builder.specs.WhereTokens as where_tokens

abbrev pub has_open : List Token → Bool
has_open all = list_any is_open all

-- what may follow a fragment: nothing, or what begins with an edge
abbrev pub Follows : List ℕ → Type 0
Follows text = (text ≡ []) ⊎ (begins_with is_edge text ≡ true)

-- where each piece passes, no token of the pieces is of a kind
pub record Free (passes : Piece → Bool) (kind : Token → Bool) (ps : Pieces) : Type 0 where
  pub none : list_all passes ps ≡ true → list_any kind (pieces_tokens ps) ≡ false

abbrev pub NoOpen : Pieces → Type 0
NoOpen ps = Free is_closed_piece is_open ps

abbrev pub Plain : Pieces → Type 0
Plain ps = Free is_without_semicolon is_semicolon ps

-- pieces whose tokens are theirs before whatever may follow a fragment
pub record Inside (ps : Pieces) : Type 0 where
  pub reads : has_closed_fragments ps ≡ true → (text : List ℕ) → Follows text → tokens (pieces_text ps ++ text) ≡ pieces_tokens ps ++ tokens text
  pub no_open : NoOpen ps
  pub plain : Plain ps
  pub opens : has_closed_fragments ps ≡ true → Opens 0 ps

-- pieces that may follow a fragment
pub record Following (ps : Pieces) : Type 0 where
  pub follows : (text : List ℕ) → Follows text → Follows (pieces_text ps ++ text)

pub text-append : (x y : Pieces) → pieces_text (x ++ y) ≡ pieces_text x ++ pieces_text y
text-append x y = flat_map-append piece_text x y

pub pieces_tokens-append : (x y : Pieces) → pieces_tokens (x ++ y) ≡ pieces_tokens x ++ pieces_tokens y
pieces_tokens-append x y = flat_map-append piece_tokens x y

pub pieces_tokens-brackets : (x : Pieces) → pieces_tokens (in_brackets fixed_piece x) ≡ where_tokens.in_brackets (pieces_tokens x)
unfolding where_tokens.in_brackets
pieces_tokens-brackets x = ap (λ ts. Symbol 40 ∷ ts) (pieces_tokens-append x (fixed_piece (codes ")")))

both-closed : (x y : Pieces) → has_closed_fragments (x ++ y) ≡ true → (has_closed_fragments x ≡ true) × (has_closed_fragments y ≡ true)
both-closed x y is = and_parts _ _ (sym (list_all-append is_closed_piece x y) ∙ is)

both-free : {passes : Piece → Bool} {kind : Token → Bool} (x y : Pieces) → Free passes kind x → Free passes kind y → Free passes kind (x ++ y)
both-free {passes = passes} {kind = kind} x y one other = record {
  none = λ is. let both = and_parts _ _ (sym (list_all-append passes x y) ∙ is) in
      ap (list_any kind) (pieces_tokens-append x y) ∙ list_any-append kind (pieces_tokens x) (pieces_tokens y)
      ∙ or_from _ _ (one.none both.0) (other.none both.1);
}

-- pieces before others
reads-both : (x y : Pieces) (text : List ℕ) → tokens (pieces_text x ++ (pieces_text y ++ text)) ≡ pieces_tokens x ++ tokens (pieces_text y ++ text)
    → tokens (pieces_text y ++ text) ≡ pieces_tokens y ++ tokens text → tokens (pieces_text (x ++ y) ++ text) ≡ pieces_tokens (x ++ y) ++ tokens text
reads-both x y text one other =
    ap (λ t. tokens (t ++ text)) (text-append x y) ∙ ap tokens (append_assoc (pieces_text x) (pieces_text y) text)
    ∙ one ∙ ap (λ ts. pieces_tokens x ++ ts) other ∙ sym (append_assoc (pieces_tokens x) (pieces_tokens y) (tokens text))
    ∙ ap (λ ts. ts ++ tokens text) (sym (pieces_tokens-append x y))

pub inside-shape : (ps : Pieces) → Inside ps → has_closed_fragments ps ≡ true → tokens (pieces_text ps) ≡ pieces_tokens ps
inside-shape ps inside is = ap tokens (sym (append-nil (pieces_text ps))) ∙ inside.reads is [] (inl refl) ∙ append-nil (pieces_tokens ps)

inside-shut : (ps : Pieces) → Inside ps → has_closed_fragments ps ≡ true → IsShut (state_behind 0 ps)
inside-shut ps inside is = shut-behind (pieces_text ps) (ap (λ all. not (has_open all)) (inside-shape ps inside is) ∙ ap not (inside.no_open.none is))

pub inside-inside : (x y : Pieces) → Inside x → Following y → Inside y → Inside (x ++ y)
inside-inside x y one behind other = record {
  reads = λ is text follows. let both = both-closed x y is in
      reads-both x y text (one.reads both.0 (pieces_text y ++ text) (behind.follows text follows)) (other.reads both.1 text follows);
  no_open = both-free x y one.no_open other.no_open;
  plain = both-free x y one.plain other.plain;
  opens = λ is. let both = both-closed x y is in
      opens-append 0 x y (one.opens both.0)
      (opens-shut (state_behind 0 x) y (inside-shut x one both.0) (subst Follows (append-nil (pieces_text y)) (behind.follows [] (inl refl)))
      (other.opens both.1));
}

-- the builder's words
pub record Whole (words : List ℕ) : Type 0 where
  pub is_closed : closed words ≡ true
  pub plain : has_semicolon words ≡ false

word-free : {passes : Piece → Bool} {kind : Token → Bool} (words : List ℕ) → list_any kind (tokens words) ≡ false → Free passes kind (fixed_piece words)
word-free {kind = kind} words none = record { none = λ is. ap (list_any kind) (append-nil (tokens words)) ∙ none }

alone : (piece : Piece) (text : List ℕ) → tokens (piece_text piece ++ text) ≡ piece_tokens piece ++ tokens text
    → tokens (pieces_text (piece ∷ []) ++ text) ≡ pieces_tokens (piece ∷ []) ++ tokens text
alone piece text is = ap (λ t. tokens (t ++ text)) (append-nil (piece_text piece)) ∙ is ∙ ap (λ ts. ts ++ tokens text) (sym (append-nil (piece_tokens piece)))

follows-clean : (one text : List ℕ) → Follows text → clean one text ≡ true
follows-clean one text (inl none) = subst (λ t. clean one t ≡ true) (sym none) (or_left _ _ (or_left _ _ (or_right (is_empty one) true refl)))
follows-clean one text (inr begins) = or_right _ _ begins

pub words-inside : (words : List ℕ) → Whole words → Inside (fixed_piece words)
words-inside words is = record {
  reads = λ all text follows. alone (Fixed words) text (seam words text is.is_closed (follows-clean words text follows));
  no_open = word-free words (closed-shut words is.is_closed);
  plain = word-free words is.plain;
  opens = λ all. (tt, tt);
}

pub words-first : (words : List ℕ) (one : Pieces) → Whole words → ends_with is_edge words ≡ true → Inside one → Inside (fixed_piece words ++ one)
words-first words one is ends inside =
    let first = words-inside words is in
    record {
      reads = λ all text follows. let rest = pieces_text one ++ text in
          reads-both (fixed_piece words) one text (alone (Fixed words) rest (seam words rest is.is_closed (clean-behind words rest ends)))
          (inside.reads all text follows);
      no_open = both-free (fixed_piece words) one first.no_open inside.no_open;
      plain = both-free (fixed_piece words) one first.plain inside.plain;
      opens = λ all. opens-append 0 (fixed_piece words) one (tt, tt)
          (subst (λ s. Opens s one) (sym (ap (after token_reader 0) (append-nil words) ∙ edge-ends words is.is_closed ends)) (inside.opens all));
    }

pub words-following : (words : List ℕ) (ps : Pieces) → begins_with is_edge words ≡ true → Following (fixed_piece words ++ ps)
words-following words ps begins = record {
  follows =
      λ text follows. inr (begins-append is_edge (words ++ pieces_text ps) text (begins-append is_edge words (pieces_text ps) begins));
}

-- a fragment and a quoted text
pub raw-inside : (text : List ℕ) → Inside (raw_piece text)
raw-inside one = record {
  reads = λ is text follows. alone (Raw one) text (seam one text (and_parts (closed one) true is).0 (follows-clean one text follows));
  no_open = record { none = λ is. ap has_open (append-nil (tokens one)) ∙ closed-shut one (and_parts (closed one) true is).0 };
  plain = record {
    none = λ is. ap (list_any is_semicolon) (append-nil (tokens one))
        ∙ not-true (has_semicolon one) (and_parts (not (has_semicolon one)) true is).0;
  };
  opens = λ is. (tt, tt);
}

pub quoted-inside : (text : List ℕ) → Inside (quoted_piece text)
quoted-inside one = record {
  reads = λ is text follows. alone (Quoted one) text (seam (quoted one) text (between_closed Single one _ refl) (follows-clean (quoted one) text follows)
      ∙ ap (λ ts. ts ++ tokens text) (between-tokens Single one));
  no_open = record { none = λ is. refl };
  plain = record { none = λ is. refl };
  opens = λ is. (tt, (opens-every Single, (tt, tt)));
}

pub none-inside : Inside []
none-inside = record {
  reads = λ is text follows. refl;
  no_open = record { none = λ is. refl };
  plain = record { none = λ is. refl };
  opens = λ is. tt;
}

pub none-following : Following []
none-following = record { follows = λ text follows. follows }

pub following-append : (x y : Pieces) → Following x → Following y → Following (x ++ y)
following-append x y one other = record {
  follows = λ text follows. subst Follows (sym (ap (λ t. t ++ text) (text-append x y) ∙ append_assoc (pieces_text x) (pieces_text y) text))
      (one.follows (pieces_text y ++ text) (other.follows text follows));
}

-- what holds of pieces by themselves
pub record Shaped (ps : Pieces) : Type 0 where
  pub shape_is : has_closed_fragments ps ≡ true → tokens (pieces_text ps) ≡ pieces_tokens ps
  pub no_open : NoOpen ps
  pub opens : has_closed_fragments ps ≡ true → Opens 0 ps

pub shaped : (ps : Pieces) → Inside ps → Shaped ps
shaped ps inside = record {
  shape_is = inside-shape ps inside;
  no_open = inside.no_open;
  opens = inside.opens;
}

pub shape_closed : (ps : Pieces) → Shaped ps → has_closed_fragments ps ≡ true → closed (pieces_text ps) ≡ true
shape_closed ps inside is = ap (λ all. not (has_open all)) (inside.shape_is is) ∙ ap not (inside.no_open.none is)

-- a statement, and the `;` behind it
abbrev with_semicolon : Pieces → Pieces
with_semicolon ps = ps ++ fixed_piece (codes ";")

shape-semicolon : (ps : Pieces) → pieces_tokens (with_semicolon ps) ≡ pieces_tokens ps ++ Symbol 59 ∷ []
shape-semicolon ps = pieces_tokens-append ps (fixed_piece (codes ";"))

pub statement-shaped : (ps : Pieces) → Inside ps → Shaped (with_semicolon ps)
statement-shaped ps inside = record {
  shape_is = λ is.
      let both = both-closed ps (fixed_piece (codes ";")) is in
      ap tokens (text-append ps (fixed_piece (codes ";"))) ∙ inside.reads both.0 (codes ";") (inr refl) ∙ sym (shape-semicolon ps);
  no_open = both-free ps (fixed_piece (codes ";")) inside.no_open (word-free (codes ";") refl);
  opens = λ is. opens-append 0 ps (fixed_piece (codes ";")) (inside.opens (both-closed ps (fixed_piece (codes ";")) is).0) (tt, tt);
}

pub ends_in_semicolon : (ps : Pieces) → Inside ps → has_closed_fragments (with_semicolon ps) ≡ true → has_no_semicolons (with_semicolon ps) ≡ true
    → EndsInOneSemicolon (tokens (pieces_text (with_semicolon ps)))
ends_in_semicolon ps inside is plain =
    let both = and_parts _ _ (sym (list_all-append is_without_semicolon ps (fixed_piece (codes ";"))) ∙ plain) in
    (pieces_tokens ps, (statement-shaped ps inside).shape_is is ∙ shape-semicolon ps, inside.plain.none both.0)

-- ---- phrases

pub words-between : (words : List ℕ) (one other : Pieces) → Whole words → begins_with is_edge words ≡ true → ends_with is_edge words ≡ true → Inside one
    → Inside other → Inside (one ++ (fixed_piece words ++ other))
words-between words one other is begins ends first last =
    inside-inside one (fixed_piece words ++ other) first (words-following words other begins) (words-first words other is ends last)

pub words-last : (words : List ℕ) (one : Pieces) → Whole words → begins_with is_edge words ≡ true → Inside one → Inside (one ++ fixed_piece words)
words-last words one is begins first = inside-inside one (fixed_piece words) first (words-following words [] begins) (words-inside words is)

pub closing-last : (one : Pieces) → Inside one → Inside (one ++ fixed_piece (codes ")"))
closing-last one first = words-last (codes ")") one (record { is_closed = refl; plain = refl }) refl first

pub brackets-inside : (x : Pieces) → Inside x → Inside (in_brackets fixed_piece x)
brackets-inside x one = words-first (codes "(") (x ++ fixed_piece (codes ")")) (record { is_closed = refl; plain = refl }) refl (closing-last x one)

-- the texts of fragments
pub texts_of_raw : (ts : List (List ℕ)) → map pieces_text (map raw_piece ts) ≡ ts
texts_of_raw [] = refl
texts_of_raw (t ∷ ts) = simp (append-nil, texts_of_raw ts)
