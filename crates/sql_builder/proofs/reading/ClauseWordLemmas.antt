-- Fragments that are fit leave the nesting depth, and the top-level clause keywords, to the builder's own words.
use Rattle.sql_builder.proofs.Imports.{◌≡◌, refl, sym, ◌∙◌, ap, subst, ℕ, zero, suc, Bool, true, false, not, ◌&&◌, ◌||◌, List, [], ◌∷◌, ◌++◌, map, ℤ, pos}
use Rattle.sql_builder.proofs.Imports.{negsuc, append-nil, flat_map, list_all, list_any, and_parts, and_from, or_parts, false≢true, not-true, not_from_false}
use Rattle.sql_builder.proofs.Imports.{flat_map-append, list_all-append, Token, Str, tokens, Pieces, after, at_end, closes_from, is_at_least_0, is_balanced}
use Rattle.sql_builder.proofs.Imports.{is_even, is_zero, placed, placed_from, end-is, has_top_level-is, is_balanced-is, as_placed, Nested, TopLevel, Placed}
use Rattle.sql_builder.proofs.Imports.{is_clause_word, at_top_level, is_whole, token_of, balanced, map-append}
use Rattle.sql_builder.specs.{pieces_tokens, has_closed_fragments, is_balanced_piece, own_tokens, are_fit, are_fit_after, is_fit_after, own}
use Rattle.sql_builder.specs.{has_balanced_fragments, Fixed, Quoted, Piece, Parts, parts_at, with_front, own_placed}
use Rattle.sql_builder.specs.Pieces.{Raw}
use Rattle.sql_builder.proofs.tokens.{at_end-append, at_end-closes, placed_from-append, stays_from, stays-both, stays-parts, stays-closes, closes-stays}
use Rattle.sql_builder.proofs.tokens.{stays-high, stays-up, ends-up, placed-above, tokens-placed_from, balanced_even, even_text, balanced_closed, has_clause}

pub own-append : (x y : Pieces) → own (x ++ y) ≡ own x ++ own y
own-append x y = flat_map-append own_tokens x y

-- a fragment is fit, where the depth of the builder's own words before it is this one
abbrev pub is_fit_at : ℤ → Piece → Bool
is_fit_at l (Raw text) = is_balanced (tokens text) && (not (is_zero l) || not (has_clause (tokens text)))
is_fit_at l _ = true

abbrev pub are_fit_at : ℤ → Pieces → Bool
are_fit_at l [] = true
are_fit_at l (piece ∷ pieces) = is_fit_at l piece && are_fit_at (at_end l (own_tokens piece)) pieces

fit-piece : (before : Pieces) (piece : Piece) → is_fit_after before piece ≡ is_fit_at (at_end (pos 0) (own before)) piece
fit-piece before (Fixed text) = refl
fit-piece before (Quoted text) = refl
fit-piece before (Raw text) = λ i. is_balanced-is (tokens text) i && (not (end-is (own before) i) || not (has_top_level-is is_clause_word (tokens text) i))

depth-after : (before : Pieces) (piece : Piece) → at_end (pos 0) (own (before ++ piece ∷ [])) ≡ at_end (at_end (pos 0) (own before)) (own_tokens piece)
depth-after before piece =
    ap (at_end (pos 0)) (own-append before (piece ∷ []) ∙ ap (λ ts. own before ++ ts) (append-nil (own_tokens piece)))
    ∙ at_end-append (pos 0) (own before) (own_tokens piece)

fit-after : (before pieces : Pieces) → are_fit_after before pieces ≡ are_fit_at (at_end (pos 0) (own before)) pieces
fit-after before [] = refl
fit-after before (piece ∷ pieces) =
    let rest = fit-after (before ++ piece ∷ []) pieces ∙ ap (λ l. are_fit_at l pieces) (depth-after before piece) in
    λ i. fit-piece before piece i && rest i

-- brackets counted behind all pieces before, and along the pieces
pub are_fit-is : (pieces : Pieces) → are_fit pieces ≡ are_fit_at (pos 0) pieces
are_fit-is pieces = fit-after [] pieces

-- the depth stays at least 0, and each clause word is at depth 0
abbrev pub laid_from : ℤ → List Token → Bool
laid_from l [] = true
laid_from l (t ∷ ts) = (is_zero l || not (is_clause_word t)) && (is_at_least_0 (after l t) && laid_from (after l t) ts)

pub laid-both : (l : ℤ) (a b : List Token) → laid_from l a ≡ true → laid_from (at_end l a) b ≡ true → laid_from l (a ++ b) ≡ true
laid-both l [] b h k = k
laid-both l (t ∷ a) b h k =
    let both = and_parts _ _ h in
    let more = and_parts _ _ both.1 in
    and_from _ _ both.0 (and_from _ _ more.0 (laid-both (after l t) a b more.1 k))

pub laid-parts : (l : ℤ) (a b : List Token) → laid_from l (a ++ b) ≡ true → (laid_from l a ≡ true) × (laid_from (at_end l a) b ≡ true)
laid-parts l [] b h = (refl, h)
laid-parts l (t ∷ a) b h =
    let both = and_parts _ _ h in
    let more = and_parts _ _ both.1 in
    let rest = laid-parts (after l t) a b more.1 in
    (and_from _ _ both.0 (and_from _ _ more.0 rest.0), rest.1)

pub laid-stays : (l : ℤ) (a : List Token) → laid_from l a ≡ true → stays_from l a ≡ true
laid-stays l [] h = refl
laid-stays l (t ∷ a) h = let both = and_parts _ _ (and_parts _ _ h).1 in and_from _ _ both.0 (laid-stays (after l t) a both.1)

pub or_so : (a b : Bool) → b ≡ true → (a || b) ≡ true
or_so true b h = refl
or_so false b h = h

-- without a clause word nothing else is asked
pub laid-plain : (l : ℤ) (a : List Token) → stays_from l a ≡ true → list_any is_clause_word a ≡ false → laid_from l a ≡ true
laid-plain l [] stays none = refl
laid-plain l (t ∷ a) stays none =
    let both = and_parts _ _ stays in
    let words = or_parts (is_clause_word t) (list_any is_clause_word a) none in
    and_from _ _ (or_so (is_zero l) _ (not_from_false _ words.0)) (and_from _ _ both.0 (laid-plain (after l t) a both.1 words.1))

-- ---- which tokens are top-level clause keywords, and all that the parts at the clause words need
abbrev pub Flagged : Type 0
Flagged = Bool × Token

abbrev pub flag : Placed → Flagged
flag m = (at_top_level is_clause_word m, token_of m)

abbrev pub flags : List Placed → List Flagged
flags ms = map flag ms

abbrev parts_of : List Flagged → Parts
parts_of [] = record { lead = []; rest = [] }
parts_of (m ∷ ms) = with_front m.0 m.1 (parts_of ms)

parts-flags : (ms : List Placed) → parts_at is_clause_word ms ≡ parts_of (flags ms)
parts-flags [] = refl
parts-flags (m ∷ ms) = ap (with_front (at_top_level is_clause_word m) (token_of m)) (parts-flags ms)

pub same-parts : (a b : List Placed) → flags a ≡ flags b → parts_at is_clause_word a ≡ parts_at is_clause_word b
same-parts a b same = parts-flags a ∙ ap parts_of same ∙ sym (parts-flags b)

-- the builder's own texts
flag-own : (zero : Bool) (t : Token) → (zero || not (is_clause_word t)) ≡ true → flag (as_placed zero t) ≡ flag (TopLevel t)
flag-own true t h = refl
flag-own false t h = ap (λ (b : Bool). (b, t)) (sym (not-true _ h))

flags-own : (l : ℤ) (a : List Token) → laid_from l a ≡ true → flags (placed_from l a) ≡ flags (map TopLevel a)
flags-own l [] h = refl
flags-own l (t ∷ a) h =
    let both = and_parts _ _ h in
    let more = and_parts _ _ both.1 in
    let first = flag-own (is_zero l) t both.0 in
    let rest = flags-own (after l t) a more.1 in
    λ i. first i ∷ rest i

-- fragments
flags-plain : (ms : List Placed) → list_any (at_top_level is_clause_word) ms ≡ false → flags ms ≡ flags (map Nested (map token_of ms))
flags-plain [] none = refl
flags-plain (m ∷ ms) none =
    let both = or_parts (at_top_level is_clause_word m) (list_any (at_top_level is_clause_word) ms) none in
    let first = both.0 in
    let rest = flags-plain ms both.1 in
    λ i. (first i, token_of m) ∷ rest i

flags-raw : (n : ℕ) (a : List Token) → is_even a ≡ true → (not (is_zero (pos n)) || not (has_clause a)) ≡ true → flags (placed_from (pos n) a)
    ≡ flags (map Nested a)
flags-raw zero a even none = flags-plain (placed a) (not-true _ none) ∙ ap (λ ts. flags (map Nested ts)) (tokens-placed_from (pos 0) a)
flags-raw (suc n) a even none = ap flags (placed-above (pos n) a refl (stays-up n a (and_parts (list_all is_whole a) _ even).1))

flag-str : (zero : Bool) (text : List ℕ) → flag (as_placed zero (Str text)) ≡ flag (Nested (Str text))
flag-str true text = refl
flag-str false text = refl

-- a balanced list leaves the depth as it is
pub even-ends : (n : ℕ) (a : List Token) → is_even a ≡ true → at_end (pos n) a ≡ pos n
even-ends n a even = ends-up n a (and_parts (list_all is_whole a) _ even).1

pub even-stays : (n : ℕ) (a : List Token) → is_even a ≡ true → stays_from (pos n) a ≡ true
even-stays n a even = stays-up n a (and_parts (list_all is_whole a) _ even).1

-- where fragments are fit and the builder's clause words are at depth 0, the top-level clause keywords are the builder's
pub fit-flags : (l : ℤ) (ps : Pieces) → is_at_least_0 l ≡ true → are_fit_at l ps ≡ true → laid_from l (own ps) ≡ true
    → flags (placed_from l (pieces_tokens ps)) ≡ flags (flat_map own_placed ps)
fit-flags l [] h fit laid = refl
fit-flags l (Fixed text ∷ ps) h fit laid =
    let a = tokens text in
    let parts = laid-parts l a (own ps) laid in
    ap flags (placed_from-append l a (pieces_tokens ps)) ∙ map-append flag (placed_from l a) (placed_from (at_end l a) (pieces_tokens ps))
    ∙ ap (λ ms. ms ++ flags (placed_from (at_end l a) (pieces_tokens ps))) (flags-own l a parts.0)
    ∙ ap (λ ms. flags (map TopLevel a) ++ ms) (fit-flags (at_end l a) ps (stays-high l a h (laid-stays l a parts.0)) fit parts.1)
    ∙ sym (map-append flag (map TopLevel a) (flat_map own_placed ps))
fit-flags l (Quoted text ∷ ps) h fit laid =
    let first = flag-str (is_zero l) text in
    let rest = fit-flags l ps h fit laid in
    λ i. first i ∷ rest i
fit-flags (pos n) (Raw text ∷ ps) h fit laid =
    let a = tokens text in
    let both = and_parts (is_fit_at (pos n) (Raw text)) (are_fit_at (pos n) ps) fit in
    let here = and_parts (is_balanced a) _ both.0 in
    let even = balanced_even a here.0 in
    ap flags (placed_from-append (pos n) a (pieces_tokens ps)) ∙ map-append flag (placed_from (pos n) a) (placed_from (at_end (pos n) a) (pieces_tokens ps))
    ∙ ap (λ ms. ms ++ flags (placed_from (at_end (pos n) a) (pieces_tokens ps))) (flags-raw n a even here.1)
    ∙ ap (λ l. flags (map Nested a) ++ flags (placed_from l (pieces_tokens ps))) (even-ends n a even)
    ∙ ap (λ ms. flags (map Nested a) ++ ms) (fit-flags (pos n) ps h both.1 laid)
    ∙ sym (map-append flag (map Nested a) (flat_map own_placed ps))
fit-flags (negsuc n) (Raw text ∷ ps) h fit laid = absurd (false≢true h)

-- ---- depth alone: each fragment is balanced
pub fit-balanced : (l : ℤ) (ps : Pieces) → are_fit_at l ps ≡ true → list_all is_balanced_piece ps ≡ true
fit-balanced l [] fit = refl
fit-balanced l (Fixed text ∷ ps) fit = fit-balanced (at_end l (tokens text)) ps fit
fit-balanced l (Quoted text ∷ ps) fit = fit-balanced l ps fit
fit-balanced l (Raw text ∷ ps) fit =
    let both = and_parts (is_fit_at l (Raw text)) (are_fit_at l ps) fit in
    and_from _ _ (is_balanced-is (tokens text) ∙ (and_parts (is_balanced (tokens text)) _ both.0).0) (fit-balanced l ps both.1)

pub shape-depths : (l : ℤ) (ps : Pieces) → is_at_least_0 l ≡ true → list_all is_balanced_piece ps ≡ true → stays_from l (own ps) ≡ true
    → (stays_from l (pieces_tokens ps) ≡ true) × (at_end l (pieces_tokens ps) ≡ at_end l (own ps))
shape-depths l [] h all stays = (refl, refl)
shape-depths l (Fixed text ∷ ps) h all stays =
    let a = tokens text in
    let parts = stays-parts l a (own ps) stays in
    let more = shape-depths (at_end l a) ps (stays-high l a h parts.0) all parts.1 in
    (stays-both l a (pieces_tokens ps) parts.0 more.0, at_end-append l a (pieces_tokens ps) ∙ more.1 ∙ sym (at_end-append l a (own ps)))
shape-depths (pos n) (Quoted text ∷ ps) h all stays = shape-depths (pos n) ps h all stays
shape-depths (negsuc n) (Quoted text ∷ ps) h all stays = absurd (false≢true h)
shape-depths (pos n) (Raw text ∷ ps) h all stays =
    let a = tokens text in
    let both = and_parts (balanced text) (list_all is_balanced_piece ps) all in
    let even = even_text text both.0 in
    let more = shape-depths (pos n) ps h both.1 stays in (
      stays-both (pos n) a (pieces_tokens ps) (even-stays n a even) (subst (λ l. stays_from l (pieces_tokens ps) ≡ true) (sym (even-ends n a even)) more.0),
      at_end-append (pos n) a (pieces_tokens ps) ∙ ap (λ l. at_end l (pieces_tokens ps)) (even-ends n a even) ∙ more.1,
    )
shape-depths (negsuc n) (Raw text ∷ ps) h all stays = absurd (false≢true h)

shape-whole : (ps : Pieces) → list_all is_balanced_piece ps ≡ true → list_all is_whole (own ps) ≡ true → list_all is_whole (pieces_tokens ps) ≡ true
shape-whole [] all own_whole = refl
shape-whole (Fixed text ∷ ps) all own_whole =
    let both = and_parts _ _ (sym (list_all-append is_whole (tokens text) (own ps)) ∙ own_whole) in
    list_all-append is_whole (tokens text) (pieces_tokens ps) ∙ and_from _ _ both.0 (shape-whole ps all both.1)
shape-whole (Quoted text ∷ ps) all own_whole = shape-whole ps all own_whole
shape-whole (Raw text ∷ ps) all own_whole =
    let both = and_parts (balanced text) (list_all is_balanced_piece ps) all in
    list_all-append is_whole (tokens text) (pieces_tokens ps)
    ∙ and_from _ _ (and_parts (list_all is_whole (tokens text)) _ (even_text text both.0)).0 (shape-whole ps both.1 own_whole)

-- where the builder's own words are balanced or none, so is the whole
pub shape-even : (ps : Pieces) → list_all is_balanced_piece ps ≡ true → is_even (own ps) ≡ true → is_even (pieces_tokens ps) ≡ true
shape-even ps all even =
    let both = and_parts (list_all is_whole (own ps)) (closes_from (pos 0) (own ps)) even in
    let depths = shape-depths (pos 0) ps refl all (stays-closes (pos 0) (own ps) both.1) in
    and_from _ _ (shape-whole ps all both.0) (closes-stays (pos 0) (pieces_tokens ps) depths.0 (depths.1 ∙ at_end-closes (pos 0) (own ps) both.1))

-- each fragment is closed
pub fragments_closed : (ps : Pieces) → has_balanced_fragments ps ≡ true → has_closed_fragments ps ≡ true
fragments_closed [] all = refl
fragments_closed (Fixed text ∷ ps) all = fragments_closed ps all
fragments_closed (Quoted text ∷ ps) all = fragments_closed ps all
fragments_closed (Raw text ∷ ps) all =
    let both = and_parts (balanced text) (list_all is_balanced_piece ps) all in
    and_from _ _ (balanced_closed text both.0) (fragments_closed ps both.1)
