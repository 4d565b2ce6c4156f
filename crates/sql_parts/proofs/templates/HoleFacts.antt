-- A template with operands in its holes serves as one does with a `?` in each.
use Rattle.sql_parts.proofs.Imports.{◌≡◌, ◌≢◌, ◌<◌, ◌∙◌, ap, arith, codes, refl, sym, subst, ℕ, suc, Bool, true, false, not, eqb-true, ne_eqb, get_or}
use Rattle.sql_parts.proofs.Imports.{length, take, ◌-◌, List, [], ◌∷◌, ◌++◌, append_assoc, append-nil, ◌&&◌, ◌==◌, flat_map, AllByRecursion, and_from}
use Rattle.sql_parts.proofs.Imports.{and_parts, cases_Bool, common_steps, inl, inr, zero, and-true, ℤ, pos, negsuc, list_all, list_any, or_from, or_parts}
use Rattle.sql_parts.proofs.Imports.{not-true, not_from_false, false≢true}
use Rattle.sql_parts.specs.{balanced, has_clause_word, is_clause_word, operand, cut, filled, holding, holes_apart, in_hole, is_bracketed, is_unit, unsigned}
use Rattle.sql_parts.specs.{segment_apart, segments_apart, Token, Symbol, closed, ends_with, tokens, ServesAsOperand, is_bare_operand, is_fragment, is_joining}
use Rattle.sql_parts.specs.{is_operand, as_placed, at_top_level, is_whole, lowers, raises, begins_with, is_empty}
use Rattle.sql_parts.specs.Fragments as fragments
use Rattle.sql_parts.proofs.fragments.DepthFacts.{after, change, closes_from, has_top_level, has_top_level-is, is_at_least_0, is_balanced, is_balanced-is, is_even}
use Rattle.sql_parts.proofs.fragments.DepthFacts.{is_zero, placed_from}
use Rattle.sql_parts.proofs.fragments.{serves, is-fragment}
use Rattle.sql_parts.proofs.templates.ApartFacts.{part_tokens, segments-shut, segments-tokens}

-- ---- the code's loop

-- whether the segments of what is left are apart
abbrev pub rest_apart : Bool → List ℕ → Bool
rest_apart first rest = segments_apart first (cut rest).0 (holding [] (cut rest).1)

abbrev pub LacksHole : List ℕ → Type 0
LacksHole text = (i : ℕ) → i < length text → get_or text i 0 ≢ 63

-- a text without a hole is before the first one
cut-behind : (front rest : List ℕ) → LacksHole front → cut (front ++ rest) ≡ (front ++ (cut rest).0, (cut rest).1)
cut-behind [] rest lacks = refl
cut-behind (byte ∷ front) rest lacks =
    rw (ne_eqb byte 63 (lacks 0 (omega arith)))
    (ap (λ (found : List ℕ × List (List ℕ)). (byte ∷ found.0, found.1)) (cut-behind front rest (λ i less. lacks (suc i) (omega (arith, less)))))

cut-hole : (text front behind : List ℕ) → text ≡ front ++ 63 ∷ behind → LacksHole front → cut text ≡ (front, (cut behind).0 ∷ (cut behind).1)
cut-hole text front behind is lacks =
    ap cut is ∙ cut-behind front (63 ∷ behind) lacks ∙ ap (λ (segment : List ℕ). (segment, (cut behind).0 ∷ (cut behind).1)) (append-nil front)

cut-none : (text : List ℕ) → LacksHole text → cut text ≡ (text, [])
cut-none text lacks = ap cut (sym (append-nil text)) ∙ cut-behind text [] lacks ∙ ap (λ (segment : List ℕ). (segment, [])) (append-nil text)

pub apart-hole : (first : Bool) {here : Bool} {text : List ℕ} (front behind : List ℕ) → text ≡ front ++ 63 ∷ behind → LacksHole front
    → segment_apart first false front ≡ here → rest_apart first text ≡ (here && rest_apart false behind)
apart-hole first {text} front behind is lacks apart = rw (cut-hole text front behind is lacks) (ap (λ test. test && rest_apart false behind) apart)

pub apart-none : (first : Bool) (text : List ℕ) → LacksHole text → rest_apart first text ≡ segment_apart first true text
apart-none first text lacks = rw (cut-none text lacks) refl

-- ---- how an operand is written in a hole

-- no sign of a placeholder is at the front
pub no-sign : (text : List ℕ) → ((behind : List ℕ) → text ≢ 63 ∷ behind) → ((behind : List ℕ) → text ≢ 36 ∷ behind) → text ≡ unsigned text
no-sign [] question dollar = refl
no-sign (byte ∷ text) question dollar =
    rw (ne_eqb byte 63 (λ is. question text (ap (λ (b : ℕ). b ∷ text) is)), ne_eqb byte 36 (λ is. dollar text (ap (λ (b : ℕ). b ∷ text) is))) refl

end-none : (text : List ℕ) → ((front : List ℕ) → text ≢ front ++ 41 ∷ []) → ends_with (λ byte. byte == 41) text ≡ false
end-none [] none = refl
end-none (byte ∷ []) none = ne_eqb byte 41 (λ is. none [] (ap (λ (b : ℕ). b ∷ []) is))
end-none (byte ∷ next ∷ text) none = end-none (next ∷ text) (λ front is. none (byte ∷ front) (ap (λ (t : List ℕ). byte ∷ t) is))

end-some : (front : List ℕ) → ends_with (λ byte. byte == 41) (front ++ 41 ∷ []) ≡ true
end-some [] = refl
end-some (byte ∷ []) = refl
end-some (byte ∷ next ∷ front) = end-some (next ∷ front)

but_last-is : (inner : List ℕ) → take (length (inner ++ 41 ∷ []) - 1) (inner ++ 41 ∷ []) ≡ inner
but_last-is inner = grind (arith, common_steps)

pub unbracketed-front : (text : List ℕ) → ((behind : List ℕ) → text ≢ 40 ∷ behind) → is_bracketed text ≡ false
unbracketed-front [] none = refl
unbracketed-front (byte ∷ text) none = rw (ne_eqb byte 40 (λ is. none text (ap (λ (b : ℕ). b ∷ text) is))) refl

pub unbracketed-end : (text behind : List ℕ) → text ≡ 40 ∷ behind → ((front : List ℕ) → behind ≢ front ++ 41 ∷ []) → is_bracketed text ≡ false
unbracketed-end text behind is none = ap is_bracketed is ∙ rw (end-none behind none) refl

pub bracketed : (text behind inner : List ℕ) → text ≡ 40 ∷ behind → behind ≡ inner ++ 41 ∷ [] → is_bracketed text ≡ balanced inner
bracketed text behind inner is ends = ap is_bracketed is ∙ ap (λ t. is_bracketed (40 ∷ t)) ends ∙ rw (end-some inner, but_last-is inner) refl

-- ---- what the tests of fragments ask for

-- a template is itself, with a `?` in each hole
pub uncut : (template : List ℕ) → filled [] template ≡ template
uncut [] = refl
uncut (byte ∷ behind) = elim (cases_Bool (byte == 63))
    [ inl is ↦ rw (eqb-true byte 63 is) (ap (λ t. 63 ∷ t) (uncut behind)) | inr isnt ↦ rw isnt (ap (λ t. byte ∷ t) (uncut behind)) ]

-- a text in the first hole, and the rest behind it
pub filled-hole : (text : List ℕ) (texts : List (List ℕ)) (rest front behind : List ℕ) → rest ≡ front ++ 63 ∷ behind → LacksHole front
    → filled (text ∷ texts) rest ≡ front ++ (text ++ filled texts behind)
filled-hole text texts rest front behind is lacks =
    rw (cut-hole rest front behind is lacks)
    (ap (λ (t : List ℕ). front ++ t) (append_assoc text (cut behind).0 (flat_map (λ part. part.0 ++ part.1) (holding texts (cut behind).1))))

pub filled-none : (texts : List (List ℕ)) (rest : List ℕ) → LacksHole rest → filled texts rest ≡ rest
filled-none texts rest lacks = rw (cut-none rest lacks) (append-nil rest)

-- texts in holes are between the same segments, and closed
held : (first : Bool) (segment : List ℕ) (texts segments : List (List ℕ)) → AllByRecursion (λ text. closed text ≡ true) texts
    → (segments_apart first segment (holding texts segments) ≡ segments_apart first segment (holding [] segments))
    × AllByRecursion (λ (part : List ℕ × List ℕ). closed part.0 ≡ true) (holding texts segments)
held first segment texts [] all = (refl, tt)
held first segment [] (next ∷ segments) all = (refl, (refl, (held false next [] segments tt).1))
held first segment (text ∷ texts) (next ∷ segments) all =
    let more = held false next texts segments all.1 in (ap (λ test. segment_apart first false segment && test) more.0, (all.0, more.1))

-- the tokens of a template, with those of the texts in its holes
abbrev pub filled_tokens : List (List ℕ) → List ℕ × List (List ℕ) → List Token
filled_tokens texts cut = tokens cut.0 ++ part_tokens (λ text. text) (holding texts cut.1)

all-shut : (texts : List (List ℕ)) → AllByRecursion ServesAsOperand texts → AllByRecursion (λ text. closed text ≡ true) texts
all-shut [] all = tt
all-shut (text ∷ texts) all = (all.0.is_closed, all-shut texts all.1)

pub filled-tokens : (texts : List (List ℕ)) (template : List ℕ) → holes_apart template ≡ true → AllByRecursion (λ text. closed text ≡ true) texts
    → tokens (filled texts template) ≡ filled_tokens texts (cut template)
filled-tokens texts template is all =
    let both = held true (cut template).0 texts (cut template).1 all in
    segments-tokens (λ text. text) true (cut template).0 (holding texts (cut template).1) both.1 (both.0 ∙ is)

pub filled-closed : (texts : List (List ℕ)) (template : List ℕ) → holes_apart template ≡ true → AllByRecursion ServesAsOperand texts
    → closed (filled texts template) ≡ true
filled-closed texts template is all =
    let both = held true (cut template).0 texts (cut template).1 (all-shut texts all) in
    segments-shut (λ text. text) true (cut template).0 (holding texts (cut template).1) both.1 (both.0 ∙ is)

-- ---- an operand's tokens in place of a `?`

-- From depth l on: each token is whole, none that passes the test is at depth 0, and the depth is at least 0 after each and 0 after the last.
abbrev Nests : (Token → Bool) → ℤ → List Token → Type 0
Nests test l [] = is_zero l ≡ true
Nests test l (t ∷ ts) =
    (is_whole t ≡ true) × (at_top_level test (as_placed (is_zero l) t) ≡ false) × (is_at_least_0 (after l t) ≡ true) × Nests test (after l t) ts

nests : (test : Token → Bool) (l : ℤ) (ts : List Token) → list_all is_whole ts ≡ true → closes_from l ts ≡ true
    → list_any (at_top_level test) (placed_from l ts) ≡ false → Nests test l ts
nests test l [] whole closes none = closes
nests test l (t ∷ ts) whole closes none =
    let each = and_parts (is_whole t) (list_all is_whole ts) whole in
    let least = and_parts (is_at_least_0 (after l t)) (closes_from (after l t) ts) closes in
    let inner = or_parts (at_top_level test (as_placed (is_zero l) t)) (list_any (at_top_level test) (placed_from (after l t) ts)) none in
    (each.0, inner.0, least.0, nests test (after l t) ts each.1 least.1 inner.1)

nested : (test : Token → Bool) (l : ℤ) (ts : List Token) → Nests test l ts
    → (list_all is_whole ts && closes_from l ts ≡ true) × (list_any (at_top_level test) (placed_from l ts) ≡ false)
nested test l [] all = (all, refl)
nested test l (t ∷ ts) all =
    let more = nested test (after l t) ts all.3 in
    let even = and_parts (list_all is_whole ts) (closes_from (after l t) ts) more.0 in
    (and_from _ _ (and_from _ _ all.0 even.0) (and_from _ _ all.2 even.1), or_from _ _ all.1 more.1)

-- the depth n further in than k
abbrev further : ℕ → ℕ → ℕ
further n zero = n
further n (suc k) = suc (further n k)

-- what follows n further in, follows behind a token too, where the depth stays at least 0
step : (P Q : ℤ → Type 0) (n k : ℕ) (up down : Bool) → ((k : ℕ) → P (pos k) → Q (pos (further n k))) → is_at_least_0 (change up down (pos k)) ≡ true
    → P (change up down (pos k)) → (is_at_least_0 (change up down (pos (further n k))) ≡ true) × Q (change up down (pos (further n k)))
step P Q n k true down follows least here = (refl, follows (suc k) here)
step P Q n zero false true follows least here = absurd (false≢true least)
step P Q n (suc k) false true follows least here = (refl, follows k here)
step P Q n k false false follows least here = (refl, follows k here)

-- Tokens that nest by themselves do so n further in, and leave the depth of what is behind them.
nests-behind : (test : Token → Bool) (n k : ℕ) (op rest : List Token) → Nests test (pos k) op → Nests test (pos n) rest
    → Nests test (pos (further n k)) (op ++ rest)
nests-behind test n zero [] rest one more = more
nests-behind test n (suc k) [] rest one more = absurd (false≢true one)
nests-behind test n k (t ∷ op) rest one more =
    let follows = λ (k : ℕ) (nest : Nests test (pos k) op). nests-behind test n k op rest nest more in
    let next = step (λ l. Nests test l op) (λ l. Nests test l (op ++ rest)) n k (raises t) (lowers t) follows one.2 one.3 in
    (one.0, inner n k one.1, next.0, next.1)
  where
    inner : (n k : ℕ) → at_top_level test (as_placed (is_zero (pos k)) t) ≡ false → at_top_level test (as_placed (is_zero (pos (further n k))) t) ≡ false
    inner zero zero isnt = isnt
    inner (suc n) zero isnt = refl
    inner n (suc k) isnt = refl

nests-filled : (test : Token → Bool) (l : ℤ) (front op rest : List Token) → is_at_least_0 l ≡ true → Nests test (pos 0) op
    → Nests test l (front ++ Symbol 63 ∷ rest) → Nests test l (front ++ (op ++ rest))
nests-filled test (pos n) [] op rest least one all = nests-behind test n 0 op rest one all.3
nests-filled test (negsuc n) [] op rest least one all = absurd (false≢true least)
nests-filled test l (t ∷ front) op rest least one all = (all.0, all.1, all.2, nests-filled test (after l t) front op rest all.2 one all.3)

-- balanced tokens, none of which passes the one test at the top level, and the first of which doesn't pass the other
abbrev fits : (Token → Bool) → (Token → Bool) → List Token → Bool
fits test first ts = fragments.is_balanced ts && not (fragments.has_top_level test ts) && not (begins_with first ts)

fits-any : (test : Token → Bool) (ts : List Token) → fits test (λ token. false) ts ≡ (fragments.is_balanced ts && not (fragments.has_top_level test ts))
fits-any test [] = refl
fits-any test (t ∷ ts) = and-true _

inside : (test : Token → Bool) (ts : List Token)
    → (fragments.is_balanced ts && not (fragments.has_top_level test ts)) ≡ (is_balanced ts && not (has_top_level test ts))
inside test ts = λ i. is_balanced-is ts i && not (has_top_level-is test ts i)

fits-nests : (test first : Token → Bool) (ts : List Token) → fits test first ts ≡ true → Nests test (pos 0) ts × (not (begins_with first ts) ≡ true)
fits-nests test first ts all =
    let outer = and_parts (fragments.is_balanced ts && not (fragments.has_top_level test ts)) _ all in
    let both = and_parts (is_balanced ts) (not (has_top_level test ts)) (sym (inside test ts) ∙ outer.0) in
    let even = and_parts (list_all is_whole ts) (closes_from (pos 0) ts) (and_parts (not (is_empty ts)) (is_even ts) both.0).1 in
    (nests test (pos 0) ts even.0 even.1 (not-true _ both.1), outer.1)

fits-filled : (test first : Token → Bool) (front op rest : List Token) → fits test first op ≡ true → fits test first (front ++ Symbol 63 ∷ rest) ≡ true
    → fits test first (front ++ (op ++ rest)) ≡ true
fits-filled test first front op rest one all =
    let o = fits-nests test first op one in
    let a = fits-nests test first (front ++ Symbol 63 ∷ rest) all in
    let found = nested test (pos 0) (front ++ (op ++ rest)) (nests-filled test (pos 0) front op rest refl o.0 a.0) in
    let begins = beginning front op one o.1 a.1 in
    and_from _ _ (inside test (front ++ (op ++ rest)) ∙ and_from _ _ (and_from _ _ begins.0 found.0) (not_from_false _ found.1)) begins.1
  where
    beginning : (front op : List Token) → fits test first op ≡ true → not (begins_with first op) ≡ true
        → not (begins_with first (front ++ Symbol 63 ∷ rest)) ≡ true
        → not (is_empty (front ++ (op ++ rest))) ≡ true × (not (begins_with first (front ++ (op ++ rest))) ≡ true)
    beginning [] [] one isnt here = absurd (false≢true one)
    beginning [] (t ∷ op) one isnt here = (refl, isnt)
    beginning (t ∷ front) op one isnt here = (refl, here)

-- What holds of tokens with a `?`, and with an operand in its place, holds with operands in all holes.
module _ (P : List Token → Bool)
    (one : (front rest : List Token) (text : List ℕ) → ServesAsOperand text → P (front ++ Symbol 63 ∷ rest) ≡ true
    → P (front ++ (tokens text ++ rest)) ≡ true) where
  all-filled : (front : List Token) (texts : List (List ℕ)) (segment : List ℕ) (segments : List (List ℕ)) → AllByRecursion ServesAsOperand texts
      → P (front ++ filled_tokens [] (segment, segments)) ≡ true → P (front ++ filled_tokens texts (segment, segments)) ≡ true
  all-filled front texts segment [] all given = given
  all-filled front [] segment (next ∷ segments) all given = given
  all-filled front (text ∷ texts) segment (next ∷ segments) all given =
      let behind : List Token = front ++ tokens segment in
      let here = one behind (tokens next ++ part_tokens (λ t. t) (holding [] segments)) text all.0 (simp append_assoc given) in
      let rest = all-filled (behind ++ tokens text) texts next segments all.1 (simp append_assoc (simp append_assoc at here)) in
      simp append_assoc (simp append_assoc at rest)

  pub filled-keeps : (texts : List (List ℕ)) (template : List ℕ) → holes_apart template ≡ true → AllByRecursion ServesAsOperand texts
      → P (tokens template) ≡ true → P (tokens (filled texts template)) ≡ true
  filled-keeps texts template is all given =
      ap P (filled-tokens texts template is (all-shut texts all))
      ∙ all-filled [] texts (cut template).0 (cut template).1 all
      (ap P (sym (filled-tokens [] template is tt) ∙ ap tokens (uncut template)) ∙ given)

pub filled-fragment : (texts : List (List ℕ)) (template : List ℕ) → holes_apart template ≡ true → AllByRecursion ServesAsOperand texts
    → is_fragment template ≡ true → is_fragment (filled texts template) ≡ true
filled-fragment texts template is all given =
    let any = fits-any is_clause_word in
    sym (any (tokens (filled texts template)))
    ∙ filled-keeps (fits is_clause_word (λ token. false))
    (λ front rest text op. fits-filled is_clause_word _ front (tokens text) rest (any (tokens text) ∙ is-fragment op))
    texts template is all (any (tokens template) ∙ given)

pub filled-serves : (texts : List (List ℕ)) (template : List ℕ) → holes_apart template ≡ true → AllByRecursion ServesAsOperand texts
    → is_bare_operand template ≡ true → ServesAsOperand (filled texts template)
filled-serves texts template is all given =
    let fragment = filled-fragment texts template is all (is-fragment (serves template given)) in
    serves (filled texts template)
    (and_from _ _
    (filled-keeps is_operand (λ front rest text op. fits-filled is_joining _ front (tokens text) rest op.is_operand) texts template is all
    (and_parts (operand template) (not (has_clause_word template)) given).0)
    (and_parts (balanced (filled texts template)) (not (has_clause_word (filled texts template))) fragment).1)

-- an operand as it is written in a hole
pub in_hole-serves : (text : List ℕ) → ServesAsOperand text → ServesAsOperand (in_hole text)
in_hole-serves text op = elim (cases_Bool (is_unit text)) [
  | inl is ↦ rw is op
  | inr isnt ↦ rw isnt (subst ServesAsOperand (ap (λ (t : List ℕ). codes "(" ++ t) (append-nil (text ++ codes ")")))
      (filled-serves (text ∷ []) (codes "(?)") refl (op, tt) refl))
]
