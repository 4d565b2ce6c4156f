-- Where a text is cut at the first place of another one.
use Rattle.sql_parts.proofs.Imports.{◌≡◌, ℕ, ◌+◌, ◌<◌, ◌≤◌, false, List, [], ◌∷◌, ◌++◌, length, get_or, take, drop, refl, sym, ap, ap₂, ◌∙◌, subst, arith, inl}
use Rattle.sql_parts.proofs.Imports.{inr, append_assoc, length-append, length-drop, ◌&&◌, MatchOption, None, Option, Some, nat_eq, starts_with, IsCharBoundary}
use Rattle.sql_parts.proofs.Imports.{IsUtf8, FindsText, LacksTextAt, SplitsAroundMatch, drop-append_seam, cases_lt, eq-eqb, false≢true, drop-drop, get_or-drop}
use Rattle.sql_parts.proofs.Imports.{take-append-drop, IsCharBoundary-from_drop, IsCharBoundary-start, IsUtf8-drop, IsUtf8-past_char}
use Rattle.std.specs.Borrow.{Bor}
use Rattle.std.proofs.Math.ListN.{get_or-append}
use lib.Utf8.{encode, encodes}
use Rattle.sql_parts.specs.{front_of, gap, has_front}
use Rattle.sql_parts.proofs.templates.{starts_with-yes}

-- the length of a text that another is in
room-of : (sought text : List ℕ) (k : ℕ) (rest : List ℕ) → drop k text ≡ sought ++ rest → 0 < length sought → k + length sought ≤ length text
room-of sought text k rest is some = omega (arith, ap length is, length-drop k text, length-append sought rest)

-- a byte of it
byte-of : (sought text : List ℕ) (k i : ℕ) (rest : List ℕ) → drop k text ≡ sought ++ rest → i < length sought → get_or text (k + i) 0 ≡ get_or sought i 0
byte-of sought text k i rest is inside = sym (get_or-drop k text i 0) ∙ ap (λ l. get_or l i 0) is ∙ get_or-append sought rest 0 i inside

first-of : (sought text : List ℕ) (k : ℕ) (rest : List ℕ) → drop k text ≡ sought ++ rest → 0 < length sought → get_or text k 0 ≡ get_or sought 0 0
first-of sought text k rest is some = let same : k ≡ k + 0 = omega arith in ap (λ n. get_or text n 0) same ∙ byte-of sought text k 0 rest is some

-- where its first two bytes lack, a text lacks
pub lacks-by-front : (sought text : List ℕ) (k : ℕ) → 0 < length sought → has_front (front_of sought) text k ≡ false → LacksTextAt sought text k
lacks-by-front sought text k some lacks rest is =
    let first = eq-eqb _ _ (first-of sought text k rest is some) in
    let second = eq-eqb _ _ (byte-of sought text k (gap sought) rest is (omega arith)) in
    false≢true (sym lacks ∙ ap₂ (λ a b. a && b) first second)

-- and where there is no room
pub lacks-by-room : (sought text : List ℕ) (k : ℕ) → 0 < length sought → length text ≤ k + gap sought → LacksTextAt sought text k
lacks-by-room sought text k some short rest is = omega (arith, room-of sought text k rest is some)

-- what is behind a text is a text
utf8-behind : (cs : List ℕ) (bs rest : List ℕ) → IsUtf8 bs → bs ≡ encodes cs ++ rest → IsUtf8 rest
utf8-behind [] bs rest utf8 is = subst IsUtf8 is utf8
utf8-behind (c ∷ cs) bs rest utf8 is =
    utf8-behind cs (encodes cs ++ rest) rest (IsUtf8-past_char bs (encodes cs ++ rest) c utf8 (is ∙ append_assoc (encode c) (encodes cs) rest)) refl

-- a text may be cut before and behind another one that is in it
pub cut-before : (sought text : List ℕ) (k : ℕ) (rest : List ℕ) → IsUtf8 sought → 0 < length sought → drop k text ≡ sought ++ rest → IsCharBoundary text k
cut-before sought text k rest utf8 some is =
    let first = first-of sought text k rest is some in
    let room = room-of sought text k rest is some in
    (omega arith, λ inside. subst (λ byte. 128 ≤ byte → 192 ≤ byte) (sym first) ((IsCharBoundary-start sought utf8).1 some))

pub cut-behind : (sought text : List ℕ) (k : ℕ) (rest : List ℕ) → IsUtf8 text → IsUtf8 sought → 0 < length sought → drop k text ≡ sought ++ rest
    → IsCharBoundary text (k + length sought)
cut-behind sought text k rest utf8 own some is =
    let room = room-of sought text k rest is some in
    let from = IsUtf8-drop text k utf8 (cut-before sought text k rest own some is) in
    let behind = utf8-behind own.0 (drop k text) rest from (is ∙ ap (λ s. s ++ rest) (sym own.1.1)) in
    let same = sym (drop-drop (length sought) k text) ∙ ap (drop (length sought)) is ∙ drop-append_seam sought rest in
    IsCharBoundary-from_drop text (k + length sought) room (subst IsUtf8 (sym same) behind)

-- the text before it, it, and the text behind it
pub split-at : (sought text : List ℕ) (k : ℕ) → drop k text ≡ sought ++ drop (length sought) (drop k text) → text ≡ take k text
    ++ (sought ++ drop (k + length sought) text)
split-at sought text k is = sym (take-append-drop k text) ∙ ap (λ l. take k text ++ l) (is ∙ ap (λ l. sought ++ l) (drop-drop (length sought) k text))

-- where it doesn't begin what follows, a text lacks
pub lacks-here : (sought text : List ℕ) (k : ℕ) → starts_with nat_eq (drop k text) sought ≡ false → LacksTextAt sought text k
lacks-here sought text k differs rest is = false≢true (sym differs ∙ starts_with-yes (drop k text) sought rest is)

-- where std cuts a text
pub split-first : (sought text : List ℕ) (parts : Option (Bor (List ℕ) × Bor (List ℕ))) → 0 < length sought
    → MatchOption parts (FindsText sought text None) (λ p. SplitsAroundMatch (FindsText sought) text p.0.now p.1.now)
    → MatchOption parts ((k : ℕ) → LacksTextAt sought text k)
    (λ p. (text ≡ p.0.now ++ (sought ++ p.1.now)) × ((k : ℕ) → k < length p.0.now → LacksTextAt sought text k))
split-first sought text None some none = λ k. elim (cases_lt k (length text + 1)) [
  | inl within ↦ none k (omega arith)
  | inr past ↦ lacks-by-room sought text k some (omega arith)
]
split-first sought text (Some parts) some cut = (
  sym (take-append-drop cut.0 text) ∙ (λ i. take cut.0 text ++ cut.2.1.split i) ∙ (λ i. sym cut.3 i ++ (sought ++ sym cut.4 i)),
  λ k below. cut.2.0 k (omega (arith, cut.6)),
)
