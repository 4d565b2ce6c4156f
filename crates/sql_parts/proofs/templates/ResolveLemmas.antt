-- How a template is resolved from one place to the next.
use Rattle.sql_parts.proofs.Imports.{◌≡◌, ℕ, zero, suc, ◌+◌, ◌-◌, ◌<◌, ◌≤◌, Bool, true, false, List, [], ◌∷◌, ◌++◌, length, take, drop, Some, None, refl, sym}
use Rattle.sql_parts.proofs.Imports.{ap, ◌∙◌, inl, inr, arith, length-append, ne_eqb, codes, if◌then◌else◌, nat_eq, starts_with, FindsText, HasMatch}
use Rattle.sql_parts.proofs.Imports.{LacksTextAt, drop-append_seam, take-append_seam, cases_Bool, Decides-eqb, append-nil, drop-drop, drop_all, take_all}
use Rattle.sql_parts.proofs.Imports.{starts_is, Marks, followed_by, prefix}
use Rattle.std.specs.Prelude.{MatchBool}
use Rattle.sql_parts.specs.{First, Cycle, Num, Nums, Names, Writes, counted, resolve, resolved_from, place_behind, supplied}
use Rattle.sql_parts.specs.Templates.{Name}

-- a text that begins with another, and one that doesn't
pub starts_with-yes : (text front rest : List ℕ) → text ≡ front ++ rest → starts_with nat_eq text front ≡ true
starts_with-yes text front rest is = (starts_is Decides-eqb text front _ refl).1 rest is

pub starts_with-no : (text front : List ℕ) → LacksTextAt front text 0 → starts_with nat_eq text front ≡ false
starts_with-no text front lacks =
    elim (cases_Bool (starts_with nat_eq text front)) [
      | inl begins ↦ absurd (lacks _ ((starts_is Decides-eqb text front _ refl).0 begins))
      | inr differs ↦ differs
    ]

-- the first byte of a prefix, and the bytes behind it
prefix-parts : (marks : Marks) → (byte : ℕ) × (more : List ℕ) × (prefix marks ≡ byte ∷ more)
prefix-parts First = (_, _, refl)
prefix-parts (Cycle count) = (_, _, refl)
prefix-parts (Num number) = (_, _, refl)
prefix-parts (Nums count) = (_, _, refl)
prefix-parts (Name name) = (_, _, refl)
prefix-parts Names = (_, _, refl)

pub resolved_from-drop : (marks : Marks) (seen skipped : ℕ) (text : List ℕ)
    → resolved_from marks seen skipped text ≡ resolved_from marks seen 0 (drop skipped text)
resolved_from-drop marks seen zero text = refl
resolved_from-drop marks seen (suc skipped) [] = refl
resolved_from-drop marks seen (suc skipped) (byte ∷ text) = resolved_from-drop marks seen skipped text

-- a byte where no prefix begins
pub resolved_from-text : (marks : Marks) (seen byte : ℕ) (behind : List ℕ) → LacksTextAt (prefix marks) (byte ∷ behind) 0
    → resolved_from marks seen 0 (byte ∷ behind) ≡ followed_by (Writes (byte ∷ [])) (resolved_from marks seen 0 behind)
resolved_from-text marks seen byte behind lacks = rw (starts_with-no (byte ∷ behind) (prefix marks) lacks)

prefix-first : (marks : Marks) (seen byte : ℕ) (more behind : List ℕ) → prefix marks ≡ byte ∷ more
    → resolved_from marks seen 0 (byte ∷ (more ++ behind))
    ≡ followed_by (place_behind marks seen behind).0
    (resolved_from marks (counted (place_behind marks seen behind).0 seen) 0 (drop (place_behind marks seen behind).1 behind))
prefix-first marks seen byte more behind is =
    let rest = more ++ behind in
    let fewer : length (prefix marks) - 1 ≡ length more = omega (arith, ap length is) in
    let past : drop (length (prefix marks) - 1) rest ≡ behind = ap (λ n. drop n rest) fewer ∙ drop-append_seam more behind in
    let found = place_behind marks seen behind in
    rw (starts_with-yes (byte ∷ rest) (prefix marks) behind (ap (λ o. o ++ behind) (sym is)), past)
    (ap (followed_by found.0) (resolved_from-drop marks (counted found.0 seen) (length (prefix marks) - 1 + found.1) rest
    ∙ ap (resolved_from marks (counted found.0 seen) 0) (sym (drop-drop found.1 (length (prefix marks) - 1) rest) ∙ ap (drop found.1) past)))

-- a text that a prefix begins
pub resolved_from-prefix : (marks : Marks) (seen : ℕ) (text behind : List ℕ) → text ≡ prefix marks ++ behind
    → resolved_from marks seen 0 text
    ≡ followed_by (place_behind marks seen behind).0
    (resolved_from marks (counted (place_behind marks seen behind).0 seen) 0 (drop (place_behind marks seen behind).1 behind))
resolved_from-prefix marks seen text behind is =
    let parts = prefix-parts marks in
    ap (resolved_from marks seen 0) (is ∙ ap (λ o. o ++ behind) parts.2) ∙ prefix-first marks seen parts.0 parts.1 behind parts.2

-- a segment without a prefix is text
pub resolved_from-segment : (marks : Marks) (seen i : ℕ) (text : List ℕ) → i ≤ length text → ((n : ℕ) → n < i → LacksTextAt (prefix marks) text n)
    → resolved_from marks seen 0 text ≡ followed_by (Writes (take i text)) (resolved_from marks seen 0 (drop i text))
resolved_from-segment marks seen zero text within lacks = refl
resolved_from-segment marks seen (suc i) [] within lacks = absurd (omega (arith, within))
resolved_from-segment marks seen (suc i) (byte ∷ text) within lacks =
    resolved_from-text marks seen byte text (lacks 0 (omega arith))
    ∙ ap (followed_by (Writes (byte ∷ []))) (resolved_from-segment marks seen i text (omega (arith, within)) (λ n h. lacks (suc n) (omega arith)))

-- the first prefix of a text
pub resolved_from-first : (marks : Marks) (seen i : ℕ) (text behind : List ℕ)
    → ((n : ℕ) → n < i → LacksTextAt (prefix marks) text n) → i ≤ length text → drop i text ≡ prefix marks ++ behind
    → resolved_from marks seen 0 text
    ≡ followed_by (Writes (take i text)) (followed_by (place_behind marks seen behind).0
    (resolved_from marks (counted (place_behind marks seen behind).0 seen) 0 (drop (place_behind marks seen behind).1 behind)))
resolved_from-first marks seen i text behind lacks within is =
    resolved_from-segment marks seen i text within lacks ∙ ap (followed_by (Writes (take i text))) (resolved_from-prefix marks seen (drop i text) behind is)

-- a text without a prefix
pub resolved_from-none : (marks : Marks) (seen : ℕ) (text : List ℕ)
    → ((i : ℕ) → i < length text → LacksTextAt (prefix marks) text i) → resolved_from marks seen 0 text ≡ (text, [])
resolved_from-none marks seen text lacks =
    resolved_from-segment marks seen (length text) text (omega arith) lacks
    ∙ ap (λ behind. followed_by (Writes (take (length text) text)) (resolved_from marks seen 0 behind)) (drop_all (length text) text (omega arith))
    ∙ ap (λ segment. (segment, [])) (append-nil (take (length text) text) ∙ take_all (length text) text (omega arith))

-- a text that is cut at its first prefix
pub resolved_from-split : (marks : Marks) (seen : ℕ) (text segment behind : List ℕ)
    → text ≡ segment ++ (prefix marks ++ behind) → ((k : ℕ) → k < length segment → LacksTextAt (prefix marks) text k)
    → resolved_from marks seen 0 text
    ≡ followed_by (Writes segment) (followed_by (place_behind marks seen behind).0
    (resolved_from marks (counted (place_behind marks seen behind).0 seen) 0 (drop (place_behind marks seen behind).1 behind)))
resolved_from-split marks seen text segment behind is lacks =
    let rest = prefix marks ++ behind in
    let resolved = followed_by (place_behind marks seen behind).0
    (resolved_from marks (counted (place_behind marks seen behind).0 seen) 0 (drop (place_behind marks seen behind).1 behind)) in
    resolved_from-first marks seen (length segment) text behind lacks (omega (arith, ap length is, length-append segment rest))
    (ap (drop (length segment)) is ∙ drop-append_seam segment rest)
    ∙ ap (λ front. followed_by (Writes front) resolved) (ap (take (length segment)) is ∙ take-append_seam segment rest)

-- behind the first placeholder of `First` all is text
pub resolved_from-after_first : (seen : ℕ) (text : List ℕ) → 0 < seen → resolved_from First seen 0 text ≡ (text, [])
resolved_from-after_first seen [] some = refl
resolved_from-after_first seen (byte ∷ text) some =
    let rest : resolved_from First seen 0 text ≡ (text, []) = resolved_from-after_first seen text some in
    let here : place_behind First seen text ≡ (Writes (codes "?"), 0) = rw (ne_eqb seen 0 (λ e. omega (arith, some))) refl in
    elim (cases_Bool (starts_with nat_eq (byte ∷ text) (codes "?"))) [
      | inl begins ↦
          let is : byte ∷ text ≡ codes "?" ++ text = ap (λ l. l) ((starts_is Decides-eqb (byte ∷ text) (codes "?") _ refl).0 begins) in
          resolved_from-prefix First seen (byte ∷ text) text is
          ∙ ap (λ found. followed_by found.0 (resolved_from First (counted found.0 seen) 0 (drop found.1 text))) here
          ∙ ap (followed_by (Writes (codes "?"))) rest ∙ ap (λ l. (l, [])) (sym is)
      | inr differs ↦ rw differs (ap (followed_by (Writes (byte ∷ []))) rest)
    ]

-- where there are no arguments, a `?` leaves nothing to give
pub resolve-unsupplied : (template : List ℕ) (has : Bool) → MatchBool has (HasMatch (FindsText (codes "?")) template) (FindsText (codes "?") template None)
    → resolve template (Cycle 0) ≡ (if has then None else Some (resolved_from (Cycle 0) 0 0 template))
resolve-unsupplied template true found =
    ap (supplied (Cycle 0)) (resolved_from-first (Cycle 0) 0 found.0 template (drop found.1 template) found.2.0 (omega (arith, found.3, found.4))
    found.2.1.split)
resolve-unsupplied template false none =
    let whole = resolved_from-none (Cycle 0) 0 template (λ i h. none i (omega (arith, h))) in
    ap (supplied (Cycle 0)) whole ∙ ap Some (sym whole)
