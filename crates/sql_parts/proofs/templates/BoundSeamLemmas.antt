-- What `bind_nums` makes of texts one after another.
use Rattle.sql_parts.proofs.Imports.{◌≡◌, ◌≢◌, ℕ, zero, suc, ◌+◌, ◌-◌, ◌<◌, ◌≤◌, true, false, List, [], ◌∷◌, ◌++◌, length, take, drop, eqb, refl, sym, ap, ◌∙◌}
use Rattle.sql_parts.proofs.Imports.{arith, inl, inr, codes, flat_map, append_assoc, append-nil, ne_eqb, length-drop, map, ◌==◌, not, nat_eq, nat_le}
use Rattle.sql_parts.proofs.Imports.{digit_value, is_ascii_digit, list_all, prefix_len, starts_with, digits_value, and_parts, cases_Bool, eqb-false, eqb-true}
use Rattle.sql_parts.proofs.Imports.{false≢true, le-leb, not-true, or_parts, nat_tests, drop-length, take-length, all_below_base_digits_of, digits_value_is}
use Rattle.sql_parts.proofs.Imports.{number_digits_of, AllBelowBase, digits_of, number_from_digits, Dollar, followed_by}
use Rattle.std.proofs.lemmas.List.{take-append-le, drop-append-le}
use Rattle.sql_parts.specs.{LiteralValue, literal_text, is_taken, with_values, placeholder_text, decimal_text, Argument, Nums, Content, Resolved, Replacement, Writes}
use Rattle.sql_parts.specs.{Holds, counted, numbered, resolved_from, written, begins_with}
use Rattle.sql_parts.proofs.tokens.{decimal-glyphs, glyphs}
use Rattle.sql_parts.proofs.templates.UnchangedTextFacts.{lacks-byte}
use Rattle.sql_parts.proofs.templates.ResolveLemmas.{resolved_from-drop, resolved_from-prefix, resolved_from-text}

digits-seam : (one other : List ℕ) → begins_with is_taken other ≡ false → prefix_len is_ascii_digit (one ++ other) ≡ prefix_len is_ascii_digit one
digits-seam [] [] clear = refl
digits-seam [] (byte ∷ other) clear = rw (or_parts (is_ascii_digit byte) _ clear).0
digits-seam (byte ∷ one) other clear = rw (digits-seam one other clear)

digits-within : (text : List ℕ) → prefix_len is_ascii_digit text ≤ length text
digits-within [] = omega arith
digits-within (byte ∷ text) =
    elim (cases_Bool (is_ascii_digit byte)) [
      | inl is ↦ rw is (omega (arith, digits-within text))
      | inr isnt ↦ rw isnt (omega arith)
    ]

dollar-seam : (one other : List ℕ) → begins_with is_taken other ≡ false → starts_with nat_eq (one ++ other) (codes "$") ≡ starts_with nat_eq one (codes "$")
dollar-seam [] [] clear = refl
dollar-seam [] (byte ∷ other) clear = rw (ne_eqb 36 byte (λ same. eqb-false byte 36 (or_parts (is_ascii_digit byte) (byte == 36) clear).1 (sym same)))
dollar-seam (byte ∷ one) other clear = refl

-- what is read of a number doesn't depend on what follows
numbered-seam : (count : ℕ) (one other : List ℕ) → begins_with is_taken other ≡ false → numbered count (one ++ other) ≡ numbered count one
numbered-seam count one other clear =
    let digits = prefix_len is_ascii_digit one in
    let within = digits-within one in
    rw (
      digits-seam one other clear,
      take-append-le digits one other within,
      drop-append-le digits one other within,
      dollar-seam (drop digits one) other clear,
    )

dollar-longer : (text : List ℕ) → starts_with nat_eq text (codes "$") ≡ true → 1 ≤ length text
dollar-longer [] begins = absurd (false≢true begins)
dollar-longer (byte ∷ text) begins = omega arith

-- and is within the text
numbered-within : (count : ℕ) (text : List ℕ) → (numbered count text).1 ≤ length text
numbered-within count text =
    let digits = prefix_len is_ascii_digit text in
    let number = digits_value 10 (take digits text) in
    elim (cases_Bool (number == 0)) [
      | inl none ↦
          elim (cases_Bool (starts_with nat_eq (drop digits text) (codes "$"))) [
            | inl begins ↦
                rw (none, begins) (omega (arith, dollar-longer (drop digits text) begins, length-drop digits text))
            | inr isnt ↦ rw (none, isnt) (digits-within text)
          ]
      | inr some ↦
          elim (cases_Bool (nat_le number count)) [
            | inl fits ↦ rw (some, fits) (digits-within text)
            | inr past ↦ rw (some, past) (digits-within text)
          ]
    ]

-- ---- a text, and what `bind_nums` makes of it without its first bytes

module _ (count : ℕ) (literals : Replacement → LiteralValue) where
  abbrev bound_from : ℕ → ℕ → List ℕ → List ℕ
  bound_from seen skipped text = written literals (resolved_from (Nums count) seen skipped text)

  -- what is at a place
  abbrev place_bytes : Content → List ℕ
  place_bytes (Writes text) = text
  place_bytes (Holds value) = literal_text (literals value)

  placed : (place : Content) (rest : Resolved) → written literals (followed_by place rest) ≡ place_bytes place ++ written literals rest
  placed (Writes text) rest = append_assoc text rest.0 (flat_map (λ part. literal_text (literals part.0) ++ part.1) rest.1)
  placed (Holds value) rest =
      append_assoc (literal_text (literals value)) rest.0 (flat_map (λ part. literal_text (literals part.0) ++ part.1) rest.1)

  dollar-step : (seen : ℕ) (behind : List ℕ) → let found = numbered count behind in
      bound_from seen 0 (36 ∷ behind) ≡ place_bytes found.0 ++ bound_from (counted found.0 seen) found.1 behind
  dollar-step seen behind =
      let found = numbered count behind in
      ap (written literals) (resolved_from-prefix (Nums count) seen (36 ∷ behind) behind refl)
      ∙ placed found.0 (resolved_from (Nums count) (counted found.0 seen) 0 (drop found.1 behind))
      ∙ ap (λ rest. place_bytes found.0 ++ written literals rest) (sym (resolved_from-drop (Nums count) (counted found.0 seen) found.1 behind))

  byte-step : (seen byte : ℕ) (behind : List ℕ) → byte ≢ 36 → bound_from seen 0 (byte ∷ behind) ≡ byte ∷ bound_from seen 0 behind
  byte-step seen byte behind differs = ap (written literals) (resolved_from-text (Nums count) seen byte behind (lacks-byte 36 byte behind differs))

  -- how many placeholders precede a text changes nothing
  unseen : (seen other skipped : ℕ) (text : List ℕ) → bound_from seen skipped text ≡ bound_from other skipped text
  unseen seen other skipped [] = refl
  unseen seen other (suc skipped) (byte ∷ text) = unseen seen other skipped text
  unseen seen other zero (byte ∷ text) =
      elim (cases_Bool (eqb byte 36)) [
        | inl is ↦
            let found = numbered count text in
            ap (λ b. bound_from seen 0 (b ∷ text)) (eqb-true byte 36 is)
            ∙ dollar-step seen text
            ∙ ap (λ rest. place_bytes found.0 ++ rest) (unseen (counted found.0 seen) (counted found.0 other) found.1 text)
            ∙ sym (dollar-step other text)
            ∙ ap (λ b. bound_from other 0 (b ∷ text)) (sym (eqb-true byte 36 is))
        | inr isnt ↦
            let differs = eqb-false byte 36 isnt in
            byte-step seen byte text differs ∙ ap (λ rest. byte ∷ rest) (unseen seen other 0 text) ∙ sym (byte-step other byte text differs)
      ]

  -- a text before another that begins with no byte which a placeholder takes
  bound-seam : (seen skipped : ℕ) (one other : List ℕ) → skipped ≤ length one → begins_with is_taken other ≡ false
      → bound_from seen skipped (one ++ other) ≡ bound_from seen skipped one ++ bound_from 0 0 other
  bound-seam seen zero [] other within clear = unseen seen 0 0 other
  bound-seam seen (suc skipped) [] other within clear = absurd (omega (arith, within))
  bound-seam seen (suc skipped) (byte ∷ one) other within clear = bound-seam seen skipped one other (omega (arith, within)) clear
  bound-seam seen zero (byte ∷ one) other within clear =
      elim (cases_Bool (eqb byte 36)) [
        | inl is ↦
            let found = numbered count one in
            ap (λ b. bound_from seen 0 (b ∷ (one ++ other))) (eqb-true byte 36 is)
            ∙ dollar-step seen (one ++ other)
            ∙ ap (λ (f : Content × ℕ). place_bytes f.0 ++ bound_from (counted f.0 seen) f.1 (one ++ other)) (numbered-seam count one other clear)
            ∙ ap (λ rest. place_bytes found.0 ++ rest) (bound-seam (counted found.0 seen) found.1 one other (numbered-within count one) clear)
            ∙ sym (append_assoc (place_bytes found.0) (bound_from (counted found.0 seen) found.1 one) (bound_from 0 0 other))
            ∙ ap (λ front. front ++ bound_from 0 0 other) (sym (dollar-step seen one))
            ∙ ap (λ b. bound_from seen 0 (b ∷ one) ++ bound_from 0 0 other) (sym (eqb-true byte 36 is))
        | inr isnt ↦
            let differs = eqb-false byte 36 isnt in
            byte-step seen byte (one ++ other) differs
            ∙ ap (λ rest. byte ∷ rest) (bound-seam seen 0 one other (omega arith) clear)
            ∙ ap (λ front. front ++ bound_from 0 0 other) (sym (byte-step seen byte one differs))
      ]

  pub texts-apart : (one other : List ℕ) → begins_with is_taken other ≡ false
      → with_values count literals (one ++ other) ≡ with_values count literals one ++ with_values count literals other
  texts-apart one other clear = bound-seam 0 0 one other (omega arith) clear

  -- a text without a `$` before any other
  pub unmarked-front : (one other : List ℕ) → list_all (λ byte. not (byte == 36)) one ≡ true
      → with_values count literals (one ++ other) ≡ one ++ with_values count literals other
  unmarked-front [] other lacks = refl
  unmarked-front (byte ∷ one) other lacks =
      let both = and_parts (not (byte == 36)) _ lacks in
      byte-step 0 byte (one ++ other) (eqb-false byte 36 (not-true _ both.0)) ∙ ap (λ rest. byte ∷ rest) (unmarked-front one other both.1)

-- ---- the placeholder of a number

glyph-digit : (digit : ℕ) → digit < 10 → is_ascii_digit (48 + digit) ≡ true
glyph-digit digit small = grind (arith, nat_tests, small)

glyph-value : (digit : ℕ) → digit < 10 → digit_value (48 + digit) ≡ digit
glyph-value digit small = grind (arith, nat_tests, small)

glyphs-digits : (digits : List ℕ) → AllBelowBase 10 digits
    → prefix_len is_ascii_digit (map (λ digit. 48 + digit) digits) ≡ length (map (λ digit. 48 + digit) digits)
glyphs-digits [] small = refl
glyphs-digits (digit ∷ digits) small = let more = glyphs-digits digits small.1 in rw (glyph-digit digit small.0) (omega (arith, more))

glyphs-values : (digits : List ℕ) → AllBelowBase 10 digits → map digit_value (map (λ digit. 48 + digit) digits) ≡ digits
glyphs-values [] small = refl
glyphs-values (digit ∷ digits) small = λ i. glyph-value digit small.0 i ∷ glyphs-values digits small.1 i

-- its digits make the number
digits-number : (n : ℕ) → let text = decimal_text (suc n) in
    (prefix_len is_ascii_digit text ≡ length text) × (digits_value 10 text ≡ suc n)
digits-number n =
    let small = all_below_base_digits_of 10 (suc n) (omega arith) in
    let is = decimal-glyphs n in (
      ap (prefix_len is_ascii_digit) is ∙ glyphs-digits (digits_of 10 (suc n)) small ∙ ap length (sym is),
      ap (digits_value 10) is ∙ digits_value_is 10 (glyphs (suc n)) ∙ ap (number_from_digits 10) (glyphs-values (digits_of 10 (suc n)) small)
          ∙ number_digits_of 10 (suc n) (omega arith),
    )

number-read : (count n : ℕ) (text : List ℕ) → prefix_len is_ascii_digit text ≡ length text → digits_value 10 text ≡ suc n → suc n ≤ count
    → numbered count text ≡ (Holds (Argument n), length text)
number-read count n text digits is within =
    let value : digits_value 10 (take (length text) text) ≡ suc n = ap (digits_value 10) (take-length text) ∙ is in
    let before : suc n - 1 ≡ n = omega arith in
    rw (digits, value, ne_eqb (suc n) 0 (λ e. omega (arith, e)), le-leb (suc n) count within) (ap (λ m. (Holds (Argument m), length text)) before)

pub placeholder-bound : (count n : ℕ) (literals : Replacement → LiteralValue) → suc n ≤ count
    → with_values count literals (placeholder_text Dollar (suc n)) ≡ literal_text (literals (Argument n))
placeholder-bound count n literals within =
    let text = decimal_text (suc n) in
    let is = digits-number n in
    dollar-step count literals 0 text
    ∙ ap (λ (f : Content × ℕ). place_bytes count literals f.0 ++ written literals (resolved_from (Nums count) (counted f.0 0) f.1 text)) (number-read count n text is.0 is.1 within)
    ∙ ap (λ rest. literal_text (literals (Argument n)) ++ written literals rest)
    (resolved_from-drop (Nums count) 1 (length text) text ∙ ap (resolved_from (Nums count) 1 0) (drop-length text))
    ∙ append-nil (literal_text (literals (Argument n)))
