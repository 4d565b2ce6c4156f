-- Literals without a backslash read alike whether a backslash escapes or not.
use Rattle.sql_parts.proofs.Imports.{code, ◌≡◌, ℕ, suc, false, List, [], ◌∷◌, ◌++◌, length, Option, Some, refl, ap, ◌∙◌, cond, inl, inr, append_assoc, arith}
use Rattle.sql_parts.proofs.Imports.{length-append, ◌==◌, option_map, cases_Bool, eqb-true, or_parts}
use Rattle.sql_parts.specs.{has_backslash, inside, literal, doubled, quoted, begins_with}
use Rattle.sql_parts.specs.Tokens as tokens

-- a byte that is neither a backslash nor a quote is part of the literal
inside-plain : (byte : ℕ) (behind : List ℕ) → (byte == code "\\") ≡ false → (byte == code "'") ≡ false
    → inside (byte ∷ behind) ≡ option_map (λ found. (byte ∷ found.0, suc found.1)) (inside behind)
inside-plain byte [] no_backslash no_quote = rw no_quote
inside-plain byte (next ∷ behind) no_backslash no_quote = rw (no_backslash, no_quote)

inside-end : (behind : List ℕ) → begins_with (λ byte. byte == code "'") behind ≡ false → inside (code "'" ∷ behind) ≡ Some ([], 1)
inside-end [] none = refl
inside-end (next ∷ behind) none = rw none

inside-doubled : (text behind : List ℕ) → has_backslash text ≡ false → begins_with (λ byte. byte == code "'") behind ≡ false
    → inside (doubled (code "'") text ++ (code "'" ∷ behind)) ≡ Some (text, suc (length (doubled (code "'") text)))
inside-doubled [] behind plain none = inside-end behind none
inside-doubled (byte ∷ text) behind plain none =
    let both = or_parts (byte == code "\\") (has_backslash text) plain in
    let rest = doubled (code "'") text ++ (code "'" ∷ behind) in
    let later = inside-doubled text behind both.1 none in
    elim (cases_Bool (byte == code "'")) [
      | inl is ↦ rw is (ap (option_map (λ found. (code "'" ∷ found.0, suc (suc found.1)))) later ∙ rw (eqb-true byte (code "'") is) refl)
      | inr isnt ↦ rw isnt (inside-plain byte rest both.0 isnt ∙ ap (option_map (λ found. (byte ∷ found.0, suc found.1))) later)
    ]

-- a quoted text without a backslash ends at its last byte, and stands for the text
pub literal-quoted : (text behind : List ℕ) → has_backslash text ≡ false → begins_with (λ byte. byte == code "'") behind ≡ false
    → literal (quoted text ++ behind) ≡ Some (text, length (quoted text))
literal-quoted text behind plain none =
    let written = doubled (code "'") text in
    let long : suc (length written) ≡ length (written ++ code "'" ∷ []) = omega (arith, length-append written (code "'" ∷ [])) in
    ap (option_map (λ found. (found.0, suc found.1))) (ap inside (append_assoc written (code "'" ∷ []) behind) ∙ inside-doubled text behind plain none)
    ∙ ap (λ n. Some (text, suc n)) long

-- without a backslash both readers find the same end
pub inside-same : (text : List ℕ) → has_backslash text ≡ false → inside text ≡ tokens.inside (code "'") text
inside-same [] plain = refl
inside-same (byte ∷ []) plain = refl
inside-same (byte ∷ next ∷ text) plain =
    let here = or_parts (byte == code "\\") (has_backslash (next ∷ text)) plain in
    let later = or_parts (next == code "\\") (has_backslash text) here.1 in
    let twice : Option (List ℕ × ℕ) → Option (List ℕ × ℕ) = option_map (λ found. (code "'" ∷ found.0, suc (suc found.1))) in
    elim (cases_Bool (byte == code "'")) [
      | inl is ↦ rw (here.0, is) (ap (λ found. cond (next == code "'") (twice found) (Some ([], 1))) (inside-same text later.1))
      | inr isnt ↦ rw (here.0, isnt) (ap (option_map (λ found. (byte ∷ found.0, suc found.1))) (inside-same (next ∷ text) here.1))
    ]
