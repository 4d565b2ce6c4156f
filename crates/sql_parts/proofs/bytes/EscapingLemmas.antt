-- A text is escaped run by run: each run reaches up to the next byte that is escaped, and begins with the one before.
use Rattle.sql_parts.proofs.Imports.{◌≡◌, ℕ, ◌+◌, ◌-◌, ◌<◌, ◌≤◌, true, false, List, [], ◌∷◌, ◌++◌, length, get_or, take, drop, refl, sym, ap, ◌∙◌, arith}
use Rattle.sql_parts.proofs.Imports.{append_assoc, drop-cons, length-drop, flat_map-append, nat_tests, get_or-drop, take_more}
use Rattle.sql_parts.specs.{is_special, like_escaped}
use Rattle.sql_parts.proofs.bytes.LikeMaskFacts.{each}

-- the run from one place to another
abbrev pub run : List ℕ → ℕ → ℕ → List ℕ
run text start at = take (at - start) (drop start text)

-- what is escaped is ASCII, where the escape character is
pub special-low : (escape byte : ℕ) → escape < 128 → is_special escape byte ≡ true → byte < 128
special-low escape byte low is = grind (arith, nat_tests)

-- What was written, with the run that is still to be written, is a text and so many bytes of another one, escaped.
abbrev pub Written : ℕ → ℕ → ℕ → List ℕ → List ℕ → List ℕ → Type 0
Written escape start at text before out = out ++ run text start at ≡ before ++ like_escaped escape (take at text)

module _ (escape start at : ℕ) (text before out : List ℕ) (from : start ≤ at) (inside : at < length text)
    (written : Written escape start at text before out) where
  abbrev byte : ℕ
  byte = get_or text at 0

  abbrev past : List ℕ
  past = like_escaped escape (take at text)

  more : like_escaped escape (take (at + 1) text) ≡ past ++ like_escaped escape (byte ∷ [])
  more = ap (like_escaped escape) (take_more text at 0 inside) ∙ flat_map-append (each escape) (take at text) (byte ∷ [])

  -- the run ends at a byte that is escaped, and the next one begins there
  pub written-special : is_special escape byte ≡ true → Written escape at (at + 1) text before ((out ++ run text start at) ++ escape ∷ [])
  written-special is =
      let one : at + 1 - at ≡ 1 = omega arith in
      let alone : run text at (at + 1) ≡ byte ∷ [] = (λ i. take (one i) (drop-cons text at 0 inside i)) in
      let both : like_escaped escape (byte ∷ []) ≡ escape ∷ byte ∷ [] = rw is refl in
      (λ i. (written i ++ escape ∷ []) ++ alone i) ∙ append_assoc (before ++ past) (escape ∷ []) (byte ∷ [])
      ∙ append_assoc before past (escape ∷ byte ∷ []) ∙ (λ i. before ++ (past ++ sym both i)) ∙ (λ i. before ++ sym more i)

  -- it goes on over a byte that isn't
  pub written-plain : is_special escape byte ≡ false → Written escape start (at + 1) text before out
  written-plain isnt =
      let long : at + 1 - start ≡ at - start + 1 = omega arith in
      let place : start + (at - start) ≡ at = omega arith in
      let next : ℕ = get_or (drop start text) (at - start) 0 in
      let same : next ≡ byte = get_or-drop start text (at - start) 0 ∙ ap (λ n. get_or text n 0) place in
      let itself : like_escaped escape (byte ∷ []) ≡ byte ∷ [] = rw isnt refl in
      let longer = take_more (drop start text) (at - start) 0 (omega (arith, length-drop start text)) in
      ap (λ n. out ++ take n (drop start text)) long ∙ ap (λ t. out ++ t) longer ∙ sym (append_assoc out (run text start at) (next ∷ []))
      ∙ (λ i. written i ++ (same i ∷ [])) ∙ append_assoc before past (byte ∷ [])
      ∙ (λ i. before ++ (past ++ sym itself i)) ∙ (λ i. before ++ sym more i)
