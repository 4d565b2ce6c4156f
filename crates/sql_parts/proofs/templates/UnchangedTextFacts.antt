-- What binding leaves as it is.
use Rattle.sql_parts.proofs.Imports.{◌≡◌, ◌≢◌, ℕ, zero, suc, List, [], ◌∷◌, ◌++◌, length, drop, Some, eqb, refl, sym, subst, ap, ◌∙◌, inl, inr, arith}
use Rattle.sql_parts.proofs.Imports.{append-nil, ne_eqb, All, if◌then◌else◌, LacksTextAt, cases_Bool, eqb-false, eqb-true, Marks, followed_by, prefix}
use Rattle.sql_parts.specs.{LiteralValue, doubled, First, Cycle, Nums, Names, Content, Replacement, Writes, bound, counted, named, resolved_from, place_behind}
use Rattle.sql_parts.specs.{supplied}
use Rattle.sql_parts.proofs.templates.ResolveLemmas.{resolved_from-prefix, resolved_from-text}

-- a prefix of one byte doesn't begin where another byte is
pub lacks-byte : (byte other : ℕ) (text : List ℕ) → other ≢ byte → LacksTextAt (byte ∷ []) (other ∷ text) 0
lacks-byte byte other text differs rest is = differs cc

-- Each byte that is doubled is read as an escape, where a sign at once behind its like is one.
resolved-doubled : (marks : Marks) (byte seen : ℕ) (text : List ℕ)
    → prefix marks ≡ byte ∷ [] → ((behind : List ℕ) → place_behind marks seen (byte ∷ behind) ≡ (Writes (byte ∷ []), 1))
    → resolved_from marks seen 0 (doubled byte text) ≡ (text, [])
resolved-doubled marks byte seen [] sign escape = refl
resolved-doubled marks byte seen (other ∷ text) sign escape =
    let rest = doubled byte text in
    let before = resolved-doubled marks byte seen text sign escape in
    elim (cases_Bool (eqb other byte)) [
      | inl is ↦
          ap (λ (more : List ℕ). resolved_from marks seen 0 (more ++ rest)) (ap (λ t. if t then byte ∷ byte ∷ [] else other ∷ []) is)
          ∙ resolved_from-prefix marks seen (byte ∷ byte ∷ rest) (byte ∷ rest) (ap (λ o. o ++ (byte ∷ rest)) (sym sign))
          ∙ ap (λ (found : Content × ℕ). followed_by found.0 (resolved_from marks (counted found.0 seen) 0 (drop found.1 (byte ∷ rest)))) (escape rest)
          ∙ ap (followed_by (Writes (byte ∷ []))) before
          ∙ ap (λ b. (b ∷ text, [])) (sym (eqb-true other byte is))
      | inr is ↦
          ap (λ (more : List ℕ). resolved_from marks seen 0 (more ++ rest)) (ap (λ t. if t then byte ∷ byte ∷ [] else other ∷ []) is)
          ∙ resolved_from-text marks seen other rest
          (subst (λ o. LacksTextAt o (other ∷ rest) 0) (sym sign) (lacks-byte byte other rest (eqb-false other byte is)))
          ∙ ap (followed_by (Writes (other ∷ []))) before
    ]

-- a colon at once behind another
named-twice : (behind : List ℕ) → named (58 ∷ behind) ≡ (Writes (58 ∷ []), 1)
named-twice behind = rw (ne_eqb 0 (suc (length behind)) (λ e. omega arith)) refl

resolved-without : (marks : Marks) (byte seen : ℕ) (text : List ℕ)
    → prefix marks ≡ byte ∷ [] → All (λ other. other ≢ byte) text → resolved_from marks seen 0 text ≡ (text, [])
resolved-without marks byte seen [] is without = refl
resolved-without marks byte seen (other ∷ text) is without =
    resolved_from-text marks seen other text (subst (λ o. LacksTextAt o (other ∷ text) 0) (sym is) (lacks-byte byte other text (without 0 other (omega arith))))
    ∙ ap (followed_by (Writes (other ∷ []))) (resolved-without marks byte seen text is (λ k d inside. without (suc k) d (omega arith)))

supplied-segment : (marks : Marks) (text : List ℕ) → supplied marks (text, []) ≡ Some (text, [])
supplied-segment First text = refl
supplied-segment (Cycle zero) text = refl
supplied-segment (Cycle (suc count)) text = refl
supplied-segment _ text = refl

-- a text that is one segment
bound-segment : (marks : Marks) (template text : List ℕ) (literals : Replacement → LiteralValue)
    → resolved_from marks 0 0 template ≡ (text, []) → bound template marks literals ≡ Some text
bound-segment marks template text literals is = rw (is, supplied-segment marks text) (ap Some (append-nil text))

pub nums-doubled : (count : ℕ) (text : List ℕ) (literals : Replacement → LiteralValue) → bound (doubled 36 text) (Nums count) literals ≡ Some text
nums-doubled count text literals = bound-segment (Nums count) (doubled 36 text) text literals (resolved-doubled (Nums count) 36 0 text refl (λ behind. refl))

pub names-doubled : (text : List ℕ) (literals : Replacement → LiteralValue) → bound (doubled 58 text) Names literals ≡ Some text
names-doubled text literals = bound-segment Names (doubled 58 text) text literals (resolved-doubled Names 58 0 text refl named-twice)

pub without-prefix : (marks : Marks) (byte : ℕ) (text : List ℕ) (literals : Replacement → LiteralValue)
    → prefix marks ≡ byte ∷ [] → All (λ other. other ≢ byte) text → bound text marks literals ≡ Some text
without-prefix marks byte text literals is without = bound-segment marks text text literals (resolved-without marks byte 0 text is without)
