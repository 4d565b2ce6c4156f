-- The variants of enums whose variants hold nothing, as they are passed to the steps of calls.
use Rattle.sql_parts.proofs.chains.Prelude.{◌≡◌, ℕ, [], ◌∷◌, subst, lit<, Val}
use Rattle.sql_parts.proofs.chains.LoanLemmas.{Variant}
use Rattle.sql_parts.proofs.Imports.{◌^◌, layout, Is, T, ltb, w8}
use denote.Enum.Declared.{Declared, row, variants}
use denote.Enum.Laws.{Fields, Laws, owes, spellss, val}
use mir.Val.{has_ty, vstruct, vint, vcons, vnil}

-- a variant that holds nothing: its tag
abbrev tagged : ℕ → Val
tagged tag = vstruct (vcons (vint w8 tag) vnil)

-- a variant of an enum whose variants hold nothing, by its value and its tag
abbrev pub Variants : (E : Declared) → Laws E → Type 0
Variants E L = (value : E.D) (tag : ℕ) → T (ltb tag (2 ^ 8)) → T (has_ty (layout (row E)) (tagged tag)) → Fields (variants E) (spellss E.parts L) (E.to value)
    → val E L value ≡ tagged tag → Variant E

abbrev pub variant : (E : Declared) (L : Laws E) → Variants E L
variant E L value tag is_byte is_tag fields is = record {
  value = value;
  tag = tag;
  is_byte = is_byte;
  good = (is_tag, (record { fits = lit< is_byte }, tt));
  is = subst (λ v. Is (row E) value (v ∷ [])) is (owes E L value fields);
}
