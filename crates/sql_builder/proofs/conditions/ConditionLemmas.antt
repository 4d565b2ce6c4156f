-- What a condition is: what it prints, what holds of it as of its texts, and that it is an atom where they are operands.
use Rattle.sql_builder.proofs.Imports.{◌≡◌, refl, ap, subst, sym, ◌∙◌, ℕ, Bool, true, false, ◌&&◌, List, [], ◌∷◌, ◌++◌, map, codes, list_all, and_from}
use Rattle.sql_builder.proofs.Imports.{and_parts, false≢true, append-nil, balanced, is_joining, operand, quoted, Symbol, tokens, has_top_level, is_even}
use Rattle.sql_builder.proofs.Imports.{is_operand, is_operand-is, Raw, Pieces, Relation, Eq, Ne, Gt, Ge, Lt, Le}
use Rattle.sql_builder.specs.{ConditionText, Compare, Like, IsNull, IsNotNull, InList, InQuoted, InQuery, Between, condition_bytes, condition_raw_texts}
use Rattle.sql_builder.specs.{condition_pieces, has_operands, mask_text, not_text, relation_text, has_balanced_fragments, byte_units, IsAtomIfOperands}
use Rattle.sql_builder.specs.{comma_list, fixed_piece, pieces_text, quoted_piece, raw_piece, RawText, Bare, Enclosed, cond_tokens, pieces_tokens, IsAtom}
use Rattle.sql_builder.specs.{condition_quoted_texts}
use Rattle.sql_builder.specs.Pieces as text
use Rattle.sql_builder.proofs.fragments.PropertyLemmas.{all-whatever, whatever, Each, Passes, PreservedByCalls, are_between, between, listed, neutral-list}
use Rattle.sql_builder.proofs.fragments.PropertyLemmas.{neutral-quoted, neutral-raw, one, passes-joins, quoteds-pass, raws-pass, within}
use Rattle.sql_builder.proofs.lists.{map-all}
use Rattle.sql_builder.proofs.pieces.LayoutMapLemmas.{joined_in_form}
use Rattle.sql_builder.proofs.pieces.ShapeLemmas.{pieces_tokens-brackets, text-append, texts_of_raw}
use Rattle.sql_builder.proofs.reading.ClauseWordLemmas.{shape-even}
use Rattle.sql_builder.proofs.reading.SectionLemmas.{Neutral}
use Rattle.sql_builder.proofs.tokens.{and_word, between_word, in_word, not_word}
use Rattle.sql_builder.proofs.truth.AtomLemmas.{atom_between, atom_in, atom_like, atom_not_between, atom_not_in, atom_not_like, atom_not_null, atom_null}
use Rattle.sql_builder.proofs.truth.AtomLemmas.{atom_plain, operand_plain}

-- ---- what is printed

map_bytes : (values : List (List ℕ)) → map byte_units values ≡ values
map_bytes [] = refl
map_bytes (value ∷ values) = ap (λ (vs : List (List ℕ)). value ∷ vs) (map_bytes values)

texts_of_quoted : (values : List (List ℕ))
    → map pieces_text (map quoted_piece values) ≡ map quoted values
texts_of_quoted [] = refl
texts_of_quoted (value ∷ values) = simp (append-nil, texts_of_quoted values)

-- a list of values behind a field and words, printed
list-printed : (field words : List ℕ) (printed : List Pieces)
    → pieces_text (raw_piece field ++ (fixed_piece words ++ (comma_list fixed_piece printed ++ fixed_piece (codes ")"))))
    ≡ field ++ (words ++ (comma_list byte_units (map pieces_text printed) ++ codes ")"))
list-printed field words printed =
    ap (λ (rest : List ℕ). field ++ (words ++ rest))
    (text-append (comma_list fixed_piece printed) (fixed_piece (codes ")"))
    ∙ ap (λ (list : List ℕ). list ++ codes ")")
    (joined_in_form fixed_piece byte_units pieces_text refl text-append append-nil (codes ", ") printed))

pub condition_printed : (c : ConditionText) → pieces_text (condition_pieces c) ≡ condition_bytes c
condition_printed (Raw condition) = append-nil condition
condition_printed (InList negated field values) =
    let words = not_text negated ++ codes " IN (" in
    list-printed field words (map raw_piece values)
    ∙ ap (λ (vs : List (List ℕ)). field ++ (words ++ (comma_list byte_units vs ++ codes ")"))) (texts_of_raw values ∙ sym (map_bytes values))
condition_printed (InQuoted negated field values) =
    let words = not_text negated ++ codes " IN (" in
    list-printed field words (map quoted_piece values)
    ∙ ap (λ (vs : List (List ℕ)). field ++ (words ++ (comma_list byte_units vs ++ codes ")"))) (texts_of_quoted values)
condition_printed c = simp append-nil

-- ---- what holds of conditions as of their texts

relation-between : (relation : Relation) → are_between (relation_text relation) ≡ true
relation-between Eq = refl
relation-between Ne = refl
relation-between Gt = refl
relation-between Ge = refl
relation-between Lt = refl
relation-between Le = refl

pub like-between : (negated : Bool) → are_between (not_text negated ++ codes " LIKE ") ≡ true
like-between true = refl
like-between false = refl

between-between : (negated : Bool) → are_between (not_text negated ++ codes " BETWEEN ") ≡ true
between-between true = refl
between-between false = refl

module _ {enclosed : Bool} {ok : RawText → Bool} {fine : List ℕ → Bool} {P Q F U : Pieces → Type 0}
    (preserved : PreservedByCalls enclosed ok fine P Q F U) where
  pub condition-preserved : (condition : ConditionText) → list_all fine (condition_quoted_texts condition) ≡ true
      → list_all ok (condition_raw_texts condition) ≡ true → P (condition_pieces condition)
  condition-preserved (Raw condition) quotes all = one preserved condition all
  condition-preserved (Compare relation field value) quotes all =
      let both = and_parts (ok (Bare field)) (ok (Bare value) && true) all in
      between preserved.joins (relation_text relation) (raw_piece field) (raw_piece value) (relation-between relation) (preserved.bare field both.0)
      (one preserved value both.1)
  condition-preserved (Like negated percent field mask) quotes all =
      between preserved.joins (not_text negated ++ codes " LIKE ") (raw_piece field) (quoted_piece (mask_text percent mask)) (like-between negated)
      (one preserved field all) (preserved.quoted (mask_text percent mask) (and_parts (fine (mask_text percent mask)) true quotes).0)
  condition-preserved (IsNull field) quotes all = preserved.joins.append (raw_piece field) (fixed_piece (codes " IS NULL")) (one preserved field all)
      (preserved.joins.ending (codes " IS NULL") refl refl)
  condition-preserved (IsNotNull field) quotes all =
      preserved.joins.append (raw_piece field) (fixed_piece (codes " IS NOT NULL")) (one preserved field all)
      (preserved.joins.ending (codes " IS NOT NULL") refl refl)
  condition-preserved (InList negated field values) quotes all =
      let both = and_parts (ok (Bare field)) (list_all ok (map Enclosed values)) all in
      preserved.joins.append (raw_piece field) _ (preserved.bare field both.0) (preserved.in_list negated values both.1)
  condition-preserved (InQuoted negated field values) quotes all =
      preserved.joins.append (raw_piece field) _ (one preserved field all) (preserved.in_quoted negated values quotes)
  condition-preserved (InQuery negated field query) quotes all =
      let both = and_parts (ok (Bare field)) (ok (Enclosed query) && true) all in
      preserved.joins.append (raw_piece field) _ (preserved.bare field both.0)
      (preserved.in_query negated query (and_parts (ok (Enclosed query)) true both.1).0)
  condition-preserved (Between negated field least greatest) quotes all =
      let both = and_parts (ok (Bare field)) (ok (Bare least) && (ok (Bare greatest) && true)) all in
      let ends = and_parts (ok (Bare least)) (ok (Bare greatest) && true) both.1 in
      between preserved.joins (not_text negated ++ codes " BETWEEN ") (raw_piece field) (raw_piece least ++ (fixed_piece (codes " AND ") ++ raw_piece greatest))
      (between-between negated) (preserved.bare field both.0)
      (between preserved.joins (codes " AND ") (raw_piece least) (raw_piece greatest) refl (preserved.bare least ends.0)
      (one preserved greatest ends.1))

-- each condition begins with a fragment
pub begins_raw : (condition : ConditionText) → (first : List ℕ) × (rest : Pieces) × (condition_pieces condition ≡ text.Raw first ∷ rest)
begins_raw (Raw condition) = (condition, _, refl)
begins_raw (Compare relation field value) = (field, _, refl)
begins_raw (Like negated percent field mask) = (field, _, refl)
begins_raw (IsNull field) = (field, _, refl)
begins_raw (IsNotNull field) = (field, _, refl)
begins_raw (InList negated field values) = (field, _, refl)
begins_raw (InQuoted negated field values) = (field, _, refl)
begins_raw (InQuery negated field query) = (field, _, refl)
begins_raw (Between negated field least greatest) = (field, _, refl)

-- ---- an atom

operand_tokens : (f : List ℕ) → operand f ≡ true → is_operand (tokens f) ≡ true
operand_tokens f h = sym (is_operand-is (tokens f)) ∙ h

no_joining : (v : List ℕ) → operand v ≡ true → has_top_level is_joining (tokens v ++ []) ≡ false
no_joining v h = ap (has_top_level is_joining) (append-nil (tokens v)) ∙ operand_plain (tokens v) (operand_tokens v h)

compare-atom : (relation : Relation) (f v : List ℕ) → operand f ≡ true → operand v ≡ true → IsAtom (cond_tokens (Compare relation f v))
compare-atom Eq f v h k = atom_plain (tokens f) (Symbol 61) (tokens v ++ []) (operand_tokens f h) (no_joining v k)
compare-atom Ne f v h k = atom_plain (tokens f) (Symbol 60) (Symbol 62 ∷ (tokens v ++ [])) (operand_tokens f h) (no_joining v k)
compare-atom Gt f v h k = atom_plain (tokens f) (Symbol 62) (tokens v ++ []) (operand_tokens f h) (no_joining v k)
compare-atom Ge f v h k = atom_plain (tokens f) (Symbol 62) (Symbol 61 ∷ (tokens v ++ [])) (operand_tokens f h) (no_joining v k)
compare-atom Lt f v h k = atom_plain (tokens f) (Symbol 60) (tokens v ++ []) (operand_tokens f h) (no_joining v k)
compare-atom Le f v h k = atom_plain (tokens f) (Symbol 60) (Symbol 61 ∷ (tokens v ++ [])) (operand_tokens f h) (no_joining v k)

-- IN and its brackets
in-atom : (negated : Bool) (f : List ℕ) (inner : Pieces) → operand f ≡ true → is_even (pieces_tokens inner) ≡ true
    → IsAtom (pieces_tokens (raw_piece f ++ (fixed_piece (not_text negated ++ codes " IN (") ++ (inner ++ fixed_piece (codes ")")))))
in-atom true f inner h even = subst (λ ts. IsAtom (tokens f ++ not_word ∷ in_word ∷ ts)) (sym (pieces_tokens-brackets inner))
    (atom_not_in (tokens f) (pieces_tokens inner) (operand_tokens f h) even)
in-atom false f inner h even = subst (λ ts. IsAtom (tokens f ++ in_word ∷ ts)) (sym (pieces_tokens-brackets inner))
    (atom_in (tokens f) (pieces_tokens inner) (operand_tokens f h) even)

list-even : (items : List Pieces) → Each Neutral items → Each (Passes balanced whatever) items → is_even (pieces_tokens (comma_list fixed_piece items)) ≡ true
list-even items neutral all = shape-even (comma_list fixed_piece items) (listed (passes-joins balanced whatever) items all)
    (neutral-list items neutral).even

between-atom : (negated : Bool) (f a b : List ℕ) → operand f ≡ true → operand a ≡ true → operand b ≡ true → IsAtom (cond_tokens (Between negated f a b))
between-atom true f a b h k l = subst (λ ts. IsAtom (tokens f ++ not_word ∷ between_word ∷ (tokens a ++ and_word ∷ ts))) (sym (append-nil (tokens b)))
    (atom_not_between (tokens f) (tokens a) (tokens b) (operand_tokens f h) (operand_tokens a k) (operand_tokens b l))
between-atom false f a b h k l = subst (λ ts. IsAtom (tokens f ++ between_word ∷ (tokens a ++ and_word ∷ ts))) (sym (append-nil (tokens b)))
    (atom_between (tokens f) (tokens a) (tokens b) (operand_tokens f h) (operand_tokens a k) (operand_tokens b l))

pub condition_atom : (condition : ConditionText) → IsAtomIfOperands condition (cond_tokens condition)
condition_atom (Raw condition) = λ h. absurd (false≢true h)
condition_atom (Compare relation field value) = λ h. let both = and_parts (operand field) (operand value) h in compare-atom relation field value both.0 both.1
condition_atom (Like true percent field mask) = λ h. atom_not_like (tokens field) (mask_text percent mask) (operand_tokens field h)
condition_atom (Like false percent field mask) = λ h. atom_like (tokens field) (mask_text percent mask) (operand_tokens field h)
condition_atom (IsNull field) = λ h. atom_null (tokens field) (operand_tokens field h)
condition_atom (IsNotNull field) = λ h. atom_not_null (tokens field) (operand_tokens field h)
condition_atom (InList negated field values) = λ h.
    let both = and_parts (operand field) (list_all balanced values) h in
    in-atom negated field (comma_list fixed_piece (map raw_piece values)) both.0
    (list-even (map raw_piece values) (map-all Neutral raw_piece neutral-raw values) (raws-pass balanced whatever values both.1))
condition_atom (InQuoted negated field values) = λ h.
    in-atom negated field (comma_list fixed_piece (map quoted_piece values)) h
    (list-even (map quoted_piece values) (map-all Neutral quoted_piece neutral-quoted values) (quoteds-pass balanced whatever values (all-whatever values)))
condition_atom (InQuery negated field query) = λ h.
    let both = and_parts (operand field) (balanced query) h in
    in-atom negated field (raw_piece query) both.0 (shape-even (raw_piece query) (and_from _ _ both.1 refl) refl)
condition_atom (Between negated field least greatest) = λ h.
    let both = and_parts (operand field) (operand least && operand greatest) h in
    let ends = and_parts (operand least) (operand greatest) both.1 in
    between-atom negated field least greatest both.0 ends.0 ends.1

-- operands are balanced, and so closed
operand_balanced : (t : List ℕ) → operand t ≡ true → balanced t ≡ true
operand_balanced t h = (and_parts (balanced t) _ (and_parts _ _ h).0).0

pub operands_balanced : (condition : ConditionText) → has_operands condition ≡ true → has_balanced_fragments (condition_pieces condition) ≡ true
operands_balanced (Raw condition) h = absurd (false≢true h)
operands_balanced (Compare relation field value) h =
    let both = and_parts (operand field) (operand value) h in
    and_from _ _ (operand_balanced field both.0) (and_from _ _ (operand_balanced value both.1) refl)
operands_balanced (Like negated percent field mask) h = and_from _ _ (operand_balanced field h) refl
operands_balanced (IsNull field) h = and_from _ _ (operand_balanced field h) refl
operands_balanced (IsNotNull field) h = and_from _ _ (operand_balanced field h) refl
operands_balanced (InList negated field values) h =
    let both = and_parts (operand field) (list_all balanced values) h in
    and_from _ _ (operand_balanced field both.0)
    (within balanced whatever (not_text negated ++ codes " IN (") (comma_list fixed_piece (map raw_piece values)) (codes ")")
    (listed (passes-joins balanced whatever) (map raw_piece values) (raws-pass balanced whatever values both.1)))
operands_balanced (InQuoted negated field values) h =
    and_from _ _ (operand_balanced field h)
    (within balanced whatever (not_text negated ++ codes " IN (") (comma_list fixed_piece (map quoted_piece values)) (codes ")")
    (listed (passes-joins balanced whatever) (map quoted_piece values)
    (quoteds-pass balanced whatever values (all-whatever values))))
operands_balanced (InQuery negated field query) h =
    let both = and_parts (operand field) (balanced query) h in
    and_from _ _ (operand_balanced field both.0) (and_from _ _ both.1 refl)
operands_balanced (Between negated field least greatest) h =
    let both = and_parts (operand field) (operand least && operand greatest) h in
    let ends = and_parts (operand least) (operand greatest) both.1 in
    and_from _ _ (operand_balanced field both.0) (and_from _ _ (operand_balanced least ends.0) (and_from _ _ (operand_balanced greatest ends.1) refl))
