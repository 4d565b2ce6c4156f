-- Readers go through the same states outside of the texts that calls quote.
use Rattle.sql_builder.proofs.Imports.{◌≡◌, refl, sym, ◌∙◌, ap, subst, ℕ, Bool, true, List, [], ◌∷◌, ◌++◌, Option, None, Some, Result, Ok, Err, map, length}
use Rattle.sql_builder.proofs.Imports.{IfOk, IsTrue, ◌&&◌, list_all, result_map_both, append-nil, map-append, flat_map-append, SqlBuilderError, token_reader}
use Rattle.sql_builder.proofs.Imports.{Clauses, Pieces, parts_at, and_from, and_parts, list_all-append, list_all-map}
use Rattle.sql_parts.specs.Readers.{Part, Constant, Doubled, Reader, DifferInDoubledTexts, IsInsideAtEach, emptied, has_plain_text, marks, outer_states}
use Rattle.sql_parts.specs.Readers.{part_bytes, parts_bytes}
use Rattle.sql_parts.proofs.tokens.ReaderLemmas.{marks-length, readers-alike}
use Rattle.sql_builder.specs.{FinishText, clauses, CallText, finish_raw_texts, start_raw_texts, map_clauses, byte_units, fixed_piece, raw_piece}
use Rattle.sql_builder.specs.{has_closed_fragments, error_at, layout_at, pieces, statement, text_unless_error, unless_error, made_by}
use Rattle.sql_builder.specs.{ClosedFragmentsOpenStrings, QuotedBytesAreBytes, ReadersIgnoreQuotedFragments, ReadersIgnoreQuotedTexts, bytes_unless_error}
use Rattle.sql_builder.specs.{constant_part, every_byte, parts_in, printed_by, text_of_parts, NoTextsDecide, PlainTextsArePrinted, quotes_plain_texts}
use Rattle.sql_builder.specs.{mask_text, blank_call, call_quoted_texts}
use Rattle.sql_builder.specs.Pieces as text
use Rattle.sql_builder.proofs.interference.QuotedTextLemmas.{blanks, failed, laid, same_errors, same_layouts, map-twice}
use Rattle.sql_builder.proofs.pieces.{parts_in-bytes, printed-shaped, Shaped, layout_in_form}
use Rattle.sql_builder.proofs.statements.{builders_print_statements}
use Rattle.sql_builder.specs.Calls as call
use Rattle.sql_builder.specs.Condition as condition
use Rattle.sql_builder.specs.declared.condition.Percent.{Percent}
use Rattle.sql_builder.specs.declared.condition.Percent.TheVariants as sign
use Rattle.sql_builder.proofs.fragments.{unless, all-any, calls-any, printed-passes, piece_passes, whatever}
use Rattle.sql_builder.proofs.lists.{all-weaker}

-- ---- parts of pieces

parts_in-blank : (printed : Pieces) → map emptied (parts_in printed) ≡ parts_in (blanks printed)
parts_in-blank [] = refl
parts_in-blank (text.Fixed words ∷ printed) = ap (λ more. Constant words ∷ more) (parts_in-blank printed)
parts_in-blank (text.Quoted quoted ∷ printed) =
    ap (λ more. Constant (39 ∷ []) ∷ Doubled 39 [] ∷ Constant (39 ∷ []) ∷ more) (parts_in-blank printed)
parts_in-blank (text.Raw raw ∷ printed) = ap (λ more. Constant raw ∷ more) (parts_in-blank printed)

differ : (one other : Pieces) → blanks one ≡ blanks other → DifferInDoubledTexts (parts_in one) (parts_in other)
differ one other same = parts_in-blank one ∙ ap parts_in same ∙ sym (parts_in-blank other)

-- ---- what is printed, or the error

module _ (next : Reader) (plain : ℕ → Bool) (state : ℕ) where
  abbrev Plain : Result Pieces SqlBuilderError → Type 0
  Plain printed = IfOk printed (λ pieces. IsTrue (list_all (has_plain_text plain) (parts_in pieces)))

  abbrev Opens : Result Pieces SqlBuilderError → Type 0
  Opens printed = IfOk printed (λ pieces. IsInsideAtEach next plain state (parts_in pieces))

  abbrev outside : Result Pieces SqlBuilderError → Result (List ℕ) SqlBuilderError
  outside printed = result_map_both (outer_states next state (bytes_unless_error printed)) (λ error. error) (text_unless_error printed)

  pub unless-alike : (failed : Option SqlBuilderError) (one other : Pieces) → blanks one ≡ blanks other → Plain (unless_error failed one)
      → Plain (unless_error failed other) → Opens (unless_error failed one)
      → Opens (unless_error failed other) × (outside (unless_error failed one) ≡ outside (unless_error failed other))
  unless-alike None one other same one_plain other_plain opens =
      let alike = readers-alike next plain state (parts_in one) (parts_in other) (differ one other same) one_plain other_plain opens in
      let states : Pieces → List ℕ → List ℕ = λ printed bytes. outer_states next state (marks (parts_in printed)) bytes in (
        alike.0,
        ap Ok (ap (states one) (sym (parts_in-bytes one)) ∙ alike.1 ∙ ap (states other) (parts_in-bytes other)),
      )
  unless-alike (Some error) one other same one_plain other_plain opens = (tt, refl)

pub statements-alike : ReadersIgnoreQuotedTexts statement
statements-alike next plain state start one other finish differ one_plain other_plain opens =
    let Goal : Option SqlBuilderError → Type 0 =
    λ e. Plain next plain state (unless_error e (laid start one other finish differ other))
    → Opens next plain state (unless_error e (laid start one other finish differ other))
    × (outside next plain state (unless_error (failed start one other finish differ one) (laid start one other finish differ one))
    ≡ outside next plain state (unless_error e (laid start one other finish differ other))) in
    subst Goal (same_errors start one other finish differ)
    (λ plain_other. unless-alike next plain state (failed start one other finish differ one) (laid start one other finish differ one)
    (laid start one other finish differ other) (same_layouts start one other finish differ) one_plain plain_other opens) other_plain

printed_by-statement : statement ≡ printed_by
printed_by-statement = λ i start calls finish. sym (builders_print_statements start calls finish) i

pub printed-alike : ReadersIgnoreQuotedTexts printed_by
printed-alike = subst ReadersIgnoreQuotedTexts printed_by-statement statements-alike

-- ---- a mark for each byte

pub bytes-marked : QuotedBytesAreBytes statement
bytes-marked start calls finish = by (pieces start calls finish)
  where
    by : (printed : Result Pieces SqlBuilderError) → IfOk (text_unless_error printed) (λ text. length (bytes_unless_error printed) ≡ length text)
    by (Ok printed) = marks-length (parts_in printed) ∙ ap length (parts_in-bytes printed)
    by (Err error) = tt

pub printed-marked : QuotedBytesAreBytes printed_by
printed-marked = subst QuotedBytesAreBytes printed_by-statement bytes-marked

-- ---- texts that are quoted inside of fragments

parts_at-emptied : (finish : FinishText) (r : Clauses (List Part)) → map emptied (parts_at finish r) ≡ parts_at finish (map_clauses (map emptied) r)
parts_at-emptied finish r =
    layout_in_form constant_part constant_part (map emptied) refl (map-append emptied) (λ w. refl) constant_part constant_part (λ t. refl) finish r

parts_at-bytes : (finish : FinishText) (r : Clauses (List Part)) → parts_bytes (parts_at finish r) ≡ text_of_parts finish r
parts_at-bytes finish r =
    layout_in_form constant_part byte_units parts_bytes refl (flat_map-append part_bytes) append-nil constant_part byte_units append-nil finish r

pub fragments-alike : ReadersIgnoreQuotedFragments
fragments-alike next plain state finish one other same one_plain other_plain inside =
    let differ = parts_at-emptied finish one ∙ ap (parts_at finish) same ∙ sym (parts_at-emptied finish other) in
    let alike = readers-alike next plain state (parts_at finish one) (parts_at finish other) differ one_plain other_plain inside in
    let read : Clauses (List Part) → List ℕ → List ℕ = λ r text. outer_states next state (marks (parts_at finish r)) text in
    (alike.0, ap (read one) (sym (parts_at-bytes finish one)) ∙ alike.1 ∙ ap (read other) (parts_at-bytes finish other))

-- ---- the reader of tokens

pub closed-open : ClosedFragmentsOpenStrings
closed-open start calls finish is =
    by (error_at finish (made_by start calls)) (layout_at fixed_piece raw_piece finish (clauses start calls)) (printed-shaped start calls finish) is
  where
    by : (failed : Option SqlBuilderError) (printed : Pieces) → Shaped printed
        → IfOk (unless_error failed printed) (λ printed. IsTrue (has_closed_fragments printed))
        → IfOk (unless_error failed printed) (λ printed. IsInsideAtEach token_reader every_byte 0 (parts_in printed))
    by None printed shaped is = shaped.opens is
    by (Some error) printed shaped is = tt

-- ---- plain texts

parts-plain : (plain : ℕ → Bool) (printed : Pieces)
    → list_all (has_plain_text plain) (parts_in printed) ≡ list_all (piece_passes whatever (list_all plain)) printed
parts-plain plain [] = refl
parts-plain plain (text.Fixed words ∷ printed) = parts-plain plain printed
parts-plain plain (text.Quoted quoted ∷ printed) = ap (λ more. list_all plain quoted && more) (parts-plain plain printed)
parts-plain plain (text.Raw raw ∷ printed) = parts-plain plain printed

pub plain-printed : PlainTextsArePrinted
plain-printed plain start calls finish all =
    let laid = layout_at fixed_piece raw_piece finish (clauses start calls) in
    unless (error_at finish (made_by start calls)) laid (λ printed. list_all (has_plain_text plain) (parts_in printed))
    (parts-plain plain laid
    ∙ printed-passes whatever (list_all plain) start calls finish all
    (and_from _ _ (and_from _ _ (all-any (start_raw_texts start)) (calls-any calls)) (all-any (finish_raw_texts finish))))

-- a call without texts quotes plain ones where the call does: the percent signs of a mask
percent-plain : (plain : ℕ → Bool) (percent : Percent) (mask : List ℕ) → list_all plain (mask_text percent mask) ≡ true
    → list_all plain (mask_text percent []) ≡ true
percent-plain plain sign.Plain mask all = refl
percent-plain plain sign.Right mask all = and_from _ _ (and_parts (plain 37) (list_all plain (mask ++ [])) all).0 refl
percent-plain plain sign.Left mask all = (and_parts (list_all plain mask) _ (sym (list_all-append plain mask (37 ∷ [])) ∙ all)).1
percent-plain plain sign.Any mask all =
    let both = and_parts (plain 37) (list_all plain (mask ++ 37 ∷ [])) all in
    and_from _ _ both.0 (and_parts (list_all plain mask) _ (sym (list_all-append plain mask (37 ∷ [])) ∙ both.1)).1

none-plain : (plain : ℕ → Bool) (values : List (List ℕ)) → list_all (list_all plain) (map (λ value. []) values) ≡ true
none-plain plain [] = refl
none-plain plain (value ∷ values) = none-plain plain values

blank-plain : (plain : ℕ → Bool) (c : CallText) → list_all (list_all plain) (call_quoted_texts c) ≡ true
    → list_all (list_all plain) (call_quoted_texts (blank_call c)) ≡ true
blank-plain plain (call.Cond family (condition.Like negated percent field mask)) all =
    and_from _ _ (percent-plain plain percent mask (and_parts (list_all plain (mask_text percent mask)) true all).0) refl
blank-plain plain (call.Cond family (condition.InQuoted negated field values)) all = none-plain plain values
blank-plain plain _ all = refl

blanks-plain : (plain : ℕ → Bool) (calls : List CallText) → quotes_plain_texts plain calls ≡ true → quotes_plain_texts plain (map blank_call calls) ≡ true
blanks-plain plain calls all =
    list_all-map (λ c. list_all (list_all plain) (call_quoted_texts c)) blank_call calls
    ∙ all-weaker (λ c. list_all (list_all plain) (call_quoted_texts c)) (λ c. list_all (list_all plain) (call_quoted_texts (blank_call c))) (blank-plain plain)
    calls all

blank_call-twice : (c : CallText) → blank_call (blank_call c) ≡ blank_call c
blank_call-twice (call.Cond family (condition.InQuoted negated field values)) =
    ap (λ (none : List (List ℕ)). call.Cond family (condition.InQuoted negated field none)) (map-twice (λ (value : List ℕ). []) (λ value. refl) values)
blank_call-twice _ = refl

pub no_texts-decide : NoTextsDecide statement
no_texts-decide next plain state start calls finish all opens =
    statements-alike next plain state start (map blank_call calls) calls finish (map-twice blank_call blank_call-twice calls)
    (plain-printed plain start (map blank_call calls) finish (blanks-plain plain calls all)) (plain-printed plain start calls finish all) opens

pub no_texts-decide_printed : NoTextsDecide printed_by
no_texts-decide_printed = subst NoTextsDecide printed_by-statement no_texts-decide
