-- A text is its first line and the lines of the text behind it; an input has the lines before its first that is not UTF-8.
use Rattle.sqlb.proofs.Imports.{◌≡◌, ℕ, ◌+◌, ◌<◌, ◌≤◌, ◌==◌, Bool, true, false, List, [], ◌∷◌, length, drop, length-drop, arith, refl, ap, ap₂, ◌∙◌, sym, inl}
use Rattle.sqlb.proofs.Imports.{inr, ◌≢◌, ◌-◌, ◌++◌, take, get_or, length-take, take-add, subst, append_assoc, cond, lit<, IsTrue, nat_lt, after_first}
use Rattle.sqlb.proofs.Imports.{before_first, position_or_len, slice_split, onto_first, IsCharBoundary, IsValidUpTo, drop_all, take_all, append-nil}
use Rattle.sqlb.proofs.Imports.{get_or-drop, get_or-take, take-append-drop, take-take, take_more, fails_before_first, passes_at_first, slice_split_first}
use Rattle.sqlb.proofs.Imports.{slice_split_none, length-slice_split, cases_lt, eqb-true, ltb-true, IsCharBoundary-before_ascii, IsUtf8-drop, IsUtf8-take}
use Rattle.sqlb.proofs.Imports.{IsCharBoundary-after_ascii, IsCharBoundary-start, IsUtf8-append, IsUtf8-from_ascii, IsAscii-cons, IsAscii-nil}
use Rattle.std.specs.Prelude.{IsUtf8}
use Rattle.sqlb.specs.{without_empty_last, lines, IsNextLine, remaining_of, EndsBeforeInvalidLine}

abbrev pub feed : ℕ → Bool
feed byte = byte == 10

onto_line : (first : List ℕ) (parts : List (List ℕ)) → 0 < length parts → without_empty_last (first ∷ parts) ≡ first ∷ without_empty_last parts
onto_line first [] h = absurd (omega arith)
onto_line first (part ∷ parts) h = refl

some_part : (xs : List ℕ) → 0 < length (slice_split feed xs)
some_part xs = omega (arith, length-slice_split feed xs)

one_line : (xs : List ℕ) → 0 < length xs → without_empty_last (xs ∷ []) ≡ xs ∷ []
one_line [] h = absurd (omega arith)
one_line (x ∷ xs) h = refl

module _ (xs : List ℕ) (some : 0 < length xs) where
  all_of : length xs ≤ position_or_len feed xs → before_first feed xs ≡ xs
  all_of far = take_all (position_or_len feed xs) xs far

  pub first_line : lines xs ≡ before_first feed xs ∷ lines (after_first feed xs)
  first_line =
      elim (cases_lt (position_or_len feed xs) (length xs)) [
        | inl inside ↦
            ap without_empty_last (slice_split_first feed xs 0 inside)
            ∙ onto_line (before_first feed xs) (slice_split feed (after_first feed xs)) (some_part (after_first feed xs))
        | inr far ↦
            let none : after_first feed xs ≡ [] = drop_all (position_or_len feed xs + 1) xs (omega (arith, far)) in
            ap without_empty_last (slice_split_none feed xs (λ k d l. fails_before_first feed xs k d (omega (arith, far, l)))) ∙ one_line xs some
            ∙ ap₂ (λ (l : List ℕ) (behind : List ℕ). l ∷ lines behind) (sym (all_of far)) (sym none)
      ]

  line_utf8 : IsUtf8 xs → IsUtf8 (before_first feed xs)
  line_utf8 utf8 =
      elim (cases_lt (position_or_len feed xs) (length xs)) [
        | inl inside ↦
            let ascii : get_or xs (position_or_len feed xs) 0 < 128 = omega (arith, eqb-true _ 10 (passes_at_first feed xs 0 inside)) in
            IsUtf8-take xs (position_or_len feed xs) utf8 (IsCharBoundary-before_ascii xs (position_or_len feed xs) inside ascii)
        | inr far ↦ rw (all_of far) utf8
      ]

-- between two lines no part is left
no_part_left : (in_line : Bool) (rest : List ℕ) → (remaining_of in_line rest).parts ≡ [] → (remaining_of in_line rest).behind ≡ rest
no_part_left true rest none = absurd (omega (arith, length-slice_split (λ byte. byte == 9) (before_first feed rest), ap length none))
no_part_left false rest none = refl

module _ (text : List ℕ) (at : ℕ) (utf8 : IsUtf8 text) (boundary : IsCharBoundary text at) where
  next_line : at < length text → IsNextLine (drop at text) (remaining_of true (drop at text))
  next_line inside =
      let some : 0 < length (drop at text) = omega (arith, inside, length-drop at text) in
      record {
        line = before_first feed (drop at text);
        first = first_line (drop at text) some;
        shorter = omega (arith, some, length-drop (position_or_len feed (drop at text) + 1) (drop at text));
        utf8 = line_utf8 (drop at text) some (IsUtf8-drop text at utf8 boundary);
        parts = refl;
      }

  pub reads_line : (in_line begins : Bool) → (remaining_of in_line (drop at text)).parts ≡ [] → nat_lt at (length text) ≡ begins → IsTrue begins
      → IsNextLine (remaining_of in_line (drop at text)).behind (remaining_of begins (drop at text))
  reads_line in_line true none is h = rw (no_part_left in_line (drop at text) none) (next_line (ltb-true _ _ is))
  reads_line in_line false none is h = cc h

-- the lines of a text that is cut behind a line feed

onto_more : (x : ℕ) (parts more : List (List ℕ)) → 0 < length parts → onto_first x (parts ++ more) ≡ onto_first x parts ++ more
onto_more x [] more some = absurd (omega (arith, some))
onto_more x (part ∷ parts) more some = refl

split_behind : (xs ys : List ℕ) → slice_split feed (xs ++ 10 ∷ ys) ≡ slice_split feed xs ++ slice_split feed ys
split_behind [] ys = refl
split_behind (x ∷ xs) ys = by (feed x) (split_behind xs ys) (omega (arith, length-slice_split feed xs))
  where
    by : (b : Bool) → slice_split feed (xs ++ 10 ∷ ys) ≡ slice_split feed xs ++ slice_split feed ys → 0 < length (slice_split feed xs)
        → cond b ([] ∷ slice_split feed (xs ++ 10 ∷ ys)) (onto_first x (slice_split feed (xs ++ 10 ∷ ys)))
        ≡ cond b ([] ∷ slice_split feed xs) (onto_first x (slice_split feed xs)) ++ slice_split feed ys
    by true e some = ap (λ l. [] ∷ l) e
    by false e some = ap (onto_first x) e ∙ onto_more x (slice_split feed xs) (slice_split feed ys) some

last_of : (parts more : List (List ℕ)) → 0 < length more → without_empty_last (parts ++ more) ≡ parts ++ without_empty_last more
last_of [] more some = refl
last_of (part ∷ []) [] some = absurd (omega (arith, some))
last_of (part ∷ []) (next ∷ more) some = refl
last_of (part ∷ next ∷ parts) more some = ap (λ l. part ∷ l) (last_of (next ∷ parts) more some)

lines_behind : (xs ys : List ℕ) → lines (xs ++ 10 ∷ ys) ≡ lines (xs ++ 10 ∷ []) ++ lines ys
lines_behind xs ys =
    let some : 0 < length (slice_split feed ys) = omega (arith, length-slice_split feed ys) in
    ap without_empty_last (split_behind xs ys) ∙ last_of (slice_split feed xs) (slice_split feed ys) some
    ∙ ap (λ l. l ++ lines ys)
    (sym (ap without_empty_last (split_behind xs []) ∙ last_of (slice_split feed xs) ([] ∷ []) (omega arith) ∙ append-nil (slice_split feed xs)))

-- the text before the last line that the first bytes that are UTF-8 hold whole
module _ (input : List ℕ) (end valid : ℕ) (up_to : IsValidUpTo input valid) (within : end ≤ length (take valid input))
    (fed : 0 < end → get_or (take valid input) (end - 1) 0 ≡ 10)
    (last : (k : ℕ) → end ≤ k → k < length (take valid input) → get_or (take valid input) k 0 ≢ 10) where
  abbrev front : List ℕ
  front = take valid input

  long : length front ≡ valid
  long = omega (arith, up_to.short, length-take valid input)

  in_front : (k : ℕ) → k < valid → get_or front k 0 ≡ get_or input k 0
  in_front k inside = get_or-take valid input k 0 inside

  boundary : IsCharBoundary front end
  boundary =
      elim (cases_lt 0 end) [
        | inl some ↦
            let here : end - 1 + 1 ≡ end = omega (arith, some) in
            let inside : end - 1 < length front = omega (arith, some, within) in
            subst (IsCharBoundary front) here (IsCharBoundary-after_ascii front (end - 1) up_to.front inside (omega (arith, fed some)))
        | inr none ↦
            let here : 0 ≡ end = omega (arith, none) in
            subst (IsCharBoundary front) here (IsCharBoundary-start front up_to.front)
      ]

  pub text_utf8 : IsUtf8 (take end input)
  text_utf8 =
      let same : take end front ≡ take end input = take-take end valid input (omega (arith, within, long)) in
      subst IsUtf8 same (IsUtf8-take front end up_to.front boundary)

  split : lines input ≡ lines (take end input) ++ lines (drop end input)
  split =
      elim (cases_lt 0 end) [
        | inl some ↦
            let here : end - 1 + 1 ≡ end = omega (arith, some) in
            let byte : get_or input (end - 1) 0 ≡ 10 = sym (in_front (end - 1) (omega (arith, some, within, long))) ∙ fed some in
            let text : take end input ≡ take (end - 1) input ++ 10 ∷ [] =
            ap (λ n. take n input) (sym here) ∙ take_more input (end - 1) 0 (omega (arith, some, within, long, up_to.short))
            ∙ ap (λ b. take (end - 1) input ++ b ∷ []) byte in
            ap lines (sym (take-append-drop end input) ∙ ap (λ l. l ++ drop end input) text ∙ append_assoc (take (end - 1) input) (10 ∷ []) (drop end input))
            ∙ lines_behind (take (end - 1) input) (drop end input) ∙ ap (λ l. lines l ++ lines (drop end input)) (sym text)
        | inr none ↦
            let here : 0 ≡ end = omega (arith, none) in
            subst (λ n. lines input ≡ lines (take n input) ++ lines (drop n input)) here refl
      ]

  abbrev rest : List ℕ
  rest = drop end input

  abbrev size : ℕ
  size = position_or_len feed rest

  some_left : 0 < length rest
  some_left = omega (arith, within, long, up_to.short, length-drop end input)

  ends : size < length rest → get_or input (end + size) 0 ≡ 10
  ends inside = sym (get_or-drop end input size 0) ∙ eqb-true _ 10 (passes_at_first feed rest 0 inside)

  far : valid ≤ end + size
  far =
      elim (cases_lt (end + size) valid) [
        | inl near ↦
            let inside : size < length rest = omega (arith, near, up_to.short, length-drop end input) in
            absurd (last (end + size) (omega arith) (omega (arith, near, long)) (in_front (end + size) near ∙ ends inside))
        | inr late ↦ late
      ]

  no_text : ¬ (IsUtf8 (before_first feed rest))
  no_text utf8 =
      let both = IsUtf8-append (take end input) (before_first feed rest) text_utf8 utf8 in
      let whole : IsUtf8 (take (end + size) input) = subst IsUtf8 (sym (take-add end size input)) both in
      elim (cases_lt size (length rest)) [
        | inl inside ↦
            let more : take (end + size + 1) input ≡ take (end + size) input ++ 10 ∷ [] =
            take_more input (end + size) 0 (omega (arith, inside, length-drop end input)) ∙ ap (λ b. take (end + size) input ++ b ∷ []) (ends inside) in
            let line_feed = IsUtf8-from_ascii (10 ∷ []) (IsAscii-cons 10 [] (lit< tt) IsAscii-nil) in
            up_to.longest (end + size + 1) (omega (arith, far)) (subst IsUtf8 (sym more) (IsUtf8-append (take (end + size) input) (10 ∷ []) whole line_feed))
        | inr outside ↦ up_to.longest (end + size) (omega (arith, outside, up_to.short, length-drop end input)) whole
      ]

  pub ends_before_invalid_line : EndsBeforeInvalidLine input (take end input)
  ends_before_invalid_line = record {
    line = before_first feed rest;
    behind = lines (after_first feed rest);
    split = split ∙ ap (λ l. lines (take end input) ++ l) (first_line rest some_left);
    no_text = no_text;
  }
