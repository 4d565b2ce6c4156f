-- Texts one behind another are whole, where each is.
use Rattle.sql_typed.proofs.Imports.{◌≡◌, ◌==◌, ◌∙◌, ◌++◌, ap, append-nil, append_assoc, codes, length, refl, sym, subst, ℕ, true, false, not, List, [], ◌∷◌, map, flat_map, list_all, list_any, and_from, and_parts, not_from_false, not-true}
use Rattle.sql_typed.proofs.Imports.{true≢false, list_all-append, balanced, ServesAsOperand, join_with, begins_with, closed, ends_with, has_semicolon, is_edge, is_semicolon, tokens, is_balanced, is_balanced-is, balanced_whole, clean-before}
use Rattle.sql_typed.proofs.Imports.{clean-behind, seam, ClauseTexts, with_call, CallText, Select, Sql, StartText, clauses, concat_sections, statement_sections, has_balanced_fragments, has_closed_fragments, has_no_semicolons}
use Rattle.sql_typed.proofs.Imports.{is_closed_piece, is_without_semicolon, EndsInOneSemicolon, made_by, fit_texts_balanced, texts_pass_call_by_call, clauses-push, text_of_layout, even_text, is_balanced-append, is_even-append, IsFitBy}
use Rattle.sql_typed.proofs.Imports.{Made, HasWholeFront, asking, conflict_text, is_whole, may_follow, may_join}
use Rattle.sql_builder.specs.Pieces.{Pieces, fixed_piece, pieces_text, raw_piece}
use Rattle.sql_builder.specs.TextTests.{is_plain, raw_text, texts_pass}
use Rattle.sql_builder.proofs.fragments.NeutralLemmas.{clauses-inside}
use Rattle.sql_builder.proofs.fragments.PassLemmas.{printed-passes, weaker-texts}
use Rattle.sql_builder.proofs.fragments.PropertyLemmas.{calls-whatever, whatever}
use Rattle.sql_builder.proofs.pieces.LayoutPropertyLemmas.{statement-laid}
use Rattle.sql_builder.proofs.pieces.LayoutShapeLemmas.{inside-layout}
use Rattle.sql_builder.proofs.pieces.ShapeLemmas.{Inside, Whole, ends_in_semicolon, raw-inside, shape_closed, shaped, statement-shaped, text-append, words-between, words-last}
use Rattle.sql_builder.proofs.reading.ClauseWordLemmas.{fragments_closed}
use Rattle.sql_typed.proofs.FitLemmas.{texts_fit}

-- what is balanced is whole
pub balanced_is_whole : (text : List ℕ) → balanced text ≡ true → is_whole text ≡ true
balanced_is_whole text is = let both = balanced_whole text is in and_from _ _ both.0 both.1

-- and what serves as an operand is
pub serves_whole : {text given : List ℕ} → text ≡ given → ServesAsOperand given → is_whole text ≡ true
serves_whole {text} {given} is serves = ap is_whole is ∙ balanced_is_whole given serves.is_balanced

-- pieces are, whose fragments are
pieces_whole : (ps : Pieces) → Inside ps → has_closed_fragments ps ≡ true → has_no_semicolons ps ≡ true → is_whole (pieces_text ps) ≡ true
pieces_whole ps inside shut plain = and_from _ _ (shape_closed ps (shaped ps inside) shut)
    (not_from_false _ (ap (λ ts. list_any is_semicolon ts) ((shaped ps inside).shape_is shut) ∙ inside.plain.none plain))

words_whole : (words : List ℕ) → is_whole words ≡ true → Whole words
words_whole words is = let both = and_parts (closed words) (not (has_semicolon words)) is in record { is_closed = both.0; plain = not-true _ both.1 }

module _ (text : List ℕ) (is : is_whole text ≡ true) where
  -- words behind it
  pub ended_whole : (words : List ℕ) → may_follow words ≡ true → is_whole (text ++ words) ≡ true
  ended_whole words may =
      let both = and_parts (is_whole words) (begins_with is_edge words) may in
      ap (λ t. is_whole (text ++ t)) (sym (append-nil words))
      ∙ pieces_whole (raw_piece text ++ fixed_piece words) (words-last words (raw_piece text) (words_whole words both.0) both.1 (raw-inside text))
      (and_from _ _ (and_parts (closed text) _ is).0 refl) (and_from _ _ (and_parts (closed text) _ is).1 refl)

  -- words and another text behind it
  pub followed_whole : (words other : List ℕ) → may_join words ≡ true → is_whole other ≡ true → is_whole ((text ++ words) ++ other) ≡ true
  followed_whole words other may also =
      let ends = and_parts (may_follow words) (ends_with is_edge words) may in
      let begins = and_parts (is_whole words) (begins_with is_edge words) ends.0 in
      let parts = and_parts (closed text) (not (has_semicolon text)) is in
      let others = and_parts (closed other) (not (has_semicolon other)) also in
      ap is_whole (append_assoc text words other) ∙ ap (λ t. is_whole (text ++ (words ++ t))) (sym (append-nil other))
      ∙ pieces_whole (raw_piece text ++ (fixed_piece words ++ raw_piece other))
      (words-between words (raw_piece text) (raw_piece other) (words_whole words begins.0) begins.1 ends.1 (raw-inside text) (raw-inside other))
      (and_from _ _ parts.0 (and_from _ _ others.0 refl)) (and_from _ _ parts.1 (and_from _ _ others.1 refl))

  -- and `;` behind it
  pub whole_closed : {all : List ℕ} → all ≡ text ++ codes ";" → closed all ≡ true
  whole_closed also = ap closed also ∙ shape_closed (raw_piece text ++ fixed_piece (codes ";")) (statement-shaped (raw_piece text) (raw-inside text)) (and_from _ _ (and_parts (closed text) _ is).0 refl)

  pub whole_ends : {all : List ℕ} → all ≡ text ++ codes ";" → EndsInOneSemicolon (tokens all)
  whole_ends also = subst (λ t. EndsInOneSemicolon (tokens t)) (sym also)
      (ends_in_semicolon (raw_piece text) (raw-inside text) (and_from _ _ (and_parts (closed text) _ is).0 refl) (and_from _ _ (and_parts (closed text) _ is).1 refl))

-- texts with words between them
pub joined_whole : (words : List ℕ) → may_join words ≡ true → (text : List ℕ) (texts : List (List ℕ)) → list_all is_whole (text ∷ texts) ≡ true
    → is_whole (join_with words (text ∷ texts)) ≡ true
joined_whole words may text [] all = ap is_whole (append-nil text) ∙ (and_parts (is_whole text) _ all).0
joined_whole words may text (next ∷ texts) all =
    let both = and_parts (is_whole text) _ all in
    ap is_whole (ap (λ t. text ++ t) (append_assoc words next (flat_map (λ other. words ++ other) texts)) ∙ sym (append_assoc text words _))
    ∙ followed_whole text both.0 words (join_with words (next ∷ texts)) may (joined_whole words may next texts both.1)

module _ {X : Type 0} (text : X → List ℕ) (serves : (x : X) → ServesAsOperand (text x)) where
  each_whole : (xs : List X) → list_all is_whole (map text xs) ≡ true
  each_whole [] = refl
  each_whole (x ∷ xs) = and_from _ _ (serves_whole refl (serves x)) (each_whole xs)

  -- so are operands with commas between them
  pub listed_whole : (xs : List X) → is_whole (join_with (codes ", ") (map text xs)) ≡ true
  listed_whole [] = refl
  listed_whole (x ∷ xs) = joined_whole (codes ", ") refl (text x) (map text xs) (each_whole (x ∷ xs))

-- where there are some, they are the columns of ON CONFLICT
pub conflict_given : {X : Type 0} (text : X → List ℕ) (xs : List X) → (length xs == 0) ≡ false
    → codes " ON CONFLICT (" ++ (join_with (codes ", ") (map text xs) ++ codes ")") ≡ conflict_text (map text xs)
conflict_given text [] some = absurd (true≢false some)
conflict_given text (x ∷ xs) some = refl

-- balanced texts with words between them, that are balanced too
pub balanced_followed : {all : List ℕ} (text words other : List ℕ) → all ≡ (text ++ words) ++ other → balanced text ≡ true → may_join words ≡ true
    → balanced words ≡ true → balanced other ≡ true → balanced all ≡ true
balanced_followed {all} text words other all_is is may even also =
    let ends = and_parts (may_follow words) (ends_with is_edge words) may in
    let begins = and_parts (is_whole words) (begins_with is_edge words) ends.0 in
    let tokens_are : tokens all ≡ tokens text ++ (tokens words ++ tokens other) =
    ap tokens (all_is ∙ append_assoc text words other) ∙ seam text (words ++ other) (balanced_whole text is).0 (clean-before text words other begins.1)
    ∙ ap (λ ts. tokens text ++ ts) (seam words other (and_parts (closed words) _ begins.0).0 (clean-behind words other ends.1)) in
    is_balanced-is (tokens all) ∙ ap is_balanced tokens_are
    ∙ is_balanced-append (tokens text) (tokens words ++ tokens other) (sym (is_balanced-is (tokens text)) ∙ is)
    (is_even-append (tokens words) (tokens other) (even_text words even) (even_text other also))

-- ---- what `sql` prints

module _ (start : StartText) (calls : List CallText) (all : texts_pass balanced start calls Sql ≡ true) where
  front : Pieces
  front = concat_sections fixed_piece (statement_sections fixed_piece (clauses start calls).kind (clauses start calls))

  -- it is whole but for the `;`
  pub front_whole : HasWholeFront (made_by start calls)
  unfolding front
  front_whole =
      let inside = statement-laid inside-layout (clauses start calls).kind (clauses start calls) (clauses-inside start calls) in
      let even : has_balanced_fragments (front ++ fixed_piece (codes ";")) ≡ true =
      printed-passes balanced whatever start calls Sql (calls-whatever calls) all in
      let without : has_no_semicolons (front ++ fixed_piece (codes ";")) ≡ true =
      printed-passes is_plain whatever start calls Sql (calls-whatever calls)
      (weaker-texts (λ raw. balanced (raw_text raw)) (λ raw. is_plain (raw_text raw)) (λ raw is. (balanced_whole (raw_text raw) is).1) false start calls Sql all) in
      let parts = and_parts _ _ (sym (list_all-append is_closed_piece front (fixed_piece (codes ";"))) ∙ fragments_closed (front ++ fixed_piece (codes ";")) even) in
      let plains = and_parts _ _ (sym (list_all-append is_without_semicolon front (fixed_piece (codes ";"))) ∙ without) in (
        pieces_text front,
        sym (text_of_layout Sql (clauses start calls)) ∙ text-append front (fixed_piece (codes ";")),
        pieces_whole front inside parts.0 plains.0,
      )

-- of a statement whose texts fit
pub made_whole : (made : Made) (r : ClauseTexts) → IsFitBy made r → HasWholeFront r
made_whole made r fit = subst HasWholeFront (sym fit.is_made)
    (front_whole made.start made.calls (fit_texts_balanced made.start made.calls Sql (texts_fit made Sql r fit refl)))

-- of one with a query for its INSERT
pub asked_is : (made : Made) (old new : ClauseTexts) (query : List ℕ) → IsFitBy made old → new ≡ with_call (Select query) old
    → new ≡ made_by made.start (asking query made.calls)
asked_is made old new query fit is = is ∙ ap (with_call (Select query)) fit.is_made ∙ sym (clauses-push made.start made.calls (Select query))

pub asking_whole : (made : Made) (old new : ClauseTexts) (query : List ℕ) → IsFitBy made old → new ≡ with_call (Select query) old → balanced query ≡ true → HasWholeFront new
asking_whole made old new query fit asks is = subst HasWholeFront (sym (asked_is made old new query fit asks)) (front_whole made.start (asking query made.calls)
    (texts_pass_call_by_call balanced made.start made.calls (Select query ∷ []) Sql
    ∙ and_from _ _ (fit_texts_balanced made.start made.calls Sql (texts_fit made Sql old fit refl)) (and_from _ _ (and_from _ _ is refl) refl)))
