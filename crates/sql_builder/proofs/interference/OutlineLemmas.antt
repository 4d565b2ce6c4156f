-- The outline of what a builder prints, by those of its texts.
use Rattle.sql_builder.proofs.Imports.{◌≡◌, refl, sym, ◌∙◌, ap, ℕ, Bool, true, false, not, Ok, Err, List, [], ◌∷◌, ◌++◌, Option, None, Some, map, append-nil}
use Rattle.sql_builder.proofs.Imports.{list_all, list_any, IfOk, IsTrue, flat_map, option_map, result_map_both, and_from, or_parts, list_all-map}
use Rattle.sql_builder.proofs.Imports.{list_any-append, map-append, map-map, blank, blank_token, outline, tokens_but, Token, is_open, tokens, SqlBuilderError}
use Rattle.sql_builder.proofs.Imports.{any-blank, somewhere, Clauses, Pieces}
use Rattle.sql_builder.specs.{ClauseTexts, FinishText, clauses, map_clauses, condition_pieces, ConditionsKeepTheirOutline, EquationsKeepTheirOutline}
use Rattle.sql_builder.specs.{FragmentsDoNotInterfere, OutlinesDecideOutlines, piece_outline, places_in, equation, as_fragments, piece_tokens, pieces_tokens}
use Rattle.sql_builder.specs.{has_closed_fragments, is_closed_piece, layout_at, error_at, text_at, text_unless_error, unless_error, fixed_piece, pieces_text}
use Rattle.sql_builder.specs.{quoted_piece, raw_piece}
use Rattle.sql_builder.specs.Pieces as text
use Rattle.sql_builder.proofs.pieces.{printed-shaped, quoted_equation_keeps, layout_in_form, builder-shape, Shaped, pieces_tokens-append, shaped}
use Rattle.sql_builder.proofs.conditions.{condition_printed}
use Rattle.sql_builder.proofs.interference.QuotedTextLemmas.{blanks, condition-blank, same_tokens}
use Rattle.sql_builder.proofs.fragments.NeutralLemmas.{condition-inside}

-- ---- clauses in one form after another

module _ {T U V : Type 0} (f : U → V) (g : T → U) where
  maps-option : (o : Option T) → option_map f (option_map g o) ≡ option_map (λ t. f (g t)) o
  maps-option None = refl
  maps-option (Some t) = refl

  maps-unions : (unions : List (Bool × T))
      → map {B = Bool × V} (λ union. (union.0, f union.1)) (map {B = Bool × U} (λ union. (union.0, g union.1)) unions)
      ≡ map {B = Bool × V} (λ union. (union.0, f (g union.1))) unions
  maps-unions [] = refl
  maps-unions (union ∷ unions) = ap (λ more. (union.0, f (g union.1)) ∷ more) (maps-unions unions)

  pub maps-clauses : (r : Clauses T) → map_clauses f (map_clauses g r) ≡ map_clauses (λ t. f (g t)) r
  maps-clauses r = λ i. record {
    kind = r.kind;
    table = f (g r.table);
    joins = map-map f g r.joins i;
    operator = r.operator;
    natural = r.natural;
    distinct = r.distinct;
    fields = map-map f g r.fields i;
    sets = map-map f g r.sets i;
    rows = map-map f g r.rows i;
    query = maps-option r.query i;
    returning = maps-option r.returning i;
    group_fields = map-map f g r.group_fields i;
    having = maps-option r.having i;
    groups = map-map f g r.groups i;
    unions = maps-unions r.unions i;
    order_fields = map-map f g r.order_fields i;
    limit = maps-option r.limit i;
    offset = maps-option r.offset i;
  }

-- what a map that keeps `++` makes of a builder's fragments, where it sees only the outlines of texts
module _ {B : Type 0} (f : Pieces → List B) (nil : f [] ≡ []) (app : (x y : Pieces) → f (x ++ y) ≡ f x ++ f y)
    (of_outline : List Token → List B) (sees : (text : List ℕ) → f (raw_piece text) ≡ of_outline (outline text)) where
  seen : (r : ClauseTexts) → map_clauses f (as_fragments r) ≡ map_clauses of_outline (map_clauses outline r)
  seen r = maps-clauses f raw_piece r ∙ (λ i. map_clauses (λ text. sees text i) r) ∙ sym (maps-clauses of_outline outline r)

  same_form : (finish : FinishText) (one other : ClauseTexts) → map_clauses outline one ≡ map_clauses outline other
      → f (layout_at fixed_piece raw_piece finish (as_fragments one)) ≡ f (layout_at fixed_piece raw_piece finish (as_fragments other))
  same_form finish one other same =
      form one ∙ ap (layout_at (λ w. f (fixed_piece w)) (λ t. f (raw_piece t)) finish) (seen one ∙ ap (map_clauses of_outline) same ∙ sym (seen other))
      ∙ sym (form other)
    where
      form : (r : ClauseTexts)
          → f (layout_at fixed_piece raw_piece finish (as_fragments r))
          ≡ layout_at (λ w. f (fixed_piece w)) (λ t. f (raw_piece t)) finish (map_clauses f (as_fragments r))
      form r = layout_in_form fixed_piece (λ w. f (fixed_piece w)) f nil app (λ w. refl) raw_piece (λ t. f (raw_piece t)) (λ t. refl) finish (as_fragments r)

-- ---- closed fragments, and tokens

closed-seen : (text : List ℕ) → map is_closed_piece (raw_piece text) ≡ not (list_any is_open (outline text)) ∷ []
closed-seen text = ap (λ found. not found ∷ []) (sym (any-blank is_open (λ t. refl) (tokens text)))

blank-append : (x y : Pieces) → blank (pieces_tokens (x ++ y)) ≡ blank (pieces_tokens x) ++ blank (pieces_tokens y)
blank-append x y = ap blank (pieces_tokens-append x y) ∙ map-append blank_token (pieces_tokens x) (pieces_tokens y)

pub outlines-decide : OutlinesDecideOutlines
outlines-decide finish one other same is =
    ap blank (builder-shape finish one (text_at finish one) refl is)
    ∙ same_form (λ ps. blank (pieces_tokens ps)) refl blank-append (λ ts. ts) (λ text. ap blank (append-nil (tokens text))) finish one other same
    ∙ sym (ap blank (builder-shape finish other (text_at finish other) refl closed_too))
  where
    flags : has_closed_fragments (layout_at fixed_piece raw_piece finish (as_fragments one))
        ≡ has_closed_fragments (layout_at fixed_piece raw_piece finish (as_fragments other))
    flags =
        sym (list_all-map (λ b. b) is_closed_piece (layout_at fixed_piece raw_piece finish (as_fragments one)))
        ∙ ap (list_all (λ b. b))
        (same_form (map is_closed_piece) refl (map-append is_closed_piece) (λ ts. not (list_any is_open ts) ∷ []) closed-seen finish one other same)
        ∙ list_all-map (λ b. b) is_closed_piece (layout_at fixed_piece raw_piece finish (as_fragments other))

    closed_too : has_closed_fragments (layout_at fixed_piece raw_piece finish (as_fragments other)) ≡ true
    closed_too = sym flags ∙ is

-- ---- what one call adds

pub condition-outline : ConditionsKeepTheirOutline
condition-outline one other same is =
    somewhere _ _ _ (ap (tokens_but (places_in (condition_pieces one))) (sym (condition_printed one))
    ∙ same_tokens (condition_pieces one) (condition_pieces other) alike (shaped _ (condition-inside one)) (shaped _ (condition-inside other)) is
    ∙ ap (tokens_but (places_in (condition_pieces one))) (condition_printed other))
  where
    alike : blanks (condition_pieces one) ≡ blanks (condition_pieces other)
    alike = condition-blank one ∙ ap (λ condition. blanks (condition_pieces condition)) same ∙ sym (condition-blank other)

pub equation-outline : EquationsKeepTheirOutline
equation-outline field one other is =
    ap blank ((quoted_equation_keeps field one).0 (and_from _ _ is refl)) ∙ outlined
    ∙ sym (ap blank ((quoted_equation_keeps field other).0 (and_from _ _ is refl)))
  where
    outlined : blank (pieces_tokens (equation fixed_piece (raw_piece field) (quoted_piece one)))
        ≡ blank (pieces_tokens (equation fixed_piece (raw_piece field) (quoted_piece other)))
    outlined = map-append blank_token (tokens field) _ ∙ sym (map-append blank_token (tokens field) _)

-- ---- pieces that have the same outlines

no_open-closed : (printed : Pieces) → list_any is_open (pieces_tokens printed) ≡ false → has_closed_fragments printed ≡ true
no_open-closed [] none = refl
no_open-closed (text.Fixed words ∷ printed) none =
    no_open-closed printed (or_parts _ _ (sym (list_any-append is_open (tokens words) (pieces_tokens printed)) ∙ none)).1
no_open-closed (text.Quoted quoted ∷ printed) none = no_open-closed printed none
no_open-closed (text.Raw raw ∷ printed) none =
    let both = or_parts (list_any is_open (tokens raw)) (list_any is_open (pieces_tokens printed))
    (sym (list_any-append is_open (tokens raw) (pieces_tokens printed)) ∙ none) in
    and_from _ _ (ap not both.0) (no_open-closed printed both.1)

whole-outline : (printed : Pieces) → blank (pieces_tokens printed) ≡ flat_map (λ (ts : List Token). ts) (map piece_outline printed)
whole-outline [] = refl
whole-outline (piece ∷ printed) =
    map-append blank_token (piece_tokens piece) (pieces_tokens printed) ∙ ap (λ more. piece_outline piece ++ more) (whole-outline printed)

pub pieces-outline : (one other : Pieces) → map piece_outline one ≡ map piece_outline other → Shaped one → Shaped other → has_closed_fragments one ≡ true
    → outline (pieces_text one) ≡ outline (pieces_text other)
pieces-outline one other same shaped also is = ap blank (shaped.shape_is is) ∙ blanks_alike ∙ sym (ap blank (also.shape_is (no_open-closed other none)))
  where
    blanks_alike : blank (pieces_tokens one) ≡ blank (pieces_tokens other)
    blanks_alike = whole-outline one ∙ ap (flat_map (λ (ts : List Token). ts)) same ∙ sym (whole-outline other)

    none : list_any is_open (pieces_tokens other) ≡ false
    none =
        sym (any-blank is_open (λ t. refl) (pieces_tokens other)) ∙ ap (list_any is_open) (sym blanks_alike)
        ∙ any-blank is_open (λ t. refl) (pieces_tokens one) ∙ shaped.no_open.none is

unless-outline : (first second : Option SqlBuilderError) (one other : Pieces)
    → result_map_both (map piece_outline) (λ e. e) (unless_error first one) ≡ result_map_both (map piece_outline) (λ e. e) (unless_error second other)
    → Shaped one → Shaped other
    → IfOk (unless_error first one) (λ printed. IsTrue (has_closed_fragments printed))
    → result_map_both outline (λ e. e) (text_unless_error (unless_error first one))
    ≡ result_map_both outline (λ e. e) (text_unless_error (unless_error second other))
unless-outline None None one other same shaped also is =
    let alike : map piece_outline one ≡ map piece_outline other = cc same in ap Ok (pieces-outline one other alike shaped also is)
unless-outline None (Some error) one other same shaped also is = cc same
unless-outline (Some error) None one other same shaped also is = cc same
unless-outline (Some error) (Some reason) one other same shaped also is = let inner : error ≡ reason = cc same in ap Err inner

pub fragments-apart : FragmentsDoNotInterfere
fragments-apart start other_start one other finish same is =
    unless-outline (error_at finish (map_clauses pieces_text (clauses start one))) (error_at finish (map_clauses pieces_text (clauses other_start other)))
    (layout_at fixed_piece raw_piece finish (clauses start one)) (layout_at fixed_piece raw_piece finish (clauses other_start other)) same
    (printed-shaped start one finish) (printed-shaped other_start other finish) is
