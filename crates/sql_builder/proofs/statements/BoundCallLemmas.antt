-- What is bound to the statement of a start and calls, or to conditions that are combined, is bound to each of their fragments.
use Rattle.sql_builder.proofs.Imports.{◌≡◌, ℕ, Bool, true, false, not, List, [], ◌∷◌, ◌++◌, Option, Some, None, Ok, Err, Result, map, codes, refl, sym, ap, ◌∙◌}
use Rattle.sql_builder.proofs.Imports.{inl, inr, append_assoc, append-nil, ◌==◌, IfOk, flat_map, list_all, and_from, and_parts, cases_Bool, map-append}
use Rattle.sql_builder.proofs.Imports.{LiteralValue, with_values, doubled, quoted, Nums, Replacement, bound, join_with, begins_with, is_edge, SqlBuilderError}
use Rattle.sql_builder.proofs.Imports.{texts-apart, unmarked-front, Raw, Family, And, Or, Relation, Eq, Ne, Gt, Ge, Lt, Le}
use Rattle.sql_builder.specs.{ConditionsBindByFragments, StatementsBindByCalls, call_with_values, condition_with_values, finish_with_values, start_with_values}
use Rattle.sql_builder.specs.{ClauseTexts, extend_last, join_last, started, with_call, CallText, StartText, map_clauses, combined_text, exists_text}
use Rattle.sql_builder.specs.{joined_text, like_text, negation_text, ConditionText, Compare, Like, IsNull, IsNotNull, InList, InQuoted, InQuery, Between}
use Rattle.sql_builder.specs.{condition_bytes, mask_text, not_text, relation_text, call_quoted_texts, condition_quoted_texts, byte_units, comma_list, count}
use Rattle.sql_builder.specs.{count_as, equation, in_brackets, join_words, order, row, error_at, statement, text_at, unless_error, made_by}
use Rattle.sql_builder.specs.Calls as call
use Rattle.sql_builder.proofs.fragments.PreservationLemmas.{join-words}
use Rattle.sql_builder.proofs.fragments.PropertyLemmas.{lacks_dollar, own-unmarked}
use Rattle.sql_builder.proofs.statements.BoundStatementLemmas.{clause-bound, edge-untaken}
use Rattle.sql_builder.proofs.statements.RunLemmas.{clauses-push, clauses_start}
use Rattle.sql_builder.proofs.statements.StatementLawLemmas.{builders_print_statements}

-- a text without a `$`, between quotes
lacks-doubled : (text : List ℕ) → lacks_dollar text ≡ true → lacks_dollar (doubled 39 text ++ 39 ∷ []) ≡ true
lacks-doubled [] lacks = refl
lacks-doubled (byte ∷ text) lacks =
    let both = and_parts (not (byte == 36)) _ lacks in
    elim (cases_Bool (byte == 39)) [
      | inl is ↦ rw is (lacks-doubled text both.1)
      | inr isnt ↦ rw isnt (and_from _ _ both.0 (lacks-doubled text both.1))
    ]

module _ (values : ℕ) (literals : Replacement → LiteralValue) where
  abbrev bind : List ℕ → List ℕ
  bind text = with_values values literals text

  lead : (words text : List ℕ) → lacks_dollar words ≡ true → bind (words ++ text) ≡ words ++ bind text
  lead words text lacks = unmarked-front values literals words text lacks

  -- words between two texts, and behind one
  apart : (words one other : List ℕ) → lacks_dollar words ≡ true → begins_with is_edge words ≡ true
      → bind (one ++ (words ++ other)) ≡ bind one ++ (words ++ bind other)
  apart words one other lacks begins =
      texts-apart values literals one (words ++ other) (edge-untaken words other begins) ∙ ap (λ text. bind one ++ text) (lead words other lacks)

  behind : (words text : List ℕ) → lacks_dollar words ≡ true → begins_with is_edge words ≡ true → bind (text ++ words) ≡ bind text ++ words
  behind words text lacks begins =
      ap (λ w. bind (text ++ w)) (sym (append-nil words)) ∙ apart words text [] lacks begins ∙ ap (λ w. bind text ++ w) (append-nil words)

  -- words with a bracket, and what closes it
  enclosed : (words text : List ℕ) → lacks_dollar words ≡ true → bind (words ++ (text ++ codes ")")) ≡ words ++ (bind text ++ codes ")")
  enclosed words text lacks = lead words (text ++ codes ")") lacks ∙ ap (λ rest. words ++ rest) (behind (codes ")") text refl refl)

  unchanged : (words : List ℕ) → lacks_dollar words ≡ true → bind words ≡ words
  unchanged words lacks = ap bind (sym (append-nil words)) ∙ lead words [] lacks ∙ append-nil words

  quoted-unchanged : (text : List ℕ) → lacks_dollar text ≡ true → bind (quoted text) ≡ quoted text
  quoted-unchanged text lacks = unchanged (quoted text) (lacks-doubled text lacks)

  quoteds-unchanged : (texts : List (List ℕ)) → list_all lacks_dollar texts ≡ true → map bind (map quoted texts) ≡ map quoted texts
  quoteds-unchanged [] lacks = refl
  quoteds-unchanged (text ∷ texts) lacks =
      let both = and_parts (lacks_dollar text) _ lacks in λ i. quoted-unchanged text both.0 i ∷ quoteds-unchanged texts both.1 i

  -- items with words between them
  joined : (words : List ℕ) → lacks_dollar words ≡ true → begins_with is_edge words ≡ true → (items : List (List ℕ))
      → bind (join_with words items) ≡ join_with words (map bind items)
  joined words lacks begins [] = refl
  joined words lacks begins (item ∷ []) = ap bind (append-nil item) ∙ sym (append-nil (bind item))
  joined words lacks begins (item ∷ next ∷ items) =
      let between = flat_map (λ i. words ++ i) in
      ap (λ text. bind (item ++ text)) (append_assoc words next (between items))
      ∙ apart words item (next ++ between items) lacks begins
      ∙ ap (λ text. bind item ++ (words ++ text)) (joined words lacks begins (next ∷ items))
      ∙ ap (λ text. bind item ++ text) (sym (append_assoc words (bind next) (between (map bind items))))

  list-bound : (items : List (List ℕ)) → bind (comma_list byte_units items) ≡ comma_list byte_units (map bind items)
  list-bound items = joined (codes ", ") refl refl items

  -- the same before a closing bracket
  closed-bound : (items : List (List ℕ)) → bind (comma_list byte_units items ++ codes ")") ≡ comma_list byte_units (map bind items) ++ codes ")"
  closed-bound items = behind (codes ")") (comma_list byte_units items) refl refl ∙ ap (λ text. text ++ codes ")") (list-bound items)

  row-bound : (items : List (List ℕ)) → bind (row byte_units items) ≡ row byte_units (map bind items)
  row-bound items = enclosed (codes "(") (comma_list byte_units items) refl ∙ ap (in_brackets byte_units) (list-bound items)

  equation-bound : (left right : List ℕ) → bind (equation byte_units left right) ≡ equation byte_units (bind left) (bind right)
  equation-bound left right = apart (codes " = ") left right refl refl

  order-bound : (descending : Bool) (field : List ℕ) → bind (order byte_units descending field) ≡ order byte_units descending (bind field)
  order-bound true field = behind (codes " DESC") field refl refl
  order-bound false field = refl

  count-bound : (field : List ℕ) → bind (count byte_units field) ≡ count byte_units (bind field)
  count-bound field = enclosed (codes "COUNT(") field refl

  count_as-bound : (field name : List ℕ) → bind (count_as byte_units field name) ≡ count_as byte_units (bind field) (bind name)
  count_as-bound field name =
      lead (codes "COUNT(") (field ++ (codes ") AS " ++ name)) refl ∙ ap (λ text. codes "COUNT(" ++ text) (apart (codes ") AS ") field name refl refl)

  -- ---- conditions

  compared : (relation : Relation) (field value : List ℕ)
      → bind (field ++ (relation_text relation ++ value)) ≡ bind field ++ (relation_text relation ++ bind value)
  compared Eq field value = apart (codes " = ") field value refl refl
  compared Ne field value = apart (codes " <> ") field value refl refl
  compared Gt field value = apart (codes " > ") field value refl refl
  compared Ge field value = apart (codes " >= ") field value refl refl
  compared Lt field value = apart (codes " < ") field value refl refl
  compared Le field value = apart (codes " <= ") field value refl refl

  like-bound : (negated : Bool) (field mask : List ℕ)
      → bind (field ++ ((not_text negated ++ codes " LIKE ") ++ mask)) ≡ bind field ++ ((not_text negated ++ codes " LIKE ") ++ bind mask)
  like-bound true field mask = apart (codes " NOT LIKE ") field mask refl refl
  like-bound false field mask = apart (codes " LIKE ") field mask refl refl

  in-bound : (negated : Bool) (field text : List ℕ)
      → bind (field ++ ((not_text negated ++ codes " IN (") ++ text)) ≡ bind field ++ ((not_text negated ++ codes " IN (") ++ bind text)
  in-bound true field text = apart (codes " NOT IN (") field text refl refl
  in-bound false field text = apart (codes " IN (") field text refl refl

  between-bound : (negated : Bool) (field text : List ℕ)
      → bind (field ++ ((not_text negated ++ codes " BETWEEN ") ++ text)) ≡ bind field ++ ((not_text negated ++ codes " BETWEEN ") ++ bind text)
  between-bound true field text = apart (codes " NOT BETWEEN ") field text refl refl
  between-bound false field text = apart (codes " BETWEEN ") field text refl refl

  condition-with : (condition : ConditionText) → list_all lacks_dollar (condition_quoted_texts condition) ≡ true
      → bind (condition_bytes condition) ≡ condition_bytes (condition_with_values values literals condition)
  condition-with (Raw condition) lacks = refl
  condition-with (Compare relation field value) lacks = compared relation field value
  condition-with (Like negated percent field mask) lacks =
      like-bound negated field (quoted (mask_text percent mask))
      ∙ ap (λ text. bind field ++ ((not_text negated ++ codes " LIKE ") ++ text))
      (quoted-unchanged (mask_text percent mask) (and_parts (lacks_dollar (mask_text percent mask)) true lacks).0)
  condition-with (IsNull field) lacks = behind (codes " IS NULL") field refl refl
  condition-with (IsNotNull field) lacks = behind (codes " IS NOT NULL") field refl refl
  condition-with (InList negated field items) lacks =
      ap (λ list. bind (field ++ ((not_text negated ++ codes " IN (") ++ (comma_list byte_units list ++ codes ")")))) (bytes items)
      ∙ in-bound negated field (comma_list byte_units items ++ codes ")")
      ∙ ap (λ text. bind field ++ ((not_text negated ++ codes " IN (") ++ text)) (closed-bound items)
      ∙ ap (λ list. bind field ++ ((not_text negated ++ codes " IN (") ++ (comma_list byte_units list ++ codes ")"))) (sym (bytes (map bind items)))
    where
      bytes : (items : List (List ℕ)) → map byte_units items ≡ items
      bytes [] = refl
      bytes (item ∷ items) = ap (λ (more : List (List ℕ)). item ∷ more) (bytes items)
  condition-with (InQuoted negated field items) lacks =
      in-bound negated field (comma_list byte_units (map quoted items) ++ codes ")")
      ∙ ap (λ text. bind field ++ ((not_text negated ++ codes " IN (") ++ text)) (closed-bound (map quoted items))
      ∙ ap (λ list. bind field ++ ((not_text negated ++ codes " IN (") ++ (comma_list byte_units list ++ codes ")"))) (quoteds-unchanged items lacks)
  condition-with (InQuery negated field query) lacks =
      in-bound negated field (query ++ codes ")")
      ∙ ap (λ text. bind field ++ ((not_text negated ++ codes " IN (") ++ text)) (behind (codes ")") query refl refl)
  condition-with (Between negated field least greatest) lacks =
      between-bound negated field (least ++ (codes " AND " ++ greatest))
      ∙ ap (λ text. bind field ++ ((not_text negated ++ codes " BETWEEN ") ++ text)) (apart (codes " AND ") least greatest refl refl)

  -- ---- conditions that are made of others

  bracketed : (conditions : List (List ℕ)) → map bind (map (in_brackets byte_units) conditions) ≡ map (in_brackets byte_units) (map bind conditions)
  bracketed [] = refl
  bracketed (condition ∷ conditions) = λ i. enclosed (codes "(") condition refl i ∷ bracketed conditions i

  joined-bound : (words : List ℕ) → lacks_dollar words ≡ true → begins_with is_edge words ≡ true → (conditions : List (List ℕ))
      → bind (joined_text words conditions) ≡ joined_text words (map bind conditions)
  joined-bound words lacks begins conditions =
      enclosed (codes "(") (join_with words (map (in_brackets byte_units) conditions)) refl
      ∙ ap (in_brackets byte_units)
      (joined words lacks begins (map (in_brackets byte_units) conditions) ∙ ap (join_with words) (bracketed conditions))

  pub combined-bound : (conjunction : Bool) (conditions : List (List ℕ))
      → bound (combined_text conjunction conditions) (Nums values) literals ≡ Some (combined_text conjunction (map bind conditions))
  combined-bound true [] = ap Some (unchanged (codes "1 = 1") refl)
  combined-bound false [] = ap Some (unchanged (codes "1 = 0") refl)
  combined-bound true (first ∷ further) = ap Some (joined-bound (codes " AND ") refl refl (first ∷ further))
  combined-bound false (first ∷ further) = ap Some (joined-bound (codes " OR ") refl refl (first ∷ further))

  pub negation-bound : (condition : List ℕ) → bound (negation_text condition) (Nums values) literals ≡ Some (negation_text (bind condition))
  negation-bound condition = ap Some (enclosed (codes "NOT (") condition refl)

  pub exists-bound : (negated : Bool) (query : List ℕ) → bound (exists_text negated query) (Nums values) literals ≡ Some (exists_text negated (bind query))
  exists-bound true query = ap Some (enclosed (codes "NOT EXISTS (") query refl)
  exists-bound false query = ap Some (enclosed (codes "EXISTS (") query refl)

  pub mask-bound : (negated : Bool) (field mask : List ℕ)
      → bound (like_text negated field mask) (Nums values) literals ≡ Some (like_text negated (bind field) (bind mask))
  mask-bound negated field mask =
      ap Some
      (like-bound negated field (mask ++ codes " ESCAPE '!'")
      ∙ ap (λ text. bind field ++ ((not_text negated ++ codes " LIKE ") ++ text)) (behind (codes " ESCAPE '!'") mask refl refl))

  -- ---- one more call

  extended : (words text : List ℕ) → lacks_dollar words ≡ true → begins_with is_edge words ≡ true → (items : List (List ℕ))
      → map bind (extend_last (words ++ text) items) ≡ extend_last (words ++ bind text) (map bind items)
  extended words text lacks begins [] = refl
  extended words text lacks begins (item ∷ []) = ap (λ t. t ∷ []) (apart words item text lacks begins)
  extended words text lacks begins (item ∷ next ∷ items) = ap (λ more. bind item ∷ more) (extended words text lacks begins (next ∷ items))

  alternative : (condition : List ℕ) (groups : List (List ℕ))
      → map bind (join_last (codes " OR ") condition groups) ≡ join_last (codes " OR ") (bind condition) (map bind groups)
  alternative condition [] = refl
  alternative condition (group ∷ groups) = extended (codes " OR ") condition refl refl (group ∷ groups)

  -- one more item
  added : (items : List (List ℕ)) (item other : List ℕ) → bind item ≡ other → map bind (items ++ item ∷ []) ≡ map bind items ++ other ∷ []
  added items item other is = map-append bind items (item ∷ []) ∙ ap (λ text. map bind items ++ text ∷ []) is

  abbrev bind_union : Bool × List ℕ → Bool × List ℕ
  bind_union union = (union.0, bind union.1)

  grouped : (family : Family) (condition : ConditionText) (r : ClauseTexts) → list_all lacks_dollar (condition_quoted_texts condition) ≡ true
      → map_clauses bind (with_call (call.Cond family condition) r)
      ≡ with_call (call.Cond family (condition_with_values values literals condition)) (map_clauses bind r)
  grouped And condition r lacks =
      ap (λ groups. record (map_clauses bind r) { groups = groups }) (added r.groups (condition_bytes condition) _ (condition-with condition lacks))
  grouped Or condition r lacks =
      ap (λ groups. record (map_clauses bind r) { groups = groups })
      (alternative (condition_bytes condition) r.groups
      ∙ ap (λ text. join_last (codes " OR ") text (map bind r.groups)) (condition-with condition lacks))

  one-more : (c : CallText) (r : ClauseTexts) → list_all lacks_dollar (call_quoted_texts c) ≡ true
      → map_clauses bind (with_call c r) ≡ with_call (call_with_values values literals c) (map_clauses bind r)
  one-more call.Natural r lacks = refl
  one-more call.Left r lacks = refl
  one-more call.LeftOuter r lacks = refl
  one-more call.Right r lacks = refl
  one-more call.RightOuter r lacks = refl
  one-more call.Inner r lacks = refl
  one-more call.Cross r lacks = refl
  one-more call.Distinct r lacks = refl
  one-more call.ReturningId r lacks = refl
  one-more (call.AndTable table) r lacks = ap (λ t. record (map_clauses bind r) { table = t }) (apart (codes ", ") r.table table refl refl)
  one-more (call.Join table) r lacks =
      ap (λ joins. record (map_clauses bind r) { joins = joins; natural = false })
      (added r.joins (join_words r.natural r.operator ++ table) _
      (lead (join_words r.natural r.operator) table (own-unmarked (join_words r.natural r.operator) (join-words r.natural r.operator).0)))
  one-more (call.On text) r lacks = ap (λ joins. record (map_clauses bind r) { joins = joins }) (extended (codes " ON ") text refl refl r.joins)
  one-more (call.OnEq left right) r lacks =
      ap (λ joins. record (map_clauses bind r) { joins = joins })
      (extended (codes " ON ") (equation byte_units left right) refl refl r.joins
      ∙ ap (λ text. extend_last (codes " ON " ++ text) (map bind r.joins)) (equation-bound left right))
  one-more (call.Fields fields) r lacks = ap (λ fields. record (map_clauses bind r) { fields = fields }) (map-append bind r.fields fields)
  one-more (call.SetFields fields) r lacks = refl
  one-more (call.Field field) r lacks = ap (λ fields. record (map_clauses bind r) { fields = fields }) (added r.fields field _ refl)
  one-more (call.SetField field) r lacks = refl
  one-more (call.Count field) r lacks =
      ap (λ fields. record (map_clauses bind r) { fields = fields }) (added r.fields (count byte_units field) _ (count-bound field))
  one-more (call.CountAs field name) r lacks =
      ap (λ fields. record (map_clauses bind r) { fields = fields }) (added r.fields (count_as byte_units field name) _ (count_as-bound field name))
  one-more (call.SetTo field value) r lacks =
      ap (λ sets. record (map_clauses bind r) { sets = sets }) (added r.sets (equation byte_units field value) _ (equation-bound field value))
  one-more (call.SetStr field value) r lacks =
      ap (λ sets. record (map_clauses bind r) { sets = sets })
      (added r.sets (equation byte_units field (quoted value)) _
      (equation-bound field (quoted value)
      ∙ ap (equation byte_units (bind field)) (quoted-unchanged value (and_parts (lacks_dollar value) true lacks).0)))
  one-more (call.Values items) r lacks =
      ap (λ rows. record (map_clauses bind r) { rows = rows; query = None }) (added r.rows (row byte_units items) _ (row-bound items))
  one-more (call.Select query) r lacks = refl
  one-more (call.Returning fields) r lacks = refl
  one-more (call.GroupBy field) r lacks = ap (λ fields. record (map_clauses bind r) { group_fields = fields }) (added r.group_fields field _ refl)
  one-more (call.Having condition) r lacks = refl
  one-more (call.Union query) r lacks =
      ap (λ unions. record (map_clauses bind r) { unions = unions }) (map-append bind_union r.unions ((false, query) ∷ []))
  one-more (call.UnionAll query) r lacks =
      ap (λ unions. record (map_clauses bind r) { unions = unions }) (map-append bind_union r.unions ((true, query) ∷ []))
  one-more (call.OrderBy field descending) r lacks =
      ap (λ fields. record (map_clauses bind r) { order_fields = fields })
      (added r.order_fields (order byte_units descending field) _ (order-bound descending field))
  one-more (call.OrderAsc field) r lacks = ap (λ fields. record (map_clauses bind r) { order_fields = fields }) (added r.order_fields field _ refl)
  one-more (call.OrderDesc field) r lacks =
      ap (λ fields. record (map_clauses bind r) { order_fields = fields })
      (added r.order_fields (order byte_units true field) _ (order-bound true field))
  one-more (call.Limit limit) r lacks = refl
  one-more (call.Offset offset) r lacks = refl
  one-more (call.Cond family condition) r lacks = grouped family condition r lacks

  -- ---- the calls one after another

  begun : (start : StartText) → map_clauses bind (started start) ≡ started (start_with_values values literals start)
  begun (call.SelectFrom table) = refl
  begun (call.SelectValues items) = refl
  begun (call.InsertInto table) = refl
  begun (call.UpdateTable table) = refl
  begun (call.DeleteFrom table) = refl

  calls-with : (start : StartText) (before others calls : List CallText)
      → map_clauses bind (made_by start before) ≡ made_by (start_with_values values literals start) others
      → list_all (λ c. list_all lacks_dollar (call_quoted_texts c)) calls ≡ true
      → map_clauses bind (made_by start (before ++ calls))
      ≡ made_by (start_with_values values literals start) (others ++ map (call_with_values values literals) calls)
  calls-with start before others [] same lacks =
      ap (λ cs. map_clauses bind (made_by start cs)) (append-nil before) ∙ same
      ∙ ap (made_by (start_with_values values literals start)) (sym (append-nil others))
  calls-with start before others (c ∷ calls) same lacks =
      let both = and_parts (list_all lacks_dollar (call_quoted_texts c)) _ lacks in
      let with = call_with_values values literals in
      let next = ap (map_clauses bind) (clauses-push start before c) ∙ one-more c (made_by start before) both.0 ∙ ap (with_call (with c)) same
      ∙ sym (clauses-push (start_with_values values literals start) others (with c)) in
      ap (λ cs. map_clauses bind (made_by start cs)) (sym (append_assoc before (c ∷ []) calls))
      ∙ calls-with start (before ++ c ∷ []) (others ++ with c ∷ []) calls next both.1
      ∙ ap (made_by (start_with_values values literals start)) (append_assoc others (with c ∷ []) (map with calls))

  made-with : (start : StartText) (calls : List CallText) → list_all (λ c. list_all lacks_dollar (call_quoted_texts c)) calls ≡ true
      → map_clauses bind (made_by start calls) ≡ made_by (start_with_values values literals start) (map (call_with_values values literals) calls)
  made-with start calls lacks =
      calls-with start [] [] calls
      (ap (map_clauses bind) (clauses_start start) ∙ begun start ∙ sym (clauses_start (start_with_values values literals start))) lacks

  unless-bound : (text other : List ℕ) (error : Option SqlBuilderError) (printed : Result (List ℕ) SqlBuilderError) → unless_error error text ≡ printed
      → bind text ≡ other → IfOk printed (λ printed. bound printed (Nums values) literals ≡ Some other)
  unless-bound text other error (Err e) is same = tt
  unless-bound text other (Some error) (Ok printed) is same = absurd (cc is)
  unless-bound text other None (Ok printed) is same = let here : text ≡ printed = cc is in ap Some (ap bind (sym here) ∙ same)

pub calls-bound : StatementsBindByCalls
calls-bound values literals start calls finish lacks =
    unless-bound values literals _ _ (error_at finish (made_by start calls)) (statement start calls finish) (builders_print_statements start calls finish)
    (clause-bound values literals finish (made_by start calls)
    ∙ ap (text_at (finish_with_values values literals finish)) (made-with values literals start calls lacks))

pub conditions-bound : ConditionsBindByFragments
conditions-bound values literals condition lacks = ap Some (condition-with values literals condition lacks)
