-- What `bind_nums` makes of a statement: its texts, each with the literals of its numbers.
use Prim.Native.Char.{code}
use Rattle.std.specs.Prelude.{◌≡◌, ◌==◌, ℕ, Bool, IfOk, IsTrue, List, Some, flat_map, map, not}
use Rattle.std.specs.List.{list_all}
use Rattle.sql_parts.specs.Literal.{LiteralValue}
use Rattle.sql_parts.specs.NumberedTexts.{with_values}
use Rattle.sql_parts.specs.Templates.{Nums, Replacement, bound}
use Rattle.sql_builder.specs.Calls.{CallText, FinishText, StartText, SubqueryAs}
use Rattle.sql_builder.specs.Calls.{SelectFrom, SelectValues, InsertInto, UpdateTable, DeleteFrom}
use Rattle.sql_builder.specs.Calls.{AndTable, Join, On, OnEq, Fields, SetFields, Field, SetField, Count, CountAs, SetTo, SetStr, Values, Select, Returning}
use Rattle.sql_builder.specs.Calls.{GroupBy, Having, Union, UnionAll, OrderBy, OrderAsc, OrderDesc, Limit, Offset, Cond}
use Rattle.sql_builder.specs.Clauses.{Clauses, map_clauses}
use Rattle.sql_builder.specs.Combined.{combined_text, exists_text, like_text, negation_text}
use Rattle.sql_builder.specs.Condition.{ConditionText, Raw, Compare, Like, IsNull, IsNotNull, InList, InQuoted, InQuery, Between}
use Rattle.sql_builder.specs.Condition.{condition_bytes, condition_pieces}
use Rattle.sql_builder.specs.Interference.{call_quoted_texts, condition_quoted_texts}
use Rattle.sql_builder.specs.Pieces.{Piece, Pieces, Fixed, piece_text, pieces_text}
use Rattle.sql_builder.specs.Statement.{pieces, statement, text_at}
use Rattle.sql_builder.specs.StatementLaws.{made_by}

module _ (count : ℕ) (literals : Replacement → LiteralValue) where
  -- a piece with the literals of its numbers: the builder's own words have none
  abbrev pub piece_with_values : Piece → List ℕ
  piece_with_values (Fixed words) = words
  piece_with_values piece = with_values count literals (piece_text piece)

  -- pieces, one after another
  abbrev pub pieces_with_values : Pieces → List ℕ
  pieces_with_values printed = flat_map piece_with_values printed

  -- a finish, which may have a name
  abbrev pub finish_with_values : FinishText → FinishText
  finish_with_values (SubqueryAs name) = SubqueryAs (with_values count literals name)
  finish_with_values finish = finish

-- what is bound to a statement is bound to each of its pieces
abbrev pub StatementsBindByPieces : Type 0
StatementsBindByPieces = (count : ℕ) (literals : Replacement → LiteralValue) (start : StartText) (calls : List CallText) (finish : FinishText)
    → IfOk (pieces start calls finish) (λ printed. bound (pieces_text printed) (Nums count) literals ≡ Some (pieces_with_values count literals printed))

-- what is bound to the text of a builder is bound to each of its clauses
abbrev pub StatementsBindByClauses : Type 0
StatementsBindByClauses = (count : ℕ) (literals : Replacement → LiteralValue) (finish : FinishText) (r : Clauses (List ℕ))
    → bound (text_at finish r) (Nums count) literals
    ≡ Some (text_at (finish_with_values count literals finish) (map_clauses (with_values count literals) r))

-- what is bound to a condition is bound to each of its pieces
abbrev pub ConditionsBindByPieces : Type 0
ConditionsBindByPieces = (count : ℕ) (literals : Replacement → LiteralValue) (condition : ConditionText)
    → bound (condition_bytes condition) (Nums count) literals ≡ Some (pieces_with_values count literals (condition_pieces condition))

-- what is bound to conditions that are joined is bound to each of them,
abbrev pub CombinedBindByParts : Type 0
CombinedBindByParts = (count : ℕ) (literals : Replacement → LiteralValue) (conjunction : Bool) (conditions : List (List ℕ))
    → bound (combined_text conjunction conditions) (Nums count) literals ≡ Some (combined_text conjunction (map (with_values count literals) conditions))

-- what is bound to the NOT of a condition, to that condition,
abbrev pub NegationsBindByPart : Type 0
NegationsBindByPart = (count : ℕ) (literals : Replacement → LiteralValue) (condition : List ℕ)
    → bound (negation_text condition) (Nums count) literals ≡ Some (negation_text (with_values count literals condition))

-- what is bound to EXISTS of a query, to that query,
abbrev pub ExistsBindsByQuery : Type 0
ExistsBindsByQuery = (count : ℕ) (literals : Replacement → LiteralValue) (negated : Bool) (query : List ℕ)
    → bound (exists_text negated query) (Nums count) literals ≡ Some (exists_text negated (with_values count literals query))

-- and what is bound to a field that is like a mask, to the field and to the mask
abbrev pub MasksBindByParts : Type 0
MasksBindByParts = (count : ℕ) (literals : Replacement → LiteralValue) (negated : Bool) (field mask : List ℕ)
    → bound (like_text negated field mask) (Nums count) literals
    ≡ Some (like_text negated (with_values count literals field) (with_values count literals mask))

-- ---- calls

module _ (count : ℕ) (literals : Replacement → LiteralValue) where
  -- a condition, each fragment with the literals of its numbers
  abbrev pub condition_with_values : ConditionText → ConditionText
  condition_with_values (Raw condition) = Raw (with_values count literals condition)
  condition_with_values (Compare relation field value) = Compare relation (with_values count literals field) (with_values count literals value)
  condition_with_values (Like negated percent field mask) = Like negated percent (with_values count literals field) mask
  condition_with_values (IsNull field) = IsNull (with_values count literals field)
  condition_with_values (IsNotNull field) = IsNotNull (with_values count literals field)
  condition_with_values (InList negated field values) = InList negated (with_values count literals field) (map (with_values count literals) values)
  condition_with_values (InQuoted negated field values) = InQuoted negated (with_values count literals field) values
  condition_with_values (InQuery negated field query) = InQuery negated (with_values count literals field) (with_values count literals query)
  condition_with_values (Between negated field least greatest) =
      Between negated (with_values count literals field) (with_values count literals least) (with_values count literals greatest)

  -- a start
  abbrev pub start_with_values : StartText → StartText
  start_with_values (SelectFrom table) = SelectFrom (with_values count literals table)
  start_with_values (SelectValues values) = SelectValues (map (with_values count literals) values)
  start_with_values (InsertInto table) = InsertInto (with_values count literals table)
  start_with_values (UpdateTable table) = UpdateTable (with_values count literals table)
  start_with_values (DeleteFrom table) = DeleteFrom (with_values count literals table)

  -- a call
  abbrev pub call_with_values : CallText → CallText
  call_with_values (AndTable table) = AndTable (with_values count literals table)
  call_with_values (Join table) = Join (with_values count literals table)
  call_with_values (On text) = On (with_values count literals text)
  call_with_values (OnEq left right) = OnEq (with_values count literals left) (with_values count literals right)
  call_with_values (Fields fields) = Fields (map (with_values count literals) fields)
  call_with_values (SetFields fields) = SetFields (map (with_values count literals) fields)
  call_with_values (Field field) = Field (with_values count literals field)
  call_with_values (SetField field) = SetField (with_values count literals field)
  call_with_values (Count field) = Count (with_values count literals field)
  call_with_values (CountAs field name) = CountAs (with_values count literals field) (with_values count literals name)
  call_with_values (SetTo field value) = SetTo (with_values count literals field) (with_values count literals value)
  call_with_values (SetStr field value) = SetStr (with_values count literals field) value
  call_with_values (Values values) = Values (map (with_values count literals) values)
  call_with_values (Select query) = Select (with_values count literals query)
  call_with_values (Returning fields) = Returning (with_values count literals fields)
  call_with_values (GroupBy field) = GroupBy (with_values count literals field)
  call_with_values (Having condition) = Having (with_values count literals condition)
  call_with_values (Union query) = Union (with_values count literals query)
  call_with_values (UnionAll query) = UnionAll (with_values count literals query)
  call_with_values (OrderBy field descending) = OrderBy (with_values count literals field) descending
  call_with_values (OrderAsc field) = OrderAsc (with_values count literals field)
  call_with_values (OrderDesc field) = OrderDesc (with_values count literals field)
  call_with_values (Limit limit) = Limit (with_values count literals limit)
  call_with_values (Offset offset) = Offset (with_values count literals offset)
  call_with_values (Cond family condition) = Cond family (condition_with_values condition)
  call_with_values call = call

-- no byte is a `$`
abbrev pub has_no_dollar : List ℕ → Bool
has_no_dollar text = list_all (λ byte. not (byte == code "$")) text

-- Where the texts that a condition quotes have no `$`, what is bound to it is bound to each of its fragments.
abbrev pub ConditionsBindByFragments : Type 0
ConditionsBindByFragments = (count : ℕ) (literals : Replacement → LiteralValue) (condition : ConditionText)
    → IsTrue (list_all has_no_dollar (condition_quoted_texts condition))
    → bound (condition_bytes condition) (Nums count) literals ≡ Some (condition_bytes (condition_with_values count literals condition))

-- Where the texts that calls quote have no `$`, what is bound to their statement is bound to each fragment of the calls: it is what the
-- builder of the start and calls prints, each fragment with the literals of its numbers.
abbrev pub StatementsBindByCalls : Type 0
StatementsBindByCalls = (count : ℕ) (literals : Replacement → LiteralValue) (start : StartText) (calls : List CallText) (finish : FinishText)
    → IsTrue (list_all (λ call. list_all has_no_dollar (call_quoted_texts call)) calls)
    → IfOk (statement start calls finish) (λ text. bound text (Nums count) literals
    ≡ Some (text_at (finish_with_values count literals finish)
    (made_by (start_with_values count literals start) (map (call_with_values count literals) calls))))
