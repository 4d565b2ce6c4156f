-- Calls that come to the same, whatever is called after them.
use Rattle.sql_builder.proofs.Imports.{◌≡◌, List, [], ◌∷◌, ◌++◌, Option, None, true, map, refl, ap, sym, ◌∙◌, append_assoc, false≢true, map-append, append-nil}
use Rattle.sql_builder.proofs.Imports.{is_some, Clauses, Pieces}
use Rattle.sql_builder.specs.{StartText, CallText, Fields, Having, Limit, Offset, Returning, ReturningId, clauses, having_in, limit_in, offset_in, returning_in}
use Rattle.sql_builder.specs.{FieldsJoin, OnlyLastCounts, raw_piece}
use Rattle.sql_builder.proofs.statements.NextCallLemmas.{clauses_after, one_more_clauses}
use Rattle.sql_builder.proofs.lists.{add, add_is}

-- `apart` forgets some clauses, and what a call makes of the others doesn't rest on these
abbrev Apart : (Clauses Pieces → Clauses Pieces) → Type 0
Apart apart =
    (c : CallText) (r : Clauses Pieces) → apart (clauses_after c r) ≡ apart (clauses_after c (apart r))

-- a call that gives something changes nothing but what `apart` forgets, and gives that anew
abbrev Renews : (CallText → Option Pieces) → (Clauses Pieces → Clauses Pieces) → Type 0
Renews given apart = (c : CallText) → is_some (given c) ≡ true → (r : Clauses Pieces)
    → (apart (clauses_after c r) ≡ apart r) × (clauses_after c r ≡ clauses_after c (apart r))

module _ (start : StartText) (apart : Clauses Pieces → Clauses Pieces) (alike : Apart apart) where
  pub more_calls : (xs ys : List CallText) → apart (clauses start xs) ≡ apart (clauses start ys)
      → (more : List CallText)
      → apart (clauses start (xs ++ more)) ≡ apart (clauses start (ys ++ more))
  more_calls xs ys h [] = rw (append-nil xs, append-nil ys) h
  more_calls xs ys h (c ∷ more) =
      rw (sym (append_assoc xs (c ∷ []) more), sym (append_assoc ys (c ∷ []) more))
      (more_calls (xs ++ c ∷ []) (ys ++ c ∷ [])
      (known xs ∙ ap (λ r. apart (clauses_after c r)) h ∙ sym (known ys)) more)
    where
      known : (calls : List CallText)
          → apart (clauses start (calls ++ c ∷ [])) ≡ apart (clauses_after c (apart (clauses start calls)))
      known calls = ap apart (one_more_clauses start calls c) ∙ alike c (clauses start calls)

same_clauses : (start : StartText) (xs ys : List CallText) → clauses start xs ≡ clauses start ys
    → (more : List CallText) → clauses start (xs ++ more) ≡ clauses start (ys ++ more)
same_clauses start xs ys h more = more_calls start (λ r. r) (λ c r. refl) xs ys h more

counts_last : (given : CallText → Option Pieces) (apart : Clauses Pieces → Clauses Pieces)
    → Apart apart → Renews given apart → OnlyLastCounts given
counts_last given apart alike gives start before between after early late e l =
    ap (clauses start) (grouped (early ∷ between))
    ∙ same_clauses start (before ++ early ∷ between ++ late ∷ []) (before ++ between ++ late ∷ []) last after
    ∙ sym (ap (clauses start) (grouped between))
  where
    grouped : (calls : List CallText)
        → before ++ (calls ++ late ∷ after) ≡ (before ++ calls ++ late ∷ []) ++ after
    grouped calls =
        sym (append_assoc (before ++ calls) (late ∷ []) after ∙ append_assoc before calls (late ∷ after))

    first : apart (clauses start (before ++ early ∷ [])) ≡ apart (clauses start before)
    first = ap apart (one_more_clauses start before early) ∙ (gives early e (clauses start before)).0

    middle : apart (clauses start (before ++ early ∷ between)) ≡ apart (clauses start (before ++ between))
    middle =
        rw (sym (append_assoc before (early ∷ []) between))
        (more_calls start apart alike (before ++ early ∷ []) before first between)

    last : clauses start (before ++ early ∷ between ++ late ∷ [])
        ≡ clauses start (before ++ between ++ late ∷ [])
    last =
        one_more_clauses start (before ++ early ∷ between) late
        ∙ (gives late l (clauses start (before ++ early ∷ between))).1 ∙ ap (clauses_after late) middle
        ∙ sym ((gives late l (clauses start (before ++ between))).1)
        ∙ sym (one_more_clauses start (before ++ between) late)

pub limit_counts_last : OnlyLastCounts limit_in
limit_counts_last = counts_last limit_in apart (λ c r. refl) gives
  where
    apart : Clauses Pieces → Clauses Pieces
    apart r = record r { limit = None }

    gives : Renews limit_in apart
    gives (Limit a) h r = (refl, refl)
    gives _ h r = absurd (false≢true h)

pub offset_counts_last : OnlyLastCounts offset_in
offset_counts_last = counts_last offset_in apart (λ c r. refl) gives
  where
    apart : Clauses Pieces → Clauses Pieces
    apart r = record r { offset = None }

    gives : Renews offset_in apart
    gives (Offset a) h r = (refl, refl)
    gives _ h r = absurd (false≢true h)

pub having_counts_last : OnlyLastCounts having_in
having_counts_last = counts_last having_in apart (λ c r. refl) gives
  where
    apart : Clauses Pieces → Clauses Pieces
    apart r = record r { having = None }

    gives : Renews having_in apart
    gives (Having a) h r = (refl, refl)
    gives _ h r = absurd (false≢true h)

pub returning_counts_last : OnlyLastCounts returning_in
returning_counts_last = counts_last returning_in apart (λ c r. refl) gives
  where
    apart : Clauses Pieces → Clauses Pieces
    apart r = record r { returning = None }

    gives : Renews returning_in apart
    gives (Returning a) h r = (refl, refl)
    gives ReturningId h r = (refl, refl)
    gives _ h r = absurd (false≢true h)

pub fields_join : FieldsJoin
fields_join start before after a b =
    ap (clauses start) (sym (
    append_assoc (before ++ Fields a ∷ []) (Fields b ∷ []) after
    ∙ append_assoc before (Fields a ∷ []) (Fields b ∷ after)
    ))
    ∙ same_clauses start (before ++ Fields a ∷ [] ++ Fields b ∷ []) (before ++ Fields (a ++ b) ∷ [])
    both after
    ∙ ap (clauses start) (append_assoc before (Fields (a ++ b) ∷ []) after)
  where
    joined : (fields : List Pieces)
        → add (add fields (map raw_piece a)) (map raw_piece b) ≡ add fields (map raw_piece (a ++ b))
    joined fields =
        let first = map raw_piece a in
        let second = map raw_piece b in
        rw (add_is fields first, add_is (fields ++ first) second)
        (rw (add_is fields (map raw_piece (a ++ b)), map-append raw_piece a b)
        (append_assoc fields first second))

    both : clauses start (before ++ Fields a ∷ [] ++ Fields b ∷ [])
        ≡ clauses start (before ++ Fields (a ++ b) ∷ [])
    both =
        one_more_clauses start (before ++ Fields a ∷ []) (Fields b)
        ∙ ap (clauses_after (Fields b)) (one_more_clauses start before (Fields a))
        ∙ ap (λ (fields : List Pieces). record (clauses start before) { fields = fields })
        (joined (clauses start before).fields)
        ∙ sym (one_more_clauses start before (Fields (a ++ b)))
