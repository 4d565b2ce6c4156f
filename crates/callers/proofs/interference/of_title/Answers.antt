use Rattle.std.proofs.Common.{◌≡◌, ℕ, List, [], ◌∷◌, ◌++◌, codes, Result, Ok, Err, IfOk, String, string_bytes, refl, sym, ap, subst, append_assoc}
use Rattle.std.proofs.lemmas.Bool.{and_from}
use Rattle.sql_builder.specs.Calls.{Cond, SelectFrom, Sql, clauses}
use Rattle.sql_builder.specs.declared.condition.Condition.TheVariants.{Compare}
use Rattle.sql_builder.specs.Pieces.{fixed_piece, pieces_text, raw_piece}
use Rattle.sql_builder.specs.Statement.{layout_at}
use Rattle.sql_builder.specs.declared.condition.Family.TheVariants.{And}
use Rattle.sql_builder.specs.declared.condition.Relation.TheVariants.{Eq}
use Rattle.sql_parts.specs.Quoting.{doubled, quoted}
use Rattle.sql_parts.specs.Readers.{parts_bytes}
use Rattle.sql_builder.proofs.for_callers.ChainLemmas.{chain_call, chain_start, chain_text}
use Rattle.callers.specs.Titles.{IsReadAlike, title_parts}
use Rattle.callers.proofs.interference.of_title.Goals as goal

laid : (literal title : List ℕ) → literal ≡ quoted title
    → pieces_text (layout_at fixed_piece raw_piece Sql (clauses (SelectFrom (codes "books")) (Cond And (Compare Eq (codes "title") literal) ∷ [])))
    ≡ parts_bytes (title_parts title)
laid literal title is = rw is (ap (λ text. codes "SELECT * FROM books WHERE title = '" ++ text) (append_assoc (doubled 39 title) (39 ∷ []) (codes ";")))

of_text : {Z E : Type 0} {text : List ℕ} (P : List ℕ → Type 0) (result : Result (String Z) E) → IfOk result (λ s. string_bytes s ≡ text) → P text
    → IfOk result (λ s. P (string_bytes s))
of_text P (Err e) printed holds = tt
of_text P (Ok s) printed holds = subst P (sym printed) holds

pub returns-clause-text : goal.returns-clause-text
returns-clause-text c =
    let made = chain_call (Cond And (Compare Eq (codes "title") (string_bytes c.in_ok-title.title))) c.in_ok-and_where_eq.ensures.changed
    (chain_start (SelectFrom (codes "books")) c.in_ok-select_from.ensures.made) in
    chain_text Sql c.sql.result made c.sql.ensures.text (laid (string_bytes c.in_ok-title.title) c.args.title.now c.in_ok-title.ensures.text)

pub returns-clause-read : goal.returns-clause-read
returns-clause-read c =
    let title = c.args.title.now in
    of_text (IsReadAlike title) c.sql.result (returns-clause-text c)
    (λ next plain state all inside. c.readers_ignore_quoted_parts.ensures.alike next plain state (title_parts []) (title_parts title) refl refl
    (and_from _ _ all refl) inside)
