use Rattle.std.proofs.Common.{refl, codes, pos}
use Rattle.sql_parts.specs.Literal.{whole, words}
use Rattle.sql_builder.specs.Calls.{Cond, Field, SelectFrom, Sql}
use Rattle.sql_builder.specs.declared.condition.Family.TheVariants.{And}
use Rattle.sql_builder.specs.declared.condition.Relation.TheVariants.{Eq, Ge}
use Rattle.sql_builder.proofs.for_callers.ChainLemmas.{made_statement}
use Rattle.sql_builder.proofs.for_callers.SoundCallLemmas.{Sound, asked_sound, compared_sound, given_sound, one_sound, sound_allowed, sound_closed, sound_ends}
use Rattle.sql_builder.proofs.for_callers.SoundCallLemmas.{sound_truth, then_sound}
use Rattle.sql_builder.proofs.statements.StatementLawLemmas.{of_statement, statements_are_closed}
use Rattle.callers.specs.Searches.{calls, ordered, priced_from, stocked, titled, written_by}
use Rattle.callers.specs.declared.searches.Search.{Search}
use Rattle.callers.proofs.searches.search_printed.Goals as goal

-- each call is sound, made or not
all-sound : (search : Search) → Sound (calls search)
all-sound search =
    then_sound
    (then_sound
    (then_sound
    (then_sound
    (then_sound (one_sound (Field (codes "title")) refl)
    (given_sound (λ title. Cond And (titled title.now)) (λ title. refl) search.title))
    (given_sound (λ author. Cond And (written_by author.now)) (λ author. compared_sound And Eq (codes "author") (words author.now) refl refl) search.author))
    (given_sound (λ price. Cond And (priced_from price)) (λ price. compared_sound And Ge (codes "price") (whole (pos price)) refl refl) search.least_price))
    (asked_sound (Cond And stocked) refl search.in_stock))
    (one_sound ordered refl)

pub returns-clause-statement : goal.returns-clause-statement
returns-clause-statement c =
    made_statement (SelectFrom (codes "books")) (calls c.args.search.now) Sql c.sql.result
    c.in_ok-builder.ensures.made c.sql.ensures.text c.sql.ensures.error

pub returns-clause-closed : goal.returns-clause-closed
returns-clause-closed c =
    let books = SelectFrom (codes "books") in
    let all = calls c.args.search.now in
    of_statement books all Sql _ c.sql.result (returns-clause-statement c)
    (statements_are_closed books all Sql (sound_closed (codes "books") all refl (all-sound c.args.search.now)))

pub returns-clause-semicolon : goal.returns-clause-semicolon
returns-clause-semicolon c =
    let all = calls c.args.search.now in
    of_statement (SelectFrom (codes "books")) all Sql _ c.sql.result (returns-clause-statement c)
    (sound_ends (codes "books") all refl (all-sound c.args.search.now))

pub returns-clause-truth : goal.returns-clause-truth
returns-clause-truth c =
    let all = calls c.args.search.now in
    of_statement (SelectFrom (codes "books")) all Sql _ c.sql.result (returns-clause-statement c)
    (sound_truth (codes "books") all refl (all-sound c.args.search.now))

pub returns-clause-memory : goal.returns-clause-memory
returns-clause-memory c =
    c.sql.ensures.memory
    (rw c.in_ok-builder.ensures.made (sound_allowed (codes "books") (calls c.args.search.now) refl (all-sound c.args.search.now)))
