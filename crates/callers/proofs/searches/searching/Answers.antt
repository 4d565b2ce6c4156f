use Rattle.std.proofs.Common.{rules, ◌∙◌, ◌++◌, [], ◌∷◌, codes, string_bytes, refl}
use Rattle.sql_builder.specs.Calls.{Cond, Field, SelectFrom}
use Rattle.sql_builder.specs.declared.condition.Condition.TheVariants.{Compare}
use Rattle.sql_builder.specs.declared.condition.Family.TheVariants.{And}
use Rattle.sql_builder.specs.declared.condition.Relation.TheVariants.{Eq}
use Rattle.sql_builder.proofs.for_callers.ChainLemmas.{Chain, chain_call, chain_start, with_calls-read}
use Rattle.sql_builder.proofs.for_callers.SoundCallLemmas.{chain_calls}
use Rattle.callers.specs.Searches.{by_author, by_price, by_stock, by_title, calls, ordered, priced_from, stocked, titled}
use Rattle.callers.proofs.searches.searching.Goals as goal
use Rattle.callers.proofs.searches.searching.Goals.{in-Some+in_ok-and_where_like_any, in_default, in-Some-author+in_ok-quote+in_ok-and_where_eq}
use Rattle.callers.proofs.searches.searching.Goals.{in_default-author, in-Some-least_price+in_ok-and_where_ge, in_default-least_price}
use Rattle.callers.proofs.searches.searching.Goals.{then-search+in_ok-and_where_gt, else-search}

pub returns-clause-made : goal.returns-clause-made
returns-clause-made c =
    let wanted = c.args.search.now in
    let books = SelectFrom (codes "books") in
    let field = Field (codes "title") in
    let first : Chain books (field ∷ []) c.in_ok-field.field-0.now =
    chain_call field c.in_ok-field.ensures.changed (chain_start books c.in_ok-builder.ensures.made) in
    let second : Chain books ((field ∷ []) ++ by_title wanted) c.match-search.builder =
    elim c.match-search.branch [
      | in-Some+in_ok-and_where_like_any w ↦
          chain_calls first (by_title wanted) (Cond And (titled w.in-Some.title.now) ∷ []) (rw w.in-Some.is refl) (search rules)
      | in_default w ↦ chain_calls first (by_title wanted) [] (rw w.in_default.is refl) (search rules)
    ] in
    let third : Chain books ((field ∷ []) ++ by_title wanted ++ by_author wanted) c.match-search-2.builder =
    elim c.match-search-2.branch [
      | in-Some-author+in_ok-quote+in_ok-and_where_eq w ↦
          chain_calls second (by_author wanted) (Cond And (Compare Eq (codes "author") (string_bytes w.in_ok-quote.field-0)) ∷ [])
          (rw (w.in-Some-author.is, w.in_ok-quote.ensures.text) refl) (search rules)
      | in_default-author w ↦ chain_calls second (by_author wanted) [] (rw w.in_default-author.is refl) (search rules)
    ] in
    let fourth : Chain books ((field ∷ []) ++ by_title wanted ++ by_author wanted ++ by_price wanted) c.match-search-3.builder =
    elim c.match-search-3.branch [
      | in-Some-least_price+in_ok-and_where_ge w ↦
          chain_calls third (by_price wanted) (Cond And (priced_from w.in-Some-least_price.price) ∷ []) (rw w.in-Some-least_price.is refl) (search rules)
      | in_default-least_price w ↦ chain_calls third (by_price wanted) [] (rw w.in_default-least_price.is refl) (search rules)
    ] in
    let fifth : Chain books ((field ∷ []) ++ by_title wanted ++ by_author wanted ++ by_price wanted ++ by_stock wanted) c.if-search.builder =
    elim c.if-search.branch [
      | then-search+in_ok-and_where_gt w ↦
          chain_calls fourth (by_stock wanted) (Cond And stocked ∷ []) (rw w.if-search.true refl) (search rules)
      | else-search w ↦ chain_calls fourth (by_stock wanted) [] (rw w.if-search.false refl) (search rules)
    ] in
    let last : Chain books (calls wanted) c.builder-in_ok-order_asc-1.given.0 = chain_calls fifth (ordered ∷ []) (ordered ∷ []) refl (search rules) in
    last.is ∙ with_calls-read books (calls wanted)
