use Rattle.sql_builder.proofs.Imports.{◌++◌, map, string_bytes, List, ℕ, list_any, GroupedCondition}
use Rattle.sql_builder.specs.{condition_in_group, further_bytes, where_end, where_opening}
use Rattle.sql_builder.proofs.lists.{where_is}
use Rattle.sql_builder.proofs.output.{prints_both, room_first, room_rest}
use Rattle.sql_builder.proofs.printing.push_conditions.Goals as goal

module _ (first : GroupedCondition) (further : List GroupedCondition) where
  -- the parts of WHERE
  abbrev opening : List ℕ
  opening = where_opening (list_any (λ c. c.opens_group) further) ++ string_bytes first.text

  abbrev others : List ℕ
  others = further_bytes (map condition_in_group further)

  abbrev end : List ℕ
  end = where_end (list_any (λ c. c.opens_group) further)

pub push_clause-requires : goal.push_clause-requires
push_clause-requires g c =
    let first = c.args.first.now in
    let further = c.args.further.now in
    let whole = rw (where_is first further) at c.requires.room in
    record {
      room = rw (c.where_words.ensures.opening, c.as_str.ensures.value)
          (room_first g.O.Out.printed g.O.Out.room (opening first further) (others first further ++ end first further) c.args.out.now whole);
    }

pub push_further_conditions-requires : goal.push_further_conditions-requires
push_further_conditions-requires g c =
    let first = c.args.first.now in
    let further = c.args.further.now in
    let whole = rw (where_is first further) at c.requires.room in
    let wrote = rw (c.where_words.ensures.opening, c.as_str.ensures.value) at c.push_clause.ensures in
    record {
      room = room_first g.O.Out.printed g.O.Out.room (others first further) (end first further) c.push_clause.new.out
          (room_rest g.O.Out.printed g.O.Out.room (opening first further) (others first further ++ end first further) c.args.out.now c.push_clause.new.out whole wrote);
    }

pub push-requires : goal.push-requires
push-requires g c =
    let first = c.args.first.now in
    let further = c.args.further.now in
    let whole = rw (where_is first further) at c.requires.room in
    let wrote = rw (c.where_words.ensures.opening, c.as_str.ensures.value) at c.push_clause.ensures in
    record {
      fits = rw (c.where_words.ensures.end) (room_rest g.O.Out.printed g.O.Out.room (others first further) (end first further) c.push_clause.new.out c.push_further_conditions.new.out
          (room_rest g.O.Out.printed g.O.Out.room (opening first further) (others first further ++ end first further) c.args.out.now c.push_clause.new.out whole wrote)
          c.push_further_conditions.ensures);
    }

pub returns : goal.returns
returns g c =
    let first = c.args.first.now in
    let further = c.args.further.now in
    let wrote = rw (c.where_words.ensures.opening, c.as_str.ensures.value) at c.push_clause.ensures in
    rw (where_is first further)
    (prints_both g.O.Out.printed g.O.Out.room (opening first further) (others first further ++ end first further) c.args.out.now c.push_clause.new.out c.push.new.self wrote
    (prints_both g.O.Out.printed g.O.Out.room (others first further) (end first further) c.push_clause.new.out c.push_further_conditions.new.out c.push.new.self
    c.push_further_conditions.ensures (rw (c.where_words.ensures.end) at c.push.ensures.printed, rw (c.where_words.ensures.end) at c.push.ensures.room)))
