use Rattle.sql_builder.proofs.chains.MethodLemmas as by
use Rattle.sql_builder.proofs.builder.SqlBuilder.and_where_between as its

pub and_where_between_spec : {M : Type 1} → its.Statement.statement M
and_where_between_spec 𝓤 𝓛 𝓜 𝓡 w S T U LS LT LU s d t e u f d' e' f' ms mt mu md me mf =
    by.between 𝓤 𝓛 𝓜 𝓡 S T U LS LT LU s d t e u f d' e' f' ms mt mu md me mf by.family-and by.polarity-plain
    (its.Code.calls-sql_builder::builder::SqlBuilder::step_between 𝓡.env w)
    (record { code = (by.refl, by.refl); closed = its.Code.unfolded 𝓤 𝓛.H 𝓜 𝓡 w (S, (T, (U, tt))) d e f d' e' f' })
    (its.Code.calls-sql_parts::loan::release 𝓡.env w)
