use Rattle.sql_builder.proofs.chains.MethodLemmas as by
use Rattle.sql_builder.proofs.builder.SqlBuilder.and_where_like_any as its

pub and_where_like_any_spec : {M : Type 1} → its.Statement.statement M
and_where_like_any_spec 𝓤 𝓛 𝓜 𝓡 w S T LS LT s d t e d' e' ms mt md me =
    by.like 𝓤 𝓛 𝓜 𝓡 S T LS LT s d t e d' e' ms mt md me by.family-and by.percent-any (its.Code.calls-sql_builder::builder::SqlBuilder::step_like 𝓡.env w)
    (record { code = (by.refl, by.refl); closed = its.Code.unfolded 𝓤 𝓛.H 𝓜 𝓡 w (S, (T, tt)) d e d' e' }) (its.Code.calls-sql_parts::loan::release 𝓡.env w)
