use Rattle.sql_builder.proofs.chains.MethodLemmas as by
use Rattle.sql_builder.proofs.builder.SqlBuilder.on_eq as its

pub on_eq_spec : {M : Type 1} → its.Statement.statement M
on_eq_spec 𝓤 𝓛 𝓜 𝓡 w S T LS LT s d t e d' e' ms mt md me =
    by.binary 𝓤 𝓛 𝓜 𝓡 S T LS LT s d t e d' e' ms mt md me (by.binary_clause by.binary_case.OnEq 0 tt tt tt by.refl)
    (its.Code.calls-sql_builder::builder::SqlBuilder::step_binary 𝓡.env w)
    (record { code = (by.refl, by.refl); closed = its.Code.unfolded 𝓤 𝓛.H 𝓜 𝓡 w (S, (T, tt)) d e d' e' }) (its.Code.calls-sql_parts::loan::release 𝓡.env w)
