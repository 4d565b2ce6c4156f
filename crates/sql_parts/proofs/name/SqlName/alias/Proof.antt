use Rattle.sql_parts.proofs.chains.Prelude.{refl}
use Rattle.sql_parts.proofs.chains.NameCallLemmas.{alias, by_change}
use Rattle.sql_parts.proofs.name.SqlName.alias as its

pub alias_spec : {M : Type 1} → its.Statement.statement M
alias_spec 𝓤 𝓛 𝓜 𝓡 w S LS s d d' ms md =
    by_change 𝓤 𝓛 𝓜 𝓡 alias S LS s d d' ms md (record { code = (refl, refl); closed = its.Code.unfolded 𝓤 𝓛.H 𝓜 𝓡 w (S, tt) d d' })
    (its.Code.calls-sql_parts::name::SqlName::step 𝓡.env w) (its.Code.calls-sql_parts::loan::release 𝓡.env w)
