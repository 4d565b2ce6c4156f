use Rattle.sql_typed.proofs.Imports.{◌≡◌, ◌⊎◌, ◌++◌, codes, refl, rules, string_bytes, subst, IfErr, Some, IsMemory, ClauseTexts, Sql, error_at, asking}
use Rattle.sql_typed.proofs.PrintLemmas.{printed_statement, borrowed, may_fail}
use Rattle.sql_typed.proofs.WholeLemmas.{asked_is, asking_whole}
use Rattle.sql_typed.proofs.clauses.Statement+InsertKind.asking.Goals as goal

pub bare-requires : goal.bare-requires
bare-requires c = record {
  front = asking_whole c.args.self c.self.inside.builder.it.value c.deref.result.now (string_bytes c.args.query.now.text)
      (borrowed c.self.view_is refl c.self.invariant.0) (search rules) c.args.query.now.fits;
}

pub returns-clause-statement : goal.returns-clause-statement
returns-clause-statement c =
    let query = string_bytes c.args.query.now.text in
    printed_statement c.args.self.start (asking query c.args.self.calls) Sql c.deref.result.now (λ p. string_bytes p.text ++ codes ";") c.bare.result
    (asked_is c.args.self c.self.inside.builder.it.value c.deref.result.now query (borrowed c.self.view_is refl c.self.invariant.0) (search rules)) c.bare.ensures.text
    c.bare.ensures.error

pub returns-clause-error : goal.returns-clause-error
returns-clause-error c =
    let query = string_bytes c.args.query.now.text in
    subst (λ (r : ClauseTexts). IfErr c.bare.result (λ e. IsMemory e ⊎ (error_at Sql r ≡ Some e)))
    (asked_is c.args.self c.self.inside.builder.it.value c.deref.result.now query (borrowed c.self.view_is refl c.self.invariant.0) (search rules))
    (may_fail (error_at Sql c.deref.result.now) c.bare.result c.bare.ensures.error)
