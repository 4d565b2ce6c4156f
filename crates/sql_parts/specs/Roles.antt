-- What the code keeps of a token, which is all that the tests of fragments ask of it.
use Prim.Native.Char.{code}
use Rattle.std.specs.Prelude.{◌≡◌, ◌&&◌, ◌||◌, Bool, [], codes}
use Rattle.sql_parts.specs.Fragments.{is_clause_word, is_closing, is_dialect_word, is_joining, is_opening, is_whole, is_word, lowers, needs_left, needs_right, raises}
use Rattle.sql_parts.specs.Tokens.{Token, Word, Str, Symbol, Open}
use Rattle.sql_parts.specs.declared.roles.Role.{Role}
use Rattle.sql_parts.specs.declared.roles.Role.TheVariants as role

-- one of the tokens that have a role
abbrev pub sample : Role → Token
sample role.Raises = Symbol (code "(")
sample role.Lowers = Symbol (code ")")
sample role.Parts = Symbol (code ",")
sample role.Or = Word (codes "OR")
sample role.And = Word (codes "AND")
sample role.Between = Word (codes "BETWEEN")
sample role.Not = Word (codes "NOT")
sample role.Clause = Word (codes "SELECT")
sample role.Dialect = Word (codes "INTO")
sample role.Breaks = Open
sample role.Plain = Str []

-- A token that may not be top-level: a clause keyword where a text is to be bare, a word that begins a clause in some databases where
-- it is to be typed, and one that joins where it is to be an operand.
abbrev pub is_barred : (bare typed operand : Bool) → Token → Bool
is_barred bare typed operand token = (bare && is_clause_word token) || ((typed && is_dialect_word token) || (operand && is_joining token))

-- A token has a role: no test of fragments distinguishes it from another token that has it.
pub record HasRole (role : Role) (token : Token) : Type 0 where
  pub raising : raises token ≡ raises (sample role)
  pub lowering : lowers token ≡ lowers (sample role)
  pub opening : is_opening token ≡ is_opening (sample role)
  pub closing : is_closing token ≡ is_closing (sample role)
  pub left : needs_left token ≡ needs_left (sample role)
  pub right : needs_right token ≡ needs_right (sample role)
  pub joining : is_joining token ≡ is_joining (sample role)
  pub and : is_word (codes "AND") token ≡ is_word (codes "AND") (sample role)
  pub between : is_word (codes "BETWEEN") token ≡ is_word (codes "BETWEEN") (sample role)
  pub not : is_word (codes "NOT") token ≡ is_word (codes "NOT") (sample role)
  pub clause : is_clause_word token ≡ is_clause_word (sample role)
  pub dialect : is_dialect_word token ≡ is_dialect_word (sample role)
  pub whole : is_whole token ≡ is_whole (sample role)
