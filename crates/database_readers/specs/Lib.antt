pub mod AsMeant
pub mod EmptyValues
pub mod MysqlReader
pub mod PostgresReader
pub mod SqliteReader
