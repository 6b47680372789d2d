pub mod FlagTables
pub mod ErrnoBack
