pub mod ScriptTable
pub mod Table
