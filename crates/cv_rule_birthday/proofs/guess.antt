mod Planned
mod Terms
mod Walks
mod WorkedRows
