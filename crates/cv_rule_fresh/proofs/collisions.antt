pub mod WorkedRows
pub mod WorkedCosts
