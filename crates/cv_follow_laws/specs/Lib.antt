pub mod Reports
pub mod GivenBack
