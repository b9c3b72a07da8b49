pub mod FirstCalls
pub mod RightFunctions
pub mod Sites
