pub mod DrawnNames
