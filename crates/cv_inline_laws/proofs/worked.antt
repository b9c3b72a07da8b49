pub mod OneSender
