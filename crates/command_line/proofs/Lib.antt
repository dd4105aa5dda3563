pub mod Building
pub mod Rules
pub mod Turns
pub mod Walking
pub mod Values
pub mod Parsing
pub mod Commands
pub mod EachPart
