pub mod Declarations
pub mod Expressions
pub mod Faults
pub mod Patterns
pub mod Statements
pub mod Tokens
