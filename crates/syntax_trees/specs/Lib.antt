pub mod Declarations
pub mod Expressions
pub mod Layers
pub mod OfDeclarations
pub mod OfExpressions
pub mod OfStatements
pub mod Patterns
pub mod Statements
