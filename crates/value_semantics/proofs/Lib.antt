pub mod BuiltinTable
pub mod Made
pub mod OperatorTable
