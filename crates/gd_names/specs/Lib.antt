pub mod Bases
pub mod Builtins
pub mod Paths
pub mod Preloads
pub mod Projects
pub mod Rules
pub mod Trees
pub mod Trials
