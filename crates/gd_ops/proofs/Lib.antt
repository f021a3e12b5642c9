mod Deep
mod FitKinds
mod KnownTypes
mod Misfits
mod Operands
