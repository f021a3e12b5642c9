pub mod Fault
