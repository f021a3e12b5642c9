mod Equal
mod Joins
mod Refused
mod Sought
