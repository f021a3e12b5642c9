mod Held
mod Kept
mod Literal
mod Operate
mod Put
mod Read
mod Sound
