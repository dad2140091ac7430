pub mod Facts
mod Bodies
mod Supers
mod Writes
mod Newest
mod Clears
mod Firsts
