pub mod Numbers
pub mod Threads
pub mod Options
pub mod Places
