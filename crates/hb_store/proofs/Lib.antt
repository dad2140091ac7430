pub mod Facts
mod Openings
pub mod MadeParts
mod AreaTorn
mod AfterForce
mod Written
mod Held
mod PageBits
mod Framed
mod Filled
mod Room
mod Remembered
mod Called
mod Holding
mod Committing
mod Spliced
mod Readied
mod Putting
mod Checked
mod InLog
mod Committed
pub mod Counting
pub mod Counted
pub mod Heads
pub mod Shown
pub mod LogReads
pub mod OneFile
pub mod OneKept
pub mod Replays
pub mod Touches
pub mod HomeWrites
pub mod WrittenHome
mod Turns
mod Switched
mod SwitchKept
mod SwitchStopped
mod SwitchDone
pub mod Flushes
