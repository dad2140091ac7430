pub mod JobsShown
