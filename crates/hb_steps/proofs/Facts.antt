-- What other crates cite of the core: what one step tells, what many steps come to, and a core that has taken none.
pub mod Names
pub mod PrefixImages
pub mod LogAndStop
pub mod GivenUpLaws
pub mod NoDamage
pub mod NamedDamage
pub mod StillThere
pub mod NextLines
pub mod EachRow
pub mod StepKinds
pub mod StepLines
pub mod Ways
pub mod LaterPages
