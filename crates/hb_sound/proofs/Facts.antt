pub mod ExampleParts
pub mod LeastLaws
pub mod MergedPages
pub mod NoneBroken
pub mod OneLevel
pub mod PagePlaces
pub mod PagesParted
pub mod RecordsParted
