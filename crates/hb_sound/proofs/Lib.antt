pub mod Facts
pub mod Asking
pub mod SiblingLeaves
pub mod HeldOnce
pub mod HeldSomewhere
pub mod WalksDown
pub mod WalkSteps
pub mod OneWalk
pub mod RecordsAtHome
pub mod Partition
pub mod SmallFile
pub mod FullyPostedWalks
pub mod OneParent
pub mod LostFile
pub mod LateFile
pub mod LateWalks
pub mod LatePosting
pub mod TowerFile
pub mod Extractions
pub mod Growths
pub mod CutVolumes
pub mod CutNames
pub mod FileParted
pub mod SplitChains
pub mod SplitSound
pub mod RecordsStand
pub mod SplitContents
pub mod SplitDirect
pub mod FileGrown
pub mod GrowthSound
pub mod GrowthKept
pub mod GrowthSteps
pub mod PostedPage
pub mod PostSound
pub mod MergedLeaves
pub mod UnnamedPages
pub mod MergedFile
pub mod MergeSound
pub mod DoneMerges
pub mod MergeDirect
pub mod MergeContents
pub mod MergeNames
pub mod EachOperation
mod Flagged
mod LeftOut
mod Levels
mod Firsts
mod Counts
mod ToldPages
mod KnownPages
mod ReadUp
mod Bridge
mod LinkSteps
mod RestSteps
mod Sides
mod LeafTests
mod ChainBridge
mod LocalBridge
mod SixRules
mod Loose
mod LeafBridge
mod CoverBridge
mod LateRules
mod WholeAudit
mod NamesOnce
mod RecordsOnce
