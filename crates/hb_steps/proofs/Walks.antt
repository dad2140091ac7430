-- Where walks and parents stand, that what is wanted comes later, and that nobody waits in a circle.
pub mod Names
pub mod MergesKept
pub mod OnePlace
pub mod WalksKept
pub mod LaterWanted
pub mod NoCircle
pub mod SomebodyFree
pub mod AtHand
pub mod FurtherOn
pub mod MayBeAsked
pub mod AskedToMerge
pub mod WalkingWorkers
pub mod WorkersKept
pub mod LockHolders
pub mod WhoGoesOn
