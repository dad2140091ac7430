-- What the calls of this crate make of the counts of a core, and what counts say of a file.
use Rattle.std.specs.Prelude.{◌≡◌, ◌↔◌, ◌+◌, ◌<◌, ◌-◌, ◌^◌, ◌≤◌, Result, MatchResult}
use Rattle.hb_layout.specs.declared.meta.Meta.{Meta}
use Rattle.hb_core.specs.declared.counts.TidyCounts.{TidyCounts}
use Rattle.hb_core.specs.Showing.{RunningCore}
use Rattle.hb_tidy.specs.declared.stops.TidyStop.{TidyStop}
use Rattle.hb_tidy.specs.declared.stops.TidyStop.TheVariants as stops

-- counts of operations that are no less than others
pub record AreAtMost (old new : TidyCounts) : Type 0 where
  pub grown : old.grown ≤ new.grown
  pub posted : old.posted ≤ new.posted
  pub split : old.split ≤ new.split
  pub merged : old.merged ≤ new.merged

-- counts with others added
abbrev pub added : TidyCounts → TidyCounts → TidyCounts
added old more = record { grown = old.grown + more.grown; posted = old.posted + more.posted; split = old.split + more.split; merged = old.merged + more.merged }

-- A file got higher by the growths that are counted, and has as many more pages in use as growths and splits made, less those that
-- merges freed.
pub record GrewBy (before after : Meta) (counts : TidyCounts) : Type 0 where
  pub height : after.height ≡ before.height + counts.grown
  pub live : after.live + counts.merged ≡ before.live + (counts.grown + counts.split)

-- A call ends as spent exactly where the count of steps has come to its last value.
abbrev pub EndsSpent : {T : Type 0} → Result T TidyStop → RunningCore → Type 0
EndsSpent result c = MatchResult result (λ v. c.taken < 2 ^ 64 - 1) (λ stop. (stop ≡ stops.Spent) ↔ (c.taken ≡ 2 ^ 64 - 1))
