use Rattle.std.proofs.Common.{inl}
use Rattle.hb_consol.proofs.walking.walk.Goals as goal

pub returns-then-page-job : goal.returns-then-page-job
returns-then-page-job c =
    λ held s. inl (record { level = c.if-page-job.true; leads = (c.in-Child-default.field-0-0, c.leaf_at.result.1, rw c.in-Child-default.is-0 at c.leaf_at.ensures.value); deed_is = c.scan_first.ensures held })
