use Rattle.std.proofs.Common.{◌≡◌, sym, ap, ◌∙◌, []}
use Rattle.std.proofs.lemmas.Bool.{false≢true}
use Rattle.hb_wal.specs.Frames.{frame_body}
use Rattle.hb_wal.specs.Log.{LogState, waiting_bytes}
use Rattle.hb_wal.proofs.Kept.{body_is, none-seen, some_groups}
use Rattle.hb_wal.proofs.log.Wal.body.Goals as goal

module _ (c : goal.After-deref) where
  pub waits : c.self.inside.groups.items ≡ [] → ⊥
  waits = some_groups _ c.self.inside.groups.items c.self.inside.groups.ok.0 (sym c.is_empty.ensures ∙ c.if-is_empty.false)

pub returns-else-is_empty-clause-none : goal.returns-else-is_empty-clause-none
returns-else-is_empty-clause-none c = (
  λ never. absurd (false≢true (sym never)),
  λ none. absurd (waits c (none-seen c.self.inside c.self.invariant (ap (λ (s : LogState). s.groups) c.self.view_is ∙ none))),
)

pub returns-else-is_empty-clause-some : goal.returns-else-is_empty-clause-some
returns-else-is_empty-clause-some c = c.deref.ensures.value ∙ body_is c.self.inside c.self.invariant (waits c) ∙ ap (λ (s : LogState). frame_body (waiting_bytes s.groups)) c.self.view_is
