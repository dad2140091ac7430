-- Who begins with a job holds no page.
use Rattle.hb_core.proofs.Running.Names.{◌≡◌, inl, inr, ℕ, [], ap, Activity, Job, IsMergingOf, IsPostingOf, StoreState, latches_held}

module _ (st : StoreState) (job : Job) (height : ℕ) (next : Activity) where
  pub posting_free : IsPostingOf job height next → latches_held st next ≡ []
  posting_free (inl (above, is)) = ap (λ (a : Activity). latches_held st a) is
  posting_free (inr (inl (top, is))) = ap (λ (a : Activity). latches_held st a) is
  posting_free (inr (inr (below, is))) = ap (λ (a : Activity). latches_held st a) is

  pub merging_free : IsMergingOf job height next → latches_held st next ≡ []
  merging_free (inl (above, is)) = ap (λ (a : Activity). latches_held st a) is
  merging_free (inr (below, is)) = ap (λ (a : Activity). latches_held st a) is
