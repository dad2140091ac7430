-- A disk that tells goes on telling.
use Rattle.hb_steps.proofs.Memory.Names.{◌≡◌, inl, inr, ℕ, Option, Some, None, ap, ◌∙◌, Op, Outcome, each_kind, FlushesMore, ready_kind, ForcesAll, StaysSo, Files, Machine, StepsTo, Works}
use Rattle.std.proofs.Common.{option_map}
use Rattle.hb_steps.specs.declared.outcomes.Outcome.TheVariants as outcomes
use Rattle.hb_steps.specs.Forcing.{forced_files}
use Rattle.hb_steps.specs.Performing.{files_after, with_effect}

abbrev pub IsTold : Machine → Type 0
IsTold new = (files : Files) × (new.files ≡ Some files)

module _ (m : Machine) (files : Files) (told : m.files ≡ Some files) (actor : ℕ) (outcome : Outcome) (new : Machine) where
  told_after : (op : Option Op) → new.files ≡ files_after op m.files → IsTold new
  told_after None is = (files, is ∙ told)
  told_after (Some op) is = (with_effect op files, is ∙ ap (option_map (with_effect op)) told)

  told_stays : (said : Outcome) → StaysSo m said outcome new → IsTold new
  told_stays said so = (files, ap (λ (x : Machine). x.files) so.1 ∙ told)

  told_forced : (said : Outcome) → ForcesAll m said outcome new → IsTold new
  told_forced said (inl well) = (forced_files files, ap (λ (x : Machine). x.files) well.1 ∙ ap (option_map forced_files) told)
  told_forced said (inr badly) = (files, ap (λ (x : Machine). x.files) badly.1.stops ∙ told)

  told_more : FlushesMore m outcome new → IsTold new
  told_more (none, inl (page, oldest, due, quiet, well)) = (files, ap (λ (x : Machine). x.files) well.leaves ∙ told)
  told_more (none, inr (inl (old, due, quiet, turns))) = (files, ap (λ (x : Machine). x.files) turns.leaves ∙ told)
  told_more (none, inr (inr (calls, left, fails))) = (files, ap (λ (x : Machine). x.files) fails.stops ∙ told)

  told_works : Works m actor outcome new → IsTold new
  told_works (inl (by, way, so)) = told_stays (outcomes.Blocked by) so
  told_works (inr (inl (free, unready, inl (waits, force)))) = told_forced outcomes.Helped force
  told_works (inr (inl (free, unready, inr (none, rest)))) = ready_kind m outcome new (IsTold new) none told_more rest
  told_works (inr (inr (free, ready, inl acts))) = told_after _ acts.performs.files
  told_works (inr (inr (free, ready, inr (inl gives)))) = told_after _ gives.performs.files
  told_works (inr (inr (free, ready, inr (inr meets)))) = (files, ap (λ (x : Machine). x.files) meets.stops ∙ told)

  pub still_told : StepsTo m actor outcome new → IsTold new
  still_told step =
      each_kind m actor outcome new (IsTold new)
      (λ said quiet so. told_stays said so)
      (λ said quiet force. told_forced said force)
      told_more
      (λ deed outright performs. told_after deed.op performs.files)
      told_works
      step
