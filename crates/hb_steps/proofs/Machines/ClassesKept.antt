-- After a step each actor is of the kind of its number.
use Rattle.hb_steps.proofs.Machines.Names.{◌≡◌, inl, inr, ℕ, sym, ap, ◌∙◌, Activity, Outcome, Consolidators, Posters, class_of, Deed, IsMergingOf, each_again, each_deed, hand_after, class_for, MachineKeeps, Machine, Performs, StepsTo, TakesJob, TakesMerging, IsActor, IsPostingOf, StoreState}
use Rattle.hb_steps.specs.KeptFits.{HaveClasses}

-- a poster that takes a job is one still, and so is a consolidator
posting_kind : (m : Machine) (deed : Deed) → TakesJob m deed → class_of deed.next ≡ Posters
posting_kind m deed takes = ap (λ (d : Deed). class_of d.next) takes.deed_is ∙ by takes.next takes.posting
  where
    by : (next : Activity) → IsPostingOf takes.job m.store.meta.height next → class_of next ≡ Posters
    by next (inl (above, is)) = ap class_of is
    by next (inr (inl (same, is))) = ap class_of is
    by next (inr (inr (below, is))) = ap class_of is

merging_kind : (m : Machine) (deed : Deed) → TakesMerging m deed → class_of deed.next ≡ Consolidators
merging_kind m deed takes = ap (λ (d : Deed). class_of d.next) takes.deed_is ∙ by takes.next takes.merging
  where
    by : (next : Activity) → IsMergingOf takes.job m.store.meta.height next → class_of next ≡ Consolidators
    by next (inl (above, is)) = ap class_of is
    by next (inr (below, is)) = ap class_of is

module _ (m : Machine) (actor : ℕ) (outcome : Outcome) (new : Machine) (classes : HaveClasses m) where
  performed : (fetched : StoreState) (deed : Deed) → Performs m fetched actor deed outcome new → class_of deed.next ≡ class_of (m.activity actor) → HaveClasses new
  performed fetched deed performs kind =
      each_again (λ (other : ℕ) (activity : Activity). class_of activity ≡ class_for other) m.activity new.activity actor deed.next performs.activity (kind ∙ classes actor) (λ other another. classes other)

pub classes_stay : (m : Machine) (actor : ℕ) (outcome : Outcome) (new : Machine) → IsActor actor → MachineKeeps m → StepsTo m actor outcome new → HaveClasses new
classes_stay m actor outcome new may kept step = each_deed m actor outcome new (HaveClasses new) (record {
  keeps = λ keeps meta other. ap (λ (all : ℕ → Activity). class_of (all other)) keeps.activity ∙ kept.classes other;
  takes = λ line idle next performs. performed m actor outcome new kept.classes m.store _ performs (sym (ap class_of idle));
  posts = λ deed idle takes performs. performed m actor outcome new kept.classes m.store deed performs (posting_kind m deed takes ∙ sym (ap class_of idle));
  merges = λ deed idle takes performs. performed m actor outcome new kept.classes m.store deed performs (merging_kind m deed takes ∙ sym (ap class_of idle));
  acts = λ acts. performed m actor outcome new kept.classes acts.fetched acts.deed acts.performs (hand_after _ (m.activity actor) _ acts.deed acts.row).kind;
  ends = λ fetched deed same ends performs. performed m actor outcome new kept.classes fetched deed performs ends.kind;
}) step
