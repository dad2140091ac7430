-- A line is answered once its place in the order is settled, or outside of the order.
use Rattle.hb_steps.proofs.Orders.Names.{◌≡◌, inl, inr, ℕ, sym, subst, Activity, Outcome, Deed, Says, IsAnsweredInPlace, Machine, with_disk, outcome_of, wanted_by}
use Rattle.hb_activity.specs.declared.dropping.DropWhy.{DropWhy}
use Rattle.hb_steps.specs.declared.outcomes.Outcome.TheVariants as outcomes
use Rattle.hb_steps.proofs.Table.GivenUp.{given_up_is}
use Rattle.hb_steps.specs.GivingUp.{gives_up}
use Rattle.hb_steps.specs.KeepingLaws.{AnswersAreInPlace}
use Rattle.hb_steps.proofs.Table.StepSays.{each_saying}
use Rattle.hb_steps.proofs.Facts.StepKinds.{IsPlain}
use Rattle.hb_steps.proofs.Table.RowFates.{RowSaying, saying_of}
use Rattle.hb_steps.proofs.Table.LineFates.{outside_for}

module _ (m : Machine) (actor : ℕ) where
  abbrev InPlace : Outcome → Type 0
  InPlace outcome = IsAnsweredInPlace m actor outcome

  -- what a deed comes to says so
  abbrev SaysInPlace : Deed → Type 0
  SaysInPlace deed = InPlace (outcome_of deed.says)

  by_row : (n : Machine) (deed : Deed) → RowSaying n (m.activity actor) deed → SaysInPlace deed
  by_row n deed (inl quiet) = subst (λ (s : Says). InPlace (outcome_of s)) (sym quiet.says) tt
  by_row n deed (inr full) = subst SaysInPlace (sym full.deed_is) (inl tt)

  -- ---- what can't go on

  given_up : (why : DropWhy) (activity : Activity) → SaysInPlace (gives_up why activity)
  given_up why activity = given_up_is SaysInPlace why activity (λ line is. inl (outside_for why)) (λ job is. tt) (λ is. tt)

  -- ---- each step

  plainly : (said : Outcome) → IsPlain said → InPlace said
  plainly (outcomes.Stopped why) plain = tt
  plainly outcomes.Idle plain = tt
  plainly (outcomes.Blocked by) plain = tt
  plainly outcomes.Helped plain = tt
  plainly (outcomes.Answered number reply) plain = absurd plain
  plainly (outcomes.Dropped why) plain = absurd plain
  plainly outcomes.Moved plain = tt

pub answers_are_in_place : AnswersAreInPlace
answers_are_in_place m actor outcome new step = each_saying m actor outcome new (IsAnsweredInPlace m actor outcome) (record {
  plain = λ plain keeps. plainly m actor outcome plain;
  takes = λ line idle next performs. said performs.says tt;
  refuses = λ line idle next boxes performs. said performs.says (inl tt);
  posts = λ deed idle takes performs. said performs.says (subst (SaysInPlace m actor) (sym takes.deed_is) tt);
  merges = λ deed idle takes performs. said performs.says (subst (SaysInPlace m actor) (sym takes.deed_is) tt);
  settles = λ number place reply is settled performs. said performs.says (inr (place, is, settled));
  does = λ acts. said acts.performs.says (by_row m actor _ acts.deed (saying_of (with_disk acts.fetched m.files m.clock m) (m.activity actor) (wanted_by m actor) acts.deed acts.row));
  gives = λ gives. said gives.performs.says (given_up m actor gives.why (m.activity actor));
}) step
  where
    said : {due : Outcome} → outcome ≡ due → IsAnsweredInPlace m actor due → IsAnsweredInPlace m actor outcome
    said is in_place = subst (IsAnsweredInPlace m actor) (sym is) in_place
