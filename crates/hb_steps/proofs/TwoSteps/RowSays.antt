-- What a row says: that its actor moved on, but where a session's page is to be split and no page is free.
use Rattle.hb_steps.proofs.TwoSteps.Names.{◌≡◌, inl, inr, ℕ, Option, Some, None, refl, sym, ap, ◌∙◌, arith, subst, Meta, Line, Wanted, Activity, Deed, Machine, with_disk, sight, Row, RowAlone, RowAt, StoreState}
use Rattle.hb_activity.specs.Deeds.{GoesOn}
use Rattle.hb_point.specs.SplitRows.{SplitsOrFull}
use Rattle.hb_steps.proofs.Table.RowFates.{RowSaying, saying_of}
use Rattle.hb_steps.proofs.Facts.EachRow.{each_alone}

-- at a page that was latched a row says that its actor moved on
at_moves : (m : Machine) (activity : Activity) (its : Wanted) (deed : Deed) → Row activity (Some its) m deed → deed.says ≡ GoesOn
at_moves m activity its deed row = by (saying_of m activity (Some its) deed row)
  where
    by : RowSaying m activity deed → deed.says ≡ GoesOn
    by (inl quiet) = quiet.says
    by (inr full) = absurd (subst (λ (a : Activity). RowAt a (sight m) its.page row.0 deed) full.stands row.2)

module _ (m : Machine) (first second : StoreState) (one : first.meta ≡ m.store.meta) (two : second.meta ≡ m.store.meta) where
  abbrev m1 : Machine
  m1 = with_disk first m.files m.clock m

  abbrev m2 : Machine
  m2 = with_disk second m.files m.clock m

  -- a split says the same over both
  split_says : (line : Line) (held : ℕ) (d e : Deed) → SplitsOrFull (sight m1) line held d → SplitsOrFull (sight m2) line held e → d.says ≡ e.says
  split_says line held d e (inl a) (inl b) = ap (λ (d : Deed). d.says) (a.deed_is ∙ sym b.deed_is)
  split_says line held d e (inr a) (inr b) = ap (λ (d : Deed). d.says) a.deed_is ∙ sym (ap (λ (d : Deed). d.says) b.deed_is)
  split_says line held d e (inl a) (inr b) = absurd (omega (arith, a.none_free, b.leaves.free, ap (λ (x : Meta). x.live) (one ∙ sym two), ap (λ (x : Meta). x.pages) (one ∙ sym two)))
  split_says line held d e (inr a) (inl b) = absurd (omega (arith, b.none_free, a.leaves.free, ap (λ (x : Meta). x.live) (one ∙ sym two), ap (λ (x : Meta). x.pages) (one ∙ sym two)))

  -- what the other row says, by the activity of the one
  abbrev SaysAs : Activity → Deed → Type 0
  SaysAs activity d = (e : Deed) → RowAlone activity (sight m2) e → d.says ≡ e.says

  alone_says : (activity : Activity) (d e : Deed) → RowAlone activity (sight m1) d → RowAlone activity (sight m2) e → d.says ≡ e.says
  alone_says activity d e a b = each_alone (sight m1) SaysAs (record {
    full = λ line held none e b. split_says line held _ e (inl (record { none_free = none; deed_is = refl })) b;
    splits = λ line held page live leaves e b. split_says line held _ e (inr (record { page = page; live = live; leaves = leaves; deed_is = refl })) b;
    puts = λ line source fresh rec command half either page live e b. sym (ap (λ (d : Deed). d.says) b.deed_is);
  }) activity d a e b

  pub rows_say_the_same : (activity : Activity) (wanted : Option Wanted) (d e : Deed) → Row activity wanted m1 d → Row activity wanted m2 e → d.says ≡ e.says
  rows_say_the_same activity None d e a b = alone_says activity d e a b
  rows_say_the_same activity (Some wanted) d e a b = at_moves m1 activity wanted d a ∙ sym (at_moves m2 activity wanted e b)
