-- After a row an actor is of the kind that it was of, and has in hand what it had, or nothing.
use Rattle.hb_steps.proofs.Table.Names.{◌≡◌, ◌⊎◌, inl, inr, Option, refl, sym, ap, ◌∙◌, Wanted, Activity, Empty, HasJob, class_of, hand_of, HasLine, Deed, Machine, Row, Line, Job}
use Rattle.hb_steps.proofs.Table.MergerMoves.{StaysMerger}
use Rattle.hb_steps.proofs.Facts.EachRow.{each_row}

-- a hand with a line or a job isn't empty
pub no_line : (line : Line) → HasLine line ≡ Empty → ⊥
no_line line is = cc

pub no_job : (job : Job) → HasJob job ≡ Empty → ⊥
no_job job is = cc

pub record KeepsHand (activity : Activity) (deed : Deed) : Type 0 where
  pub kind : class_of deed.next ≡ class_of activity
  pub hand : (hand_of deed.next ≡ Empty) ⊎ (hand_of deed.next ≡ hand_of activity)

after_merging : (activity : Activity) (deed : Deed) → StaysMerger activity deed → KeepsHand activity deed
after_merging activity deed stays = record { kind = ap (λ (d : Deed). class_of d.next) stays.is ∙ stays.after.kind ∙ sym stays.before.kind; hand = by stays.after.hand }
  where
    by : (hand_of stays.next ≡ Empty) ⊎ (hand_of stays.next ≡ HasJob stays.job) → (hand_of deed.next ≡ Empty) ⊎ (hand_of deed.next ≡ hand_of activity)
    by (inl empty) = inl (ap (λ (d : Deed). hand_of d.next) stays.is ∙ empty)
    by (inr works) = inr (ap (λ (d : Deed). hand_of d.next) stays.is ∙ works ∙ sym stays.before.hand)

pub hand_after : (now : Machine) (activity : Activity) (wanted : Option Wanted) (deed : Deed) → Row activity wanted now deed → KeepsHand activity deed
hand_after now activity wanted deed row = each_row now KeepsHand activity wanted deed
    (record {
      full = λ line held none. record { kind = refl; hand = inl refl };
      splits = λ line held page live leaves. record { kind = refl; hand = inr refl };
      puts = λ line source fresh rec command half either page live. record { kind = refl; hand = inl refl };
    })
    (λ its page wants hand. record {
      passes = λ line held rest found p goal leaf row. record { kind = refl; hand = inr refl };
      only_replies = λ line held rest found reply alone. record { kind = refl; hand = inl refl };
      inserts = λ line held rest found rec command absent room. record { kind = refl; hand = inl refl };
      lacks_room = λ line held rest found rec command level absent full. record { kind = refl; hand = inr refl };
      deletes = λ line held rest found p there command stands. record { kind = refl; hand = inl refl };
      searches = λ line held rest found area others more row. record { kind = refl; hand = inr refl };
      grows = λ job fresh free_after may free next. record { kind = refl; hand = inl refl };
      ends = λ activity job kind hand. record { kind = sym kind; hand = inl refl };
      arrives = λ job held child area level leaf. record { kind = refl; hand = inr refl };
      walks = λ job held leaf farther row. record { kind = refl; hand = inr refl };
      looks = λ job parent. record { kind = refl; hand = inr refl };
      promotes = λ job parent. record { kind = refl; hand = inr refl };
      posts = λ job parent above path inner area live plan. record { kind = refl; hand = inl refl };
      parts = λ job parent above live plan leaves. record { kind = refl; hand = inl refl };
      walks_to_merge = λ job held leaf farther row. record { kind = refl; hand = inr refl };
      merges = λ activity deed kind row stays. after_merging activity deed stays;
      merges_two = λ job parent keep gone pair. record { kind = refl; hand = inl refl };
    }) row
