-- What becomes of the line that an actor has in hand: it stays in hand, takes effect, or is answered outside the order.
use Rattle.hb_steps.proofs.Table.Names.{◌≡◌, ◌⊎◌, inl, inr, length, Option, Some, None, refl, ◌∙◌, sym, subst, ap, LivePage, Command, Insert, Delete, Lookup, Search, Reply, Line, Wanted, Activity, DropWhy, line_in_hand, Class, Consolidators, Flushers, Posters, Sessions, class_of, idle_of, line_of, Deed, answers_now, gives_up, reply_for, StandsOutside, Machine, with_disk, outcome_of, Row, StoreState, IsMergingOf, IsPostingOf, TakesJob, TakesMerging}
use Rattle.hb_set.specs.declared.commands.Reply.TheVariants as replies
use Rattle.hb_activity.specs.declared.activities.Activity.TheVariants as at
use Rattle.hb_activity.specs.declared.dropping.DropWhy.TheVariants as drops
use Rattle.hb_activity.specs.Deeds.{Answers}
use Rattle.hb_steps.proofs.Table.GivenUp.{idle_hand, given_up_is}
use Rattle.hb_steps.proofs.Facts.StepKinds.{IsQuiet}
pub use Rattle.hb_steps.proofs.Table.MergerMoves.{Waits}
use Rattle.hb_steps.proofs.Table.MergerMoves.{StaysMerger, no_line}
use Rattle.hb_steps.proofs.Facts.EachRow.{OnlyReplies, each_row}

-- The line stays in hand, and nothing joins the order or is answered.
pub record GoesOn (activity : Activity) (deed : Deed) : Type 0 where
  pub joins : deed.joins ≡ None
  pub quiet : IsQuiet (outcome_of deed.says)
  pub hand : line_in_hand deed.next ≡ line_in_hand activity
  pub awaits : Waits deed.next → ⊥

-- It takes effect: it joins the order, and its reply is kept for it at this place.
pub record TakesEffect (m : Machine) (activity : Activity) (deed : Deed) : Type 0 where
  pub line : Line
  pub reply : Reply
  pub hand : line_in_hand activity ≡ Some line
  pub joins : deed.joins ≡ Some (record { line = line; reply = reply })
  pub next : deed.next ≡ at.SessionAwait line.number reply (length m.order)
  -- a reply of the order
  pub inside : ¬ (StandsOutside reply)
  pub quiet : IsQuiet (outcome_of deed.says)

-- It is answered outside the order.
pub record IsGivenUp (activity : Activity) (deed : Deed) : Type 0 where
  pub line : Line
  pub reply : Reply
  pub hand : line_in_hand activity ≡ Some line
  pub outside : StandsOutside reply
  pub joins : deed.joins ≡ None
  pub next : deed.next ≡ at.SessionIdle
  pub says : deed.says ≡ Answers line.number reply

abbrev pub LineFate : Machine → Activity → Deed → Type 0
LineFate m activity deed = GoesOn activity deed ⊎ TakesEffect m activity deed ⊎ IsGivenUp activity deed

module _ (m : Machine) where
  fate_of : (activity : Activity) (deed other : Deed) → deed ≡ other → LineFate m activity other → LineFate m activity deed
  fate_of activity deed other is fate = subst (LineFate m activity) (sym is) fate

  goes : (activity : Activity) (deed : Deed) → deed.joins ≡ None → IsQuiet (outcome_of deed.says) → line_in_hand deed.next ≡ line_in_hand activity → (Waits deed.next → ⊥) → LineFate m activity deed
  goes activity deed joins quiet hand awaits = inl (record { joins = joins; quiet = quiet; hand = hand; awaits = awaits })

  effect : (activity : Activity) (line : Line) (reply : Reply) (deed : Deed) → line_in_hand activity ≡ Some line → deed.joins ≡ Some (record { line = line; reply = reply }) → deed.next ≡ at.SessionAwait line.number reply (length m.order) → IsQuiet (outcome_of deed.says) → ¬ (StandsOutside reply) → LineFate m activity deed
  effect activity line reply deed hand joins next quiet inside = inr (inl (record { line = line; reply = reply; hand = hand; joins = joins; next = next; inside = inside; quiet = quiet }))

  given : (activity : Activity) (line : Line) (reply : Reply) → line_in_hand activity ≡ Some line → StandsOutside reply → LineFate m activity (answers_now line.number reply)
  given activity line reply hand outside = inr (inr (record { line = line; reply = reply; hand = hand; outside = outside; joins = refl; next = refl; says = refl }))

-- ---- what can't go on

idle_line : (activity : Activity) → line_in_hand (idle_of (class_of activity)) ≡ None
idle_line activity = ap line_of (idle_hand (class_of activity))

idle_awaits : (kind : Class) → Waits (idle_of kind) → ⊥
idle_awaits Sessions never = never
idle_awaits Posters never = never
idle_awaits Consolidators never = never
idle_awaits Flushers never = never

pub outside_for : (why : DropWhy) → StandsOutside (reply_for why)
outside_for drops.NoMemory = tt
outside_for drops.ReadFault = tt

pub fate_given_up : (m : Machine) (why : DropWhy) (activity : Activity) → LineFate m activity (gives_up why activity)
fate_given_up m why activity =
    given_up_is (LineFate m activity) why activity
    (λ line is. given m activity line (reply_for why) (ap line_of is) (outside_for why))
    (λ job is. goes m activity _ refl (λ at. refl) (idle_line activity ∙ sym (ap line_of is)) (idle_awaits (class_of activity)))
    (λ is. goes m activity _ refl (λ at. refl) (idle_line activity ∙ sym (ap line_of is)) (idle_awaits (class_of activity)))

-- so it joins no order
pub given_up_joins_nothing : (why : DropWhy) (activity : Activity) → (gives_up why activity).joins ≡ None
given_up_joins_nothing why activity = given_up_is (λ deed. deed.joins ≡ None) why activity (λ line is. refl) (λ job is. refl) (λ is. refl)

-- ---- the rows

-- a reply alone is one of the order
only_replies_inside : (command : Command) (page : LivePage) (reply : Reply) → OnlyReplies command page reply → ¬ (StandsOutside reply)
only_replies_inside (Insert rec) page reply (twin, there, is) outside = subst StandsOutside is outside
only_replies_inside (Delete p) page reply (absent, is) outside = subst StandsOutside is outside
only_replies_inside (Lookup p) page reply (inl (found, there, is)) outside = subst StandsOutside is outside
only_replies_inside (Lookup p) page reply (inr (absent, is)) outside = subst StandsOutside is outside
only_replies_inside (Search area) page reply (ordered, is) outside = subst StandsOutside is outside

module _ (m : Machine) (fetched : StoreState) where
  stays_in_hand : (activity : Activity) (deed : Deed) → StaysMerger activity deed → LineFate m activity deed
  stays_in_hand activity deed stays =
      fate_of m activity deed _ stays.is (goes m activity _ refl (λ at. refl) (no_line stays.next stays.job stays.after ∙ sym (ap line_of stays.before.hand)) stays.after.awaits)

  pub fate_row : (activity : Activity) (wanted : Option Wanted) (deed : Deed) → Row activity wanted (with_disk fetched m.files m.clock m) deed → LineFate m activity deed
  fate_row activity wanted deed row = each_row (with_disk fetched m.files m.clock m) (LineFate m) activity wanted deed
      (record {
        full = λ line held none. given m _ line replies.Full refl tt;
        splits = λ line held page live leaves. goes m _ _ refl (λ at. refl) refl (λ never. never);
        puts = λ line source fresh rec command half either page live. effect m _ line replies.Done _ refl refl refl (λ at. refl) (λ never. never);
      })
      (λ its page wants hand. record {
        passes = λ line held rest found p goal leaf row. goes m _ _ refl (λ at. refl) refl (λ never. never);
        only_replies = λ line held rest found reply alone. effect m _ line reply _ refl refl refl (λ at. refl) (only_replies_inside line.command page reply alone);
        inserts = λ line held rest found rec command absent room. effect m _ line replies.Done _ refl refl refl (λ at. refl) (λ never. never);
        lacks_room = λ line held rest found rec command level absent full. goes m _ _ refl (λ at. refl) refl (λ never. never);
        deletes = λ line held rest found p there command stands. effect m _ line replies.Done _ refl refl refl (λ at. refl) (λ never. never);
        searches = λ line held rest found area others more row. goes m _ _ refl (λ at. refl) refl (λ never. never);
        grows = λ job fresh free_after may free next. goes m _ _ refl (λ at. refl) refl (λ never. never);
        ends = λ activity job kind hand. goes m activity _ refl (λ at. refl) (sym (ap line_of hand)) (λ never. never);
        arrives = λ job held child area level leaf. goes m _ _ refl (λ at. refl) refl (λ never. never);
        walks = λ job held leaf farther row. goes m _ _ refl (λ at. refl) refl (λ never. never);
        looks = λ job parent. goes m _ _ refl (λ at. refl) refl (λ never. never);
        promotes = λ job parent. goes m _ _ refl (λ at. refl) refl (λ never. never);
        posts = λ job parent above path inner area live plan. goes m _ _ refl (λ at. refl) refl (λ never. never);
        parts = λ job parent above live plan leaves. goes m _ _ refl (λ at. refl) refl (λ never. never);
        walks_to_merge = λ job held leaf farther row. goes m _ _ refl (λ at. refl) refl (λ never. never);
        merges = λ activity deed kind row stays. stays_in_hand activity deed stays;
        merges_two = λ job parent keep gone pair. goes m _ _ refl (λ at. refl) refl (λ never. never);
      }) row

-- ---- who waits for no place afterwards

pub idle_never : (deed : Deed) → deed.next ≡ at.SessionIdle → Waits deed.next → ⊥
idle_never deed is waits = subst Waits is waits

pub post_waits_never : (m : Machine) (deed : Deed) → TakesJob m deed → Waits deed.next → ⊥
post_waits_never m deed takes waits = by takes.next takes.posting (subst (λ (d : Deed). Waits d.next) takes.deed_is waits)
  where
    by : (next : Activity) → IsPostingOf takes.job m.store.meta.height next → Waits next → ⊥
    by next (inl (above, is)) waits = subst Waits is waits
    by next (inr (inl (same, is))) waits = subst Waits is waits
    by next (inr (inr (below, is))) waits = subst Waits is waits

pub merge_waits_never : (m : Machine) (deed : Deed) → TakesMerging m deed → Waits deed.next → ⊥
merge_waits_never m deed takes waits = by takes.next takes.merging (subst (λ (d : Deed). Waits d.next) takes.deed_is waits)
  where
    by : (next : Activity) → IsMergingOf takes.job m.store.meta.height next → Waits next → ⊥
    by next (inl (above, is)) waits = subst Waits is waits
    by next (inr (below, is)) waits = subst Waits is waits
