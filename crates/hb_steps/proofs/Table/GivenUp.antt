-- What a line or a job that can't go on comes to, by what the actor has in hand; and how an actor stands with nothing in hand.
use Rattle.hb_steps.proofs.Table.Names.{◌≡◌, [], None, refl, Line, DropWhy, Job, Activity, Class, Sessions, Posters, Consolidators, Flushers, Hand, Empty, HasLine, HasJob, class_of, hand_of, idle_of, Deed, answers_now, moves_to, walk_held, gives_up, reply_for, merging_at, latches_held, StoreState}
use Rattle.hb_steps.specs.GivingUp.{drops_job, gives_up_hand}

-- with nothing in hand
pub idle_hand : (kind : Class) → hand_of (idle_of kind) ≡ Empty
idle_hand Sessions = refl
idle_hand Posters = refl
idle_hand Consolidators = refl
idle_hand Flushers = refl

pub idle_walks : (kind : Class) → walk_held (idle_of kind) ≡ None
idle_walks Sessions = refl
idle_walks Posters = refl
idle_walks Consolidators = refl
idle_walks Flushers = refl

pub idle_latches : (kind : Class) (st : StoreState) → latches_held st (idle_of kind) ≡ []
idle_latches Sessions st = refl
idle_latches Posters st = refl
idle_latches Consolidators st = refl
idle_latches Flushers st = refl

pub idle_merging : (kind : Class) → merging_at (idle_of kind) ≡ None
idle_merging Sessions = refl
idle_merging Posters = refl
idle_merging Consolidators = refl
idle_merging Flushers = refl

-- what is given up
pub given_up_is : (P : Deed → Type 0) (why : DropWhy) (activity : Activity) → ((line : Line) → hand_of activity ≡ HasLine line → P (answers_now line.number (reply_for why)))
    → ((job : Job) → hand_of activity ≡ HasJob job → P (drops_job why (idle_of (class_of activity)))) → (hand_of activity ≡ Empty → P (moves_to (idle_of (class_of activity)) [])) → P (gives_up why activity)
given_up_is P why activity answers drops nothing = by (hand_of activity) refl
  where
    by : (hand : Hand) → hand_of activity ≡ hand → P (gives_up_hand why (idle_of (class_of activity)) hand)
    by Empty is = nothing is
    by (HasLine line) is = answers line is
    by (HasJob job) is = drops job is
