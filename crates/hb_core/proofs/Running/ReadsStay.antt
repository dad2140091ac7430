-- The pages that the operation of a row reads stay: the actor has latched them, or it is the wanted page, which is pinned for the step.
use Rattle.hb_core.proofs.Running.Names.{◌≡◌, ◌⊎◌, inl, inr, ℕ, ◌==◌, ◌||◌, Bool, false, cond, Option, Some, None, IsTrue, refl, sym, ap, subst, ◌∙◌, arith, is_some, cases_Bool, eqb-true, false≢true, DiskModel, Wanted, Activity, Deed, Mode, Exclusive, at_itself, Op, IsActor, StaysHere, PinsMore, pinned_more, each_op, each_row, wanted_by, MustStay, Machine, sight, latches_held, mode_among, Row, RunningCore, page_wanted, HasPages, with_memory, StoreState}
use Rattle.hb_activity.specs.declared.activities.Activity.TheVariants as at
use Rattle.hb_ops.specs.Operations.{reads_of}
use Rattle.hb_store.specs.Replay.{is_among}
use Rattle.hb_steps.proofs.Files.PairAtHand.{decides_page}
use Rattle.hb_steps.proofs.Memory.OwnedOps.{second_mode}
use Rattle.hb_core.proofs.Running.Frames.{must_here, wanted_here}

module _ (m : Machine) (d : DiskModel) (c : RunningCore) (actor : ℕ) (free : Option (ℕ × ℕ)) (may : IsActor actor) (has : HasPages m actor free d c) where
  -- what is pinned then
  pub pinned_so : PinsMore (page_wanted (wanted_by m actor)) m.uses c.uses
  pinned_so = pinned_more (is_some free) m.store.meta (wanted_by m actor) m.uses c.uses has.uses has.may.goes_on.kept.frames_fit.tied.pool.distinct

  pub must_stays : (id : ℕ) → MustStay m id → StaysHere c.uses id
  must_stays = must_here m c.store c.uses has.may.goes_on.kept (ap (λ (s : StoreState). s.dirty) has.brings.rest) has.tied (λ q. let more = pinned_so.pins q in omega (arith, more))

  pub held_stays : (id : ℕ) (mode : Mode) → mode_among id (latches_held m.store (m.activity actor)) ≡ Some mode → StaysHere c.uses id
  held_stays id mode is =
      must_here m c.store c.uses has.may.goes_on.kept (ap (λ (s : StoreState). s.dirty) has.brings.rest) has.tied (λ q. let more = pinned_so.pins q in omega (arith, more)) id
      (inl (actor, mode, is))

  abbrev ReadsStay : Option Op → Type 0
  ReadsStay None = Unit {0}
  ReadsStay (Some op) = (id : ℕ) → IsTrue (is_among id (reads_of op)) → StaysHere c.uses id

  abbrev Shown : Activity → Option Op → Type 0
  Shown activity op = m.activity actor ≡ activity → ReadsStay op

  -- one page that is read
  one : (page id : ℕ) → StaysHere c.uses page → IsTrue ((id == page) || false) → StaysHere c.uses id
  one page id stays among = elim (cases_Bool (id == page)) [
    | inl same ↦ subst (StaysHere c.uses) (sym (eqb-true id page same)) stays
    | inr off ↦ absurd (false≢true (sym (ap (λ (b : Bool). b || false) off) ∙ among))
  ]

  more : (page id : ℕ) (rest : Bool) → StaysHere c.uses page → (IsTrue rest → StaysHere c.uses id) → IsTrue ((id == page) || rest) → StaysHere c.uses id
  more page id rest stays others among = elim (cases_Bool (id == page)) [
    | inl same ↦ subst (StaysHere c.uses) (sym (eqb-true id page same)) stays
    | inr off ↦ others (sym (ap (λ (b : Bool). b || rest) off) ∙ among)
  ]

  own : (activity : Activity) (page : ℕ) → m.activity actor ≡ activity → mode_among page (latches_held m.store activity) ≡ Some Exclusive → StaysHere c.uses page
  own activity page is mode = held_stays page Exclusive (ap (λ (a : Activity). mode_among page (latches_held m.store a)) is ∙ mode)

  half_stays : (activity : Activity) (source fresh half : ℕ) → m.activity actor ≡ activity → latches_held m.store activity ≡ latches_held m.store activity → (half ≡ source) ⊎ (half ≡ fresh)
      → mode_among source (latches_held m.store activity) ≡ Some Exclusive → mode_among fresh (latches_held m.store activity) ≡ Some Exclusive → StaysHere c.uses half
  half_stays activity source fresh half is _ (inl same) first second = subst (StaysHere c.uses) (sym same) (own activity source is first)
  half_stays activity source fresh half is _ (inr same) first second = subst (StaysHere c.uses) (sym same) (own activity fresh is second)

  pub reads_stay : (deed : Deed) → Row (m.activity actor) (wanted_by m actor) (with_memory c m) deed → ReadsStay deed.op
  reads_stay deed row = by (wanted_by m actor) refl row
    where
      by : (wants : Option Wanted) → wanted_by m actor ≡ wants → Row (m.activity actor) wants (with_memory c m) deed → ReadsStay deed.op
      by wants wanted row = each_row (with_memory c m) (λ activity deed. Shown activity deed.op) (m.activity actor) wants deed
          (record {
            full = λ line held none is. tt;
            splits = λ line held page live leaves is id. one held id (own (at.SessionSplit line held) held is (at_itself held (Some Exclusive) None));
            puts = λ line source fresh rec command half either page live is id. one half id
                (half_stays (at.SessionPut line source fresh) source fresh half is refl either (at_itself source (Some Exclusive) (cond (fresh == source) (Some Exclusive) None)) (second_mode source fresh Exclusive));
          })
          (λ its page at_hand hand. each_op (sight (with_memory c m)) its.page page Shown (record {
            none = λ activity is. tt;
            inserts = λ line held rest found rec command absent room is id. one its.page id (wanted_here (wanted_by m actor) m.uses c.uses pinned_so its (wanted ∙ at_hand));
            deletes = λ line held rest found p there command stands is id. one its.page id (wanted_here (wanted_by m actor) m.uses c.uses pinned_so its (wanted ∙ at_hand));
            grows = λ job fresh free_after may free next is id among. absurd (false≢true among);
            posts = λ job parent above path inner area live plan is id. one parent id (own (at.PosterAgain job parent) parent is (at_itself parent (Some Exclusive) None));
            parts = λ job parent above live plan leaves is id. one parent id (own (at.PosterAgain job parent) parent is (at_itself parent (Some Exclusive) None));
            merges = λ job parent keep gone pair is id among.
                let named = decides_page m actor job parent keep gone its is (wanted ∙ at_hand) in
                more parent id _ (own (at.ConsolidatorDecide job parent keep gone) parent is (at_itself parent (Some Exclusive) (cond (keep == parent) (Some Exclusive) None)))
                (more keep id _ (own (at.ConsolidatorDecide job parent keep gone) keep is (second_mode parent keep Exclusive))
                (one gone id (subst (StaysHere c.uses) named.0 (wanted_here (wanted_by m actor) m.uses c.uses pinned_so its (wanted ∙ at_hand))))) among;
          }))
          row refl

  -- so they do of its operation
  pub reads_of_op : (deed : Deed) → Row (m.activity actor) (wanted_by m actor) (with_memory c m) deed → (op : Op) → deed.op ≡ Some op → (id : ℕ) → IsTrue (is_among id (reads_of op)) → StaysHere c.uses id
  reads_of_op deed row op is = subst ReadsStay is (reads_stay deed row)
