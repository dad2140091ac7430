-- After a step every page in memory is one of the file and good, and what the file says of itself is within its limits.
use Rattle.hb_steps.proofs.Memory.Names.{◌≡◌, ◌⊎◌, inl, inr, ℕ, ◌<◌, ◌≤◌, Option, Some, None, refl, sym, ap, subst, arith, Page, Meta, Op, Outcome, Deed, does, gives_up_nothing, each_kind, FlushesMore, ready_kind, MeetsBadPage, wanted_by, Brings, BeginsTurn, FailsToWrite, ForcesAll, StaysSo, WritesOldest, HoldsPagesOfFile, LatchesFit, Machine, MayDo, Performs, StepsTo, Works, IsAllowedHere, change_here, StoreState, in_memory, IsActor}
use Rattle.std.proofs.Common.{◌^◌}
use Rattle.hb_steps.specs.declared.outcomes.Outcome.TheVariants as outcomes
use Rattle.hb_steps.proofs.Files.FitOps.{HeldArePoints, fits_op}
use Rattle.hb_steps.proofs.Files.RowTells.{Tells, boxes_told, tells_row, tells_none}
use Rattle.hb_steps.specs.AllowedLaws.{IsLicensedHere}
use Rattle.hb_steps.specs.FileLaws.{MetaStaysWithinLimits, PagesStayOfFile}
use Rattle.hb_steps.specs.KeptLines.{LinesFit, MetaWithinLimits}
use Rattle.hb_store.specs.Making.{IsGoodChange, OperationLaws}
use Rattle.hb_store.specs.Replaying.{HasLimits}
use Rattle.hb_store.specs.States.{AreGood, IsGoodPage}
use Rattle.hb_ops.proofs.Facts.SetPages.{all_set}

-- What a store keeps of its pages and of what its file says of itself.
pub record KeepsPages (st : StoreState) : Type 0 where
  pub limits : HasLimits st.meta
  pub high : st.meta.high ≤ st.meta.pages
  pub live : st.meta.live ≤ st.meta.pages
  pub free : st.meta.free < 2 ^ 32
  pub framed : AreGood st.meta (in_memory st)

pub keeps_pages : (m : Machine) → MetaWithinLimits m → HoldsPagesOfFile m → KeepsPages m.store
keeps_pages m within inside = record { limits = record { layout = within.layout; root_fits = within.root; free_fits = within.free }; high = within.high; live = within.live; free = within.free; framed = inside }

pub pages_kept : (m : Machine) → KeepsPages m.store → HoldsPagesOfFile m
pages_kept m keeps = keeps.framed

pub meta_kept : (m : Machine) → KeepsPages m.store → MetaWithinLimits m
meta_kept m keeps = record { layout = keeps.limits.layout; high = keeps.high; live = keeps.live; root = keeps.limits.root_fits; free = keeps.free }

-- what a fetch brings keeps it
pub brought : (m : Machine) (may : ℕ → Type 0) (fetched : StoreState) → Brings m may fetched → KeepsPages m.store → KeepsPages fetched
brought m may fetched brings keeps =
    let meta : m.store.meta ≡ fetched.meta = sym (ap (λ (s : StoreState). s.meta) brings.rest) in
    record {
      limits = subst HasLimits meta keeps.limits;
      high = subst (λ (meta : Meta). meta.high ≤ meta.pages) meta keeps.high;
      live = subst (λ (meta : Meta). meta.live ≤ meta.pages) meta keeps.live;
      free = subst (λ (meta : Meta). meta.free < 2 ^ 32) meta keeps.free;
      framed = λ id page there. subst (λ (meta : Meta). (1 ≤ id) × (id ≤ meta.high) × IsGoodPage meta page) meta (by id page (brings.good id page there));
    }
  where
    by : (id : ℕ) (page : Page) → (in_memory m.store id ≡ Some page) ⊎ ((1 ≤ id) × (id ≤ m.store.meta.high) × IsGoodPage m.store.meta page) → (1 ≤ id) × (id ≤ m.store.meta.high) × IsGoodPage m.store.meta page
    by id page (inl was) = keeps.framed id page was
    by id page (inr good) = good

-- so what an operation makes, where it may be done
module _ (laws : OperationLaws) (points : HeldArePoints) where
  pub change_is_well : (st : StoreState) (op : Op) → KeepsPages st → IsLicensedHere st op → IsAllowedHere st op → IsGoodChange st.meta (change_here st op)
  change_is_well st op keeps tells allowed =
      laws.changes (record { meta = st.meta; page = in_memory st }) op keeps.limits keeps.framed (fits_op points laws.fits st keeps.limits keeps.high keeps.framed op tells allowed) allowed (boxes_told st op tells)

  done : (op : Option Op) (mark : ℕ) (old new : StoreState) → KeepsPages old → Tells old op → MayDo op mark old new → KeepsPages new
  done None mark old new keeps tells same = subst KeepsPages (sym same) keeps
  done (Some op) mark old new keeps tells does =
      let change = change_here old op in
      let well = change_is_well old op keeps tells does.allowed in
      let after = well.after in
      let meta : change.meta ≡ new.meta = sym does.commits.meta in
      record {
        limits = subst HasLimits meta after.limits;
        high = subst (λ (meta : Meta). meta.high ≤ meta.pages) meta (after.high keeps.high);
        live = subst (λ (meta : Meta). meta.live ≤ meta.pages) meta (after.live keeps.live);
        free = subst (λ (meta : Meta). meta.free < 2 ^ 32) meta after.limits.free_fits;
        framed = λ id page there. subst (λ (meta : Meta). (1 ≤ id) × (id ≤ meta.high) × IsGoodPage meta page) meta
            (all_set (λ n p. (1 ≤ n) × (n ≤ change.meta.high) × IsGoodPage change.meta p) change.pages (in_memory old)
            (λ k d lt. let c = well.pages k d lt in (c.0.0, c.0.1, c.1))
            (λ n p is. let was = keeps.framed n p is in (was.0, omega (arith, was.1, after.rises), well.others p was.2))
            id page (laws.commits _ _ _ _ does.commits id page there));
      }

  module _ (m : Machine) (actor : ℕ) (outcome : Outcome) (new : Machine) (may : IsActor actor) (latches : LatchesFit m) (fit : LinesFit m) (keeps : KeepsPages m.store) where
    same_store : new.store ≡ m.store → KeepsPages new.store
    same_store is = subst KeepsPages (sym is) keeps

    stays : (said : Outcome) → StaysSo m said outcome new → KeepsPages new.store
    stays said (says, is) = same_store (ap (λ (n : Machine). n.store) is)

    -- so does a page that is written to its place, the next turn, and a write that fails
    flushes : {page : ℕ} {due : Outcome} → WritesOldest m page due outcome new → KeepsPages new.store
    flushes well = subst (λ (n : Machine). KeepsPages n.store) (sym well.leaves) (record { limits = keeps.limits; high = keeps.high; live = keeps.live; free = keeps.free; framed = keeps.framed })

    turned : {due : Outcome} → BeginsTurn m due outcome new → KeepsPages new.store
    turned turns = subst (λ (n : Machine). KeepsPages n.store) (sym turns.leaves) (record { limits = keeps.limits; high = keeps.high; live = keeps.live; free = keeps.free; framed = keeps.framed })

    fails_so : {most : ℕ} → FailsToWrite m most outcome new → KeepsPages new.store
    fails_so fails = subst (λ (n : Machine). KeepsPages n.store) (sym fails.stops) (record { limits = keeps.limits; high = keeps.high; live = keeps.live; free = keeps.free; framed = keeps.framed })

    flushed_more : FlushesMore m outcome new → KeepsPages new.store
    flushed_more (none, inl (page, oldest, due, quiet, well)) = flushes well
    flushed_more (none, inr (inl (old, due, quiet, turns))) = turned turns
    flushed_more (none, inr (inr (calls, left, fails))) = fails_so fails

    -- a force changes the log alone
    forces : (said : Outcome) → ForcesAll m said outcome new → KeepsPages new.store
    forces said (inl (says, is)) = subst (λ (n : Machine). KeepsPages n.store) (sym is) (record { limits = keeps.limits; high = keeps.high; live = keeps.live; free = keeps.free; framed = keeps.framed })
    forces said (inr badly) = fails_so badly.1

    meets : MeetsBadPage m actor outcome new → KeepsPages new.store
    meets bad = subst (λ (n : Machine). KeepsPages n.store) (sym bad.stops) (brought m _ bad.fetched bad.brings keeps)

    performed : (fetched : StoreState) (deed : Deed) → KeepsPages fetched → Tells fetched deed.op → Performs m fetched actor deed outcome new → KeepsPages new.store
    performed fetched deed keeps tells performs = done deed.op _ fetched new.store keeps tells performs.store

    worked : Works m actor outcome new → KeepsPages new.store
    worked (inl (by, way, so)) = stays (outcomes.Blocked by) so
    worked (inr (inl (free, unready, inl (waits, force)))) = forces outcomes.Helped force
    worked (inr (inl (free, unready, inr (none, rest)))) =
        ready_kind m outcome new (KeepsPages new.store) none flushed_more rest
    worked (inr (inr (free, ready, inl acts))) =
        performed acts.fetched acts.deed (brought m _ acts.fetched acts.brings keeps) (tells_row m actor _ acts.fetched acts.brings (inr (may, latches)) (wanted_by m actor) acts.deed refl (fit.in_hand actor) acts.row) acts.performs
    worked (inr (inr (free, ready, inr (inl gives)))) = performed gives.fetched _ (brought m _ gives.fetched gives.brings keeps) (tells_none gives.fetched _ (gives_up_nothing gives.why (m.activity actor))) gives.performs
    worked (inr (inr (free, ready, inr (inr bad)))) = meets bad

  pub pages_stay : (m : Machine) (actor : ℕ) (outcome : Outcome) (new : Machine) → IsActor actor → LatchesFit m → LinesFit m → KeepsPages m.store → StepsTo m actor outcome new → KeepsPages new.store
  pages_stay m actor outcome new may latches fit keeps step =
      each_kind m actor outcome new (KeepsPages new.store)
      (λ said quiet so. stays m actor outcome new may latches fit keeps said so)
      (λ said quiet force. forces m actor outcome new may latches fit keeps said force)
      (flushed_more m actor outcome new may latches fit keeps)
      (λ deed rests performs. performed m actor outcome new may latches fit keeps m.store deed keeps (tells_none m.store deed.op rests.op) performs)
      (worked m actor outcome new may latches fit keeps)
      step

  pub pages_stay_of_file : PagesStayOfFile
  pages_stay_of_file m actor outcome new may latches fit within inside step = pages_kept new (pages_stay m actor outcome new may latches fit (keeps_pages m within inside) step)

  pub meta_stays_within_limits : MetaStaysWithinLimits
  meta_stays_within_limits m actor outcome new may latches fit within inside step = meta_kept new (pages_stay m actor outcome new may latches fit (keeps_pages m within inside) step)
