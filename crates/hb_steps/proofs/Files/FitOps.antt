-- The operation of a row has its place in the log: its numbers, its point, its body and its box.
use Rattle.hb_steps.proofs.Files.Names.{◌≡◌, inl, inr, ℕ, ◌<◌, ◌≤◌, ◌==◌, List, length, Option, Some, None, IsSome, refl, sym, ◌∙◌, subst, arith, Contains, eqb-true, Record, Records, Sibling, LivePage, Page, Live, Free, Side, Meta, Op, IsLicensedHere, found_where_held, Placed, leaf_at, leaves_of, FitsOp, if_live, IsAllowedOn, Area, Holds, IsAllowedHere, read_here, PartsFitOnGoodPages, IsNext, StoreState, in_memory, planned_may_be, live_so}
use Rattle.std.proofs.Common.{◌^◌}
use Rattle.std.proofs.lemmas.Bool.{cases_Bool, eqb-false}
use Rattle.std.proofs.lemmas.List.Elements.{All-contains}
use Rattle.hb_ops.specs.declared.leaf_cuts.LeafCut.{LeafCut}
use Rattle.hb_ops.specs.declared.operations.Op.TheVariants as ops
use Rattle.hb_frag.proofs.Facts.Tiles.{first_tells, placed_all}
use Rattle.hb_space.specs.Boxes.{IsArea}
use Rattle.hb_space.specs.Points.{IsPoint}
use Rattle.hb_ops.proofs.Facts.MadeLeaves.{FitsIn, all_fit}
use Rattle.hb_store.specs.Replaying.{HasLimits}
use Rattle.hb_store.specs.States.{AreGood, IsGoodPage}

abbrev pub HeldArePoints : Type 0
HeldArePoints = (a : Area) (p : List ℕ) → IsArea a → Holds a p → IsPoint p

-- A page that is in memory and good, at a point that has a leaf there.
module _ (points : HeldArePoints) (meta : Meta) (page : LivePage) (good : IsGoodPage meta (Live page)) (p : List ℕ) (l : Placed) (there : leaf_at page p ≡ Some l) where
  box : IsArea page.area
  box = good.0.fits.1

  at_leaf : Contains (leaves_of page.frag page.area) l × Holds l.area p
  at_leaf = (first_tells page.frag page.area p l box good.1.well_cut).0 there

  held : Holds page.area p
  held = (found_where_held page.frag page.area p box good.1.well_cut).0 (subst (λ (o : Option Placed). IsSome o) (sym there) refl)

  pub as_many : length p ≡ meta.k
  as_many = held.same ∙ good.1.fits.attributes

  pub point_there : IsPoint p
  point_there = points page.area p box held

  pub leaf_fits_there : FitsIn (length page.area.lo) l.leaf
  leaf_fits_there = All-contains (λ (l : Placed). FitsIn (length page.area.lo) l.leaf) (leaves_of page.frag page.area) l (placed_all (FitsIn (length page.area.lo)) page.frag page.area (all_fit (length page.area.lo) page.frag good.0.fits.2)) at_leaf.0

-- a page in use that is in memory is good
pub live_good : (st : StoreState) → AreGood st.meta (in_memory st) → (id : ℕ) (page : LivePage) → if_live (in_memory st id) ≡ Some page → IsGoodPage st.meta (Live page)
live_good st framed id page live = (framed id (Live page) (live_so (in_memory st id) page live)).2

module _ (points : HeldArePoints) (parts : PartsFitOnGoodPages) (st : StoreState) (limits : HasLimits st.meta) (high : st.meta.high ≤ st.meta.pages) (framed : AreGood st.meta (in_memory st)) where
  -- numbers of pages are short
  number_fits : (id : ℕ) → id ≤ st.meta.pages → id < 2 ^ 32
  number_fits id few = omega (arith, few, limits.layout.few_pages)

  page_fits : (id : ℕ) (page : Page) → (in_memory st) id ≡ Some page → id < 2 ^ 32
  page_fits id page there = number_fits id (let at = framed id page there in omega (arith, at.1, high))

  -- the number that is taken, and the free head after it
  record TakesNumber (fresh free_after : ℕ) : Type 0 where
    fresh_fits : fresh < 2 ^ 32
    free_fits : free_after < 2 ^ 32

  takes_number : (fresh free_after : ℕ) → IsNext st fresh free_after → TakesNumber fresh free_after
  takes_number fresh free_after next = elim (cases_Bool (st.meta.free == 0)) [
    | inl none ↦
        let behind = next.from_behind (eqb-true st.meta.free 0 none) in
        record { fresh_fits = number_fits fresh (omega (arith, behind.0, behind.1)); free_fits = omega (arith, behind.2) }
    | inr some ↦
        let head = next.from_chain (eqb-false st.meta.free 0 some) in
        record { fresh_fits = page_fits fresh (Free free_after) head.1; free_fits = (framed fresh (Free free_after) head.1).2.fits }
  ]

  fits_put : (id : ℕ) (rec : Record) (o : Option LivePage) → if_live (in_memory st id) ≡ o → (second third : Option LivePage) → IsLicensedHere st (ops.Put id rec) → IsAllowedOn (ops.Put id rec) st.meta o second third → FitsOp st.meta.k (ops.Put id rec)
  fits_put id rec None is second third body allowed = absurd allowed
  fits_put id rec (Some page) is second third body allowed =
      let good = live_good st framed id page is in
      let at = allowed.absent in
      let l : Placed = record { leaf = Records at.records; area = at.area } in (
        page_fits id (Live page) (live_so (in_memory st id) page is),
        record {
          attributes = as_many points st.meta page good rec.key l at.leaf;
          values = (point_there points st.meta page good rec.key l at.leaf).fits;
          body = body;
        },
      )

  fits_del : (id : ℕ) (p : List ℕ) (o : Option LivePage) → if_live (in_memory st id) ≡ o → (second third : Option LivePage) → IsAllowedOn (ops.Del id p) st.meta o second third → FitsOp st.meta.k (ops.Del id p)
  fits_del id p None is second third allowed = absurd allowed
  fits_del id p (Some page) is second third allowed =
      let good = live_good st framed id page is in
      let at = allowed.there in
      let l : Placed = record { leaf = Records at.records; area = at.area } in
      (page_fits id (Live page) (live_so (in_memory st id) page is), as_many points st.meta page good p l at.leaf, (point_there points st.meta page good p l at.leaf).fits)

  -- what a plan posts
  fits_post : (parent : ℕ) (at : List Side) (inner : ℕ) (area : Area) → IsLicensedHere st (ops.Post parent at inner area) → IsAllowedHere st (ops.Post parent at inner area) → FitsOp st.meta.k (ops.Post parent at inner area)
  fits_post parent at inner area tells allowed =
      let page = tells.page in
      let child = tells.child in
      let good = (framed parent (Live page) tells.live).2 in
      let good_child = (framed tells.outer (Live child) tells.named).2 in
      let may = planned_may_be page child tells.p st.meta.icap at inner area good.0.fits.1 good.1.well_cut good_child.0.fits.1 good_child.1.well_cut tells.planned in
      let sibling : Placed = record { leaf = Sibling inner; area = area } in
      let below = tells.planned.owed.below in
      record {
        parent_fits = page_fits parent (Live page) tells.live;
        inner_fits = leaf_fits_there points st.meta child good_child tells.p sibling below;
        steps = parts (record { meta = st.meta; page = in_memory st }) (ops.Post parent at inner area) limits framed allowed;
        is_area = may.given_area;
        attributes = sym (at_leaf points st.meta child good_child tells.p sibling below).1.same ∙ as_many points st.meta child good_child tells.p sibling below;
      }

  fits_split : (source fresh : ℕ) (path : List Side) (cuts : List LeafCut) (free_after : ℕ) (o : Option LivePage) → if_live (in_memory st source) ≡ o → IsNext st fresh free_after
      → IsAllowedOn (ops.Extract source fresh path cuts free_after) st.meta o (read_here st (ops.Extract source fresh path cuts free_after) 1) (read_here st (ops.Extract source fresh path cuts free_after) 2)
      → FitsOp st.meta.k (ops.Extract source fresh path cuts free_after)
  fits_split source fresh path cuts free_after None is next allowed = absurd allowed
  fits_split source fresh path cuts free_after (Some page) is next allowed =
      let op = ops.Extract source fresh path cuts free_after in
      let number = takes_number fresh free_after next in
      let whole : IsAllowedHere st op = subst (λ (o : Option LivePage). IsAllowedOn op st.meta o (read_here st op 1) (read_here st op 2)) (sym is) allowed in
      let short = parts (record { meta = st.meta; page = in_memory st }) op limits framed whole in
      record {
        source_fits = page_fits source (Live page) (live_so (in_memory st source) page is);
        fresh_fits = number.fresh_fits;
        free_fits = number.free_fits;
        steps = short.0;
        few = short.1;
        each = short.2;
      }

  -- each of these is in memory
  fits_merge : (parent keep gone : ℕ) (first second third : Option LivePage) → if_live (in_memory st parent) ≡ first → if_live (in_memory st keep) ≡ second → if_live (in_memory st gone) ≡ third → IsAllowedOn (ops.Merge parent keep gone) st.meta first second third
      → FitsOp st.meta.k (ops.Merge parent keep gone)
  fits_merge parent keep gone None second third one two three allowed = absurd allowed
  fits_merge parent keep gone (Some above) None third one two three allowed = absurd allowed
  fits_merge parent keep gone (Some above) (Some kept) None one two three allowed = absurd allowed
  fits_merge parent keep gone (Some above) (Some kept) (Some going) one two three allowed = (
    page_fits parent (Live above) (live_so (in_memory st parent) above one),
    page_fits keep (Live kept) (live_so (in_memory st keep) kept two),
    page_fits gone (Live going) (live_so (in_memory st gone) going three),
  )

  pub fits_op : (op : Op) → IsLicensedHere st op → IsAllowedHere st op → FitsOp st.meta.k op
  fits_op (ops.Put id rec) tells allowed = fits_put id rec (if_live (in_memory st id)) refl _ _ tells allowed
  fits_op (ops.Del id p) tells allowed = fits_del id p (if_live (in_memory st id)) refl _ _ allowed
  fits_op (ops.Extract source fresh path cuts free_after) tells allowed = fits_split source fresh path cuts free_after (if_live (in_memory st source)) refl tells allowed
  fits_op (ops.Post parent at inner area) tells allowed = fits_post parent at inner area tells allowed
  fits_op (ops.Merge parent keep gone) tells allowed = fits_merge parent keep gone (if_live (in_memory st parent)) (if_live (in_memory st keep)) (if_live (in_memory st gone)) refl refl refl allowed
  fits_op (ops.Grow fresh free_after) tells allowed = let number = takes_number fresh free_after tells in (number.fresh_fits, number.free_fits)
