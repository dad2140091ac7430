-- The box that is asked for has as many attributes as the file.
use Rattle.hb_core.proofs.Running.Names.{◌≡◌, ℕ, List, length, replicate, Option, Some, None, IfSome, refl, sym, ◌∙◌, option_and_then, Leaf, Records, Child, Sibling, LivePage, Page, Live, Free, Placed, leaf_at, if_live, IsLiveAnd, Area, Holds, Activity, goal_of, HasLeafAt, IsGoodPage, IsMemory, StoreState, in_memory, AskedBox, asked_box, box_at, box_by_leaf, box_of_child, box_of_place, box_of_sibling, MayLook, live_here, IsWorking}
use Rattle.std.proofs.lemmas.List.{length-replicate}
use Rattle.hb_frag.proofs.Facts.Tiles.{first_tells}
use Rattle.hb_frag.specs.Leaves.{WellCut}
use Rattle.hb_view.specs.Views.{IsLive}
use Rattle.hb_activity.specs.declared.activities.Activity.TheVariants as at
use Rattle.hb_core.specs.Aiming.{HasMany}
use Rattle.hb_core.proofs.Running.LeafBoxes.{child_many, place_many, sibling_many}
use Rattle.hb_steps.proofs.Files.FitOps.{live_good}

module _ (st : StoreState) (memory : IsMemory st) where
  by_leaf : (leaf : Leaf) (area : Area) (p : List ℕ) → length p ≡ st.meta.k → Holds area p → HasMany st.meta.k (box_by_leaf (record { leaf = leaf; area = area }))
  by_leaf (Records records) area p many has = tt
  by_leaf (Child page) area p many has = sym has.same ∙ many
  by_leaf (Sibling page) area p many has = sym has.same ∙ many

  by_place : (page : LivePage) (p : List ℕ) → IsGoodPage st.meta (Live page) → HasLeafAt page p → (o : Option Placed) → leaf_at page p ≡ o → HasMany st.meta.k (option_and_then box_by_leaf o)
  by_place page p good has None is = tt
  by_place page p good has (Some l) is =
      by_leaf l.leaf l.area p (has.held.same ∙ good.1.fits.attributes) ((first_tells page.frag page.area p l good.0.fits.1 good.1.well_cut).0 is).1

  in_page : (page : LivePage) (p : Option (List ℕ)) → IsGoodPage st.meta (Live page) → IfSome p (HasLeafAt page) → HasMany st.meta.k (box_at (Some page) p)
  in_page page None good has = tt
  in_page page (Some p) good has = by_place page p good has (leaf_at page p) refl

  in_page_of : (id : ℕ) (p : Option (List ℕ)) (o : Option LivePage) → live_here st id ≡ o → IfSome o (λ page. IfSome p (HasLeafAt page)) → HasMany st.meta.k (box_at o p)
  in_page_of id p None is has = tt
  in_page_of id p (Some page) is has = in_page page p (live_good st memory.good id page is) has

  -- a leaf of a page that is named
  by_name : (id : ℕ) (box : Option LivePage → Option AskedBox) (o : Option LivePage) → live_here st id ≡ o → HasMany st.meta.k (box None) → ((page : LivePage) → length page.area.lo ≡ st.meta.k → HasMany st.meta.k (box (Some page))) → HasMany st.meta.k (box o)
  by_name id box None is none some = none
  by_name id box (Some page) is none some = some page (live_good st memory.good id page is).1.fits.attributes

  of_whole : length {A = ℕ} (replicate st.meta.k 0) ≡ st.meta.k
  of_whole = length-replicate st.meta.k 0

  pub asks_many : (activity : Activity) → IsWorking activity → MayLook st activity → HasMany st.meta.k (asked_box activity st)
  asks_many (at.SessionWalk line None rest found) working look = of_whole
  asks_many (at.SessionWalk line (Some held) rest found) working look = in_page_of held (goal_of line.command rest) (live_here st held) refl look.readable
  asks_many (at.SessionSplit line held) working look = of_whole
  asks_many (at.SessionPut line source fresh) working look = of_whole
  asks_many (at.PosterGrow job) working look = of_whole
  asks_many (at.PosterWalk job None) working look = of_whole
  asks_many (at.PosterWalk job (Some held)) working look = in_page_of held (Some job.point) (live_here st held) refl look.readable
  asks_many (at.PosterChild job parent) working look = in_page_of parent (Some job.point) (live_here st parent) refl look.readable
  asks_many (at.PosterAgain job parent) working look = in_page_of parent (Some job.point) (live_here st parent) refl look.readable
  asks_many (at.PosterPromote job parent) working look = tt
  asks_many (at.ConsolidatorWalk job None) working look = of_whole
  asks_many (at.ConsolidatorWalk job (Some held)) working look = in_page_of held (Some job.point) (live_here st held) refl look.readable
  asks_many (at.ConsolidatorScan job parent child) working look = by_name parent (λ o. box_of_child o child) (live_here st parent) refl tt (λ page long. child_many st.meta.k page child long)
  asks_many (at.ConsolidatorTry job parent keep gone leaf) working look = by_name keep (λ o. box_of_place o leaf) (live_here st keep) refl tt (λ page long. place_many st.meta.k page leaf long)
  asks_many (at.ConsolidatorPromote job parent keep gone) working look = tt
  asks_many (at.ConsolidatorKeep job parent keep gone) working look = by_name parent (λ o. box_of_child o keep) (live_here st parent) refl tt (λ page long. child_many st.meta.k page keep long)
  asks_many (at.ConsolidatorDecide job parent keep gone) working look = by_name keep (λ o. box_of_sibling o gone) (live_here st keep) refl tt (λ page long. sibling_many st.meta.k page gone long)
  asks_many activity working look = absurd working

  as_many_by : (page : LivePage) → length page.area.lo ≡ st.meta.k → (o : Option AskedBox) → HasMany st.meta.k o → IfSome o (λ asked. length asked.area.lo ≡ length page.area.lo)
  as_many_by page many None has = tt
  as_many_by page many (Some asked) has = has ∙ sym many

  -- and as the page that is tested, which is told from its bytes
  pub as_many_in : (id : ℕ) (v : Page) (o : Option AskedBox) → HasMany st.meta.k o → Some v ≡ in_memory st id → IfSome (if_live (Some v)) (λ page. IfSome o (λ asked. length asked.area.lo ≡ length page.area.lo))
  as_many_in id (Live page) o has there = as_many_by page (memory.good id (Live page) (sym there)).2.1.fits.attributes o has
  as_many_in id (Free next) o has there = tt

  -- Every cut of a page in use cuts its box.
  pub cut_well : (id : ℕ) (v : Page) → Some v ≡ in_memory st id → IsLive v → IsLiveAnd v WellCut
  cut_well id (Live page) there live = (memory.good id (Live page) (sym there)).2.1.well_cut
  cut_well id (Free next) there live = absurd live
